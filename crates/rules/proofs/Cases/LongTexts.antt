-- Texts of hundreds of lines that are END: what their lines are is told by induction, and not read character by character.
use Prim.Native.Nat.{ℕ, zero, suc, ◌+◌, ◌*◌}
use mathlib.Core.Path.{◌≡◌, refl, ap, ◌∙◌}
use mathlib.Core.List.{List, [], ◌∷◌, ◌++◌, map}
use native.Mathlib.Omega.{arith}
use lib.Dec.{leb}
use lib.ListN.{length, replicate}
use Rattle.rules.specs.declared.Refusal.TheVariants.{BadLength}
use Rattle.rules.specs.Numbers.{text_limit}
use Rattle.rules.specs.Results.{require}
use Rattle.rules.specs.Frames.{load_frames}
use Rattle.rules.specs.Text.{Line, ended, lines_after, lines_of, frame_of_line, load_text, load_job, load_budget_text}
use Rattle.rules.specs.Answers.{Meaning, refusal}
use Rattle.rules.specs.Calls.{plain_call, job_budget, job_program, plain_text, plain_budget_text}
use Rattle.rules.specs.Encoding.{bytes}
use Rattle.rules.specs.CaseRows.{start, start_snapshot, e0, refused_by}
use Rattle.rules.specs.RefusalOrder.{end_lines}
use Rattle.rules.proofs.Cases.Unfolding.{calling}

-- Lines of END

abbrev end_line : Line
end_line = ended (bytes "000000000000000b")

next-end : (cs : List ℕ) → lines_of (bytes "000000000000000b\n" ++ cs) ≡ end_line ∷ lines_of cs
unfolding bytes lines_after
next-end cs = refl

-- with other characters behind them
lines_then : (n : ℕ) (cs : List ℕ) → lines_of (end_lines n ++ cs) ≡ replicate n end_line ++ lines_of cs
unfolding end_lines bytes
lines_then zero cs = refl
lines_then (suc n) cs = next-end (end_lines n ++ cs) ∙ ap (λ (ls : List Line). end_line ∷ ls) (lines_then n cs)

length-then : (n : ℕ) (cs : List ℕ) → length (end_lines n ++ cs) ≡ n * 17 + length cs
unfolding end_lines bytes
length-then zero cs = omega arith
length-then (suc n) cs = let h = length-then n cs in omega arith

-- alone
lines-all : (n : ℕ) → lines_of (end_lines n) ≡ replicate n end_line
unfolding end_lines bytes lines_after
lines-all zero = refl
lines-all (suc n) = next-end (end_lines n) ∙ ap (λ (ls : List Line). end_line ∷ ls) (lines-all n)

length-all : (n : ℕ) → length (end_lines n) ≡ n * 17
unfolding end_lines bytes
length-all zero = refl
length-all (suc n) = let h = length-all n in omega arith

-- A text, after a malformed line

abbrev malformed : ℕ → Meaning
malformed n = refusal 2 (n ∷ [])

abbrev text : List ℕ → Meaning
text cs = (plain_text cs 1 (start_snapshot start)).answer

-- the answer to a text of n characters, by its lines
abbrev answer_to : ℕ → List Line → Meaning
answer_to n ls = (plain_call (require (leb n text_limit) BadLength (load_frames (map frame_of_line ls))) 1 (start_snapshot start)).answer

answers : (cs : List ℕ) {n : ℕ} {ls : List Line} → length cs ≡ n → lines_of cs ≡ ls → text cs ≡ answer_to n ls
unfolding plain_text load_text
answers cs e f i = answer_to (e i) (f i)

abbrev bad_line : Line
bad_line = ended (bytes "x")

next-bad : (cs : List ℕ) {ls : List Line} → lines_of cs ≡ ls → lines_of (bytes "x\n" ++ cs) ≡ bad_line ∷ ls
unfolding bytes lines_after
next-bad cs e = ap (λ (ls : List Line). bad_line ∷ ls) e

length-bad : (cs : List ℕ) {n : ℕ} → length cs ≡ n → length (bytes "x\n" ++ cs) ≡ n + 2
unfolding bytes
length-bad cs e = omega arith

-- so many lines of END behind it
bad-and : (n : ℕ) → text (bytes "x\n" ++ end_lines n) ≡ answer_to (n * 17 + 2) (bad_line ∷ replicate n end_line)
bad-and n = answers (bytes "x\n" ++ end_lines n) (length-bad (end_lines n) (length-all n)) (next-bad (end_lines n) (lines-all n))

pub malformed-and-512 : text (bytes "x\n" ++ end_lines 512) ≡ refused_by 1
unfolding calling
malformed-and-512 = bad-and 512

pub malformed-and-511 : text (bytes "x\n" ++ end_lines 511) ≡ malformed 1
unfolding calling
malformed-and-511 = bad-and 511

pub malformed-510-malformed : text (bytes "x\n" ++ (end_lines 510 ++ bytes "x\n")) ≡ malformed 1
unfolding calling
malformed-510-malformed =
    let cs = end_lines 510 ++ bytes "x\n" in
    answers (bytes "x\n" ++ cs) (length-bad cs (length-then 510 (bytes "x\n"))) (next-bad cs (lines_then 510 (bytes "x\n")))

-- A text with a budget line

abbrev budget_text : List ℕ → Meaning
budget_text cs = (plain_budget_text cs (start_snapshot start)).answer

abbrev job_answer : ℕ → List Line → Meaning
job_answer n ls = let j = require (leb n text_limit) BadLength (load_job ls) in (plain_call (job_program j) (job_budget j) (start_snapshot start)).answer

budget-answers : (cs : List ℕ) {n : ℕ} {ls : List Line} → length cs ≡ n → lines_of cs ≡ ls → budget_text cs ≡ job_answer n ls
unfolding plain_budget_text load_budget_text
budget-answers cs e f i = job_answer (e i) (f i)

abbrev budget_line : Line
budget_line = ended (bytes "0000000000000001")

next-budget : (cs : List ℕ) {ls : List Line} → lines_of cs ≡ ls → lines_of (bytes "0000000000000001\n" ++ cs) ≡ budget_line ∷ ls
unfolding bytes lines_after
next-budget cs e = ap (λ (ls : List Line). budget_line ∷ ls) e

length-budget : (cs : List ℕ) {n : ℕ} → length cs ≡ n → length (bytes "0000000000000001\n" ++ cs) ≡ n + 17
unfolding bytes
length-budget cs e = omega arith

-- so many lines of END behind it
budget-and : (n : ℕ) → budget_text (bytes "0000000000000001\n" ++ end_lines n) ≡ job_answer (n * 17 + 17) (budget_line ∷ replicate n end_line)
budget-and n = budget-answers (bytes "0000000000000001\n" ++ end_lines n) (length-budget (end_lines n) (length-all n)) (next-budget (end_lines n) (lines-all n))

pub budget-and-512 : budget_text (bytes "0000000000000001\n" ++ end_lines 512) ≡ e0
unfolding calling
budget-and-512 = budget-and 512

pub budget-and-513 : budget_text (bytes "0000000000000001\n" ++ end_lines 513) ≡ refused_by 1
unfolding calling
budget-and-513 = budget-and 513
