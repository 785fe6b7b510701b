-- The theorem: what demand 1 promises holds of every call.
use Rattle.std.specs.Prelude.{Option}
use Prim.Native.Nat.{ℕ, ◌+◌, ◌≤◌}
use mathlib.Core.Path.{◌≡◌, refl, sym, ap, subst}
use mathlib.Core.Bool.{Bool, true, false}
use mathlib.Core.List.{List, [], ◌∷◌, map}
use native.Mathlib.Omega.{arith}
use lib.ListN.{length}
use Rattle.rules.specs.declared.Instruction.{Instruction}
use Rattle.rules.specs.declared.Refusal.{Refusal}
use Rattle.rules.specs.declared.Refusal.TheVariants.{BadState}
use Rattle.rules.specs.Numbers.{choose}
use Rattle.rules.specs.Results.{Result, refuse, pass}
use Rattle.rules.specs.Frames.{frames_after, load_frames, load_words}
use Rattle.rules.specs.Text.{Line, Job, lines_of, frame_of_line, load_text, load_job, load_budget_text}
use Rattle.rules.specs.Answers.{Meaning, refusal_meaning}
use Rattle.rules.specs.Entry.{Snapshot, GuardedSnapshot, plain_entry, guarded_entry}
use Rattle.rules.specs.Calls.{Called, refused_call, plain_answered, plain_run_of, guarded_answered, guarded_run_of, job_budget, job_program, plain_call, plain_words, plain_text, plain_budget_text, guarded_call, guarded_words, guarded_text, guarded_budget_text}
use Rattle.rules.specs.EveryCall.{at_entry, when, PlainKept, GuardedKept, Promised, PlainPromised, GuardedPromised, EveryCall}
use Rattle.rules.proofs.EveryCall.Refusing.{Refusing, refusing-refused, passed, refusing-require}
use Rattle.rules.proofs.EveryCall.AnswerTimes.{refusal-answers}
use Rattle.rules.proofs.EveryCall.Promises.{entry-refused, promised}
use Rattle.rules.proofs.EveryCall.PlainEnds.{plain-entered}
use Rattle.rules.proofs.EveryCall.GuardedEnds.{guarded-entered}

-- A program is refused 1 or 2

abbrev AtEntry : Refusal → Type 0
AtEntry f = when (refusal_meaning f) ≡ at_entry

frames-refused : (fs : List (Option Instruction)) → Refusing AtEntry (load_frames fs)
unfolding load_frames refusal_meaning
frames-refused fs = refusing-require _ _ refl (refusing-require _ _ refl passed)

words-refused : (words : List ℕ) → Refusing AtEntry (load_words words)
unfolding load_words
words-refused words = frames-refused (frames_after 0 words)

text-refused : (text : List ℕ) → Refusing AtEntry (load_text text)
unfolding load_text refusal_meaning
text-refused text = refusing-require _ _ refl (frames-refused (map frame_of_line (lines_of text)))

job-refused : (lines : List Line) → Refusing AtEntry (load_job lines)
unfolding load_job refusal_meaning
job-refused [] = refusing-refused refl
job-refused (b ∷ lines) = refusing-require _ _ refl (refusing-require _ _ refl passed)

program-refused : {r : Result Job} → Refusing AtEntry r → Refusing AtEntry (job_program r)
program-refused (refusing-refused h) = refusing-refused h
program-refused passed = passed

budget-text-refused : (text : List ℕ) → Refusing AtEntry (job_program (load_budget_text text))
unfolding load_budget_text refusal_meaning
budget-text-refused text = program-refused (refusing-require _ _ refl (job-refused (lines_of text)))

-- Of any program that is refused so, or passes

-- a call that is refused at entry, whatever its budget
module _ {S : Type 0} (plain : S → Snapshot) (Kept : S → S → Type 0) (kept : (s : S) → Kept s s) (highest : ℕ) (l : 17 ≤ highest) (StepIsRefused : S → Meaning → Type 0) (StepIsLast : S → Meaning → S → Type 0) where
  entry-promised : (with_budget : ℕ → Called S) (budget : ℕ) (s : S) (f : Refusal) → AtEntry f → ((n : ℕ) → with_budget n ≡ refused_call f s)
      → Promised plain Kept highest StepIsRefused StepIsLast with_budget budget s (refused_call f s)
  entry-promised with_budget budget s f a h =
      promised _ _ _ _ _ _ plain Kept (sym (h budget)) (omega arith) (kept s)
      (λ more _. h (budget + more))
      (entry-refused (refusal-answers highest l f) a)

plain-kept : (s : Snapshot) → PlainKept s s
plain-kept s = record { psp = refl; storage = refl; addresses = refl; numbers = refl; moments = refl; tape = refl; output = refl }

guarded-kept : (g : GuardedSnapshot) → GuardedKept g g
guarded-kept g = record { plain = plain-kept g.plain; marks = refl }

plain-unfit : (program : List Instruction) (s : Snapshot) → plain_entry s ≡ false → (n : ℕ) → plain_call (pass program) n s ≡ refused_call BadState s
unfolding plain_call
plain-unfit program s e n = ap (λ b. choose b (plain_answered s (plain_run_of program n s)) (refused_call BadState s)) e

guarded-unfit : (program : List Instruction) (g : GuardedSnapshot) → guarded_entry g ≡ false → (n : ℕ) → guarded_call (pass program) n g ≡ refused_call BadState g
unfolding guarded_call
guarded-unfit program g e n = ap (λ b. choose b (guarded_answered g (guarded_run_of program n g)) (refused_call BadState g)) e

plain-promised : (program : Result (List Instruction)) → Refusing AtEntry program → (budget : ℕ) (s : Snapshot) → length s.machine.registers ≡ 10
    → PlainPromised program budget s (plain_call program budget s)
unfolding plain_call refusal_meaning
plain-promised (refuse f) (refusing-refused a) budget s ten = entry-promised _ _ plain-kept _ (omega arith) _ _ _ budget s f a (λ n. refl)
plain-promised (pass program) passed budget s ten = go (plain_entry s) refl
  where
    go : (b : Bool) → plain_entry s ≡ b → PlainPromised (pass program) budget s (plain_call (pass program) budget s)
    go true e = plain-entered program s ten e budget
    go false e =
        subst (PlainPromised (pass program) budget s) (sym (plain-unfit program s e budget))
        (entry-promised _ _ plain-kept _ (omega arith) _ _ _ budget s BadState refl (plain-unfit program s e))

guarded-promised : (program : Result (List Instruction)) → Refusing AtEntry program → (budget : ℕ) (g : GuardedSnapshot)
    → length g.plain.machine.registers ≡ 10 → GuardedPromised program budget g (guarded_call program budget g)
unfolding guarded_call refusal_meaning
guarded-promised (refuse f) (refusing-refused a) budget g ten = entry-promised _ _ guarded-kept _ (omega arith) _ _ _ budget g f a (λ n. refl)
guarded-promised (pass program) passed budget g ten = go (guarded_entry g) refl
  where
    go : (b : Bool) → guarded_entry g ≡ b → GuardedPromised (pass program) budget g (guarded_call (pass program) budget g)
    go true e = guarded-entered program g ten e budget
    go false e =
        subst (GuardedPromised (pass program) budget g) (sym (guarded-unfit program g e budget))
        (entry-promised _ _ guarded-kept _ (omega arith) _ _ _ budget g BadState refl (guarded-unfit program g e))

pub every_call : EveryCall
unfolding plain_words plain_text plain_budget_text guarded_words guarded_text guarded_budget_text
every_call =
    record {
      of_words = λ words. plain-promised (load_words words) (words-refused words);
      of_text = λ text. plain-promised (load_text text) (text-refused text);
      of_budget_text = λ text. plain-promised (job_program (load_budget_text text)) (budget-text-refused text) (job_budget (load_budget_text text));
      of_budget_text_program = λ text. plain-promised (job_program (load_budget_text text)) (budget-text-refused text);
      of_guarded_words = λ words. guarded-promised (load_words words) (words-refused words);
      of_guarded_text = λ text. guarded-promised (load_text text) (text-refused text);
      of_guarded_budget_text = λ text. guarded-promised (job_program (load_budget_text text)) (budget-text-refused text) (job_budget (load_budget_text text));
      of_guarded_budget_text_program = λ text. guarded-promised (job_program (load_budget_text text)) (budget-text-refused text);
    }
