-- What refusal 2 carries: the number of the earliest malformed frame, the budget line being 0. Document 02, #101.
use Rattle.std.specs.Prelude.{ℕ, suc, ◌≤◌, ◌≡◌, Bool, true, false, ◌&&◌, List, [], ◌∷◌, ◌++◌, map, leb, length, Option}
use Rattle.rules.specs.Numbers.{text_limit}
use Rattle.rules.specs.Frames.{frames_after, is_malformed, any_of, earliest_malformed, count_fits}
use Rattle.rules.specs.Text.{Line, line_feed, lines_of, frame_of_line, is_not_hex, budget_of, load_budget_text}
use Rattle.rules.specs.Answers.{refusal}
use Rattle.rules.specs.Entry.{Snapshot, GuardedSnapshot}
use Rattle.rules.specs.Calls.{Called, job_program, plain_call, plain_words, plain_text, plain_budget_text, guarded_call, guarded_words, guarded_text, guarded_budget_text}
use Rattle.rules.specs.Solve.{decimal, zero_fields, spaced, solve}
use Rattle.rules.specs.declared.Instruction.{Instruction}

-- Of frames numbered from n on, each malformed (true) or well formed (false)

-- frame r is malformed
pub data MalformedAt : ℕ → List Bool → ℕ → Type 0 where
  here : {n : ℕ} {bs : List Bool} → MalformedAt n (true ∷ bs) n
  further : {n r : ℕ} {b : Bool} {bs : List Bool} → MalformedAt (suc n) bs r → MalformedAt n (b ∷ bs) r

-- frame r is the earliest malformed one: it is malformed, and all before it are well formed
pub data Earliest : ℕ → List Bool → ℕ → Type 0 where
  this : {n : ℕ} {bs : List Bool} → Earliest n (true ∷ bs) n
  later : {n r : ℕ} {bs : List Bool} → Earliest (suc n) bs r → Earliest n (false ∷ bs) r

-- This leaves nothing free: where some frame is malformed, the definition's number is the earliest, and there is no other. It is the least
-- number of a malformed frame, and the least is the earliest.
pub record EarliestIsLeast : Type 0 where
  pub defined : (n : ℕ) (bs : List Bool) → any_of bs ≡ true → Earliest n bs (earliest_malformed n bs)
  pub unique : {n r q : ℕ} {bs : List Bool} → Earliest n bs r → Earliest n bs q → r ≡ q
  pub malformed : {n r : ℕ} {bs : List Bool} → Earliest n bs r → MalformedAt n bs r
  pub least : {n r q : ℕ} {bs : List Bool} → Earliest n bs r → MalformedAt n bs q → r ≤ q
  pub least_is_earliest : {n r : ℕ} {bs : List Bool} → MalformedAt n bs r → ((q : ℕ) → MalformedAt n bs q → r ≤ q) → Earliest n bs r

-- What refusals 1 and 2 look at in a program: is its length in order, the first frame's number, and which frames are malformed

pub record Numbered : Type 0 where
  pub in_order : Bool
  pub first : ℕ
  pub malformed : List Bool

abbrev pub numbered_words : List ℕ → Numbered
numbered_words words =
    let frames = frames_after 0 words in
    record { in_order = count_fits frames; first = 1; malformed = map is_malformed frames }

abbrev pub numbered_text : List ℕ → Numbered
numbered_text text =
    let frames = map frame_of_line (lines_of text) in
    record { in_order = leb (length text) text_limit && count_fits frames; first = 1; malformed = map is_malformed frames }

-- a budget line and the lines after it: the frames, and which of all are malformed, the budget line first
abbrev pub job_frames : List Line → List (Option Instruction)
job_frames [] = []
job_frames (b ∷ lines) = map frame_of_line lines

abbrev pub malformed_job : List Line → List Bool
malformed_job [] = []
malformed_job (b ∷ lines) = is_not_hex (budget_of b) ∷ map is_malformed (map frame_of_line lines)

-- the budget line has number 0 and is not counted among the frames
abbrev pub numbered_budget_text : List ℕ → Numbered
numbered_budget_text text =
    let lines = lines_of text in
    record { in_order = leb (length text) text_limit && count_fits (job_frames lines); first = 0; malformed = malformed_job lines }

-- a malformed frame takes the rest of bare words, so there is at most one
abbrev pub OneAmongWords : Type 0
OneAmongWords =
    (words : List ℕ) (r q : ℕ) → MalformedAt 1 (numbered_words words).malformed r → MalformedAt 1 (numbered_words words).malformed q → r ≡ q

-- refusal 1 does not come before, and n is the earliest malformed frame
pub record ToCarry (f : Numbered) (n : ℕ) : Type 0 where
  pub in_order : f.in_order ≡ true
  pub earliest : Earliest f.first f.malformed n

-- Whole calls

-- A call of a program, handed s, answers 2 exactly where some n is to be carried. It then carries n and nothing else, after no step, and
-- leaves everything.
pub record CarriesEarliest (f : Numbered) {S : Type 0} (s : S) (call : Called S) : Type 0 where
  pub carries : (values : List ℕ) → call.answer ≡ refusal 2 values → (n : ℕ) × (values ≡ n ∷ []) × ToCarry f n
  pub refuses : (n : ℕ) → ToCarry f n → call ≡ record { answer = refusal 2 (n ∷ []); steps = 0; left = s }

-- Every call that can answer 2, plain and guarded: runs have any budget, a step has 1, a check 0. The check of a text with a budget line
-- takes 0 in the place of the line's budget.
pub record CallsCarryEarliest : Type 0 where
  pub of_words : (words : List ℕ) (budget : ℕ) (s : Snapshot) → CarriesEarliest (numbered_words words) s (plain_words words budget s)
  pub of_text : (text : List ℕ) (budget : ℕ) (s : Snapshot) → CarriesEarliest (numbered_text text) s (plain_text text budget s)
  pub of_budget_text : (text : List ℕ) (s : Snapshot) → CarriesEarliest (numbered_budget_text text) s (plain_budget_text text s)
  pub of_budget_text_check : (text : List ℕ) (s : Snapshot)
      → CarriesEarliest (numbered_budget_text text) s (plain_call (job_program (load_budget_text text)) 0 s)
  pub of_guarded_words : (words : List ℕ) (budget : ℕ) (g : GuardedSnapshot) → CarriesEarliest (numbered_words words) g (guarded_words words budget g)
  pub of_guarded_text : (text : List ℕ) (budget : ℕ) (g : GuardedSnapshot) → CarriesEarliest (numbered_text text) g (guarded_text text budget g)
  pub of_guarded_budget_text : (text : List ℕ) (g : GuardedSnapshot) → CarriesEarliest (numbered_budget_text text) g (guarded_budget_text text g)
  pub of_guarded_budget_text_check : (text : List ℕ) (g : GuardedSnapshot)
      → CarriesEarliest (numbered_budget_text text) g (guarded_call (job_program (load_budget_text text)) 0 g)
  -- `solve` prints 2, four zeros and the number
  pub solve_prints : (text : List ℕ) (n : ℕ) → ToCarry (numbered_budget_text text) n
      → solve text ≡ decimal 2 ++ (zero_fields ++ (spaced n ++ (line_feed ∷ [])))
