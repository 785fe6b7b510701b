-- What C sees of refusal 2: the earliest malformed frame, in the record of an answer. Document 02, #101.
use Rattle.std.specs.Prelude.{ℕ, ◌≡◌, List, [], ◌∷◌, get_or}
use Rattle.rules.specs.Text.{load_budget_text}
use Rattle.rules.specs.Entry.{Snapshot, GuardedSnapshot}
use Rattle.rules.specs.Calls.{job_program, plain_call, plain_words, plain_text, plain_budget_text, guarded_call, guarded_words, guarded_text, guarded_budget_text}
use Rattle.rules.specs.MalformedFrames.{Numbered, numbered_words, numbered_text, numbered_budget_text, ToCarry}
use Rattle.records.specs.Records.{answer_record}
use Rattle.ola.specs.Lent.{plain_left, guarded_left}

-- words 0 and 1 say refusal 2 exactly where a number is to be carried; it is word 3, and the others are 0
pub record ShowsEarliest (f : Numbered) (answer : List ℕ) : Type 0 where
  pub carries : get_or answer 0 0 ≡ 1 → get_or answer 1 0 ≡ 2 → ToCarry f (get_or answer 3 0)
  pub refuses : (n : ℕ) → ToCarry f n → answer ≡ 1 ∷ 2 ∷ 0 ∷ n ∷ 0 ∷ 0 ∷ 0 ∷ 0 ∷ []

-- each exported function of a plain or guarded call that can answer 2: the answer that its contract names. A traced call is refused 2
-- exactly where the plain call is, and with the same number (`SameRun` in crates/sheets/specs)
pub record RecordsShowEarliest : Type 0 where
  pub run_words : (words : List ℕ) (budget : ℕ) (s : Snapshot) → ShowsEarliest (numbered_words words) (plain_left (plain_words words budget s)).answer
  pub step_words : (words : List ℕ) (s : Snapshot) → ShowsEarliest (numbered_words words) (plain_left (plain_words words 1 s)).answer
  pub run_text : (text : List ℕ) (budget : ℕ) (s : Snapshot) → ShowsEarliest (numbered_text text) (plain_left (plain_text text budget s)).answer
  pub run_budget_text : (text : List ℕ) (s : Snapshot) → ShowsEarliest (numbered_budget_text text) (plain_left (plain_budget_text text s)).answer
  pub check_words : (words : List ℕ) (s : Snapshot) → ShowsEarliest (numbered_words words) (answer_record (plain_words words 0 s).answer 0)
  pub check_text : (text : List ℕ) (s : Snapshot) → ShowsEarliest (numbered_text text) (answer_record (plain_text text 0 s).answer 0)
  pub check_budget_text : (text : List ℕ) (s : Snapshot)
      → ShowsEarliest (numbered_budget_text text) (answer_record (plain_call (job_program (load_budget_text text)) 0 s).answer 0)
  pub guarded_run_words : (words : List ℕ) (budget : ℕ) (g : GuardedSnapshot)
      → ShowsEarliest (numbered_words words) (guarded_left (guarded_words words budget g)).plain.answer
  pub guarded_step_words : (words : List ℕ) (g : GuardedSnapshot) → ShowsEarliest (numbered_words words) (guarded_left (guarded_words words 1 g)).plain.answer
  pub guarded_run_text : (text : List ℕ) (budget : ℕ) (g : GuardedSnapshot)
      → ShowsEarliest (numbered_text text) (guarded_left (guarded_text text budget g)).plain.answer
  pub guarded_run_budget_text : (text : List ℕ) (g : GuardedSnapshot)
      → ShowsEarliest (numbered_budget_text text) (guarded_left (guarded_budget_text text g)).plain.answer
  pub guarded_check_words : (words : List ℕ) (g : GuardedSnapshot) → ShowsEarliest (numbered_words words) (answer_record (guarded_words words 0 g).answer 0)
  pub guarded_check_text : (text : List ℕ) (g : GuardedSnapshot) → ShowsEarliest (numbered_text text) (answer_record (guarded_text text 0 g).answer 0)
  pub guarded_check_budget_text : (text : List ℕ) (g : GuardedSnapshot)
      → ShowsEarliest (numbered_budget_text text) (answer_record (guarded_call (job_program (load_budget_text text)) 0 g).answer 0)
