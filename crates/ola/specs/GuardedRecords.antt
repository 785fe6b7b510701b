-- Demand 3 in C's words: of the records and buffers that an exported guarded function is lent, as they stand before the call and after it.
use Rattle.std.specs.Prelude.{ℕ, ◌<◌, ◌≡◌, true, false, List, [], ◌∷◌, ◌↔◌, length, get_or}
use Rattle.rules.specs.declared.Instruction.{Instruction}
use Rattle.rules.specs.Results.{Result, pass}
use Rattle.rules.specs.Frames.{load_words}
use Rattle.rules.specs.Text.{load_text, load_budget_text}
use Rattle.rules.specs.Entry.{Snapshot, GuardedSnapshot, marks_entry}
use Rattle.rules.specs.Calls.{Called, job_budget, job_program, plain_call, plain_words, plain_text, guarded_call, guarded_words, guarded_text, guarded_budget_text}
use Rattle.rules.specs.Handed.{snapshot, guarded_snapshot}
use Rattle.rules.specs.NonInterference.{Alike, MarkedBelow, Unmarked, Reaches}
use Rattle.records.specs.Records.{machine_of, marks_of, answer_record}
use Rattle.ola.specs.Lent.{Buffers, GuardedBuffers, buffers, plain_left, guarded_left}

-- What a function reads of what it is lent: the machine and the extras that the records hold, and the buffers; not the answer

abbrev pub plain_handed : Buffers → Snapshot
plain_handed b = snapshot (machine_of b.machine) b.addresses b.numbers b.moments b.tape b.output

abbrev pub guarded_handed : GuardedBuffers → GuardedSnapshot
guarded_handed b =
    guarded_snapshot (machine_of b.plain.machine) (marks_of b.extras)
    b.plain.addresses b.plain.numbers b.plain.moments b.marks b.plain.tape b.plain.output

-- What a function leaves in what it is lent

-- the same with another answer
abbrev pub with_answer : List ℕ → Buffers → Buffers
with_answer answer b = buffers answer b.machine b.addresses b.numbers b.moments b.tape b.output

abbrev pub with_guarded_answer : List ℕ → GuardedBuffers → GuardedBuffers
with_guarded_answer answer b = record { plain = with_answer answer b.plain; extras = b.extras; marks = b.marks }

-- a run, or a step, which is a run with budget 1
abbrev pub after_run : (Snapshot → Called Snapshot) → Buffers → Buffers
after_run call b = plain_left (call (plain_handed b))

abbrev pub after_guarded_run : (GuardedSnapshot → Called GuardedSnapshot) → GuardedBuffers → GuardedBuffers
after_guarded_run call b = guarded_left (call (guarded_handed b))

-- a check, which only reads all but its answer
abbrev pub after_check : (Snapshot → Called Snapshot) → Buffers → Buffers
after_check call b = with_answer (answer_record (call (plain_handed b)).answer 0) b

abbrev pub after_guarded_check : (GuardedSnapshot → Called GuardedSnapshot) → GuardedBuffers → GuardedBuffers
after_guarded_check call b = with_guarded_answer (answer_record (call (guarded_handed b)).answer 0) b

-- What the words of an answer say

-- words 0 and 1: refusal 18; and word 2: after k steps
abbrev pub SaysSink : List ℕ → Type 0
SaysSink answer = (get_or answer 0 0 ≡ 1) × (get_or answer 1 0 ≡ 18)

abbrev pub SaysSinkAfter : ℕ → List ℕ → Type 0
SaysSinkAfter k answer = SaysSink answer × (get_or answer 2 0 ≡ k)

-- all eight words: refusal n, which carries nothing, and e3, after k steps
abbrev pub refusal_words : ℕ → ℕ → List ℕ
refusal_words n k = 1 ∷ n ∷ k ∷ 0 ∷ 0 ∷ 0 ∷ 0 ∷ 0 ∷ []

abbrev pub paused_words : ℕ → List ℕ
paused_words k = 0 ∷ 3 ∷ k ∷ 0 ∷ 0 ∷ 0 ∷ 0 ∷ 0 ∷ []

-- Two calls

-- the lengths of the records, which the functions have by type
pub record Sized (b : GuardedBuffers) : Type 0 where
  pub machine : length b.plain.machine ≡ 20
  pub extras : length b.extras ≡ 1

-- alike as the functions read them
pub record AlikeLent (b c : GuardedBuffers) : Type 0 where
  pub sized : Sized b × Sized c
  pub read : Alike (guarded_handed b) (guarded_handed c)

-- the same answer, word for word, and all else alike as the next call reads it
pub record SameLeft (b c : GuardedBuffers) : Type 0 where
  pub answer : b.plain.answer ≡ c.plain.answer
  pub rest : AlikeLent b c

-- `NonInterference`, field for field, of functions that take what is lent to what stands there after the call
pub record NonInterferenceInRecords
    (program : Result (List Instruction))
    (budget : ℕ)
    (guarded : GuardedBuffers → GuardedBuffers)
    (plain : ℕ → Buffers → Buffers)
    : Type 0 where
  -- two that are lent what is alike but for its marked numbers, each below p, write the same answer and leave the rest alike
  pub agrees : (b c : GuardedBuffers) → AlikeLent b c → MarkedBelow (guarded_handed b) → MarkedBelow (guarded_handed c)
      → SameLeft (guarded b) (guarded c)
  -- one whose answer does not say 18 leaves what the plain function leaves, the answer too
  pub transparent : (b : GuardedBuffers) → marks_entry (guarded_handed b) ≡ true → (SaysSink (guarded b).plain.answer → ⊥)
      → (guarded b).plain ≡ plain budget b.plain
  -- one whose marks an entry refuses answers 3 and leaves everything, unless the program is refused
  pub unfit : (b : GuardedBuffers) → Sized b → marks_entry (guarded_handed b) ≡ false → {instructions : List Instruction} → program ≡ pass instructions
      → guarded b ≡ with_guarded_answer (refusal_words 3 0) b
  -- one whose answer says 18 after k steps, which is below the budget, leaves what the plain function with budget k leaves, but for the answer:
  -- that one's is e3 after k steps
  pub stops_early : (b : GuardedBuffers) (k : ℕ) → SaysSinkAfter k (guarded b).plain.answer
      → (k < budget)
      × ((plain k b.plain).answer ≡ paused_words k)
      × ((guarded b).plain ≡ with_answer (refusal_words 18 k) (plain k b.plain))
  -- the answer says 18 after k steps exactly where the step after k steps reaches a sink
  pub exact : (b : GuardedBuffers) (k : ℕ) → SaysSinkAfter k (guarded b).plain.answer ↔ ((k < budget) × Reaches program (guarded_handed b) k)
  -- no answer says 18 where nothing is marked
  pub clean : (b : GuardedBuffers) → Unmarked (guarded_handed b) → SaysSink (guarded b).plain.answer → ⊥

-- each exported guarded function: of what its contract says that it leaves
pub record NonInterferingInRecords : Type 0 where
  pub run_words : (words : List ℕ) (budget : ℕ)
      → NonInterferenceInRecords (load_words words) budget (after_guarded_run (guarded_words words budget)) (λ k. after_run (plain_words words k))
  pub step_words : (words : List ℕ)
      → NonInterferenceInRecords (load_words words) 1 (after_guarded_run (guarded_words words 1)) (λ k. after_run (plain_words words k))
  pub run_text : (text : List ℕ) (budget : ℕ)
      → NonInterferenceInRecords (load_text text) budget (after_guarded_run (guarded_text text budget)) (λ k. after_run (plain_text text k))
  -- a text with a budget line has its own budget; beside it the plain calls of its program have any
  pub run_budget_text : (text : List ℕ)
      → NonInterferenceInRecords (job_program (load_budget_text text)) (job_budget (load_budget_text text)) (after_guarded_run (guarded_budget_text text))
      (λ k. after_run (plain_call (job_program (load_budget_text text)) k))
  -- the checks are calls with budget 0, of which the answer alone is written; no k is below 0, so none says 18
  pub check_words : (words : List ℕ)
      → NonInterferenceInRecords (load_words words) 0 (after_guarded_check (guarded_words words 0)) (λ k. after_check (plain_words words k))
  pub check_text : (text : List ℕ)
      → NonInterferenceInRecords (load_text text) 0 (after_guarded_check (guarded_text text 0)) (λ k. after_check (plain_text text k))
  pub check_budget_text : (text : List ℕ)
      → NonInterferenceInRecords (job_program (load_budget_text text)) 0 (after_guarded_check (guarded_call (job_program (load_budget_text text)) 0))
      (λ k. after_check (plain_call (job_program (load_budget_text text)) k))
