-- Demand 1, as one statement about whole calls, plain and guarded: any call gets an outcome or one numbered refusal, after at most its
-- budget of steps. Refused at entry it leaves everything, at a step what the step before left; of the refused calls only one with 17 keeps
-- its last step. Each step is accounted for: what a call leaves after k + 1 steps is one accepted step from what the call with budget k left.
use Rattle.std.specs.Prelude.{ℕ, suc, ◌+◌, ◌≤◌, ◌<◌, ◌≡◌, List, [], ◌∷◌, ◌↔◌, leb, eqb, length}
use Rattle.rules.specs.declared.Instruction.{Instruction}
use Rattle.rules.specs.declared.Refusal.{Refusal}
use Rattle.rules.specs.declared.Answer.TheVariants.{Calling, DelegateCalling}
use Rattle.rules.specs.Numbers.{clock_end, choose}
use Rattle.rules.specs.Results.{Result, refuse, pass, refuses, sink, passes}
use Rattle.rules.specs.Frames.{load_words}
use Rattle.rules.specs.Text.{load_text, load_budget_text}
use Rattle.rules.specs.Cells.{number_cells, mark_cells}
use Rattle.rules.specs.Step.{Finish, goes_on, ends, calls, delegates, Next, callee, step}
use Rattle.rules.specs.Guarded.{GuardedNext, guarded_step}
use Rattle.rules.specs.Answers.{Meaning, outcome, refusal, meaning, refusal_meaning}
use Rattle.rules.specs.Entry.{Snapshot, GuardedSnapshot, environment, state_of, guarded_state_of, snapshot_after, guarded_snapshot_after}
use Rattle.rules.specs.Calls.{Called, paused_after, job_budget, job_program, plain_call, plain_words, plain_text, plain_budget_text, guarded_call, guarded_words, guarded_text, guarded_budget_text}

-- The answers: an outcome 0 to 3 or a refusal from 1 on, each with exactly the values that it carries. Which frame 2 carries is in
-- MalformedFrames.antt.
pub data IsAnswer (highest : ℕ) : Meaning → Type 0 where
  ended : IsAnswer highest (outcome 0 [])
  calling : {a b c d : ℕ} → IsAnswer highest (outcome 1 (a ∷ b ∷ c ∷ d ∷ []))
  delegate-calling : {a b c d : ℕ} → IsAnswer highest (outcome 2 (a ∷ b ∷ c ∷ d ∷ []))
  paused : IsAnswer highest (outcome 3 [])
  malformed : {n : ℕ} → IsAnswer highest (refusal 2 (n ∷ []))
  refused : {n : ℕ} → 1 ≤ n → n ≤ highest → (n ≡ 2 → ⊥) → IsAnswer highest (refusal n [])

-- when an answer comes: before any step, in the place of a step, with a step that ends the call, or when the budget is done
pub data When : Type 0 where
  at_entry : When
  instead_of_step : When
  with_step : When
  at_budget : When

-- 1, 2 and 3; 4 to 16, 18 and 19; e0, e1, e2 and 17; e3. There are no other numbers, by `IsAnswer`.
abbrev pub when : Meaning → When
when (outcome n vs) = choose (eqb n 3) at_budget with_step
when (refusal n vs) = choose (leb n 3) at_entry (choose (eqb n 17) with_step instead_of_step)

-- the answer of a call whose last step is accepted: by END, by SCCALL, at 10^12 by the clock, else by the budget
pub data AnswersAfter : Finish → ℕ → Meaning → Type 0 where
  by_end : {clk : ℕ} → AnswersAfter ends clk (outcome 0 [])
  by_call : {clk : ℕ} {vs : List ℕ} → AnswersAfter (calls vs) clk (meaning (callee Calling vs))
  by-delegate-call : {clk : ℕ} {vs : List ℕ} → AnswersAfter (delegates vs) clk (meaning (callee DelegateCalling vs))
  by-clock : {clk : ℕ} → clock_end ≤ clk → AnswersAfter goes_on clk (refusal 17 [])
  by-budget : {clk : ℕ} → clk < clock_end → AnswersAfter goes_on clk (outcome 3 [])

-- The next step from a snapshot: it is refused; or it is accepted and is a call's last, with what it leaves

pub data PlainStepRefused : Result (List Instruction) → Snapshot → Meaning → Type 0 where
  plain-step-refused : {program : List Instruction} {s : Snapshot} {f : Refusal}
      → step number_cells (environment program s) (state_of s) ≡ refuse f
      → PlainStepRefused (pass program) s (refusal_meaning f)

pub data PlainStepLast : Result (List Instruction) → Snapshot → Meaning → Snapshot → Type 0 where
  plain-step-last : {program : List Instruction} {s : Snapshot} {a : Meaning} (n : Next number_cells)
      → step number_cells (environment program s) (state_of s) ≡ pass n
      → AnswersAfter n.finish n.state.clk a
      → PlainStepLast (pass program) s a (snapshot_after s n.state)

pub data GuardedStepRefused : Result (List Instruction) → GuardedSnapshot → Meaning → Type 0 where
  guarded-step-refused : {program : List Instruction} {g : GuardedSnapshot} {f : Refusal}
      → guarded_step number_cells mark_cells (environment program g.plain) (guarded_state_of g) ≡ refuses f
      → GuardedStepRefused (pass program) g (refusal_meaning f)
  at-sink : {program : List Instruction} {g : GuardedSnapshot}
      → guarded_step number_cells mark_cells (environment program g.plain) (guarded_state_of g) ≡ sink
      → GuardedStepRefused (pass program) g (refusal 18 [])

pub data GuardedStepLast : Result (List Instruction) → GuardedSnapshot → Meaning → GuardedSnapshot → Type 0 where
  guarded-step-last : {program : List Instruction} {g : GuardedSnapshot} {a : Meaning} (n : GuardedNext number_cells mark_cells)
      → guarded_step number_cells mark_cells (environment program g.plain) (guarded_state_of g) ≡ passes n
      → AnswersAfter n.next.finish n.next.state.clk a
      → GuardedStepLast (pass program) g a (guarded_snapshot_after g (record { plain = n.next.state; marks = n.marks }))

-- what no call changes: PSP, the storage address, and the lengths of the buffers
pub record PlainKept (s t : Snapshot) : Type 0 where
  pub psp : t.machine.psp ≡ s.machine.psp
  pub storage : t.machine.storage_addr ≡ s.machine.storage_addr
  pub addresses : length t.addresses ≡ length s.addresses
  pub numbers : length t.numbers ≡ length s.numbers
  pub moments : length t.moments ≡ length s.moments
  pub tape : length t.tape ≡ length s.tape
  pub output : length t.output ≡ length s.output

pub record GuardedKept (g h : GuardedSnapshot) : Type 0 where
  pub plain : PlainKept g.plain h.plain
  pub marks : length h.marks ≡ length g.marks

-- A call with a budget, handed s, beside the calls of the same program and s with any budget

-- the call with budget k paused after k steps and left `before`, from where one more step was the last
pub record OneStepMore {S : Type 0} (StepIsLast : S → Meaning → S → Type 0) (with_budget : ℕ → Called S) (c : Called S) : Type 0 where
  pub k : ℕ
  pub before : S
  pub counted : c.steps ≡ suc k
  pub paused_before : with_budget k ≡ paused_after k before
  pub last_step : StepIsLast before c.answer c.left

-- `plain` is the plain part of what is handed in, and `highest` the highest refusal. Which calls are refused at entry is in MapCalls.antt.
pub record Promised
    {S : Type 0}
    (plain : S → Snapshot)
    (Kept : S → S → Type 0)
    (highest : ℕ)
    (StepIsRefused : S → Meaning → Type 0)
    (StepIsLast : S → Meaning → S → Type 0)
    (with_budget : ℕ → Called S)
    (budget : ℕ)
    (s : S)
    (c : Called S)
    : Type 0 where
  pub is_call_with_budget : c ≡ with_budget budget
  pub answer : IsAnswer highest c.answer
  pub steps : c.steps ≤ budget
  -- clk counts the steps, refused calls included
  pub clock : (plain c.left).machine.clk ≡ (plain s).machine.clk + c.steps
  pub kept : Kept s c.left
  -- e3 exactly where the steps are the budget and nothing else answers: neither was the call refused at entry, nor did its last step end
  -- it, by END, SCCALL or 17
  pub paused_exactly : (c.answer ≡ outcome 3 [])
      ↔ ((c.steps ≡ budget) × (when c.answer ≡ at_entry → ⊥) × (when c.answer ≡ with_step → ⊥))
  -- 1, 2 and 3: no step is done
  pub refused_at_entry : when c.answer ≡ at_entry → c.steps ≡ 0
  -- without a step, everything is as handed in
  pub without_step : c.steps ≡ 0 → c.left ≡ s
  -- 4 to 16, 18 and 19, after k steps: everything is as the call with budget k leaves it, which paused, and the step from there is refused
  pub refused_at_step : when c.answer ≡ instead_of_step
      → (c.steps < budget) × (with_budget c.steps ≡ paused_after c.steps c.left) × StepIsRefused c.left c.answer
  -- e0, e1, e2 and 17 come with a step, and so does e3 unless no step is done: an accepted one, from what the call
  -- with a budget of one step less left
  pub ended_by_step : when c.answer ≡ with_step → OneStepMore StepIsLast with_budget c
  pub paused_by_step : c.answer ≡ outcome 3 [] → (c.steps ≡ 0 → ⊥) → OneStepMore StepIsLast with_budget c
  -- an answer other than e3 stays with every larger budget
  pub settled : (more : ℕ) → (c.answer ≡ outcome 3 [] → ⊥) → with_budget (budget + more) ≡ c

-- a plain call never gives 18
abbrev pub PlainPromised : Result (List Instruction) → ℕ → Snapshot → Called Snapshot → Type 0
PlainPromised program budget s c = Promised (λ s. s) PlainKept 17 (PlainStepRefused program) (PlainStepLast program) (λ k. plain_call program k s) budget s c

abbrev pub GuardedPromised : Result (List Instruction) → ℕ → GuardedSnapshot → Called GuardedSnapshot → Type 0
GuardedPromised program budget g c =
    Promised (λ g. g.plain) GuardedKept 18 (GuardedStepRefused program) (GuardedStepLast program) (λ k. guarded_call program k g) budget g c

-- The theorem, for each public call: a step has budget 1, a check 0. The program of a text with a budget line is called with the line's
-- budget, and with any, beside it. A machine has ten registers by its type.
pub record EveryCall : Type 0 where
  pub of_words : (words : List ℕ) (budget : ℕ) (s : Snapshot) → length s.machine.registers ≡ 10
      → PlainPromised (load_words words) budget s (plain_words words budget s)
  pub of_text : (text : List ℕ) (budget : ℕ) (s : Snapshot) → length s.machine.registers ≡ 10
      → PlainPromised (load_text text) budget s (plain_text text budget s)
  pub of_budget_text : (text : List ℕ) (s : Snapshot) → length s.machine.registers ≡ 10
      → PlainPromised (job_program (load_budget_text text)) (job_budget (load_budget_text text)) s (plain_budget_text text s)
  pub of_budget_text_program : (text : List ℕ) (budget : ℕ) (s : Snapshot) → length s.machine.registers ≡ 10
      → PlainPromised (job_program (load_budget_text text)) budget s (plain_call (job_program (load_budget_text text)) budget s)
  pub of_guarded_words : (words : List ℕ) (budget : ℕ) (g : GuardedSnapshot) → length g.plain.machine.registers ≡ 10
      → GuardedPromised (load_words words) budget g (guarded_words words budget g)
  pub of_guarded_text : (text : List ℕ) (budget : ℕ) (g : GuardedSnapshot) → length g.plain.machine.registers ≡ 10
      → GuardedPromised (load_text text) budget g (guarded_text text budget g)
  pub of_guarded_budget_text : (text : List ℕ) (g : GuardedSnapshot) → length g.plain.machine.registers ≡ 10
      → GuardedPromised (job_program (load_budget_text text)) (job_budget (load_budget_text text)) g (guarded_budget_text text g)
  pub of_guarded_budget_text_program : (text : List ℕ) (budget : ℕ) (g : GuardedSnapshot) → length g.plain.machine.registers ≡ 10
      → GuardedPromised (job_program (load_budget_text text)) budget g (guarded_call (job_program (load_budget_text text)) budget g)
