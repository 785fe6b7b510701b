-- A guarded run beside the plain one: without refusal 18 they are the same run; 18 after k steps leaves what the plain run with budget k leaves.
use Prim.Native.Nat.{ℕ, zero, suc, ◌<◌}
use mathlib.Core.Path.{◌≡◌, refl, ap, ◌∙◌}
use mathlib.Core.Bool.{Bool, true, false}
use native.Mathlib.Omega.{arith}
use lib.Dec.{ltb}
use Rattle.rules.specs.declared.Held.{Held}
use Rattle.rules.specs.declared.Refusal.{Refusal}
use Rattle.rules.specs.declared.Refusal.TheVariants.{NoCapacity, ClockEnd}
use Rattle.rules.specs.declared.Answer.TheVariants.{Paused, Refused, MarkedSink}
use Rattle.rules.specs.Numbers.{clock_end}
use Rattle.rules.specs.Results.{Result, refuse, pass, require, bind, GuardedResult, refuses, sink, passes, after, guard}
use Rattle.rules.specs.Memory.{Memory}
use Rattle.rules.specs.Opcodes.{class_of}
use Rattle.rules.specs.Operands.{fetch, operands}
use Rattle.rules.specs.Step.{Environment, State, Finish, goes_on, ends, calls, delegates, Next, operate, fits, step, RunEnd, after_step, on_clock, on_finish, on_step, run}
use Rattle.rules.specs.Guarded.{operand_sink, MarkState, read_sink, marks_after, GuardedState, GuardedNext, guarded_rest, guarded_step, on_guarded_step, guarded_run}

-- refusal 18 is no other answer
paused-not-sink : Paused ≡ MarkedSink → ⊥
paused-not-sink e = let z : ◌≡◌ {A = ℕ} 0 1 = cc in omega arith

refused-not-sink : (f : Refusal) → Refused f ≡ MarkedSink → ⊥
refused-not-sink f e = let z : ◌≡◌ {A = ℕ} 0 1 = cc in omega arith

module _ (number_memory : Memory Held) (mark_memory : Memory ℕ) where
  -- One step: the marked one stops at a sink, or does what the plain one does
  pub data Beside : GuardedResult (GuardedNext number_memory mark_memory) → Result (Next number_memory) → Type 0 where
    at-sink : {r : Result (Next number_memory)} → Beside sink r
    beside-refused : {f : Refusal} → Beside (refuses f) (refuse f)
    passed : {n : GuardedNext number_memory mark_memory} → Beside (passes n) (pass n.next)

  beside-after : {A : Type 0} (r : Result A) (k : A → GuardedResult (GuardedNext number_memory mark_memory)) (l : A → Result (Next number_memory)) → ((a : A) → Beside (k a) (l a))
      → Beside (after r k) (bind r l)
  unfolding after bind
  beside-after (refuse f) k l h = beside-refused
  beside-after (pass a) k l h = h a

  beside-guard : (b : Bool) {x : GuardedResult (GuardedNext number_memory mark_memory)} {y : Result (Next number_memory)} → Beside x y → Beside (guard b x) y
  unfolding guard
  beside-guard true h = at-sink
  beside-guard false h = h

  beside-capacity : (b : Bool) (n : Next number_memory) (t : MarkState mark_memory)
      → Beside (after (require b NoCapacity (pass n)) (λ n. passes (record { next = n; marks = t }))) (require b NoCapacity (pass n))
  unfolding after require
  beside-capacity true n t = passed
  beside-capacity false n t = beside-refused

  pub step-beside : (e : Environment) (q : GuardedState number_memory mark_memory) → Beside (guarded_step number_memory mark_memory e q) (step number_memory e q.plain)
  unfolding guarded_step guarded_rest step
  step-beside e q =
      beside-after (fetch e.program q.plain.pc) _ _ λ i.
      beside-after (operands e.psp q.plain.registers (class_of i.opcode) i) _ _ λ o.
      beside-guard (operand_sink q.marks.registers (class_of i.opcode) i)
      (beside-after (operate number_memory e (class_of i.opcode) i q.plain o) _ _ λ n.
      beside-guard (read_sink number_memory mark_memory q.marks (class_of i.opcode) i q.plain o)
      (beside-capacity (fits number_memory e n.state) n (marks_after number_memory mark_memory q.marks (class_of i.opcode) i q.plain o)))

  -- Runs

  abbrev pub plain_part : RunEnd (GuardedState number_memory mark_memory) → RunEnd (State number_memory)
  plain_part r = record { answer = r.answer; steps = r.steps; state = r.state.plain }

  abbrev pub paused : ℕ → State number_memory → RunEnd (State number_memory)
  paused k s = record { answer = Paused; steps = k; state = s }

  -- of a guarded run with a budget n, the plain run with that budget, and the plain run with any budget
  pub record RunBeside (n : ℕ) (r : RunEnd (GuardedState number_memory mark_memory)) (whole : RunEnd (State number_memory)) (cut : ℕ → RunEnd (State number_memory)) : Type 0 where
    pub transparent : (r.answer ≡ MarkedSink → ⊥) → plain_part r ≡ whole
    pub early : r.answer ≡ MarkedSink → (r.steps < n) × (cut r.steps ≡ paused r.steps r.state.plain)

  -- where the answer is none of 18
  same-run : (n : ℕ) {r : RunEnd (GuardedState number_memory mark_memory)} (cut : ℕ → RunEnd (State number_memory)) → (r.answer ≡ MarkedSink → ⊥) → RunBeside n r (plain_part r) cut
  same-run n cut h = record { transparent = λ _. refl; early = λ a. absurd (h a) }

  -- the plain run with budget k, its first step decided
  abbrev cut_at : Environment → State number_memory → Result (Next number_memory) → ℕ → RunEnd (State number_memory)
  cut_at e s y zero = paused zero s
  cut_at e s y (suc k) = on_step number_memory s y (run number_memory e k)

  cut-run : (e : Environment) (s : State number_memory) (k : ℕ) → run number_memory e k s ≡ cut_at e s (step number_memory e s) k
  unfolding run
  cut-run e s zero = refl
  cut-run e s (suc k) = refl

  clock-case : (e : Environment) (n : ℕ) (q : GuardedState number_memory mark_memory) (b : Bool) (cut : ℕ → RunEnd (State number_memory))
      → ((k : ℕ) → cut (suc k) ≡ on_clock b q.plain (run number_memory e k q.plain))
      → RunBeside n (guarded_run number_memory mark_memory e n q) (run number_memory e n q.plain) (λ k. run number_memory e k q.plain)
      → RunBeside (suc n) (on_clock b q (guarded_run number_memory mark_memory e n q)) (on_clock b q.plain (run number_memory e n q.plain)) cut
  clock-case e n q true cut c h =
      record {
        transparent = λ a. ap after_step (h.transparent a);
        early = λ a. (let l : (guarded_run number_memory mark_memory e n q).steps < n = (h.early a).0 in omega arith, c _ ∙ ap after_step (h.early a).1);
      }
  clock-case e n q false cut c h = same-run (suc n) cut (refused-not-sink ClockEnd)

  finish-case : (e : Environment) (s : State number_memory) (n : ℕ) (q : GuardedState number_memory mark_memory) (f : Finish)
      → RunBeside n (guarded_run number_memory mark_memory e n q) (run number_memory e n q.plain) (λ k. run number_memory e k q.plain)
      → RunBeside (suc n)
      (on_finish f q.plain.clk q (guarded_run number_memory mark_memory e n))
      (on_finish f q.plain.clk q.plain (run number_memory e n))
      (cut_at e s (pass (record { state = q.plain; finish = f })))
  finish-case e s n q goes_on h = clock-case e n q (ltb q.plain.clk clock_end) _ (λ k. refl) h
  finish-case e s n q ends h = same-run (suc n) _ (λ a. let z : ◌≡◌ {A = ℕ} 0 1 = cc in omega arith)
  finish-case e s n q (calls vs) h = same-run (suc n) _ (λ a. let z : ◌≡◌ {A = ℕ} 0 1 = cc in omega arith)
  finish-case e s n q (delegates vs) h = same-run (suc n) _ (λ a. let z : ◌≡◌ {A = ℕ} 0 1 = cc in omega arith)

  step_case : (e : Environment) (n : ℕ) (q : GuardedState number_memory mark_memory) (x : GuardedResult (GuardedNext number_memory mark_memory)) (y : Result (Next number_memory)) → Beside x y
      → ((r : GuardedState number_memory mark_memory) → RunBeside n (guarded_run number_memory mark_memory e n r) (run number_memory e n r.plain) (λ k. run number_memory e k r.plain))
      → RunBeside (suc n) (on_guarded_step number_memory mark_memory q x (guarded_run number_memory mark_memory e n)) (on_step number_memory q.plain y (run number_memory e n)) (cut_at e q.plain y)
  step_case e n q x y at-sink h = record { transparent = λ a. absurd (a refl); early = λ a. (omega arith, refl) }
  step_case e n q x y (beside-refused {f}) h = same-run (suc n) _ (refused-not-sink f)
  step_case e n q x y (passed {n = m}) h =
      finish-case e q.plain n (record { plain = m.next.state; marks = m.marks }) m.next.finish (h _)

  pub run-beside : (e : Environment) (n : ℕ) (q : GuardedState number_memory mark_memory)
      → RunBeside n (guarded_run number_memory mark_memory e n q) (run number_memory e n q.plain) (λ k. run number_memory e k q.plain)
  unfolding guarded_run run
  run-beside e zero q = same-run zero _ paused-not-sink
  run-beside e (suc n) q =
      let h = step_case e n q (guarded_step number_memory mark_memory e q) (step number_memory e q.plain) (step-beside e q) (run-beside e n) in
      record {
        transparent = h.transparent;
        early = λ a. ((h.early a).0, cut-run e q.plain (guarded_run number_memory mark_memory e (suc n) q).steps ∙ (h.early a).1);
      }
