-- A run that paused and the run that goes on from there are one run. A run that paused has a clock that goes on.
use Prim.Native.Nat.{ℕ, zero, suc, ◌+◌, ◌<◌}
use native.Mathlib.Nat.{zero-add, suc-add}
use mathlib.Core.Path.{◌≡◌, refl, sym, ap, ◌∙◌}
use mathlib.Core.Bool.{Bool, true, false}
use native.Mathlib.Omega.{arith}
use lib.Dec.{ltb}
use borrow.Author.Tests.{ltb-true}
use Rattle.rules.specs.declared.Refusal.{Refusal}
use Rattle.rules.specs.declared.Refusal.TheVariants.{ClockEnd}
use Rattle.rules.specs.declared.Answer.TheVariants.{Ended, Calling, DelegateCalling, Paused, Refused, MarkedSink}
use Rattle.rules.specs.declared.Held.{Held}
use Rattle.rules.specs.Numbers.{clock_end}
use Rattle.rules.specs.Results.{Result, refuse, pass, GuardedResult, refuses, sink, passes}
use Rattle.rules.specs.Memory.{Memory}
use Rattle.rules.specs.Step.{Environment, State, Next, Finish, goes_on, ends, calls, delegates, RunEnd, after_step, on_clock, on_finish, step, on_step, run}
use Rattle.rules.specs.Guarded.{GuardedState, GuardedNext, guarded_step, on_guarded_step, guarded_run}

-- two runs, the second from where the first ended
abbrev pub joined : {S : Type 0} → RunEnd S → RunEnd S → RunEnd S
joined r q = record { answer = q.answer; steps = r.steps + q.steps; state = q.state }

-- Paused is no other answer
ended : Ended ≡ Paused → ⊥
ended e = let z : ◌≡◌ {A = ℕ} 0 1 = cc in omega arith

calling : (a b c d : ℕ) → Calling a b c d ≡ Paused → ⊥
calling a b c d e = let z : ◌≡◌ {A = ℕ} 0 1 = cc in omega arith

delegating : (a b c d : ℕ) → DelegateCalling a b c d ≡ Paused → ⊥
delegating a b c d e = let z : ◌≡◌ {A = ℕ} 0 1 = cc in omega arith

refused-not-paused : (f : Refusal) → Refused f ≡ Paused → ⊥
refused-not-paused f e = let z : ◌≡◌ {A = ℕ} 0 1 = cc in omega arith

at-sink : MarkedSink ≡ Paused → ⊥
at-sink e = let z : ◌≡◌ {A = ℕ} 0 1 = cc in omega arith

-- After an accepted step: what splits the rest of the run splits the whole, and what the rest leaves has a clock that goes on

module _ {S : Type 0} where
  clock-splits : (b : Bool) (s : S) (r whole : RunEnd S) (rest : S → RunEnd S) → (r.answer ≡ Paused → whole ≡ joined r (rest r.state))
      → (on_clock b s r).answer ≡ Paused → on_clock b s whole ≡ joined (on_clock b s r) (rest (on_clock b s r).state)
  clock-splits true s r whole rest h e =
      ap after_step (h e)
      ∙ (λ i. record { answer = (rest r.state).answer; steps = sym (suc-add r.steps (rest r.state).steps) i; state = (rest r.state).state })
  clock-splits false s r whole rest h e = absurd (refused-not-paused ClockEnd e)

  finish-splits : (f : Finish) (clk : ℕ) (s : S) (k whole rest : S → RunEnd S)
      → ((s : S) → (k s).answer ≡ Paused → whole s ≡ joined (k s) (rest (k s).state))
      → (on_finish f clk s k).answer ≡ Paused
      → on_finish f clk s whole ≡ joined (on_finish f clk s k) (rest (on_finish f clk s k).state)
  finish-splits goes_on clk s k whole rest h e = clock-splits (ltb clk clock_end) s (k s) (whole s) rest (h s) e
  finish-splits ends clk s k whole rest h e = absurd (ended e)
  finish-splits (calls vs) clk s k whole rest h e = absurd (calling _ _ _ _ e)
  finish-splits (delegates vs) clk s k whole rest h e = absurd (delegating _ _ _ _ e)

  clock-goes-on : (P : S → Type 0) (b : Bool) (s : S) (r : RunEnd S) → (b ≡ true → r.answer ≡ Paused → P r.state)
      → (on_clock b s r).answer ≡ Paused → P (on_clock b s r).state
  clock-goes-on P true s r h e = h refl e
  clock-goes-on P false s r h e = absurd (refused-not-paused ClockEnd e)

  finish-goes-on : (P : S → Type 0) (f : Finish) (clk : ℕ) (s : S) (k : S → RunEnd S) → (clk < clock_end → (k s).answer ≡ Paused → P (k s).state)
      → (on_finish f clk s k).answer ≡ Paused → P (on_finish f clk s k).state
  finish-goes-on P goes_on clk s k h e = clock-goes-on P (ltb clk clock_end) s (k s) (λ l. h (ltb-true clk clock_end l)) e
  finish-goes-on P ends clk s k h e = absurd (ended e)
  finish-goes-on P (calls vs) clk s k h e = absurd (calling _ _ _ _ e)
  finish-goes-on P (delegates vs) clk s k h e = absurd (delegating _ _ _ _ e)

  whole_run : (r : RunEnd S) → r ≡ record { answer = r.answer; steps = 0 + r.steps; state = r.state }
  whole_run r = λ i. record { answer = r.answer; steps = sym (zero-add r.steps) i; state = r.state }

-- Whole runs

module _ (number_memory : Memory Held) (mark_memory : Memory ℕ) (e : Environment) where
  step-splits : (s : State number_memory) (x : Result (Next number_memory)) (k whole rest : State number_memory → RunEnd (State number_memory))
      → ((s : State number_memory) → (k s).answer ≡ Paused → whole s ≡ joined (k s) (rest (k s).state))
      → (on_step number_memory s x k).answer ≡ Paused
      → on_step number_memory s x whole ≡ joined (on_step number_memory s x k) (rest (on_step number_memory s x k).state)
  step-splits s (refuse f) k whole rest h a = absurd (refused-not-paused f a)
  step-splits s (pass n) k whole rest h a = finish-splits n.finish n.state.clk n.state k whole rest h a

  pub run-splits : (m n : ℕ) (s : State number_memory) → (run number_memory e m s).answer ≡ Paused
      → run number_memory e (m + n) s ≡ joined (run number_memory e m s) (run number_memory e n (run number_memory e m s).state)
  unfolding run
  run-splits zero n s a = ap (λ k. run number_memory e k s) (zero-add n) ∙ whole_run (run number_memory e n s)
  run-splits (suc m) n s a =
      ap (λ k. run number_memory e k s) (suc-add m n)
      ∙ step-splits s (step number_memory e s) (run number_memory e m) (run number_memory e (m + n)) (run number_memory e n) (run-splits m n) a

  step-goes-on : (s : State number_memory) (x : Result (Next number_memory)) (k : State number_memory → RunEnd (State number_memory))
      → ((s : State number_memory) → s.clk < clock_end → (k s).answer ≡ Paused → (k s).state.clk < clock_end)
      → (on_step number_memory s x k).answer ≡ Paused → (on_step number_memory s x k).state.clk < clock_end
  step-goes-on s (refuse f) k h a = absurd (refused-not-paused f a)
  step-goes-on s (pass n) k h a = finish-goes-on (λ t. t.clk < clock_end) n.finish n.state.clk n.state k (h n.state) a

  pub run-goes-on : (m : ℕ) (s : State number_memory) → s.clk < clock_end → (run number_memory e m s).answer ≡ Paused → (run number_memory e m s).state.clk < clock_end
  unfolding run
  run-goes-on zero s l a = l
  run-goes-on (suc m) s l a = step-goes-on s (step number_memory e s) (run number_memory e m) (run-goes-on m) a

  guarded-step-splits : (q : GuardedState number_memory mark_memory) (x : GuardedResult (GuardedNext number_memory mark_memory)) (k whole rest : GuardedState number_memory mark_memory → RunEnd (GuardedState number_memory mark_memory))
      → ((q : GuardedState number_memory mark_memory) → (k q).answer ≡ Paused → whole q ≡ joined (k q) (rest (k q).state))
      → (on_guarded_step number_memory mark_memory q x k).answer ≡ Paused
      → on_guarded_step number_memory mark_memory q x whole ≡ joined (on_guarded_step number_memory mark_memory q x k) (rest (on_guarded_step number_memory mark_memory q x k).state)
  guarded-step-splits q (refuses f) k whole rest h a = absurd (refused-not-paused f a)
  guarded-step-splits q sink k whole rest h a = absurd (at-sink a)
  guarded-step-splits q (passes n) k whole rest h a =
      finish-splits n.next.finish n.next.state.clk (record { plain = n.next.state; marks = n.marks }) k whole rest h a

  pub guarded-run-splits : (m n : ℕ) (q : GuardedState number_memory mark_memory) → (guarded_run number_memory mark_memory e m q).answer ≡ Paused
      → guarded_run number_memory mark_memory e (m + n) q ≡ joined (guarded_run number_memory mark_memory e m q) (guarded_run number_memory mark_memory e n (guarded_run number_memory mark_memory e m q).state)
  unfolding guarded_run
  guarded-run-splits zero n q a = ap (λ k. guarded_run number_memory mark_memory e k q) (zero-add n) ∙ whole_run (guarded_run number_memory mark_memory e n q)
  guarded-run-splits (suc m) n q a =
      ap (λ k. guarded_run number_memory mark_memory e k q) (suc-add m n)
      ∙ guarded-step-splits q (guarded_step number_memory mark_memory e q) (guarded_run number_memory mark_memory e m) (guarded_run number_memory mark_memory e (m + n)) (guarded_run number_memory mark_memory e n)
      (guarded-run-splits m n)
      a

  guarded-step-goes-on : (q : GuardedState number_memory mark_memory) (x : GuardedResult (GuardedNext number_memory mark_memory)) (k : GuardedState number_memory mark_memory → RunEnd (GuardedState number_memory mark_memory))
      → ((q : GuardedState number_memory mark_memory) → q.plain.clk < clock_end → (k q).answer ≡ Paused → (k q).state.plain.clk < clock_end)
      → (on_guarded_step number_memory mark_memory q x k).answer ≡ Paused → (on_guarded_step number_memory mark_memory q x k).state.plain.clk < clock_end
  guarded-step-goes-on q (refuses f) k h a = absurd (refused-not-paused f a)
  guarded-step-goes-on q sink k h a = absurd (at-sink a)
  guarded-step-goes-on q (passes n) k h a =
      let left : GuardedState number_memory mark_memory = record { plain = n.next.state; marks = n.marks } in
      finish-goes-on (λ t. t.plain.clk < clock_end) n.next.finish n.next.state.clk left k (h left) a

  pub guarded-run-goes-on : (m : ℕ) (q : GuardedState number_memory mark_memory) → q.plain.clk < clock_end → (guarded_run number_memory mark_memory e m q).answer ≡ Paused
      → (guarded_run number_memory mark_memory e m q).state.plain.clk < clock_end
  unfolding guarded_run
  guarded-run-goes-on zero q l a = l
  guarded-run-goes-on (suc m) q l a = guarded-step-goes-on q (guarded_step number_memory mark_memory e q) (guarded_run number_memory mark_memory e m) (guarded-run-goes-on m) a
