-- A run does not look at what is written behind its output: two that differ in that alone stay so.
use Prim.Native.Nat.{ℕ, zero, suc}
use mathlib.Core.Path.{◌≡◌, refl, ap, ◌∙◌}
use mathlib.Core.List.{List, ◌++◌}
use Rattle.rules.specs.declared.Instruction.{Instruction}
use Rattle.rules.specs.declared.Refusal.TheVariants.{NotInField, NotSmall, AssertFailed, RangeCheckFailed, TapeFault, StoreFault, NoCapacity}
use Rattle.rules.specs.Results.{Result, GuardedResult}
use Rattle.rules.specs.Memory.{numbers_of}
use Rattle.rules.specs.Cells.{number_cells, mark_cells}
use Rattle.rules.specs.Opcodes.{Class, addition, multiplication, equality, small, complement, move, assert, range_check, jump, conditional_jump, call, return, load, store, tape_load, tape_store, contract_call, end, uncovered, class_of}
use Rattle.rules.specs.Operands.{Operands}
use Rattle.rules.specs.Step.{Environment, State, Next, overlay, operate, capacity, step, RunEnd, on_step, run}
use Rattle.rules.specs.Guarded.{MarkState, GuardedState, GuardedNext, guarded_rest, guarded_step, on_guarded_step, guarded_run}
use Rattle.rules.specs.Relations.{Both, both-refused, passed, BothGuarded, refused-alike, sink-alike, passed-alike, BothRan}
use Rattle.rules.proofs.Laws.OverlayLaws.{overlay-overlay}
use Rattle.rules.proofs.Laws.MarkLaws.{sinks-look, marks-look}
use Rattle.rules.proofs.Laws.Relational.{both-bind, both-bind-equal, both-require, both-after, both-after-equal, both-guard, both-finish}

abbrev pub with_written : State number_cells → List ℕ → State number_cells
with_written s v =
    record {
      registers = s.registers;
      pc = s.pc;
      clk = s.clk;
      cells = s.cells;
      tape = s.tape;
      output = s.output;
      written = v;
    }

-- the first has written what the second has, over w
pub data Behind (w : List ℕ) : State number_cells → State number_cells → Type 0 where
  behind : {s : State number_cells} (v : List ℕ) → s.written ≡ overlay v w → Behind w s (with_written s v)

pub data NextBehind (w : List ℕ) : Next number_cells → Next number_cells → Type 0 where
  next-behind : {n : Next number_cells} (v : List ℕ) → n.state.written ≡ overlay v w
      → NextBehind w n (record { state = with_written n.state v; finish = n.finish })

module _ (w : List ℕ) (e : Environment) (i : Instruction) (s : State number_cells) (v : List ℕ) (o : Operands) (h : s.written ≡ overlay v w) where
  operate-behind : (c : Class) → Both (NextBehind w) (operate number_cells e c i s o) (operate number_cells e c i (with_written s v) o)
  unfolding operate
  operate-behind addition = both-require NotInField refl (both-require NotInField refl (passed (next-behind v h)))
  operate-behind multiplication = both-require NotInField refl (both-require NotInField refl (passed (next-behind v h)))
  operate-behind (equality f) = passed (next-behind v h)
  operate-behind (small f) = both-require NotSmall refl (both-require NotSmall refl (passed (next-behind v h)))
  operate-behind complement = both-require NotInField refl (passed (next-behind v h))
  operate-behind move = passed (next-behind v h)
  operate-behind assert = both-require AssertFailed refl (passed (next-behind v h))
  operate-behind range_check = both-require RangeCheckFailed refl (passed (next-behind v h))
  operate-behind jump = passed (next-behind v h)
  operate-behind conditional_jump = both-require NotSmall refl (both-bind-equal _ _ refl λ b. passed (next-behind v h))
  operate-behind call = both-require StoreFault refl (both-bind-equal _ _ refl λ c. passed (next-behind v h))
  operate-behind return = both-bind-equal _ _ refl λ pc. both-bind-equal _ _ refl λ r. passed (next-behind v h)
  operate-behind load = both-require NotInField refl (both-require NotInField refl (both-bind-equal _ _ refl λ x. passed (next-behind v h)))
  operate-behind store = both-require NotInField refl (both-require NotInField refl (both-bind-equal _ _ refl λ c. passed (next-behind v h)))
  operate-behind tape_load = both-require TapeFault refl (both-require StoreFault refl (both-bind-equal _ _ refl λ c. passed (next-behind v h)))
  operate-behind tape_store =
      both-bind-equal _ _ refl λ hs.
      let out = s.output ++ numbers_of hs in
      passed (next-behind (overlay out v) (ap (overlay out) h ∙ overlay-overlay out v w))
  operate-behind contract_call = both-bind-equal _ _ refl λ hs. passed (next-behind v h)
  operate-behind end = passed (next-behind v h)
  operate-behind uncovered = both-refused

capacity-behind : (w : List ℕ) (e : Environment) {n m : Next number_cells} → NextBehind w n m
    → Both (NextBehind w) (capacity number_cells e n) (capacity number_cells e m)
capacity-behind w e (next-behind v h) = both-require NoCapacity refl (passed (next-behind v h))

-- The plain step and run

pub step-behind : (w : List ℕ) (e : Environment) {s t : State number_cells} → Behind w s t → Both (NextBehind w) (step number_cells e s) (step number_cells e t)
unfolding step
step-behind w e (behind {s} v h) =
    both-bind-equal _ _ refl λ i.
    both-bind-equal _ _ refl λ o.
    both-bind _ _ (operate-behind w e i s v o h (class_of i.opcode)) λ n m k.
    capacity-behind w e k

on-step-behind : (w : List ℕ) {s t : State number_cells} {x y : Result (Next number_cells)} (k : State number_cells → RunEnd (State number_cells))
    → Behind w s t → Both (NextBehind w) x y → ((s t : State number_cells) → Behind w s t → BothRan (Behind w) (k s) (k t))
    → BothRan (Behind w) (on_step number_cells s x k) (on_step number_cells t y k)
on-step-behind w k b both-refused g = record { answer = refl; steps = refl; state = b }
on-step-behind w k b (passed (next-behind {n} v h)) g =
    let c : Behind w n.state (with_written n.state v) = behind v h in
    both-finish (Behind w) {f = n.finish} {m = n.state.clk} _ _ k k refl refl c (g _ _ c)

pub run-behind : (w : List ℕ) (e : Environment) (budget : ℕ) (s t : State number_cells) → Behind w s t
    → BothRan (Behind w) (run number_cells e budget s) (run number_cells e budget t)
unfolding run
run-behind w e zero s t h = record { answer = refl; steps = refl; state = h }
run-behind w e (suc budget) s t h = on-step-behind w (run number_cells e budget) h (step-behind w e h) (run-behind w e budget)

-- The guarded step and run

pub data GuardedBehind (w : List ℕ) : GuardedState number_cells mark_cells → GuardedState number_cells mark_cells → Type 0 where
  guarded-behind : {s t : State number_cells} {u : MarkState mark_cells} → Behind w s t
      → GuardedBehind w (record { plain = s; marks = u }) (record { plain = t; marks = u })

pub data GuardedNextBehind (w : List ℕ) : GuardedNext number_cells mark_cells → GuardedNext number_cells mark_cells → Type 0 where
  guarded-next-behind : {n m : Next number_cells} {u : MarkState mark_cells} → NextBehind w n m
      → GuardedNextBehind w (record { next = n; marks = u }) (record { next = m; marks = u })

pub guarded-step-behind : (w : List ℕ) (e : Environment) {q r : GuardedState number_cells mark_cells} → GuardedBehind w q r
    → BothGuarded (GuardedNextBehind w) (guarded_step number_cells mark_cells e q) (guarded_step number_cells mark_cells e r)
unfolding guarded_step guarded_rest
guarded-step-behind w e (guarded-behind {u = u} (behind {s} v h)) =
    both-after-equal _ _ refl λ i.
    both-after-equal _ _ refl λ o.
    both-guard refl
    (both-after _ _ (operate-behind w e i s v o h (class_of i.opcode)) λ n m k.
    both-guard (sinks-look u (class_of i.opcode) i s o (with_written s v) refl refl)
    (both-after _ _ (capacity-behind w e k) λ n m k.
    rw (← (marks-look u (class_of i.opcode) i s o (with_written s v) refl refl)) (passed-alike (guarded-next-behind k))))

on-guarded-step-behind : (w : List ℕ) {q r : GuardedState number_cells mark_cells} {x y : GuardedResult (GuardedNext number_cells mark_cells)}
    (k : GuardedState number_cells mark_cells → RunEnd (GuardedState number_cells mark_cells)) → GuardedBehind w q r → BothGuarded (GuardedNextBehind w) x y
    → ((q r : GuardedState number_cells mark_cells) → GuardedBehind w q r → BothRan (GuardedBehind w) (k q) (k r))
    → BothRan (GuardedBehind w) (on_guarded_step number_cells mark_cells q x k) (on_guarded_step number_cells mark_cells r y k)
on-guarded-step-behind w k b refused-alike g = record { answer = refl; steps = refl; state = b }
on-guarded-step-behind w k b sink-alike g = record { answer = refl; steps = refl; state = b }
on-guarded-step-behind w k b (passed-alike (guarded-next-behind {u = u} (next-behind {n} v h))) g =
    let c : GuardedBehind w (record { plain = n.state; marks = u }) (record { plain = with_written n.state v; marks = u }) = guarded-behind (behind v h) in
    both-finish (GuardedBehind w) {f = n.finish} {m = n.state.clk} _ _ k k refl refl c (g _ _ c)

pub guarded-run-behind : (w : List ℕ) (e : Environment) (budget : ℕ) (q r : GuardedState number_cells mark_cells) → GuardedBehind w q r
    → BothRan (GuardedBehind w) (guarded_run number_cells mark_cells e budget q) (guarded_run number_cells mark_cells e budget r)
unfolding guarded_run
guarded-run-behind w e zero q r h = record { answer = refl; steps = refl; state = h }
guarded-run-behind w e (suc budget) q r h =
    on-guarded-step-behind w (guarded_run number_cells mark_cells e budget) h (guarded-step-behind w e h) (guarded-run-behind w e budget)
