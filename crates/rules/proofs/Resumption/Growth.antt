-- Cells and tape only grow: no step removes a cell or a value of the tape.
use Prim.Native.Nat.{ℕ, zero, suc, ◌≤◌}
use mathlib.Core.Path.{sym, subst}
use mathlib.Core.Bool.{Bool, true, false}
use mathlib.Core.List.{List, [], ◌∷◌, ◌++◌}
use native.Mathlib.Omega.{arith}
use lib.ListN.{length, length-append}
use Rattle.rules.specs.declared.Instruction.{Instruction}
use Rattle.rules.specs.declared.Held.{Held}
use Rattle.rules.specs.Numbers.{choose}
use Rattle.rules.specs.Results.{Result, GuardedResult}
use Rattle.rules.specs.Memory.{held}
use Rattle.rules.specs.Cells.{Cells, get, put, count, Rising, number_cells, mark_cells}
use Rattle.rules.specs.PlainMap.{is_present}
use Rattle.rules.specs.Opcodes.{Class, addition, multiplication, equality, small, complement, move, assert, range_check, jump, conditional_jump, call, return, load, store, tape_load, tape_store, contract_call, end, uncovered, class_of}
use Rattle.rules.specs.Operands.{Operands}
use Rattle.rules.specs.Step.{Environment, State, Next, store_many, operate, capacity, step, RunEnd, on_step, run}
use Rattle.rules.specs.Guarded.{GuardedState, GuardedNext, guarded_rest, guarded_step, on_guarded_step, guarded_run}
use Rattle.rules.specs.Soundness.{Sound}
use Rattle.rules.proofs.Laws.CellLaws.{rising-put, count-put}
use Rattle.rules.proofs.Laws.Passing.{Passing, passing-refused, passed, passing-require, passing-bind, passing-any, passing-both, PassingGuarded, refused-guarded, sink-guarded, passed-guarded, passing-after, passing-after-any, passing-guard, finish-keeps}
use Rattle.rules.proofs.Soundness.PlainSoundness.{operate-keeps, capacity-sound}

pub record Grown (s t : State number_cells) : Type 0 where
  pub cells : count s.cells ≤ count t.cells
  pub tape : length s.tape ≤ length t.tape

pub grown-same : (s : State number_cells) → Grown s s
grown-same s = record { cells = omega arith; tape = omega arith }

pub grown-twice : {s t u : State number_cells} → Grown s t → Grown t u → Grown s u
grown-twice h k = let a = h.cells in let b = k.cells in let c = h.tape in let d = k.tape in record { cells = omega arith; tape = omega arith }

put-grows : (c : Cells Held) (a : ℕ) (v : Held) → Rising c → count c ≤ count (put c a v)
put-grows c a v r = subst (λ n. count c ≤ n) (sym (count-put 0 c a v r)) (go (is_present (get c a)))
  where
    go : (b : Bool) → count c ≤ choose b (count c) (suc (count c))
    go true = omega arith
    go false = omega arith

store-grows : (n moment : ℕ) (c : Cells Held) (a : ℕ) (vs : List ℕ) → Rising c → n ≤ count c
    → Passing (λ d. n ≤ count d) (store_many number_cells moment c a vs)
unfolding store_many
store-grows n m c a [] r h = passed h
store-grows n m c a (v ∷ vs) r h =
    passing-require _ λ x.
    passing-require _ λ y.
    passing-require _ λ z.
    store-grows n m (put c a (held v m)) (suc a) vs (rising-put c a (held v m) r) (omega (arith, put-grows c a (held v m) r))

module _ (e : Environment) (i : Instruction) (s : State number_cells) (o : Operands) (r : Rising s.cells) where
  stored : (a : ℕ) (vs : List ℕ) → Passing (λ d. count s.cells ≤ count d) (store_many number_cells s.clk s.cells a vs)
  stored a vs = store-grows (count s.cells) s.clk s.cells a vs r (omega arith)

  le : (n : ℕ) → n ≤ n
  le n = omega arith

  longer : (vs : List ℕ) → length s.tape ≤ length (s.tape ++ vs)
  longer vs = rw length-append (omega arith)

  operate-grows : (c : Class) → Passing (λ n. Grown s n.state) (operate number_cells e c i s o)
  unfolding operate
  operate-grows addition = passing-require _ λ a. passing-require _ λ b. passed (record { cells = le _; tape = le _ })
  operate-grows multiplication = passing-require _ λ a. passing-require _ λ b. passed (record { cells = le _; tape = le _ })
  operate-grows (equality f) = passed (record { cells = le _; tape = le _ })
  operate-grows (small f) = passing-require _ λ a. passing-require _ λ b. passed (record { cells = le _; tape = le _ })
  operate-grows complement = passing-require _ λ a. passed (record { cells = le _; tape = le _ })
  operate-grows move = passed (record { cells = le _; tape = le _ })
  operate-grows assert = passing-require _ λ a. passed (record { cells = le _; tape = le _ })
  operate-grows range_check = passing-require _ λ a. passed (record { cells = le _; tape = le _ })
  operate-grows jump = passed (record { cells = le _; tape = le _ })
  operate-grows conditional_jump = passing-require _ λ a. passing-any _ _ λ b. passed (record { cells = le _; tape = le _ })
  operate-grows call = passing-require _ λ a. passing-bind _ (stored _ _) λ c k. passed (record { cells = k; tape = le _ })
  operate-grows return = passing-any _ _ λ pc. passing-any _ _ λ r. passed (record { cells = le _; tape = le _ })
  operate-grows load = passing-require _ λ a. passing-require _ λ b. passing-any _ _ λ v. passed (record { cells = le _; tape = le _ })
  operate-grows store = passing-require _ λ a. passing-require _ λ b. passing-bind _ (stored _ _) λ c k. passed (record { cells = k; tape = le _ })
  operate-grows tape_load = passing-require _ λ a. passing-require _ λ b. passing-bind _ (stored _ _) λ c k. passed (record { cells = k; tape = le _ })
  operate-grows tape_store = passing-any _ _ λ hs. passed (record { cells = le _; tape = longer _ })
  operate-grows contract_call = passing-any _ _ λ hs. passed (record { cells = le _; tape = longer _ })
  operate-grows end = passed (record { cells = le _; tape = le _ })
  operate-grows uncovered = passing-refused

-- Step and run, from sound states

capacity-grows : (e : Environment) (s : State number_cells) (n : Next number_cells) → Grown s n.state
    → Passing (λ n. Grown s n.state) (capacity number_cells e n)
capacity-grows e s n h = passing-require _ λ a. passed h

-- sound, and grown from where it came
abbrev pub SoundGrown : Environment → State number_cells → State number_cells → Type 0
SoundGrown e s t = Sound e t × Grown s t

pub step-grows : (e : Environment) (s : State number_cells) → Sound e s → Passing (λ n. SoundGrown e s n.state) (step number_cells e s)
unfolding step
step-grows e s h =
    passing-any _ _ λ i.
    passing-any _ _ λ o.
    passing-bind _ (passing-both (operate-keeps e i s o h (class_of i.opcode)) (operate-grows e i s o h.cells.rising (class_of i.opcode))) λ n k.
    passing-both (capacity-sound e n k.0) (capacity-grows e s n k.1)

on-step-grows : (e : Environment) (s : State number_cells) {x : Result (Next number_cells)} (k : State number_cells → RunEnd (State number_cells))
    → Passing (λ n. SoundGrown e s n.state) x → ((t : State number_cells) → Sound e t → Grown t (k t).state) → Grown s (on_step number_cells s x k).state
on-step-grows e s k passing-refused g = grown-same s
on-step-grows e s k (passed {a = n} h) g =
    finish-keeps (Grown s) n.finish n.state.clk n.state k h.1 (grown-twice h.1 (g n.state h.0))

pub run-grows : (e : Environment) (budget : ℕ) (s : State number_cells) → Sound e s → Grown s (run number_cells e budget s).state
unfolding run
run-grows e zero s h = grown-same s
run-grows e (suc budget) s h = on-step-grows e s (run number_cells e budget) (step-grows e s h) (run-grows e budget)

pub guarded-step-grows : (e : Environment) (q : GuardedState number_cells mark_cells) → Sound e q.plain
    → PassingGuarded (λ n. SoundGrown e q.plain n.next.state) (guarded_step number_cells mark_cells e q)
unfolding guarded_step guarded_rest
guarded-step-grows e q h =
    let s = q.plain in
    passing-after-any _ _ λ i.
    passing-after-any _ _ λ o.
    passing-guard _
    (passing-after _ (passing-both (operate-keeps e i s o h (class_of i.opcode)) (operate-grows e i s o h.cells.rising (class_of i.opcode))) λ n k.
    passing-guard _
    (passing-after _ (passing-both (capacity-sound e n k.0) (capacity-grows e s n k.1)) λ n l. passed-guarded l))

on-guarded-step-grows : (e : Environment) (q : GuardedState number_cells mark_cells) {x : GuardedResult (GuardedNext number_cells mark_cells)}
    (k : GuardedState number_cells mark_cells → RunEnd (GuardedState number_cells mark_cells)) → PassingGuarded (λ n. SoundGrown e q.plain n.next.state) x
    → ((r : GuardedState number_cells mark_cells) → Sound e r.plain → Grown r.plain (k r).state.plain)
    → Grown q.plain (on_guarded_step number_cells mark_cells q x k).state.plain
on-guarded-step-grows e q k refused-guarded g = grown-same q.plain
on-guarded-step-grows e q k sink-guarded g = grown-same q.plain
on-guarded-step-grows e q k (passed-guarded {a = n} h) g =
    let left : GuardedState number_cells mark_cells = record { plain = n.next.state; marks = n.marks } in
    finish-keeps (λ r. Grown q.plain r.plain) n.next.finish n.next.state.clk left k h.1 (grown-twice h.1 (g left h.0))

pub guarded-run-grows : (e : Environment) (budget : ℕ) (q : GuardedState number_cells mark_cells) → Sound e q.plain
    → Grown q.plain (guarded_run number_cells mark_cells e budget q).state.plain
unfolding guarded_run
guarded-run-grows e zero q h = grown-same q.plain
guarded-run-grows e (suc budget) q h =
    on-guarded-step-grows e q (guarded_run number_cells mark_cells e budget) (guarded-step-grows e q h) (guarded-run-grows e budget)
