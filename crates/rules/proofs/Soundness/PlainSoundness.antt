-- Plain steps and runs keep states sound.
use Prim.Native.Nat.{ℕ, zero, suc, ◌≤◌, ◌<◌}
use mathlib.Core.Path.{◌≡◌, refl, sym, ap, subst, ◌∙◌}
use mathlib.Core.Bool.{Bool, true, false}
use mathlib.Core.List.{List, [], ◌∷◌, ◌++◌}
use native.Mathlib.Omega.{arith}
use lib.Dec.{leb, eqb}
use lib.ListN.{length, take, length-set, length-take}
use borrow.Author.Tests.{ltb-true, leb-true, eqb-true}
use Rattle.rules.specs.declared.Instruction.{Instruction}
use Rattle.rules.specs.declared.Held.{Held}
use Rattle.rules.specs.Numbers.{p, heap_end, choose}
use Rattle.rules.specs.Results.{Result}
use Rattle.rules.specs.Memory.{present, held, numbers_of}
use Rattle.rules.specs.Cells.{Cells, get, put, count, number_cells}
use Rattle.rules.specs.Opcodes.{Class, addition, multiplication, equality, small, complement, move, assert, range_check, jump, conditional_jump, call, return, load, store, tape_load, tape_store, contract_call, end, uncovered, class_of}
use Rattle.rules.specs.Operands.{Operands}
use Rattle.rules.specs.Step.{Environment, State, Next, store_many, writes_register, writes_cells, operate, capacity, step, RunEnd, on_step, run}
use Rattle.rules.specs.Soundness.{SoundCells, Sound}
use Rattle.rules.proofs.Laws.BoolLaws.{and_left, and_right}
use Rattle.rules.proofs.Laws.CellLaws.{get-put, rising-put}
use Rattle.rules.proofs.Laws.Passing.{Passing, passing-refused, passed, passing-require, passing-bind, passing-any, finish-keeps}
use Rattle.rules.proofs.Laws.OverlayLaws.{used-overlay, length-overlay-le}

-- Cells

-- a number that is stored at clk
sound-put : {clk a v : ℕ} {c : Cells Held} → a < heap_end → v ≤ p → SoundCells clk c → SoundCells clk (put c a (held v clk))
sound-put {clk} {a} {v} {c} l u h =
    record {
      rising = rising-put c a (held v clk) h.rising;
      in_heap = λ x w e. in-heap x w (eqb a x) refl (sym (get-put c a (held v clk) x) ∙ e);
      storable = λ x w e. storable x w (eqb a x) (sym (get-put c a (held v clk) x) ∙ e);
      not_later = λ x w e. not-later x w (eqb a x) (sym (get-put c a (held v clk) x) ∙ e);
    }
  where
    in-heap : (x : ℕ) (w : Held) (t : Bool) → eqb a x ≡ t → choose t (present (held v clk)) (get c x) ≡ present w → x < heap_end
    in-heap x w true f e = subst (λ y. y < heap_end) (eqb-true a x f) l
    in-heap x w false f e = h.in_heap x w e

    storable : (x : ℕ) (w : Held) (t : Bool) → choose t (present (held v clk)) (get c x) ≡ present w → w.number ≤ p
    storable x w true e = let z : held v clk ≡ w = cc in subst (λ y. y.number ≤ p) z u
    storable x w false e = h.storable x w e

    not-later : (x : ℕ) (w : Held) (t : Bool) → choose t (present (held v clk)) (get c x) ≡ present w → w.moment ≤ clk
    not-later x w true e = let z : held v clk ≡ w = cc in subst (λ y. y.moment ≤ clk) z (omega arith)
    not-later x w false e = h.not_later x w e

sound-store : {clk : ℕ} {c : Cells Held} → SoundCells clk c → (a : ℕ) (vs : List ℕ) → Passing (SoundCells clk) (store_many number_cells clk c a vs)
unfolding store_many
sound-store h a [] = passed h
sound-store {clk = clk} {c = c} h a (v ∷ vs) =
    passing-require _ λ u.
    passing-require _ λ t.
    passing-require _ λ l.
    sound-store {clk = clk} {c = put c a (held v clk)} (sound-put (ltb-true _ _ l) (leb-true _ _ u) h) (suc a) vs

-- one step later
sound-later : {clk : ℕ} {c : Cells Held} → SoundCells clk c → SoundCells (suc clk) c
sound-later {clk} h =
    record { rising = h.rising; in_heap = h.in_heap; storable = h.storable; not_later = λ a w e. let l : w.moment ≤ clk = h.not_later a w e in omega arith }

-- what a step keeps before the test of the capacities
pub record Kept (e : Environment) (s : State number_cells) : Type 0 where
  pub ten : length s.registers ≡ 10
  pub cells : SoundCells s.clk s.cells
  pub written_fits : length s.output ≤ e.output_capacity → length s.written ≤ e.output_capacity
  pub first : take (length s.output) s.written ≡ s.output

module _ (e : Environment) (i : Instruction) (s : State number_cells) (o : Operands) (h : Sound e s) where
  register-kept : (pc r v : ℕ) → Kept e (writes_register number_cells s pc r v).state
  register-kept pc r v =
      record {
        ten = length-set s.registers r v ∙ h.ten;
        cells = sound-later h.cells;
        written_fits = λ _. h.written_fits;
        first = h.first;
      }

  cells-kept : (pc : ℕ) (c : Cells Held) → SoundCells s.clk c → Kept e (writes_cells number_cells s pc c).state
  cells-kept pc c k = record { ten = h.ten; cells = sound-later k; written_fits = λ _. h.written_fits; first = h.first }

  pub operate-keeps : (c : Class) → Passing (λ n. Kept e n.state) (operate number_cells e c i s o)
  unfolding operate
  operate-keeps addition = passing-require _ λ a. passing-require _ λ b. passed (register-kept _ _ _)
  operate-keeps multiplication = passing-require _ λ a. passing-require _ λ b. passed (register-kept _ _ _)
  operate-keeps (equality f) = passed (register-kept _ _ _)
  operate-keeps (small f) = passing-require _ λ a. passing-require _ λ b. passed (register-kept _ _ _)
  operate-keeps complement = passing-require _ λ a. passed (register-kept _ _ _)
  operate-keeps move = passed (register-kept _ _ _)
  operate-keeps assert = passing-require _ λ a. passed (cells-kept _ _ h.cells)
  operate-keeps range_check = passing-require _ λ a. passed (cells-kept _ _ h.cells)
  operate-keeps jump = passed (cells-kept _ _ h.cells)
  operate-keeps conditional_jump = passing-require _ λ a. passing-any _ _ λ b. passed (cells-kept _ _ h.cells)
  operate-keeps call = passing-require _ λ a. passing-bind _ (sound-store h.cells _ _) λ c k. passed (cells-kept _ c k)
  operate-keeps return = passing-any _ _ λ pc. passing-any _ _ λ r. passed (register-kept _ _ _)
  operate-keeps load = passing-require _ λ a. passing-require _ λ b. passing-any _ _ λ v. passed (register-kept _ _ _)
  operate-keeps store =
      passing-require _ λ a. passing-require _ λ b. passing-bind _ (sound-store h.cells _ _) λ c k. passed (cells-kept _ c k)
  operate-keeps tape_load =
      passing-require _ λ a. passing-require _ λ b. passing-bind _ (sound-store h.cells _ _) λ c k. passed (cells-kept _ c k)
  operate-keeps tape_store =
      passing-any _ _ λ hs.
      let vs = numbers_of hs in
      passed
      (record {
        ten = h.ten;
        cells = sound-later h.cells;
        written_fits = λ l. length-overlay-le (s.output ++ vs) s.written e.output_capacity l h.written_fits;
        first = used-overlay (s.output ++ vs) s.written;
      })
  operate-keeps contract_call =
      passing-any _ _ λ hs. passed (record { ten = h.ten; cells = sound-later h.cells; written_fits = λ _. h.written_fits; first = refl })
  operate-keeps end = passed (record { ten = h.ten; cells = sound-later h.cells; written_fits = λ _. h.written_fits; first = h.first })
  operate-keeps uncovered = passing-refused

pub capacity-sound : (e : Environment) (n : Next number_cells) → Kept e n.state → Passing (λ n. Sound e n.state) (capacity number_cells e n)
capacity-sound e n k =
    passing-require _ λ t.
    let s = n.state in
    let u = and_right (leb (count s.cells) e.cell_capacity) _ t in
    let out = leb-true _ _ (and_right (leb (length s.tape) e.tape_capacity) _ u) in
    passed
    (record {
      ten = k.ten;
      cells = k.cells;
      cells_fit = leb-true _ _ (and_left (leb (count s.cells) e.cell_capacity) _ t);
      tape_fits = leb-true _ _ (and_left (leb (length s.tape) e.tape_capacity) _ u);
      output_fits = out;
      written_fits = k.written_fits out;
      first = k.first;
    })

-- the output is no longer than what is written
pub output-within : {e : Environment} {s : State number_cells} → Sound e s → length s.output ≤ length s.written
output-within {s = s} h =
    let l : length (take (length s.output) s.written) ≡ length s.output = ap length h.first in
    omega (arith, length-take (length s.output) s.written)

-- Step and run

pub step-sound : (e : Environment) (s : State number_cells) → Sound e s → Passing (λ n. Sound e n.state) (step number_cells e s)
unfolding step
step-sound e s h =
    passing-any _ _ λ i.
    passing-any _ _ λ o.
    passing-bind _ (operate-keeps e i s o h (class_of i.opcode)) λ n k.
    capacity-sound e n k

on-step-sound : (e : Environment) (s : State number_cells) {r : Result (Next number_cells)} (k : State number_cells → RunEnd (State number_cells)) → Sound e s
    → Passing (λ n. Sound e n.state) r → ((t : State number_cells) → Sound e t → Sound e (k t).state) → Sound e (on_step number_cells s r k).state
on-step-sound e s k h passing-refused q = h
on-step-sound e s k h (passed {a = n} a) q = finish-keeps (Sound e) n.finish n.state.clk n.state k a (q n.state a)

pub run_sound : (e : Environment) (budget : ℕ) (s : State number_cells) → Sound e s → Sound e (run number_cells e budget s).state
unfolding run
run_sound e zero s h = h
run_sound e (suc budget) s h = on-step-sound e s (run number_cells e budget) h (step-sound e s h) (run_sound e budget)
