-- Guarded steps and runs keep states sound. That marked numbers stay below p is the two-run theorem of a state beside itself.
use Prim.Native.Nat.{ℕ, zero, suc, ◌≤◌, ◌<◌}
use mathlib.Core.Path.{◌≡◌, refl, sym, ap, subst, ◌∙◌}
use mathlib.Core.Bool.{Bool, true, false}
use mathlib.Core.List.{List, [], ◌∷◌}
use native.Mathlib.Omega.{arith}
use lib.Dec.{eqb}
use lib.ListN.{length, get_or}
use borrow.Author.Tests.{eq-eqb}
use Rattle.rules.specs.declared.Instruction.{Instruction}
use Rattle.rules.specs.declared.Held.{Held}
use Rattle.rules.specs.Numbers.{p, choose}
use Rattle.rules.specs.Results.{pass, GuardedResult, passes}
use Rattle.rules.specs.Memory.{present}
use Rattle.rules.specs.Cells.{Cells, none, cell, get, put, addresses, RisingFrom, number_cells, mark_cells}
use Rattle.rules.specs.Opcodes.{Class, addition, multiplication, equality, small, complement, move, assert, range_check, jump, conditional_jump, call, return, load, store, tape_load, tape_store, contract_call, end, uncovered, class_of}
use Rattle.rules.specs.Operands.{Operands}
use Rattle.rules.specs.Step.{Environment, State, RunEnd, content_value}
use Rattle.rules.specs.Guarded.{register_mark, cell_mark, MarkState, clean_many, marks_after, GuardedState, GuardedNext, guarded_rest, guarded_step, on_guarded_step, guarded_run}
use Rattle.rules.specs.Relations.{Both, passed}
use Rattle.rules.specs.Soundness.{Sound, GuardedSound, KeepsSound}
use Rattle.rules.proofs.Laws.BoolLaws.{false-true, bit-one}
use Rattle.rules.proofs.Laws.CellLaws.{get-put, other-address}
use Rattle.rules.proofs.Laws.Passing.{passing-at, PassingGuarded, refused-guarded, sink-guarded, passed-guarded, passing-after, passing-after-any, passing-guard, finish-keeps}
use Rattle.rules.proofs.Soundness.PlainSoundness.{operate-keeps, capacity-sound, output-within, step-sound, run_sound}
use Rattle.rules.proofs.NonInterference.AlikeStates.{Related, equal, hidden, RegistersRelated, HeldRelated, CellsRelated, registers-get, cell-read}
use Rattle.rules.proofs.NonInterference.AlikeRuns.{GuardedRelated, run-agrees}

-- A sound state beside itself

beside-itself : (b : Bool) (v : ℕ) → (b ≡ true → v < p) → Related b v v
beside-itself true v h = hidden (h refl) (h refl)
beside-itself false v h = equal refl

pub below : {b : Bool} {v w : ℕ} → Related b v w → b ≡ true → v < p
below (hidden h k) e = h
below (equal h) e = absurd (false-true e)

registers-beside : (l : List Bool) (r : List ℕ) → length l ≡ length r → ((i : ℕ) → register_mark l i ≡ true → get_or r i 0 < p) → RegistersRelated l r r
registers-beside [] [] n h = RegistersRelated.nil
registers-beside [] (v ∷ r) n h = absurd (omega arith)
registers-beside (b ∷ l) [] n h = absurd (omega arith)
registers-beside (b ∷ l) (v ∷ r) n h = RegistersRelated.cons (beside-itself b v (h 0)) (registers-beside l r (omega arith) (λ i. h (suc i)))

cells-beside : (n : ℕ) (k : Cells ℕ) (c : Cells Held) → RisingFrom n c → addresses k ≡ addresses c
    → ((a : ℕ) (v : Held) → cell_mark mark_cells k a ≡ true → get c a ≡ present v → v.number < p) → CellsRelated k c c
cells-beside n none none r e h = CellsRelated.nil
cells-beside n none (cell b v c) r e h = absurd (let z : ◌≡◌ {A = ℕ} 0 1 = cc in omega arith)
cells-beside n (cell a t k) none r e h = absurd (let z : ◌≡◌ {A = ℕ} 0 1 = cc in omega arith)
cells-beside n (cell a t k) (cell b v c) r e h =
    let d : b ≡ a = cc in
    let f : addresses k ≡ addresses c = cc in
    go b d r.1 h (λ x. cells-beside (suc b) k c r.1 f x)
  where
    go : (b : ℕ) → b ≡ a → RisingFrom (suc b) c
        → ((x : ℕ) (w : Held) → cell_mark mark_cells (cell a t k) x ≡ true → get (cell b v c) x ≡ present w → w.number < p)
        → (((x : ℕ) (w : Held) → cell_mark mark_cells k x ≡ true → get c x ≡ present w → w.number < p) → CellsRelated k c c)
        → CellsRelated (cell a t k) (cell b v c) (cell b v c)
    go b d r h rest =
        subst (λ x. CellsRelated (cell x t k) (cell b v c) (cell b v c)) d
        (CellsRelated.cons (record { number = beside-itself (eqb t 1) v.number head; moment = refl }) (rest tail))
      where
        head : eqb t 1 ≡ true → v.number < p
        head f = h b v (rw (eq-eqb a b (sym d)) f) (rw (eq-eqb b b refl))

        tail : (x : ℕ) (w : Held) → cell_mark mark_cells k x ≡ true → get c x ≡ present w → w.number < p
        tail x w f g =
            let o : eqb b x ≡ false = other-address b c x w r g in
            let u : eqb a x ≡ false = ap (λ y. eqb y x) (sym d) ∙ o in
            h x w (rw u f) (rw o g)

pub sound-beside : {e : Environment} {q : GuardedState number_cells mark_cells} → GuardedSound e q → GuardedRelated q q
sound-beside {e} {q} h =
    let s = q.plain in
    record {
      marks = refl;
      plain = record {
        registers = registers-beside q.marks.registers s.registers (h.ten ∙ sym h.plain.ten) h.registers_below;
        pc = refl;
        clk = refl;
        cells = cells-beside 0 q.marks.cells s.cells h.plain.cells.rising h.addresses h.cells_below;
        tape = refl;
        output = refl;
        written = refl;
        within = output-within h.plain;
        ten = h.ten;
      };
    }

beside-addresses : {k : Cells ℕ} {c d : Cells Held} → CellsRelated k c d → addresses k ≡ addresses c
beside-addresses CellsRelated.nil = refl
beside-addresses (CellsRelated.cons {a = a} h r) = ap (◌∷◌ a) (beside-addresses r)

beside-cell : {k : Cells ℕ} {c : Cells Held} → CellsRelated k c c → (a : ℕ) (v : Held) → cell_mark mark_cells k a ≡ true → get c a ≡ present v
    → v.number < p
beside-cell {k} h a v t e = go (subst (λ x. Both (HeldRelated (cell_mark mark_cells k a)) (content_value number_cells x) (content_value number_cells x)) e (cell-read h a))
  where
    go : {v : Held} → Both (HeldRelated (cell_mark mark_cells k a)) (pass v) (pass v) → v.number < p
    go (passed r) = below r.number t

-- Marks are 0 or 1

abbrev ZeroOrOne : Cells ℕ → Type 0
ZeroOrOne c = (a t : ℕ) → get c a ≡ present t → t ≤ 1

put-bit : (c : Cells ℕ) (a v : ℕ) → v ≤ 1 → ZeroOrOne c → ZeroOrOne (put c a v)
put-bit c a v l h x w e = go (eqb a x) (sym (get-put c a v x) ∙ e)
  where
    go : (t : Bool) → choose t (present v) (get c x) ≡ present w → w ≤ 1
    go true f = let z : v ≡ w = cc in omega arith
    go false f = h x w f

clean-bits : (vs : List ℕ) (c : Cells ℕ) (a : ℕ) → ZeroOrOne c → ZeroOrOne (clean_many mark_cells c a vs)
unfolding clean_many
clean-bits [] c a h = h
clean-bits (v ∷ vs) c a h = clean-bits vs (put c a 0) (suc a) (put-bit c a 0 (omega arith) h)

after-bits : (t : MarkState mark_cells) (c : Class) (i : Instruction) (s : State number_cells) (o : Operands) → ZeroOrOne t.cells
    → ZeroOrOne (marks_after number_cells mark_cells t c i s o).cells
unfolding marks_after
after-bits t addition i s o h = h
after-bits t multiplication i s o h = h
after-bits t (equality f) i s o h = h
after-bits t (small f) i s o h = h
after-bits t complement i s o h = h
after-bits t move i s o h = h
after-bits t assert i s o h = h
after-bits t range_check i s o h = h
after-bits t jump i s o h = h
after-bits t conditional_jump i s o h = h
after-bits t call i s o h = put-bit t.cells _ 0 (omega arith) h
after-bits t return i s o h = h
after-bits t load i s o h = h
after-bits t store i s o h = put-bit t.cells _ _ (bit-one (register_mark t.registers o.dst)) h
after-bits t tape_load i s o h = clean-bits _ t.cells o.dst h
after-bits t tape_store i s o h = h
after-bits t contract_call i s o h = h
after-bits t end i s o h = h
after-bits t uncovered i s o h = h

-- A run keeps the plain part sound and the marks 0 or 1

record Kept (e : Environment) (q : GuardedState number_cells mark_cells) : Type 0 where
  plain : Sound e q.plain
  zero_or_one : ZeroOrOne q.marks.cells

abbrev left : GuardedNext number_cells mark_cells → GuardedState number_cells mark_cells
left n = record { plain = n.next.state; marks = n.marks }

step_keeps : (e : Environment) (q : GuardedState number_cells mark_cells) → Kept e q → PassingGuarded (λ n. Kept e (left n)) (guarded_step number_cells mark_cells e q)
unfolding guarded_step guarded_rest
step_keeps e q h =
    passing-after-any _ _ λ i.
    passing-after-any _ _ λ o.
    passing-guard _
    (passing-after _ (operate-keeps e i q.plain o h.plain (class_of i.opcode)) λ n k.
    passing-guard _
    (passing-after _ (capacity-sound e n k) λ n l.
    passed-guarded (record { plain = l; zero_or_one = after-bits q.marks (class_of i.opcode) i q.plain o h.zero_or_one })))

on-step-keeps : (e : Environment) (q : GuardedState number_cells mark_cells) {r : GuardedResult (GuardedNext number_cells mark_cells)}
    (k : GuardedState number_cells mark_cells → RunEnd (GuardedState number_cells mark_cells)) → Kept e q → PassingGuarded (λ n. Kept e (left n)) r
    → ((q : GuardedState number_cells mark_cells) → Kept e q → Kept e (k q).state) → Kept e (on_guarded_step number_cells mark_cells q r k).state
on-step-keeps e q k h refused-guarded g = h
on-step-keeps e q k h sink-guarded g = h
on-step-keeps e q k h (passed-guarded {a = n} x) g = finish-keeps (Kept e) n.next.finish n.next.state.clk (left n) k x (g (left n) x)

run-keeps : (e : Environment) (budget : ℕ) (q : GuardedState number_cells mark_cells) → Kept e q → Kept e (guarded_run number_cells mark_cells e budget q).state
unfolding guarded_run
run-keeps e zero q h = h
run-keeps e (suc budget) q h = on-step-keeps e q (guarded_run number_cells mark_cells e budget) h (step_keeps e q h) (run-keeps e budget)

-- Step and run

pub guarded-run-sound : (e : Environment) (budget : ℕ) (q : GuardedState number_cells mark_cells) → GuardedSound e q
    → GuardedSound e (guarded_run number_cells mark_cells e budget q).state
guarded-run-sound e budget q h =
    let k = run-keeps e budget q (record { plain = h.plain; zero_or_one = h.zero_or_one }) in
    let b = (run-agrees e budget q q (sound-beside h)).state.plain in
    record {
      plain = k.plain;
      ten = b.ten;
      addresses = beside-addresses b.cells;
      zero_or_one = k.zero_or_one;
      registers_below = λ r. below (registers-get b.registers r);
      cells_below = beside-cell b.cells;
    }

-- an accepted step leaves what a run of one step leaves
one-step : (e : Environment) (q : GuardedState number_cells mark_cells) (n : GuardedNext number_cells mark_cells) → guarded_step number_cells mark_cells e q ≡ passes n
    → (guarded_run number_cells mark_cells e 1 q).state ≡ left n
unfolding guarded_run
one-step e q n h =
    ap (λ r. (on_guarded_step number_cells mark_cells q r (guarded_run number_cells mark_cells e 0)).state) h
    ∙ finish-keeps (λ s. s ≡ left n) n.next.finish n.next.state.clk (left n) (guarded_run number_cells mark_cells e 0) refl refl

pub guarded-step-sound : (e : Environment) (q : GuardedState number_cells mark_cells) → GuardedSound e q → (n : GuardedNext number_cells mark_cells)
    → guarded_step number_cells mark_cells e q ≡ passes n → GuardedSound e (left n)
guarded-step-sound e q h n k = subst (GuardedSound e) (one-step e q n k) (guarded-run-sound e 1 q h)

pub keeps-sound : (e : Environment) → KeepsSound e
keeps-sound e =
    record {
      step = λ s h n. passing-at (step-sound e s h);
      run = run_sound e;
      guarded_step = guarded-step-sound e;
      guarded_run = guarded-run-sound e;
    }
