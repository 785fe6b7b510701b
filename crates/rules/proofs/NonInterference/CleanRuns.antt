-- Where no place is marked, none becomes marked, and no step reaches a sink.
use Prim.Native.Nat.{ℕ}
use mathlib.Core.Path.{◌≡◌, refl, sym, ap, ◌∙◌}
use mathlib.Core.Bool.{Bool, true, false, ◌||◌}
use mathlib.Core.List.{List, [], ◌∷◌, map}
use lib.Dec.{eqb}
use lib.ListN.{get_or}
use Rattle.rules.specs.declared.OlaOpcode.{OlaOpcode}
use Rattle.rules.specs.declared.OlaOperand.{OlaOperand}
use Rattle.rules.specs.declared.Instruction.{Instruction}
use Rattle.rules.specs.Numbers.{choose}
use Rattle.rules.specs.Memory.{present}
use Rattle.rules.specs.Cells.{get, zipped, number_cells, mark_cells}
use Rattle.rules.specs.Operands.{Operands}
use Rattle.rules.specs.Step.{Environment, State}
use Rattle.rules.specs.Guarded.{content_mark}
use Rattle.rules.specs.Entry.{GuardedSnapshot, used_addresses, used_marks}
use Rattle.rules.specs.MarkRules.{
  Place,
  register,
  cell,
  Marking,
  snapshot_marks,
  OperandMarked,
  of-immediate,
  of-psp,
  of-register,
  of-offset,
  of-factor,
  of-factor-0,
  MarkedAfter,
  result-of-both,
  result-blanked,
  result-of-one,
  mstore-passes,
  mload-passes,
  ret-passes,
  tape-value,
  return-pc,
  kept,
}
use Rattle.rules.specs.SinkRules.{
  OperandSink,
  address-op0,
  address-op1,
  small-op0,
  small-op1,
  op1,
  cjmp-op0,
  r9-itself,
  tape-op0,
  tape-op1,
  tload-dst,
  ReadSink,
  cjmp-op1,
  tstore-cell,
  sccall-cell,
  ret-pc,
  ReachesSink,
  operand,
  reading,
  Comes,
  start,
  onward,
}
use Rattle.rules.specs.NonInterference.{Unmarked}
use Rattle.rules.proofs.Laws.BoolLaws.{false-true}

abbrev Clean : Marking → Type 0
Clean t = (x : Place) → t x ≡ false

clean-operand : {t : Marking} → Clean t → {o : OlaOperand} {b : Bool} → OperandMarked t o b → b ≡ false
clean-operand h of-immediate = refl
clean-operand h of-psp = refl
clean-operand h of-register = h _
clean-operand h of-offset = h _
clean-operand h (of-factor n) = h _
clean-operand h of-factor-0 = refl

clean_after : {t : Marking} → Clean t → {i : Instruction} {s : State number_cells} {o : Operands} {c : OlaOpcode} {x : Place} {b : Bool}
    → MarkedAfter t i s o c x b → b ≡ false
clean_after h (result-of-both {a = a} {b} f n p q) = ap (λ z. z || b) (clean-operand h p) ∙ clean-operand h q
clean_after h (result-blanked n) = refl
clean_after h (result-of-one f q) = clean-operand h q
clean_after h mstore-passes = h _
clean_after h mload-passes = h _
clean_after h ret-passes = h _
clean_after h (tape-value w) = refl
clean_after h return-pc = refl
clean_after h (kept w) = h _

clean-comes : {e : Environment} {s s' : State number_cells} {t t' : Marking} {k : ℕ} → Comes e s t k s' t' → Clean t → Clean t'
clean-comes start h = h
clean-comes (onward a l r) h = clean-comes r (λ x. clean_after h (a.marks x))

no_operand : {t : Marking} → Clean t → {o : OlaOperand} → OperandMarked t o true → ⊥
no_operand h p = false-true (sym (clean-operand h p))

no_place : {t : Marking} → Clean t → (x : Place) → t x ≡ true → ⊥
no_place h x e = false-true (sym (h x) ∙ e)

no-operand-use : {t : Marking} → Clean t → {i : Instruction} {c : OlaOpcode} → OperandSink t i c → ⊥
no-operand-use h (address-op0 f p) = no_operand h p
no-operand-use h (address-op1 f p) = no_operand h p
no-operand-use h (small-op0 f p) = no_operand h p
no-operand-use h (small-op1 f p) = no_operand h p
no-operand-use h (op1 f p) = no_operand h p
no-operand-use h (cjmp-op0 p) = no_operand h p
no-operand-use h (r9-itself f e) = no_place h (register 9) e
no-operand-use h (tape-op0 f p) = no_operand h p
no-operand-use h (tape-op1 f p) = no_operand h p
no-operand-use h (tload-dst p) = no_operand h p

no-read-use : {t : Marking} → Clean t → {i : Instruction} {e : Environment} {s : State number_cells} {o : Operands} {c : OlaOpcode} → ReadSink t i e s o c → ⊥
no-read-use h (cjmp-op1 l v p) = no_operand h p
no-read-use h (tstore-cell v a l u e) = no_place h (cell a) e
no-read-use h (sccall-cell v a l u e) = no_place h (cell a) e
no-read-use h (ret-pc v w e) = no_place h _ e

pub clean-reaches : {e : Environment} {s s' : State number_cells} {t t' : Marking} {k : ℕ} → Comes e s t k s' t' → Clean t → ReachesSink e s' t' → ⊥
clean-reaches r h (operand f u) = no-operand-use (clean-comes r h) u
clean-reaches r h (reading f n u) = no-read-use (clean-comes r h) u

-- A snapshot without marks starts clean

not-marked : (b : Bool) → (b ≡ true → ⊥) → b ≡ false
not-marked true h = absurd (h refl)
not-marked false h = refl

clean-cells : (l ts : List ℕ) → ((i : ℕ) → get_or (map (λ t. eqb t 1) ts) i false ≡ true → ⊥) → (a : ℕ) → content_mark mark_cells (get (zipped l ts) a) ≡ false
clean-cells [] ts h a = refl
clean-cells (b ∷ l) [] h a = refl
clean-cells (b ∷ l) (t ∷ ts) h a = go (clean-cells l ts (λ i. h (ℕ.suc i)) a) (eqb b a)
  where
    go : content_mark mark_cells (get (zipped l ts) a) ≡ false → (c : Bool) → content_mark mark_cells (choose c (present t) (get (zipped l ts) a)) ≡ false
    go k true = not-marked (eqb t 1) (h 0)
    go k false = k

pub clean-start : (g : GuardedSnapshot) → Unmarked g → Clean (snapshot_marks g)
clean-start g u (register r) = not-marked _ (u.registers r)
clean-start g u (cell a) = clean-cells (used_addresses g.plain) (used_marks g) u.cells a
