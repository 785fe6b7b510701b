-- What a setter relies on when blanking holds: it follows from the rules of marks and from the plain step.
use Prim.Native.Nat.{ℕ, ◌<◌}
use mathlib.Core.Path.{◌≡◌, refl, sym, ap, subst, ◌∙◌}
use mathlib.Core.Bool.{Bool, true, false, ◌||◌}
use mathlib.Core.List.{List}
use mathlib.Core.Logic.{◌↔◌}
use native.Mathlib.Omega.{arith}
use lib.ListN.{length, get_or}
use lib.Seq.{get_or-set_same}
use Rattle.rules.specs.declared.OlaOpcode.TheVariants as O
use Rattle.rules.specs.declared.OlaOperand.{OlaOperand}
use Rattle.rules.specs.declared.OlaOperand.TheVariants.{RegisterWithFactor}
use Rattle.rules.specs.declared.Instruction.{Instruction}
use Rattle.rules.specs.Results.{pass, passes}
use Rattle.rules.specs.Field.{field_mul}
use Rattle.rules.specs.Cells.{number_cells, mark_cells}
use Rattle.rules.specs.Opcodes.{multiplication, class_of}
use Rattle.rules.specs.Operands.{target, wants_of, value_of, operand, Operands, operands}
use Rattle.rules.specs.Step.{Environment, Next, operate, step}
use Rattle.rules.specs.Guarded.{register_mark, operand_mark, GuardedState, GuardedNext, guarded_step}
use Rattle.rules.specs.LoadedRegisters.{AllInRange}
use Rattle.rules.specs.MarkRules.{
  register,
  Marking,
  marking_of,
  OperandMarked,
  of-factor,
  of-factor-0,
  mul,
  Blanked,
  by-op0,
  by-op1,
  MarkedAfter,
  result-of-both,
  result-blanked,
}
use Rattle.rules.specs.SinkRules.{InstructionRead}
use Rattle.rules.specs.Blanking.{AnyMarked, op0, op1, Product, Factor, Blanking}
use Rattle.rules.proofs.Laws.BoolLaws.{false-true, or-first, or-second, or_case}
use Rattle.rules.proofs.Laws.ProductLaws.{zero_left, zero_right, factor-mark}
use Rattle.rules.proofs.Laws.ResultLaws.{pass-injective, require-pass, bind-pass, bind-step}
use Rattle.rules.proofs.Laws.DecodedRegisters.{fetch-in-range}
use Rattle.rules.proofs.MarksAndSinks.MarksFollow.{operand-mark, value-marked, operands-inverse, target-in-range}
use Rattle.rules.proofs.MarksAndSinks.StepsByRules.{guarded-steps}

-- A factor operand

factor-0-unmarked : {t : Marking} {r : ℕ} {b : Bool} → OperandMarked t (RegisterWithFactor r 0) b → b ≡ false
factor-0-unmarked (of-factor h) = absurd (h refl)
factor-0-unmarked of-factor-0 = refl

factor-0-number : (psp : ℕ) (registers : List ℕ) (r v : ℕ) → value_of psp registers (RegisterWithFactor r 0) ≡ pass v → v ≡ 0
unfolding value_of
factor-0-number psp registers r v h =
    let a = require-pass _ _ _ h in
    let b = require-pass _ _ _ a.1 in
    sym (pass-injective b.1) ∙ zero_right (get_or registers r 0) refl

factor-holds : Factor
factor-holds =
    record {
      mark = λ l r v w. sym (factor-mark (register_mark l r) v w);
      unmarked = λ t r b. (factor-0-unmarked, λ e. subst (OperandMarked t (RegisterWithFactor r 0)) (sym e) of-factor-0);
      zero = factor-0-number;
    }

-- A MUL

module _ (e : Environment) (in_range : AllInRange e.program) (q : GuardedState number_cells mark_cells)
    (ten_numbers : length q.plain.registers ≡ 10) (ten_marks : length q.marks.registers ≡ 10)
    (n : GuardedNext number_cells mark_cells) (accepted : guarded_step number_cells mark_cells e q ≡ passes n)
    {i : Instruction} {o : Operands} (f : InstructionRead e q.plain i o) (is_mul : i.opcode ≡ O.Mul) where
  abbrev before : Marking
  before = marking_of q.marks

  abbrev mark0 : Bool
  mark0 = operand_mark q.marks.registers i.op0

  abbrev mark1 : Bool
  mark1 = operand_mark q.marks.registers i.op1

  abbrev left : Bool
  left = marking_of n.marks (register o.dst)

  product-read : operands e.psp q.plain.registers multiplication i ≡ pass o
  unfolding class_of
  product-read = subst (λ c. operands e.psp q.plain.registers (class_of c) i ≡ pass o) is_mul f.read

  operands-read : (value_of e.psp q.plain.registers i.op0 ≡ pass o.op0)
      × (value_of e.psp q.plain.registers i.op1 ≡ pass o.op1)
      × (operand e.psp q.plain.registers target i.dst ≡ pass o.dst)
  unfolding wants_of operand
  operands-read = operands-inverse e.psp q.plain.registers multiplication i product-read

  op0-marked : OperandMarked before i.op0 mark0
  op0-marked = value-marked q.marks e.psp q.plain.registers i.op0 operands-read.0

  op1-marked : OperandMarked before i.op1 mark1
  op1-marked = value-marked q.marks e.psp q.plain.registers i.op1 operands-read.1

  -- the mark of dst, by the rules
  by-rules : {b : Bool} → MarkedAfter before i q.plain o O.Mul (register o.dst) b → left ≡ b
  by-rules {b} m =
      ((guarded-steps e in_range q ten_marks).marks n accepted f (register o.dst) b).0
      (subst (λ c. MarkedAfter before i q.plain o c (register o.dst) b) (sym is_mul) m)

  blanked : Blanked before i o O.Mul → left ≡ false
  blanked h = by-rules (result-blanked h)

  unblanked : (Blanked before i o O.Mul → ⊥) → left ≡ (mark0 || mark1)
  unblanked h = by-rules (result-of-both mul h op0-marked op1-marked)

  any-marked : AnyMarked before i → (mark0 || mark1) ≡ true
  any-marked (op0 h) = or-first mark1 (operand-mark q.marks h)
  any-marked (op1 h) = or-second mark0 (operand-mark q.marks h)

  marked-any : (mark0 || mark1) ≡ true → AnyMarked before i
  marked-any h =
      or_case mark0 mark1 h
      (λ k. op0 (subst (OperandMarked before i.op0) k op0-marked))
      (λ k. op1 (subst (OperandMarked before i.op1) k op1-marked))

  never_both : {x : OlaOperand} → OperandMarked before x true → OperandMarked before x false → ⊥
  never_both h k = false-true (sym (operand-mark q.marks k) ∙ operand-mark q.marks h)

  marked-exactly : (left ≡ true) ↔ (AnyMarked before i × (Blanked before i o O.Mul → ⊥))
  marked-exactly = (there, λ h. unblanked h.1 ∙ any-marked h.0)
    where
      there : left ≡ true → AnyMarked before i × (Blanked before i o O.Mul → ⊥)
      there h =
          let k : Blanked before i o O.Mul → ⊥ = λ b. false-true (sym (blanked b) ∙ h) in
          (marked-any (sym (unblanked k) ∙ h), k)

  marked-op0 : OperandMarked before i.op0 true → (OperandMarked before i.op1 false → o.op1 ≡ 0 → ⊥) → Blanked before i o O.Mul → ⊥
  marked-op0 h k (by-op0 m z) = never_both h m
  marked-op0 h k (by-op1 m z) = k m z

  marked-op1 : OperandMarked before i.op1 true → (OperandMarked before i.op0 false → o.op0 ≡ 0 → ⊥) → Blanked before i o O.Mul → ⊥
  marked-op1 h k (by-op0 m z) = k m z
  marked-op1 h k (by-op1 m z) = never_both h m

  -- the number of dst, by the plain step
  plain_step : step number_cells e q.plain ≡ pass n.next
  plain_step =
      (((guarded-steps e in_range q ten_marks).accepts n.next.finish n.next.state (marking_of n.marks)).0
      (record { marks = n.marks; accepted = accepted; places = λ x. refl })
      ).next

  operated : operate number_cells e multiplication i q.plain o ≡ pass n.next
  unfolding step class_of
  operated =
      let a = sym (bind-step _ f.fetched) ∙ plain_step in
      let b = bind-pass _ _ (sym (bind-step _ f.read) ∙ a) in
      let c = require-pass _ _ _ b.2 in
      subst (λ k. operate number_cells e (class_of k) i q.plain o ≡ pass n.next) is_mul (b.1 ∙ c.1)

  dst-below : o.dst < length q.plain.registers
  dst-below =
      let r = fetch-in-range e.program q.plain.pc in_range f.fetched in
      let l : o.dst < 10 = target-in-range e.psp q.plain.registers i.dst operands-read.2 r.dst in
      omega arith

  product-number : get_or n.next.state.registers o.dst 0 ≡ field_mul o.op0 o.op1
  unfolding operate
  product-number =
      let a = require-pass _ _ _ operated in
      let b = require-pass _ _ _ a.1 in
      ap (λ (m : Next number_cells). get_or m.state.registers o.dst 0) (sym (pass-injective b.1))
      ∙ get_or-set_same q.plain.registers o.dst (field_mul o.op0 o.op1) 0 dst-below

  blanked-number : Blanked before i o O.Mul → field_mul o.op0 o.op1 ≡ 0
  blanked-number (by-op0 m z) = zero_left o.op1 z
  blanked-number (by-op1 m z) = zero_right o.op0 z

  product-holds : Product before (marking_of n.marks) i o (get_or n.next.state.registers o.dst 0)
  product-holds =
      record {
        marked = marked-exactly;
        unmarked_zero = λ h. (blanked h, product-number ∙ blanked-number h);
        marked_op0 = λ h k. marked-exactly.1 (op0 h, marked-op0 h k);
        marked_op1 = λ h k. marked-exactly.1 (op1 h, marked-op1 h k);
      }

pub blanking : Blanking
blanking = record { product = product-holds; factor = factor-holds }
