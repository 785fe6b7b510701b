-- The marks that a guarded step computes are those that the rules of marks give, at every place and in both directions.
use Prim.Native.Nat.{ℕ, ◌+◌, ◌-◌, ◌≤◌, ◌<◌}
use mathlib.Core.Path.{◌≡◌, refl, sym, ap, subst, ◌∙◌}
use mathlib.Core.Logic.{◌↔◌}
use mathlib.Core.Bool as B
use mathlib.Core.Bool.{Bool, true, false, ◌&&◌, ◌||◌}
use mathlib.Core.List.{List}
use native.Mathlib.Omega.{arith}
use lib.Dec.{leb, ltb, eqb}
use lib.ListN.{length, set}
use lib.Seq.{get_or-set_same, get_or-set_other}
use borrow.Author.Tests.{eqb-true, eqb-false, leb-true, leb-false, ltb-true, ltb-false}
use Rattle.rules.specs.declared.OlaOpcode.{OlaOpcode}
use Rattle.rules.specs.declared.OlaOpcode.TheVariants as O
use Rattle.rules.specs.declared.OlaOperand.{OlaOperand}
use Rattle.rules.specs.declared.OlaOperand.TheVariants.{Absent, Immediate, Register, RegisterWithOffset, RegisterWithFactor, Psp, Pc}
use Rattle.rules.specs.declared.Instruction.{Instruction}
use Rattle.rules.specs.Numbers.{bit}
use Rattle.rules.specs.Results.{pass}
use Rattle.rules.specs.Field.{field_add}
use Rattle.rules.specs.Cells.{put, number_cells, mark_cells}
use Rattle.rules.specs.Opcodes.{Class, class_of}
use Rattle.rules.specs.Operands.{target, wants_of, value_of, operand, Operands, operands}
use Rattle.rules.specs.Step.{State, r9, tape_values}
use Rattle.rules.specs.Guarded.{register_mark, operand_mark, is_unmarked_zero, product_mark, MarkState, cell_mark, clean_many, marks_after}
use Rattle.rules.specs.LoadedRegisters.{RegisterInRange, RegistersInRange}
use Rattle.rules.specs.MarkRules.{
  Place,
  register,
  cell,
  Marking,
  marking_of,
  OperandMarked,
  of-immediate,
  of-psp,
  of-register,
  of-offset,
  of-factor,
  of-factor-0,
  FromBoth,
  FromOne,
  add,
  mul,
  eq,
  neq,
  and,
  or,
  xor,
  gte,
  not,
  mov,
  Writes,
  both,
  one,
  mload,
  ret,
  mstore,
  call,
  tload,
  Blanked,
  by-op0,
  by-op1,
  MarkedAfter,
  result-of-both,
  result-blanked,
  result-of-one,
  mstore-passes,
  mload-passes,
  ret-passes,
  tape-value,
  return-pc,
  kept,
}
use Rattle.rules.proofs.Laws.BoolLaws.{false-true, or-equal, or-first, or-second, or_case}
use Rattle.rules.proofs.Laws.ProductLaws.{unmarked-zero, zero-unmarked}
use Rattle.rules.proofs.Laws.ResultLaws.{refuse-pass, pass-injective, bind-pass}
use Rattle.rules.proofs.MarksAndSinks.WrittenPlaces.{
  stored-mark,
  other-mark,
  clean-outside,
  clean-inside,
  both-register,
  one-register,
  both-cell,
  one_cell,
  mload-register,
  mload-cell,
  ret-register,
  ret-cell,
  mstore-register,
  mstore-cell,
  call-register,
  call-cell,
  tload-register,
  tload-cell,
  WritesNothing,
  assert,
  jmp,
  cjmp,
  end,
  rc,
  poseidon,
  sload,
  sstore,
  tstore,
  sccall,
  sigcheck,
  event,
  nothing_written,
  WritesBy,
  of-both,
  of_one,
  of-mload,
  of-ret,
  of-mstore,
  of-call,
  of-tload,
  of-nothing,
  kind_of,
}

-- Operands

pub operand-mark : (t : MarkState mark_cells) {o : OlaOperand} {b : Bool} → OperandMarked (marking_of t) o b → operand_mark t.registers o ≡ b
operand-mark t of-immediate = refl
operand-mark t of-psp = refl
operand-mark t of-register = refl
operand-mark t of-offset = refl
operand-mark t (of-factor {r} {w} h) = go (eqb w 0) refl
  where
    go : (z : Bool) → eqb w 0 ≡ z → (B.not z && register_mark t.registers r) ≡ register_mark t.registers r
    go true e = absurd (h (eqb-true w 0 e))
    go false e = refl
operand-mark t of-factor-0 = refl

pub factor-marked : (t : MarkState mark_cells) (r w : ℕ)
    → OperandMarked (marking_of t) (RegisterWithFactor r w) (operand_mark t.registers (RegisterWithFactor r w))
factor-marked t r w = go (eqb w 0) refl
  where
    go : (z : Bool) → eqb w 0 ≡ z → OperandMarked (marking_of t) (RegisterWithFactor r w) (B.not z && register_mark t.registers r)
    go true e = subst (λ w. OperandMarked (marking_of t) (RegisterWithFactor r w) false) (sym (eqb-true w 0 e)) of-factor-0
    go false e = of-factor (eqb-false w 0 e)

-- an operand that gives a number has a mark
pub value-marked : (t : MarkState mark_cells) (psp : ℕ) (registers : List ℕ) (o : OlaOperand) {v : ℕ} → value_of psp registers o ≡ pass v
    → OperandMarked (marking_of t) o (operand_mark t.registers o)
unfolding value_of
value-marked t psp registers Absent h = refuse-pass h
value-marked t psp registers (Immediate w) h = of-immediate
value-marked t psp registers (Register r) h = of-register
value-marked t psp registers (RegisterWithOffset r w) h = of-offset
value-marked t psp registers (RegisterWithFactor r w) h = factor-marked t r w
value-marked t psp registers Psp h = of-psp
value-marked t psp registers Pc h = refuse-pass h

-- What the operands of an opcode say of their own marks, and of its destination
data Proper (t : MarkState mark_cells) (i : Instruction) (o : Operands) : OlaOpcode → Type 0 where
  proper-both : {c : OlaOpcode} → FromBoth c
      → OperandMarked (marking_of t) i.op0 (operand_mark t.registers i.op0)
      → OperandMarked (marking_of t) i.op1 (operand_mark t.registers i.op1)
      → o.dst < length t.registers
      → Proper t i o c
  proper-one : {c : OlaOpcode} → FromOne c
      → OperandMarked (marking_of t) i.op1 (operand_mark t.registers i.op1)
      → o.dst < length t.registers
      → Proper t i o c
  proper-mload : o.dst < length t.registers → Proper t i o O.Mload
  proper-ret : 9 < length t.registers → Proper t i o O.Ret
  proper-mstore : Proper t i o O.Mstore
  proper-call : Proper t i o O.Call
  proper-tload : Proper t i o O.Tload
  proper-nothing : {c : OlaOpcode} → WritesNothing c → Proper t i o c

module _ (t : MarkState mark_cells) (i : Instruction) (s : State number_cells) (o : Operands) where
  abbrev mark0 : Bool
  mark0 = operand_mark t.registers i.op0

  abbrev mark1 : Bool
  mark1 = operand_mark t.registers i.op1

  abbrev after : OlaOpcode → Marking
  after c = marking_of (marks_after number_cells mark_cells t (class_of c) i s o)

  -- by the rules, the place x of the opcode c has the mark b
  abbrev Rules : OlaOpcode → Place → Bool → Type 0
  Rules c x b = MarkedAfter (marking_of t) i s o c x b

  -- the mark of a result of both operands
  abbrev both_mark : {c : OlaOpcode} → FromBoth c → Bool
  both_mark add = mark0 || mark1
  both_mark mul = product_mark mark0 o.op0 mark1 o.op1
  both_mark eq = mark0 || mark1
  both_mark neq = mark0 || mark1
  both_mark and = mark0 || mark1
  both_mark or = mark0 || mark1
  both_mark xor = mark0 || mark1
  both_mark gte = mark0 || mark1

  after_both : {c : OlaOpcode} (f : FromBoth c)
      → marks_after number_cells mark_cells t (class_of c) i s o
      ≡ record { registers = set t.registers o.dst (both_mark f); cells = t.cells }
  unfolding marks_after class_of
  after_both add = refl
  after_both mul = refl
  after_both eq = refl
  after_both neq = refl
  after_both and = refl
  after_both or = refl
  after_both xor = refl
  after_both gte = refl

  after_one : {c : OlaOpcode} → FromOne c
      → marks_after number_cells mark_cells t (class_of c) i s o ≡ record { registers = set t.registers o.dst mark1; cells = t.cells }
  unfolding marks_after class_of
  after_one not = refl
  after_one mov = refl

  after_nothing : {c : OlaOpcode} → WritesNothing c → marks_after number_cells mark_cells t (class_of c) i s o ≡ t
  unfolding marks_after class_of
  after_nothing assert = refl
  after_nothing jmp = refl
  after_nothing cjmp = refl
  after_nothing end = refl
  after_nothing rc = refl
  after_nothing poseidon = refl
  after_nothing sload = refl
  after_nothing sstore = refl
  after_nothing tstore = refl
  after_nothing sccall = refl
  after_nothing sigcheck = refl
  after_nothing event = refl

  -- a register that is written at d with the mark b, and every other
  at_register : {c : OlaOpcode} (d : ℕ) (b : Bool) → d < length t.registers → Rules c (register d) b
      → ((r : ℕ) → Writes s o c (register r) → d ≡ r)
      → (r : ℕ) → Rules c (register r) (register_mark (set t.registers d b) r)
  at_register {c} d b l h only r = go (eqb d r) refl
    where
      go : (e : Bool) → eqb d r ≡ e → Rules c (register r) (register_mark (set t.registers d b) r)
      go true e =
          subst (λ r. Rules c (register r) (register_mark (set t.registers d b) r)) (eqb-true d r e)
          (subst (Rules c (register d)) (sym (get_or-set_same t.registers d b false l)) h)
      go false e =
          subst (Rules c (register r)) (sym (get_or-set_other t.registers d r b false (λ q. eqb-false d r e (sym q))))
          (kept (λ w. eqb-false d r e (only r w)))

  at-cell : {c : OlaOpcode} (d : ℕ) (b : Bool) → Rules c (cell d) b → ((a : ℕ) → Writes s o c (cell a) → d ≡ a)
      → (a : ℕ) → Rules c (cell a) (cell_mark mark_cells (put t.cells d (bit b)) a)
  at-cell {c} d b h only a = go (eqb d a) refl
    where
      go : (e : Bool) → eqb d a ≡ e → Rules c (cell a) (cell_mark mark_cells (put t.cells d (bit b)) a)
      go true e =
          subst (λ a. Rules c (cell a) (cell_mark mark_cells (put t.cells d (bit b)) a)) (eqb-true d a e)
          (subst (Rules c (cell d)) (sym (stored-mark t.cells d b)) h)
      go false e =
          subst (Rules c (cell a)) (sym (other-mark t.cells d (bit b) a (eqb-false d a e)))
          (kept (λ w. eqb-false d a e (only a w)))

  -- a cell of TLOAD
  abbrev loaded : ℕ
  loaded = length (tape_values o.op0 o.op1 s.tape)

  abbrev loaded_mark : ℕ → Bool
  loaded_mark a = cell_mark mark_cells (clean_many mark_cells t.cells o.dst (tape_values o.op0 o.op1 s.tape)) a

  outside-tape : (a : ℕ) → (o.dst ≤ a → a < o.dst + loaded → ⊥) → Rules O.Tload (cell a) (loaded_mark a)
  outside-tape a h =
      subst (Rules O.Tload (cell a)) (sym (clean-outside t.cells o.dst _ a h))
      (kept (λ w. h (tload-cell s o w).0 (tload-cell s o w).1))

  at-tape : (a : ℕ) → Rules O.Tload (cell a) (loaded_mark a)
  at-tape a = go (leb o.dst a) refl (ltb a (o.dst + loaded)) refl
    where
      go : (b : Bool) → leb o.dst a ≡ b → (c : Bool) → ltb a (o.dst + loaded) ≡ c → Rules O.Tload (cell a) (loaded_mark a)
      go true l true u =
          subst (Rules O.Tload (cell a)) (sym (clean-inside t.cells o.dst _ a (leb-true o.dst a l) (ltb-true a _ u)))
          (tape-value (tload (leb-true o.dst a l) (ltb-true a _ u)))
      go true l false u = outside-tape a (λ m n. let k = ltb-false a (o.dst + loaded) u in omega arith)
      go false l c u = outside-tape a (λ m n. let k = leb-false o.dst a l in omega arith)

  -- A result of both operands

  abbrev any_blank : Bool
  any_blank = is_unmarked_zero mark0 o.op0 || is_unmarked_zero mark1 o.op1

  blanked-zero : Blanked (marking_of t) i o O.Mul → any_blank ≡ true
  blanked-zero (by-op0 p e) = or-first _ (zero-unmarked (operand-mark t p) e)
  blanked-zero (by-op1 p e) = or-second (is_unmarked_zero mark0 o.op0) (zero-unmarked (operand-mark t p) e)

  zero-blanked : {a b : Bool} → OperandMarked (marking_of t) i.op0 a → OperandMarked (marking_of t) i.op1 b → any_blank ≡ true
      → Blanked (marking_of t) i o O.Mul
  zero-blanked p q e = or_case (is_unmarked_zero mark0 o.op0) _ e by0 by1
    where
      by0 : is_unmarked_zero mark0 o.op0 ≡ true → Blanked (marking_of t) i o O.Mul
      by0 e =
          let z = unmarked-zero mark0 o.op0 e in
          by-op0 (subst (OperandMarked (marking_of t) i.op0) (sym (operand-mark t p) ∙ z.0) p) z.1

      by1 : is_unmarked_zero mark1 o.op1 ≡ true → Blanked (marking_of t) i o O.Mul
      by1 e =
          let z = unmarked-zero mark1 o.op1 e in
          by-op1 (subst (OperandMarked (marking_of t) i.op1) (sym (operand-mark t q) ∙ z.0) q) z.1

  product-follows : OperandMarked (marking_of t) i.op0 mark0 → OperandMarked (marking_of t) i.op1 mark1
      → Rules O.Mul (register o.dst) (product_mark mark0 o.op0 mark1 o.op1)
  product-follows p q = go any_blank refl
    where
      go : (z : Bool) → any_blank ≡ z → Rules O.Mul (register o.dst) (B.not z && (mark0 || mark1))
      go true e = result-blanked (zero-blanked p q e)
      go false e = result-of-both mul (λ h. false-true (sym e ∙ blanked-zero h)) p q

  result-follows : {c : OlaOpcode} (f : FromBoth c)
      → OperandMarked (marking_of t) i.op0 mark0
      → OperandMarked (marking_of t) i.op1 mark1
      → Rules c (register o.dst) (both_mark f)
  result-follows add p q = result-of-both add (λ h. elim h [ ]) p q
  result-follows mul p q = product-follows p q
  result-follows eq p q = result-of-both eq (λ h. elim h [ ]) p q
  result-follows neq p q = result-of-both neq (λ h. elim h [ ]) p q
  result-follows and p q = result-of-both and (λ h. elim h [ ]) p q
  result-follows or p q = result-of-both or (λ h. elim h [ ]) p q
  result-follows xor p q = result-of-both xor (λ h. elim h [ ]) p q
  result-follows gte p q = result-of-both gte (λ h. elim h [ ]) p q

  -- There: what is computed is what the rules give

  computed-follows : {c : OlaOpcode} → Proper t i o c → (x : Place) → Rules c x (after c x)
  unfolding marks_after class_of
  computed-follows (proper-both f p q l) (register r) =
      rw (after_both f) (at_register o.dst (both_mark f) l (result-follows f p q) (λ _. both-register s o f) r)
  computed-follows (proper-both f p q l) (cell a) = rw (after_both f) (kept (both-cell s o f))
  computed-follows (proper-one f q l) (register r) =
      rw (after_one f) (at_register o.dst mark1 l (result-of-one f q) (λ _. one-register s o f) r)
  computed-follows (proper-one f q l) (cell a) = rw (after_one f) (kept (one_cell s o f))
  computed-follows (proper-mload l) (register r) = at_register o.dst _ l mload-passes (λ _. mload-register s o) r
  computed-follows (proper-mload l) (cell a) = kept (mload-cell s o)
  computed-follows (proper-ret l) (register r) = at_register 9 _ l ret-passes (λ _. ret-register s o) r
  computed-follows (proper-ret l) (cell a) = kept (ret-cell s o)
  computed-follows proper-mstore (register r) = kept (mstore-register s o)
  computed-follows proper-mstore (cell a) = at-cell (field_add o.op0 o.op1) _ mstore-passes (λ _. mstore-cell s o) a
  computed-follows proper-call (register r) = kept (call-register s o)
  computed-follows proper-call (cell a) = at-cell (r9 number_cells s - 1) false return-pc (λ _. call-cell s o) a
  computed-follows proper-tload (register r) = kept (tload-register s o)
  computed-follows proper-tload (cell a) = at-tape a
  computed-follows (proper-nothing n) x = rw (after_nothing n) (kept (nothing_written s o n))

  -- Back: what the rules give is what is computed

  unwritten-register : {c : OlaOpcode} (d : ℕ) (b : Bool) → Writes s o c (register d) → (r : ℕ) → (Writes s o c (register r) → ⊥)
      → register_mark (set t.registers d b) r ≡ register_mark t.registers r
  unwritten-register {c} d b w r h = get_or-set_other t.registers d r b false (λ e. h (subst (λ r. Writes s o c (register r)) (sym e) w))

  unwritten-cell : {c : OlaOpcode} (d v : ℕ) → Writes s o c (cell d) → (a : ℕ) → (Writes s o c (cell a) → ⊥)
      → cell_mark mark_cells (put t.cells d v) a ≡ cell_mark mark_cells t.cells a
  unwritten-cell {c} d v w a h = other-mark t.cells d v a (λ e. h (subst (λ a. Writes s o c (cell a)) e w))

  kept-computed : {c : OlaOpcode} → WritesBy c → (x : Place) → (Writes s o c x → ⊥) → after c x ≡ marking_of t x
  unfolding marks_after class_of
  kept-computed (of-both f) (register r) h = rw (after_both f) (unwritten-register o.dst _ (both f) r h)
  kept-computed (of-both f) (cell a) h = rw (after_both f)
  kept-computed (of_one f) (register r) h = rw (after_one f) (unwritten-register o.dst _ (one f) r h)
  kept-computed (of_one f) (cell a) h = rw (after_one f)
  kept-computed of-mload (register r) h = unwritten-register o.dst _ mload r h
  kept-computed of-mload (cell a) h = refl
  kept-computed of-ret (register r) h = unwritten-register 9 _ ret r h
  kept-computed of-ret (cell a) h = refl
  kept-computed of-mstore (register r) h = refl
  kept-computed of-mstore (cell a) h = unwritten-cell (field_add o.op0 o.op1) _ mstore a h
  kept-computed of-call (register r) h = refl
  kept-computed of-call (cell a) h = unwritten-cell (r9 number_cells s - 1) _ call a h
  kept-computed of-tload (register r) h = refl
  kept-computed of-tload (cell a) h = clean-outside t.cells o.dst _ a (λ l u. h (tload l u))
  kept-computed (of-nothing n) x h = rw (after_nothing n)

  both-bound : {c : OlaOpcode} → Proper t i o c → FromBoth c → o.dst < length t.registers
  both-bound (proper-both g p q l) f = l
  both-bound (proper-one g q l) f = l
  both-bound (proper-mload l) f = l
  both-bound (proper-ret l) f = elim f [ ]
  both-bound proper-mstore f = elim f [ ]
  both-bound proper-call f = elim f [ ]
  both-bound proper-tload f = elim f [ ]
  both-bound (proper-nothing n) f = absurd (nothing_written s o n (both f))

  one-bound : {c : OlaOpcode} → Proper t i o c → FromOne c → o.dst < length t.registers
  one-bound (proper-both g p q l) f = l
  one-bound (proper-one g q l) f = l
  one-bound (proper-mload l) f = l
  one-bound (proper-ret l) f = elim f [ ]
  one-bound proper-mstore f = elim f [ ]
  one-bound proper-call f = elim f [ ]
  one-bound proper-tload f = elim f [ ]
  one-bound (proper-nothing n) f = absurd (nothing_written s o n (one f))

  mload-bound : Proper t i o O.Mload → o.dst < length t.registers
  mload-bound (proper-both g p q l) = l
  mload-bound (proper-one g q l) = l
  mload-bound (proper-mload l) = l
  mload-bound (proper-nothing n) = elim n [ ]

  ret-bound : Proper t i o O.Ret → 9 < length t.registers
  ret-bound (proper-both g p q l) = elim g [ ]
  ret-bound (proper-one g q l) = elim g [ ]
  ret-bound (proper-ret l) = l
  ret-bound (proper-nothing n) = elim n [ ]

  unblanked-mark : {c : OlaOpcode} {a b : Bool} (f : FromBoth c) → (Blanked (marking_of t) i o c → ⊥)
      → OperandMarked (marking_of t) i.op0 a → OperandMarked (marking_of t) i.op1 b → both_mark f ≡ (a || b)
  unblanked-mark add h p q = or-equal (operand-mark t p) (operand-mark t q)
  unblanked-mark {a = a} {b} mul h p q = go any_blank refl ∙ or-equal (operand-mark t p) (operand-mark t q)
    where
      go : (z : Bool) → any_blank ≡ z → (B.not z && (mark0 || mark1)) ≡ (mark0 || mark1)
      go true e = absurd (h (zero-blanked p q e))
      go false e = refl
  unblanked-mark eq h p q = or-equal (operand-mark t p) (operand-mark t q)
  unblanked-mark neq h p q = or-equal (operand-mark t p) (operand-mark t q)
  unblanked-mark and h p q = or-equal (operand-mark t p) (operand-mark t q)
  unblanked-mark or h p q = or-equal (operand-mark t p) (operand-mark t q)
  unblanked-mark xor h p q = or-equal (operand-mark t p) (operand-mark t q)
  unblanked-mark gte h p q = or-equal (operand-mark t p) (operand-mark t q)

  product-blanked : Proper t i o O.Mul → Blanked (marking_of t) i o O.Mul → after O.Mul (register o.dst) ≡ false
  product-blanked h b =
      rw (after_both mul)
      (get_or-set_same t.registers o.dst _ false (both-bound h mul) ∙ ap (λ z. B.not z && (mark0 || mark1)) (blanked-zero b))

  blanked-mark : {c : OlaOpcode} → Proper t i o c → Blanked (marking_of t) i o c → after c (register o.dst) ≡ false
  blanked-mark h (by-op0 p e) = product-blanked h (by-op0 p e)
  blanked-mark h (by-op1 p e) = product-blanked h (by-op1 p e)

  follows-computed : {c : OlaOpcode} {x : Place} {b : Bool} → Proper t i o c → Rules c x b → after c x ≡ b
  unfolding marks_after class_of
  follows-computed h (result-of-both f n p q) =
      rw (after_both f) (get_or-set_same t.registers o.dst _ false (both-bound h f) ∙ unblanked-mark f n p q)
  follows-computed h (result-blanked b) = blanked-mark h b
  follows-computed h (result-of-one f q) = rw (after_one f) (get_or-set_same t.registers o.dst _ false (one-bound h f) ∙ operand-mark t q)
  follows-computed h mstore-passes = stored-mark t.cells (field_add o.op0 o.op1) _
  follows-computed h mload-passes = get_or-set_same t.registers o.dst _ false (mload-bound h)
  follows-computed h ret-passes = get_or-set_same t.registers 9 _ false (ret-bound h)
  follows-computed h (tape-value {a} w) = clean-inside t.cells o.dst _ a (tload-cell s o w).0 (tload-cell s o w).1
  follows-computed h return-pc = stored-mark t.cells (r9 number_cells s - 1) false
  follows-computed h (kept {c} {x} w) = kept-computed (kind_of c) x w

-- Operands that were read make an opcode proper

pub operands-inverse : (psp : ℕ) (registers : List ℕ) (c : Class) (i : Instruction) {o : Operands} → operands psp registers c i ≡ pass o
    → (operand psp registers (wants_of c).op0 i.op0 ≡ pass o.op0)
    × (operand psp registers (wants_of c).op1 i.op1 ≡ pass o.op1)
    × (operand psp registers (wants_of c).dst i.dst ≡ pass o.dst)
unfolding operands
operands-inverse psp registers c i {o} h =
    let a = bind-pass _ _ h in
    let b = bind-pass _ _ a.2 in
    let d = bind-pass _ _ b.2 in
    let e : ◌≡◌ {A = Operands} (record { op0 = a.0; op1 = b.0; dst = d.0 }) o = pass-injective d.2 in
    (a.1 ∙ ap (λ (q : Operands). pass q.op0) e, b.1 ∙ ap (λ (q : Operands). pass q.op1) e, d.1 ∙ ap (λ (q : Operands). pass q.dst) e)

pub target-in-range : (psp : ℕ) (registers : List ℕ) (x : OlaOperand) {r : ℕ} → operand psp registers target x ≡ pass r → RegisterInRange x
    → r < 10
unfolding operand
target-in-range psp registers Absent h l = refuse-pass h
target-in-range psp registers (Immediate w) h l = refuse-pass h
target-in-range psp registers (Register r) h l = subst (λ n. n < 10) (pass-injective h) l
target-in-range psp registers (RegisterWithOffset r w) h l = refuse-pass h
target-in-range psp registers (RegisterWithFactor r w) h l = refuse-pass h
target-in-range psp registers Psp h l = refuse-pass h
target-in-range psp registers Pc h l = refuse-pass h

module _ (t : MarkState mark_cells) (i : Instruction) (o : Operands) (psp : ℕ) (registers : List ℕ) (ten : length t.registers ≡ 10) (in_range : RegistersInRange i) where
  dst-bound : operand psp registers target i.dst ≡ pass o.dst → o.dst < length t.registers
  dst-bound h = let l : o.dst < 10 = target-in-range psp registers i.dst h in_range.dst in omega arith

  both-proper : {c : OlaOpcode} → FromBoth c
      → (value_of psp registers i.op0 ≡ pass o.op0) × (value_of psp registers i.op1 ≡ pass o.op1) × (operand psp registers target i.dst ≡ pass o.dst)
      → Proper t i o c
  both-proper f h = proper-both f (value-marked t psp registers i.op0 h.0) (value-marked t psp registers i.op1 h.1) (dst-bound h.2)

  one-proper : {c : OlaOpcode} → FromOne c
      → (value_of psp registers i.op1 ≡ pass o.op1) → (operand psp registers target i.dst ≡ pass o.dst) → Proper t i o c
  one-proper f h k = proper-one f (value-marked t psp registers i.op1 h) (dst-bound k)

  proper : (c : OlaOpcode) → operands psp registers (class_of c) i ≡ pass o → Proper t i o c
  unfolding class_of wants_of operand
  proper O.Add h = both-proper add (operands-inverse psp registers _ i h)
  proper O.Mul h = both-proper mul (operands-inverse psp registers _ i h)
  proper O.Eq h = both-proper eq (operands-inverse psp registers _ i h)
  proper O.Assert h = proper-nothing assert
  proper O.Mov h = let k = operands-inverse psp registers _ i h in one-proper mov k.1 k.2
  proper O.Jmp h = proper-nothing jmp
  proper O.Cjmp h = proper-nothing cjmp
  proper O.Call h = proper-call
  proper O.Ret h = proper-ret (omega arith)
  proper O.Mload h = proper-mload (dst-bound (operands-inverse psp registers _ i h).2)
  proper O.Mstore h = proper-mstore
  proper O.End h = proper-nothing end
  proper O.Rc h = proper-nothing rc
  proper O.And h = both-proper and (operands-inverse psp registers _ i h)
  proper O.Or h = both-proper or (operands-inverse psp registers _ i h)
  proper O.Xor h = both-proper xor (operands-inverse psp registers _ i h)
  proper O.Not h = let k = operands-inverse psp registers _ i h in one-proper not k.1 k.2
  proper O.Neq h = both-proper neq (operands-inverse psp registers _ i h)
  proper O.Gte h = both-proper gte (operands-inverse psp registers _ i h)
  proper O.Poseidon h = proper-nothing poseidon
  proper O.Sload h = proper-nothing sload
  proper O.Sstore h = proper-nothing sstore
  proper O.Tload h = proper-tload
  proper O.Tstore h = proper-nothing tstore
  proper O.Sccall h = proper-nothing sccall
  proper O.Sigcheck h = proper-nothing sigcheck
  proper O.Event h = proper-nothing event

  -- the marks after a step, by the rules and as computed
  pub marks-exact : (s : State number_cells) → operands psp registers (class_of i.opcode) i ≡ pass o → (x : Place) (b : Bool)
      → MarkedAfter (marking_of t) i s o i.opcode x b ↔ (marking_of (marks_after number_cells mark_cells t (class_of i.opcode) i s o) x ≡ b)
  marks-exact s h x b =
      let p = proper i.opcode h in
      (follows-computed t i s o p, λ e. subst (MarkedAfter (marking_of t) i s o i.opcode x) e (computed-follows t i s o p x))
