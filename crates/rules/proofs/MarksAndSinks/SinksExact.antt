-- A guarded step stops for a mark exactly where it reaches a sink, by the rules.
use Prim.Native.Nat.{ℕ, zero, suc, ◌+◌, ◌<◌, ◌≤◌}
use mathlib.Core.Path.{◌≡◌, refl, sym, subst, ◌∙◌}
use mathlib.Core.Bool.{Bool, true, false, ◌||◌}
use native.Mathlib.Omega.{arith}
use lib.Dec.{leb}
use borrow.Author.Tests.{leb-true, leb-false, le-leb}
use Rattle.rules.specs.declared.OlaOpcode.{OlaOpcode}
use Rattle.rules.specs.declared.OlaOpcode.TheVariants as O
use Rattle.rules.specs.declared.OlaOperand.{OlaOperand}
use Rattle.rules.specs.declared.OlaOperand.TheVariants.{Absent, Immediate, Register, RegisterWithOffset, RegisterWithFactor, Psp, Pc}
use Rattle.rules.specs.declared.Instruction.{Instruction}
use Rattle.rules.specs.Results.{pass, GuardedResult, sink, passes, after}
use Rattle.rules.specs.Cells.{Cells, number_cells, mark_cells}
use Rattle.rules.specs.Opcodes.{class_of}
use Rattle.rules.specs.Operands.{Operands}
use Rattle.rules.specs.Step.{Environment, State, Next, operate, capacity}
use Rattle.rules.specs.Guarded.{operand_mark, sinks_of, operand_sink, MarkState, cell_mark, span_mark, read_sink, marks_after, GuardedState, GuardedNext, guarded_rest, guarded_step}
use Rattle.rules.specs.MarkRules.{marking_of, OperandMarked, of-register, of-offset}
use Rattle.rules.specs.SinkRules.{
  mload,
  mstore,
  and,
  or,
  xor,
  gte,
  assert,
  rc,
  jmp,
  UsesOp1,
  UsesR9,
  ret,
  tload,
  tstore,
  sccall,
  OperandSink,
  address-op0,
  address-op1,
  small-op0,
  small-op1,
  op1,
  cjmp-op0,
  r9-itself,
  tape-op0,
  tape-op1,
  tload-dst,
  ReadSink,
  cjmp-op1,
  tstore-cell,
  sccall-cell,
  ret-pc,
  InstructionRead,
  ReachesSink,
  operand,
  reading,
}
use Rattle.rules.proofs.Laws.BoolLaws.{false-true, or-first, or-second, or_case}
use Rattle.rules.proofs.Laws.ResultLaws.{require-pass, bind-pass, pass-require, pass-bind, after-step, after-sink, guard-sink, sink-guard}
use Rattle.rules.proofs.MarksAndSinks.MarksFollow.{operand-mark, factor-marked}

-- Tests and operands

never : {X : Type 0} → false ≡ true → X
never h = absurd (false-true h)

marked-operand : (t : MarkState mark_cells) (o : OlaOperand) → operand_mark t.registers o ≡ true → OperandMarked (marking_of t) o true
marked-operand t Absent h = never h
marked-operand t (Immediate w) h = never h
marked-operand t (Register r) h = subst (OperandMarked (marking_of t) (Register r)) h of-register
marked-operand t (RegisterWithOffset r w) h = subst (OperandMarked (marking_of t) (RegisterWithOffset r w)) h of-offset
marked-operand t (RegisterWithFactor r w) h = subst (OperandMarked (marking_of t) (RegisterWithFactor r w)) h (factor-marked t r w)
marked-operand t Psp h = never h
marked-operand t Pc h = never h

-- The sinks of operands

module _ (t : MarkState mark_cells) (i : Instruction) where
  abbrev mark0 : Bool
  mark0 = operand_mark t.registers i.op0

  abbrev mark1 : Bool
  mark1 = operand_mark t.registers i.op1

  is0 : mark0 ≡ true → OperandMarked (marking_of t) i.op0 true
  is0 h = marked-operand t i.op0 h

  is1 : mark1 ≡ true → OperandMarked (marking_of t) i.op1 true
  is1 h = marked-operand t i.op1 h

  rule-computed : {c : OlaOpcode} → OperandSink (marking_of t) i c → operand_sink t.registers (class_of c) i ≡ true
  unfolding operand_sink sinks_of class_of
  rule-computed (address-op0 mload h) = or-first _ (operand-mark t h)
  rule-computed (address-op0 mstore h) = or-first _ (operand-mark t h)
  rule-computed (address-op1 mload h) = or-second mark0 (or-first _ (operand-mark t h))
  rule-computed (address-op1 mstore h) = or-second mark0 (or-first _ (operand-mark t h))
  rule-computed (small-op0 and h) = or-first _ (operand-mark t h)
  rule-computed (small-op0 or h) = or-first _ (operand-mark t h)
  rule-computed (small-op0 xor h) = or-first _ (operand-mark t h)
  rule-computed (small-op0 gte h) = or-first _ (operand-mark t h)
  rule-computed (small-op1 and h) = or-second mark0 (or-first _ (operand-mark t h))
  rule-computed (small-op1 or h) = or-second mark0 (or-first _ (operand-mark t h))
  rule-computed (small-op1 xor h) = or-second mark0 (or-first _ (operand-mark t h))
  rule-computed (small-op1 gte h) = or-second mark0 (or-first _ (operand-mark t h))
  rule-computed (op1 assert h) = or-first _ (operand-mark t h)
  rule-computed (op1 rc h) = or-first _ (operand-mark t h)
  rule-computed (op1 jmp h) = or-first _ (operand-mark t h)
  rule-computed (op1 UsesOp1.call h) = or-first _ (operand-mark t h)
  rule-computed (cjmp-op0 h) = or-first _ (operand-mark t h)
  rule-computed (r9-itself UsesR9.call h) = or-second mark1 h
  rule-computed (r9-itself ret h) = h
  rule-computed (tape-op0 tload h) = or-first _ (operand-mark t h)
  rule-computed (tape-op0 tstore h) = or-first _ (operand-mark t h)
  rule-computed (tape-op0 sccall h) = or-first _ (operand-mark t h)
  rule-computed (tape-op1 tload h) = or-second mark0 (or-first _ (operand-mark t h))
  rule-computed (tape-op1 tstore h) = or-second mark0 (or-first _ (operand-mark t h))
  rule-computed (tape-op1 sccall h) = or-second mark0 (or-first _ (operand-mark t h))
  rule-computed (tload-dst h) = or-second mark0 (or-second mark1 (or-first _ (operand-mark t h)))

  computed-rule : (c : OlaOpcode) → operand_sink t.registers (class_of c) i ≡ true → OperandSink (marking_of t) i c
  unfolding operand_sink sinks_of class_of
  computed-rule O.Add h = never h
  computed-rule O.Mul h = never h
  computed-rule O.Eq h = never h
  computed-rule O.Assert h = or_case _ _ h (λ a. op1 assert (is1 a)) never
  computed-rule O.Mov h = never h
  computed-rule O.Jmp h = or_case _ _ h (λ a. op1 jmp (is1 a)) never
  computed-rule O.Cjmp h = or_case _ _ h (λ a. cjmp-op0 (is0 a)) never
  computed-rule O.Call h = or_case _ _ h (λ a. op1 UsesOp1.call (is1 a)) (r9-itself UsesR9.call)
  computed-rule O.Ret h = r9-itself ret h
  computed-rule O.Mload h = or_case _ _ h (λ a. address-op0 mload (is0 a)) λ k. or_case _ _ k (λ a. address-op1 mload (is1 a)) never
  computed-rule O.Mstore h = or_case _ _ h (λ a. address-op0 mstore (is0 a)) λ k. or_case _ _ k (λ a. address-op1 mstore (is1 a)) never
  computed-rule O.End h = never h
  computed-rule O.Rc h = or_case _ _ h (λ a. op1 rc (is1 a)) never
  computed-rule O.And h = or_case _ _ h (λ a. small-op0 and (is0 a)) λ k. or_case _ _ k (λ a. small-op1 and (is1 a)) never
  computed-rule O.Or h = or_case _ _ h (λ a. small-op0 or (is0 a)) λ k. or_case _ _ k (λ a. small-op1 or (is1 a)) never
  computed-rule O.Xor h = or_case _ _ h (λ a. small-op0 xor (is0 a)) λ k. or_case _ _ k (λ a. small-op1 xor (is1 a)) never
  computed-rule O.Not h = never h
  computed-rule O.Neq h = never h
  computed-rule O.Gte h = or_case _ _ h (λ a. small-op0 gte (is0 a)) λ k. or_case _ _ k (λ a. small-op1 gte (is1 a)) never
  computed-rule O.Poseidon h = never h
  computed-rule O.Sload h = never h
  computed-rule O.Sstore h = never h
  computed-rule O.Tload h =
      or_case _ _ h (λ a. tape-op0 tload (is0 a)) λ k.
      or_case _ _ k (λ a. tape-op1 tload (is1 a)) λ l.
      or_case _ _ l (λ a. tload-dst (marked-operand t i.dst a)) never
  computed-rule O.Tstore h = or_case _ _ h (λ a. tape-op0 tstore (is0 a)) λ k. or_case _ _ k (λ a. tape-op1 tstore (is1 a)) never
  computed-rule O.Sccall h = or_case _ _ h (λ a. tape-op0 sccall (is0 a)) λ k. or_case _ _ k (λ a. tape-op1 sccall (is1 a)) never
  computed-rule O.Sigcheck h = never h
  computed-rule O.Event h = never h

-- The sinks of what was read

span-cell : (c : Cells ℕ) (a n : ℕ) → span_mark mark_cells c a n ≡ true → (x : ℕ) × (a ≤ x) × (x < a + n) × (cell_mark mark_cells c x ≡ true)
unfolding span_mark
span-cell c a zero h = never h
span-cell c a (suc n) h =
    or_case (cell_mark mark_cells c a) (span_mark mark_cells c (suc a) n) h
    (λ k. (a, omega arith, omega arith, k))
    (λ k. let r = span-cell c (suc a) n k in let l = r.1 in let u = r.2 in (r.0, omega arith, omega arith, r.3))

cell-span : (c : Cells ℕ) (a n x : ℕ) → a ≤ x → x < a + n → cell_mark mark_cells c x ≡ true → span_mark mark_cells c a n ≡ true
unfolding span_mark
cell-span c a zero x l u h = absurd (omega arith)
cell-span c a (suc n) x l u h = go (λ v. cell-span c (suc a) n x v (omega arith) h) (leb (suc a) x) refl
  where
    go : (suc a ≤ x → span_mark mark_cells c (suc a) n ≡ true) → (b : Bool) → leb (suc a) x ≡ b
        → (cell_mark mark_cells c a || span_mark mark_cells c (suc a) n) ≡ true
    go k true q = or-second (cell_mark mark_cells c a) (k (leb-true (suc a) x q))
    go k false q =
        let v : x < suc a = leb-false (suc a) x q in
        let e : x ≡ a = omega arith in
        or-first _ (subst (λ y. cell_mark mark_cells c y ≡ true) e h)

module _ (e : Environment) (t : MarkState mark_cells) (i : Instruction) (s : State number_cells) (o : Operands) where
  sink-read : (c : OlaOpcode) {n : Next number_cells} → operate number_cells e (class_of c) i s o ≡ pass n → read_sink number_cells mark_cells t (class_of c) i s o ≡ true
      → ReadSink (marking_of t) i e s o c
  unfolding operate read_sink class_of
  sink-read O.Add q h = never h
  sink-read O.Mul q h = never h
  sink-read O.Eq q h = never h
  sink-read O.Assert q h = never h
  sink-read O.Mov q h = never h
  sink-read O.Jmp q h = never h
  sink-read O.Cjmp q h =
      let r = require-pass _ _ _ q in
      let v = bind-pass _ _ r.1 in
      cjmp-op1 (leb-true o.op0 1 r.0) v.1 (marked-operand t i.op1 h)
  sink-read O.Call q h = never h
  sink-read O.Ret q h =
      let v = bind-pass _ _ q in
      let w = bind-pass _ _ v.2 in
      ret-pc v.1 w.1 h
  sink-read O.Mload q h = never h
  sink-read O.Mstore q h = never h
  sink-read O.End q h = never h
  sink-read O.Rc q h = never h
  sink-read O.And q h = never h
  sink-read O.Or q h = never h
  sink-read O.Xor q h = never h
  sink-read O.Not q h = never h
  sink-read O.Neq q h = never h
  sink-read O.Gte q h = never h
  sink-read O.Poseidon q h = never h
  sink-read O.Sload q h = never h
  sink-read O.Sstore q h = never h
  sink-read O.Tload q h = never h
  sink-read O.Tstore q h =
      let v = bind-pass _ _ q in
      let x = span-cell t.cells o.op0 o.op1 h in
      tstore-cell v.1 x.0 x.1 x.2 x.3
  sink-read O.Sccall q h =
      let v = bind-pass _ _ q in
      let x = span-cell t.cells o.op0 4 h in
      sccall-cell v.1 x.0 x.1 x.2 x.3
  sink-read O.Sigcheck q h = never h
  sink-read O.Event q h = never h

  read-sink : {c : OlaOpcode} → ReadSink (marking_of t) i e s o c
      → (n : Next number_cells) × (operate number_cells e (class_of c) i s o ≡ pass n) × (read_sink number_cells mark_cells t (class_of c) i s o ≡ true)
  unfolding operate read_sink class_of
  read-sink (cjmp-op1 l v h) = (_, pass-require _ (le-leb o.op0 1 l) (pass-bind _ v refl), operand-mark t h)
  read-sink (tstore-cell v a l u h) = (_, pass-bind _ v refl, cell-span t.cells o.op0 o.op1 a l u h)
  read-sink (sccall-cell v a l u h) = (_, pass-bind _ v refl, cell-span t.cells o.op0 4 a l u h)
  read-sink (ret-pc v w h) = (_, pass-bind _ v (pass-bind _ w refl), h)

-- A whole step

capacity-no-sink : (e : Environment) (n : Next number_cells) (t : MarkState mark_cells)
    → after {B = GuardedNext number_cells mark_cells} (capacity number_cells e n) (λ n. passes (record { next = n; marks = t })) ≡ sink → ⊥
capacity-no-sink e n t h =
    let r = after-sink (capacity number_cells e n) _ h in
    let q : ◌≡◌ {A = GuardedResult (GuardedNext number_cells mark_cells)} (passes (record { next = r.0; marks = t })) sink = r.2 in
    let z : ◌≡◌ {A = ℕ} 0 1 = cc in
    omega arith

pub reached-stops : (e : Environment) (q : GuardedState number_cells mark_cells) → ReachesSink e q.plain (marking_of q.marks) → guarded_step number_cells mark_cells e q ≡ sink
unfolding guarded_step guarded_rest
reached-stops e q (operand {i} {o} f u) =
    after-step _ f.fetched ∙ after-step _ f.read
    ∙ sink-guard _ _ (λ c. never (sym c ∙ rule-computed q.marks i u))
reached-stops e q (reading {i} {o} f n u) =
    let r = read-sink e q.marks i q.plain o u in
    after-step _ f.fetched ∙ after-step _ f.read
    ∙ sink-guard _ _ (λ c. after-step _ r.1 ∙ sink-guard _ _ (λ d. never (sym d ∙ r.2)))

pub stop-reaches : (e : Environment) (q : GuardedState number_cells mark_cells) → guarded_step number_cells mark_cells e q ≡ sink → ReachesSink e q.plain (marking_of q.marks)
unfolding guarded_step guarded_rest
stop-reaches e q h =
    let x = after-sink _ _ h in
    let i = x.0 in
    let y = after-sink _ _ x.2 in
    let o = y.0 in
    let f : InstructionRead e q.plain i o = record { fetched = x.1; read = y.1 } in
    guard-sink _ _ y.2
    (λ b. operand f (computed-rule q.marks i i.opcode b))
    (λ b k.
    let z = after-sink _ _ k in
    guard-sink _ _ z.2
    (λ c. reading f (λ u. never (sym b ∙ rule-computed q.marks i u)) (sink-read e q.marks i q.plain o i.opcode z.1 c))
    (λ c l. absurd (capacity-no-sink e z.0 (marks_after number_cells mark_cells q.marks (class_of i.opcode) i q.plain o) l)))
