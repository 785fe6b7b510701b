-- Two guarded runs from states that differ in marked numbers alone: each step of the one is a step of the other.
use Prim.Native.Nat.{ℕ, zero, suc}
use mathlib.Core.Path.{◌≡◌, refl, ap, subst}
use mathlib.Core.Bool.{Bool, true, false}
use Rattle.rules.specs.declared.Instruction.{Instruction}
use Rattle.rules.specs.declared.Refusal.TheVariants.{NoCapacity}
use Rattle.rules.specs.Results.{GuardedResult, passes, after, guard}
use Rattle.rules.specs.Cells.{count, number_cells, mark_cells}
use Rattle.rules.specs.Opcodes.{Class, addition, multiplication, equality, small, complement, move, assert, range_check, jump, conditional_jump, call, return, load, store, tape_load, tape_store, contract_call, end, uncovered, class_of}
use Rattle.rules.specs.Operands.{fetch, wants_of, Operands, operands}
use Rattle.rules.specs.Step.{Environment, State, Next, fits, capacity, RunEnd}
use Rattle.rules.specs.Guarded.{operand_mark, sinks_of, operand_sink, MarkState, read_sink, marks_after, GuardedState, GuardedNext, guarded_rest, guarded_step, on_guarded_step, guarded_run}
use Rattle.rules.specs.Relations.{passed, BothGuarded, refused-alike, sink-alike, passed-alike, BothRan}
use Rattle.rules.proofs.Laws.Relational.{both_equal, both-require, both-after, both-finish}
use Rattle.rules.proofs.Laws.BoolLaws.{or_left, or_right, or-equal}
use Rattle.rules.proofs.NonInterference.AlikeStates.{StatesRelated, NextRelated, unmarked, cells_count}
use Rattle.rules.proofs.NonInterference.AlikeSteps.{
  OperandsRelated,
  operands-read,
  Agreed,
  operands-equal,
  on-addition,
  on-multiplication,
  on-equality,
  on-small,
  on-complement,
  on-move,
  on-assert,
  on-range,
  on-jump,
  on-conditional,
  on_call,
  on_return,
  on-load,
  on_store,
  on-tape-load,
  on-tape-store,
  on-contract-call,
  on-end,
  on-uncovered,
}

-- All classes: what the operands' sinks let through agrees

module _ (e : Environment) (t : MarkState mark_cells) (i : Instruction) {s u : State number_cells} (n : StatesRelated t s u) where
  abbrev marked0 : Bool
  marked0 = operand_mark t.registers i.op0

  abbrev marked1 : Bool
  marked1 = operand_mark t.registers i.op1

  -- of classes whose operands are all unmarked, both have the same operands
  same_operands : (c : Class) {o q : Operands} → Agreed e t c i s u o o → o.op0 ≡ q.op0 → o.op1 ≡ q.op1 → o.dst ≡ q.dst → Agreed e t c i s u o q
  same_operands c {o} h a b d = subst (Agreed e t c i s u o) (operands-equal a b d) h

  agreed : (c : Class) {o q : Operands} → OperandsRelated t c i o q → operand_sink t.registers c i ≡ false → Agreed e t c i s u o q
  unfolding operand_sink sinks_of wants_of
  agreed addition r k = on-addition e t i n r
  agreed multiplication r k = on-multiplication e t i n r
  agreed (equality f) r k = on-equality e t i n f r
  agreed (small f) {o} r k =
      let a : marked0 ≡ false = or_left _ _ k in
      let b : marked1 ≡ false = or_left _ _ (or_right marked0 _ k) in
      same_operands (small f) (on-small e t i n f o (or-equal a b)) (unmarked a r.op0) (unmarked b r.op1) (unmarked refl r.dst)
  agreed complement r k = on-complement e t i n r
  agreed move r k = on-move e t i n r
  agreed assert {o} r k =
      same_operands assert (on-assert e t i n o) (unmarked refl r.op0) (unmarked (or_left _ _ k) r.op1) (unmarked refl r.dst)
  agreed range_check {o} r k =
      same_operands range_check (on-range e t i n o) (unmarked refl r.op0) (unmarked (or_left _ _ k) r.op1) (unmarked refl r.dst)
  agreed jump {o} r k =
      same_operands jump (on-jump e t i n o) (unmarked refl r.op0) (unmarked (or_left _ _ k) r.op1) (unmarked refl r.dst)
  agreed conditional_jump {o} r k =
      same_operands conditional_jump (on-conditional e t i n o) (unmarked (or_left _ _ k) r.op0) (unmarked refl r.op1) (unmarked refl r.dst)
  agreed call {o} r k =
      same_operands call (on_call e t i n o (or_right marked1 _ k)) (unmarked refl r.op0) (unmarked (or_left _ _ k) r.op1) (unmarked refl r.dst)
  agreed return {o} r k =
      same_operands return (on_return e t i n o k) (unmarked refl r.op0) (unmarked refl r.op1) (unmarked refl r.dst)
  agreed load {o} r k =
      let b : marked1 ≡ false = or_left _ _ (or_right marked0 _ k) in
      same_operands load (on-load e t i n o) (unmarked (or_left _ _ k) r.op0) (unmarked b r.op1) (unmarked refl r.dst)
  agreed store {o} r k =
      let b : marked1 ≡ false = or_left _ _ (or_right marked0 _ k) in
      same_operands store (on_store e t i n o) (unmarked (or_left _ _ k) r.op0) (unmarked b r.op1) (unmarked refl r.dst)
  agreed tape_load {o} r k =
      let b : marked1 ≡ false = or_left _ _ (or_right marked0 _ k) in
      let d : operand_mark t.registers i.dst ≡ false = or_left _ _ (or_right marked1 _ (or_right marked0 _ k)) in
      same_operands tape_load (on-tape-load e t i n o) (unmarked (or_left _ _ k) r.op0) (unmarked b r.op1) (unmarked d r.dst)
  agreed tape_store {o} r k =
      let b : marked1 ≡ false = or_left _ _ (or_right marked0 _ k) in
      same_operands tape_store (on-tape-store e t i n o) (unmarked (or_left _ _ k) r.op0) (unmarked b r.op1) (unmarked refl r.dst)
  agreed contract_call {o} r k =
      let b : marked1 ≡ false = or_left _ _ (or_right marked0 _ k) in
      same_operands contract_call (on-contract-call e t i n o) (unmarked (or_left _ _ k) r.op0) (unmarked b r.op1) (unmarked refl r.dst)
  agreed end {o} r k =
      same_operands end (on-end e t i n o) (unmarked refl r.op0) (unmarked refl r.op1) (unmarked refl r.dst)
  agreed uncovered {o} r k =
      same_operands uncovered (on-uncovered e t i n o) (unmarked refl r.op0) (unmarked refl r.op1) (unmarked refl r.dst)

-- A whole guarded step of two related states with the same marks

pub record GuardedRelated (q r : GuardedState number_cells mark_cells) : Type 0 where
  pub marks : q.marks ≡ r.marks
  pub plain : StatesRelated q.marks q.plain r.plain

pub record GuardedNextRelated (a b : GuardedNext number_cells mark_cells) : Type 0 where
  pub marks : a.marks ≡ b.marks
  pub next : NextRelated a.marks a.next b.next

fits-alike : (e : Environment) {t : MarkState mark_cells} {a b : State number_cells} → StatesRelated t a b → fits number_cells e a ≡ fits number_cells e b
fits-alike e {a = a} {b} n =
    let x : count a.cells ≡ count b.cells = cells_count n.cells in
    let y : a.tape ≡ b.tape = n.tape in
    let z : a.output ≡ b.output = n.output in
    rw (x, y, z)

-- past the sinks of what was read
last-stage : (e : Environment) (c : Bool) (t : MarkState mark_cells) {a b : Next number_cells} → (c ≡ false → NextRelated t a b)
    → BothGuarded GuardedNextRelated
    (guard c (after (capacity number_cells e a) λ n. passes (record { next = n; marks = t })))
    (guard c (after (capacity number_cells e b) λ n. passes (record { next = n; marks = t })))
unfolding guard
last-stage e true t h = sink-alike
last-stage e false t h =
    both-after _ _ (both-require NoCapacity (fits-alike e (h refl).state) (passed (h refl))) λ a b r.
    passed-alike (record { marks = refl; next = r })

module _ (e : Environment) (t : MarkState mark_cells) {s u : State number_cells} (n : StatesRelated t s u) (i : Instruction) (c : Class)
    {o q : Operands} (r : OperandsRelated t c i o q) where
  rest-stage : Agreed e t c i s u o q → BothGuarded GuardedNextRelated (guarded_rest number_cells mark_cells e t c i s o) (guarded_rest number_cells mark_cells e t c i u q)
  unfolding guarded_rest
  rest-stage d =
      both-after _ _ d.next λ a b h.
      rw (← d.sinks, ← d.marks) (last-stage e (read_sink number_cells mark_cells t c i s o) (marks_after number_cells mark_cells t c i s o) h)

  sink-stage : (b : Bool) → operand_sink t.registers c i ≡ b
      → BothGuarded GuardedNextRelated (guard b (guarded_rest number_cells mark_cells e t c i s o)) (guard b (guarded_rest number_cells mark_cells e t c i u q))
  unfolding guard
  sink-stage true k = sink-alike
  sink-stage false k = rest-stage (agreed e t i n c r k)

step-agrees : (e : Environment) (t : MarkState mark_cells) {s u : State number_cells} → StatesRelated t s u
    → BothGuarded GuardedNextRelated (guarded_step number_cells mark_cells e (record { plain = s; marks = t })) (guarded_step number_cells mark_cells e (record { plain = u; marks = t }))
unfolding guarded_step
step-agrees e t {s} {u} n =
    both-after _ _ (both_equal (ap (fetch e.program) n.pc)) λ i j k.
    subst (λ j. BothGuarded GuardedNextRelated (now s i) (now u j)) k
    (both-after _ _ (operands-read e.psp t (class_of i.opcode) i n) λ o q r.
    sink-stage e t n i (class_of i.opcode) r (operand_sink t.registers (class_of i.opcode) i) refl)
  where
    now : State number_cells → Instruction → GuardedResult (GuardedNext number_cells mark_cells)
    now s i =
        after (operands e.psp s.registers (class_of i.opcode) i) λ o.
        guard (operand_sink t.registers (class_of i.opcode) i) (guarded_rest number_cells mark_cells e t (class_of i.opcode) i s o)

-- Whole runs

abbrev at : State number_cells → MarkState mark_cells → GuardedState number_cells mark_cells
at s t = record { plain = s; marks = t }

go_on : (n : ℕ) (q r : GuardedState number_cells mark_cells) (k : GuardedState number_cells mark_cells → RunEnd (GuardedState number_cells mark_cells)) → GuardedRelated q r
    → ((q r : GuardedState number_cells mark_cells) → GuardedRelated q r → BothRan GuardedRelated (k q) (k r))
    → {x y : GuardedResult (GuardedNext number_cells mark_cells)} → BothGuarded GuardedNextRelated x y
    → BothRan GuardedRelated (on_guarded_step number_cells mark_cells q x k) (on_guarded_step number_cells mark_cells r y k)
go_on n q r k h l refused-alike = record { answer = refl; steps = refl; state = h }
go_on n q r k h l sink-alike = record { answer = refl; steps = refl; state = h }
go_on n q r k h l (passed-alike {a} {b} x) =
    let y : GuardedRelated (at a.next.state a.marks) (at b.next.state b.marks) = record { marks = x.marks; plain = x.next.state } in
    both-finish GuardedRelated _ _ k k x.next.finish x.next.state.clk y (l _ _ y)

pub run-agrees : (e : Environment) (n : ℕ) (q r : GuardedState number_cells mark_cells) → GuardedRelated q r
    → BothRan GuardedRelated (guarded_run number_cells mark_cells e n q) (guarded_run number_cells mark_cells e n r)
unfolding guarded_run
run-agrees e zero q r h = record { answer = refl; steps = refl; state = h }
run-agrees e (suc n) q r h =
    go_on n q r (guarded_run number_cells mark_cells e n) h (run-agrees e n)
    (subst (λ t. BothGuarded GuardedNextRelated (guarded_step number_cells mark_cells e q) (guarded_step number_cells mark_cells e (at r.plain t))) h.marks
    (step-agrees e q.marks h.plain))
