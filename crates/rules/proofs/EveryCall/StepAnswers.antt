-- Refusals 1, 2 and 3 are the entry's alone, and 17 is the clock's: a step is refused with one of 4 to 16, or at a sink.
use Prim.Native.Nat.{ℕ, zero, suc, ◌-◌}
use mathlib.Core.Path.{◌≡◌, refl}
use mathlib.Core.Bool.{Bool, true, false, ◌&&◌}
use mathlib.Core.List.{List, [], ◌∷◌}
use native.Mathlib.Omega.{arith}
use lib.Dec.{ltb, eqb}
use borrow.Author.Tests.{ltb-true, lt-leb, ne_eqb}
use Rattle.rules.specs.declared.OlaOperand.{OlaOperand}
use Rattle.rules.specs.declared.OlaOperand.TheVariants.{Absent, Immediate, Register, RegisterWithOffset, RegisterWithFactor, Psp, Pc}
use Rattle.rules.specs.declared.Instruction.{Instruction}
use Rattle.rules.specs.declared.Held.{Held}
use Rattle.rules.specs.declared.Refusal.{Refusal}
use Rattle.rules.specs.declared.Refusal.TheVariants.{NoInstruction}
use Rattle.rules.specs.Field.{field_add, field_mul}
use Rattle.rules.specs.Memory.{held, Content, absent, present, Memory}
use Rattle.rules.specs.Opcodes.{Class, addition, multiplication, equality, small, complement, move, assert, range_check, jump, conditional_jump, call, return, load, store, tape_load, tape_store, contract_call, end, uncovered}
use Rattle.rules.specs.Operands.{binary_length, instruction_at, fetch, Want, ignored, lacking, value, later, register, target, in_field, value_of, target_of, absence, operand, Operands, operands}
use Rattle.rules.specs.Step.{Environment, State, Next, r9, content_value, read, read_below, read_many, read_span, store_many, operate, capacity, step}
use Rattle.rules.specs.Guarded.{MarkState, GuardedState, guarded_rest, guarded_step}
use Rattle.rules.specs.Answers.{Meaning, outcome, refusal, refusal_meaning}
use Rattle.rules.specs.EveryCall.{instead_of_step, when}
use Rattle.rules.proofs.Laws.BoolLaws.{false-true, and_left, and_right}
use Rattle.rules.proofs.EveryCall.Refusing.{Refusing, refusing-refused, passed, RefusingGuarded, passed-guarded, refusing-require, refusing-choose, refusing-bind, refusing-after, refusing-guard}

-- 4 to 16, which carry nothing
abbrev pub is_of_step : Meaning → Bool
is_of_step (outcome n vs) = false
is_of_step (refusal n []) = ltb 3 n && ltb n 17
is_of_step (refusal n (v ∷ vs)) = false

abbrev pub AtStep : Refusal → Type 0
AtStep f = is_of_step (refusal_meaning f) ≡ true

-- they come in the place of a step
pub of-step : (m : Meaning) → is_of_step m ≡ true → when m ≡ instead_of_step
of-step (outcome n vs) h = absurd (false-true h)
of-step (refusal n []) h =
    let a = ltb-true 3 n (and_left (ltb 3 n) (ltb n 17) h) in
    let b = ltb-true n 17 (and_right (ltb 3 n) (ltb n 17) h) in
    rw (lt-leb n 3 (omega arith), ne_eqb n 17 (λ e. omega arith))
of-step (refusal n (v ∷ vs)) h = absurd (false-true h)

-- Fetch

found : (is : List Instruction) (pc : ℕ) → Refusing AtStep (instruction_at is pc)
unfolding instruction_at refusal_meaning
found [] pc = refusing-refused refl
found (i ∷ is) pc = refusing-choose (eqb pc 0) passed (refusing-choose (ltb pc (binary_length i)) (refusing-refused {f = NoInstruction} refl) (found is (pc - binary_length i)))

fetched : (is : List Instruction) (pc : ℕ) → Refusing AtStep (fetch is pc)
unfolding fetch refusal_meaning
fetched is pc = refusing-bind _ (found is pc) λ i. refusing-require _ _ refl passed

-- Operands

in_field-answers : (f : ℕ → ℕ → ℕ) (a b : ℕ) → Refusing AtStep (in_field f a b)
unfolding refusal_meaning
in_field-answers f a b = refusing-require _ _ refl (refusing-require _ _ refl passed)

valued : (psp : ℕ) (registers : List ℕ) (o : OlaOperand) → Refusing AtStep (value_of psp registers o)
unfolding value_of refusal_meaning
valued psp registers Absent = refusing-refused refl
valued psp registers (Immediate w) = passed
valued psp registers (Register r) = passed
valued psp registers (RegisterWithOffset r w) = in_field-answers field_add _ _
valued psp registers (RegisterWithFactor r w) = in_field-answers field_mul _ _
valued psp registers Psp = passed
valued psp registers Pc = refusing-refused refl

targeted : (o : OlaOperand) → Refusing AtStep (target_of o)
unfolding refusal_meaning
targeted Absent = refusing-refused refl
targeted (Immediate w) = refusing-refused refl
targeted (Register r) = passed
targeted (RegisterWithOffset r w) = refusing-refused refl
targeted (RegisterWithFactor r w) = refusing-refused refl
targeted Psp = refusing-refused refl
targeted Pc = refusing-refused refl

lacked : (o : OlaOperand) → Refusing AtStep (absence o)
unfolding refusal_meaning
lacked Absent = passed
lacked (Immediate w) = refusing-refused refl
lacked (Register r) = refusing-refused refl
lacked (RegisterWithOffset r w) = refusing-refused refl
lacked (RegisterWithFactor r w) = refusing-refused refl
lacked Psp = refusing-refused refl
lacked Pc = refusing-refused refl

operand_read : (psp : ℕ) (registers : List ℕ) (w : Want) (o : OlaOperand) → Refusing AtStep (operand psp registers w o)
unfolding operand
operand_read psp registers ignored o = passed
operand_read psp registers lacking o = lacked o
operand_read psp registers value o = valued psp registers o
operand_read psp registers later o = passed
operand_read psp registers register o = refusing-bind _ (targeted o) λ r. passed
operand_read psp registers target o = targeted o

operands-read : (psp : ℕ) (registers : List ℕ) (c : Class) (i : Instruction) → Refusing AtStep (operands psp registers c i)
unfolding operands
operands-read psp registers c i =
    refusing-bind _ (operand_read psp registers _ _) λ a.
    refusing-bind _ (operand_read psp registers _ _) λ b.
    refusing-bind _ (operand_read psp registers _ _) λ d.
    passed

module _ (number_memory : Memory Held) (mark_memory : Memory ℕ) where
  open number_memory use {Mem, get}

  -- Reading and storing

  content-read : (s : Content Held) → Refusing AtStep (content_value number_memory s)
  unfolding refusal_meaning
  content-read absent = refusing-refused refl
  content-read (present v) = passed

  cell-read : (c : Mem) (a : ℕ) → Refusing AtStep (read number_memory c a)
  cell-read c a = content-read (get c a)

  below-read : (c : Mem) (r k : ℕ) → Refusing AtStep (read_below number_memory c r k)
  unfolding refusal_meaning
  below-read c r k = refusing-require _ _ refl (cell-read c (r - k))

  many_read : (c : Mem) (a n : ℕ) → Refusing AtStep (read_many number_memory c a n)
  unfolding read_many
  many_read c a zero = passed
  many_read c a (suc n) = refusing-bind _ (cell-read c a) λ v. refusing-bind _ (many_read c (suc a) n) λ vs. passed

  span-read : (c : Mem) (a n : ℕ) → Refusing AtStep (read_span number_memory c a n)
  unfolding read_span refusal_meaning
  span-read c a n = refusing-require _ _ refl (refusing-require _ _ refl (many_read c a n))

  many-stored : (moment : ℕ) (c : Mem) (a : ℕ) (vs : List ℕ) → Refusing AtStep (store_many number_memory moment c a vs)
  unfolding store_many refusal_meaning
  many-stored m c a [] = passed
  many-stored m c a (v ∷ vs) =
      refusing-require _ _ refl (refusing-require _ _ refl (refusing-require _ _ refl (many-stored m (number_memory.put c a (held v m)) (suc a) vs)))

  -- The operation

  module _ (e : Environment) where
    operated : (c : Class) (i : Instruction) (s : State number_memory) (o : Operands) → Refusing AtStep (operate number_memory e c i s o)
    unfolding operate refusal_meaning
    operated addition i s o = refusing-require _ _ refl (refusing-require _ _ refl passed)
    operated multiplication i s o = refusing-require _ _ refl (refusing-require _ _ refl passed)
    operated (equality f) i s o = passed
    operated (small f) i s o = refusing-require _ _ refl (refusing-require _ _ refl passed)
    operated complement i s o = refusing-require _ _ refl passed
    operated move i s o = passed
    operated assert i s o = refusing-require _ _ refl passed
    operated range_check i s o = refusing-require _ _ refl passed
    operated jump i s o = passed
    operated conditional_jump i s o = refusing-require _ _ refl (refusing-bind _ (valued _ _ _) λ b. passed)
    operated call i s o = refusing-require _ _ refl (refusing-bind _ (many-stored _ _ _ _) λ c. passed)
    operated return i s o =
        refusing-bind _ (below-read s.cells (r9 number_memory s) 1) λ pc. refusing-bind _ (below-read s.cells (r9 number_memory s) 2) λ r. passed
    operated load i s o = refusing-require _ _ refl (refusing-require _ _ refl (refusing-bind _ (cell-read s.cells (field_add o.op0 o.op1)) λ v. passed))
    operated store i s o = refusing-require _ _ refl (refusing-require _ _ refl (refusing-bind _ (many-stored _ _ _ _) λ c. passed))
    operated tape_load i s o = refusing-require _ _ refl (refusing-require _ _ refl (refusing-bind _ (many-stored _ _ _ _) λ c. passed))
    operated tape_store i s o = refusing-bind _ (span-read _ _ _) λ hs. passed
    operated contract_call i s o = refusing-bind _ (span-read _ _ 4) λ hs. passed
    operated end i s o = passed
    operated uncovered i s o = refusing-refused refl

    fitted : (n : Next number_memory) → Refusing AtStep (capacity number_memory e n)
    unfolding refusal_meaning
    fitted n = refusing-require _ _ refl passed

    -- Steps

    pub step-refuses : (s : State number_memory) → Refusing AtStep (step number_memory e s)
    unfolding step
    step-refuses s =
        refusing-bind _ (fetched _ _) λ i.
        refusing-bind _ (operands-read _ _ _ i) λ o.
        refusing-bind _ (operated _ i s o) λ n.
        fitted n

    guarded-rest : (t : MarkState mark_memory) (c : Class) (i : Instruction) (s : State number_memory) (o : Operands) → RefusingGuarded AtStep (guarded_rest number_memory mark_memory e t c i s o)
    unfolding guarded_rest
    guarded-rest t c i s o =
        refusing-after _ (operated c i s o) λ n.
        refusing-guard _ (refusing-after _ (fitted n) λ n. passed-guarded)

    pub guarded-step-refuses : (q : GuardedState number_memory mark_memory) → RefusingGuarded AtStep (guarded_step number_memory mark_memory e q)
    unfolding guarded_step
    guarded-step-refuses q =
        refusing-after _ (fetched _ _) λ i.
        refusing-after _ (operands-read _ _ _ i) λ o.
        refusing-guard _ (guarded-rest _ _ i _ o)
