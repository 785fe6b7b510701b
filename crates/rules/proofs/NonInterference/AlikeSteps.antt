-- Two states that differ in marked numbers alone: past the operands' sinks, each class of opcodes does the same to both.
use Prim.Native.Nat.{ℕ, suc, ◌+◌, ◌-◌, ◌<◌, ◌≤◌}
use mathlib.Core.Path.{◌≡◌, refl, ap, subst, ◌∙◌}
use mathlib.Core.Bool.{Bool, true, false, not, ◌||◌}
use mathlib.Core.List.{List, ◌++◌}
use native.Mathlib.Omega.{arith}
use lib.Dec.{leb, eqb}
use lib.ListN.{length, length-set, length-append}
use Rattle.rules.specs.declared.Instruction.{Instruction}
use Rattle.rules.specs.declared.Held.{Held}
use Rattle.rules.specs.declared.Refusal.TheVariants.{NotInField, NotSmall, AssertFailed, RangeCheckFailed, StoreFault, TapeFault}
use Rattle.rules.specs.Numbers.{p, choose, bit}
use Rattle.rules.specs.Field.{is_element, field_add, field_mul, field_complement}
use Rattle.rules.specs.Results.{pass, require}
use Rattle.rules.specs.Memory.{numbers_of}
use Rattle.rules.specs.Cells.{Cells, put, number_cells, mark_cells}
use Rattle.rules.specs.Opcodes.{Class, addition, multiplication, equality, small, complement, move, assert, range_check, jump, conditional_jump, call, return, load, store, tape_load, tape_store, contract_call, end, uncovered}
use Rattle.rules.specs.Operands.{binary_length, wants_of, Operands, operands}
use Rattle.rules.specs.Step.{Environment, State, Finish, r9, next_pc, read_below, store_many, store_one, on_tape, tape_values, wraps, overlay, writes_register, writes_cells, writes_tape, operate}
use Rattle.rules.specs.Guarded.{register_mark, operand_mark, MarkState, cell_mark, read_sink, marks_register, marks_cell, clean_many, marks_after}
use Rattle.rules.specs.Relations.{Both, both-refused, passed}
use Rattle.rules.proofs.Laws.Relational.{both-bind, both-require}
use Rattle.rules.proofs.NonInterference.AlikeStates.{
  Related,
  equal,
  HeldRelated,
  StatesRelated,
  NextRelated,
  CellsRelated,
  one_below,
  mod_below,
  related-element,
  unmarked,
  equally,
  related-both,
  product-mark-alike,
  related-product,
  related-one,
  registers-get,
  registers-set,
  cell-read,
  below-read,
  span-read,
  one-stored,
  many-stored,
  read_mark,
  value-operand,
  operand_read,
}

-- the marks of the operands as read
abbrev mark0 : MarkState mark_cells → Class → Instruction → Bool
mark0 t c i = read_mark t.registers (wants_of c).op0 i.op0

abbrev mark1 : MarkState mark_cells → Class → Instruction → Bool
mark1 t c i = read_mark t.registers (wants_of c).op1 i.op1

abbrev mark_dst : MarkState mark_cells → Class → Instruction → Bool
mark_dst t c i = read_mark t.registers (wants_of c).dst i.dst

pub record OperandsRelated (t : MarkState mark_cells) (c : Class) (i : Instruction) (o q : Operands) : Type 0 where
  pub op0 : Related (mark0 t c i) o.op0 q.op0
  pub op1 : Related (mark1 t c i) o.op1 q.op1
  pub dst : Related (mark_dst t c i) o.dst q.dst

pub operands-read : (psp : ℕ) (t : MarkState mark_cells) (c : Class) (i : Instruction) {s u : State number_cells} → StatesRelated t s u
    → Both (OperandsRelated t c i) (operands psp s.registers c i) (operands psp u.registers c i)
unfolding operands
operands-read psp t c i n =
    both-bind _ _ (operand_read psp n.registers (wants_of c).op0 i.op0) λ a a' h.
    both-bind _ _ (operand_read psp n.registers (wants_of c).op1 i.op1) λ b b' k.
    both-bind _ _ (operand_read psp n.registers (wants_of c).dst i.dst) λ d d' l.
    passed (record { op0 = h; op1 = k; dst = l })

-- Two operations agree: the same sinks of what was read, the same marks, and the same refusal or states that are related where no sink is met
pub record Agreed (e : Environment) (t : MarkState mark_cells) (c : Class) (i : Instruction) (s u : State number_cells) (o q : Operands) : Type 0 where
  pub sinks : read_sink number_cells mark_cells t c i s o ≡ read_sink number_cells mark_cells t c i u q
  pub marks : marks_after number_cells mark_cells t c i s o ≡ marks_after number_cells mark_cells t c i u q
  pub next : Both (λ a b. read_sink number_cells mark_cells t c i s o ≡ false → NextRelated (marks_after number_cells mark_cells t c i s o) a b)
      (operate number_cells e c i s o)
      (operate number_cells e c i u q)

-- The states after a step

next-pc : {t : MarkState mark_cells} {s u : State number_cells} → StatesRelated t s u → (i : Instruction) → next_pc number_cells s i ≡ next_pc number_cells u i
next-pc n i = ap (λ c. c + binary_length i) n.pc

register-written : {t : MarkState mark_cells} {s u : State number_cells} → StatesRelated t s u → {a b : ℕ} → a ≡ b → (r : ℕ) {k : Bool} {v w : ℕ}
    → Related k v w → NextRelated (marks_register mark_cells t r k) (writes_register number_cells s a r v) (writes_register number_cells u b r w)
register-written {t} n e r {k} h =
    record {
      state = record {
        registers = registers-set n.registers r k h;
        pc = e;
        clk = ap suc n.clk;
        cells = n.cells;
        tape = n.tape;
        output = n.output;
        written = n.written;
        within = n.within;
        ten = length-set t.registers r k ∙ n.ten;
      };
      finish = refl;
    }

cells-written : {t : MarkState mark_cells} {s u : State number_cells} → StatesRelated t s u → {a b : ℕ} → a ≡ b
    → {k : Cells ℕ} {c d : Cells Held} → CellsRelated k c d
    → NextRelated (record { registers = t.registers; cells = k }) (writes_cells number_cells s a c) (writes_cells number_cells u b d)
cells-written n e h =
    record {
      state = record {
        registers = n.registers;
        pc = e;
        clk = ap suc n.clk;
        cells = h;
        tape = n.tape;
        output = n.output;
        written = n.written;
        within = n.within;
        ten = n.ten;
      };
      finish = refl;
    }

tape-written : {t : MarkState mark_cells} {s u : State number_cells} → StatesRelated t s u → (i : Instruction) {a b c d v w : List ℕ} {f g : Finish}
    → a ≡ b → c ≡ d → v ≡ w → f ≡ g → length c ≤ length v
    → NextRelated t (writes_tape number_cells s (next_pc number_cells s i) a c v f) (writes_tape number_cells u (next_pc number_cells u i) b d w g)
tape-written n i x y z f l =
    record {
      state = record {
        registers = n.registers;
        pc = next-pc n i;
        clk = ap suc n.clk;
        cells = n.cells;
        tape = x;
        output = y;
        written = z;
        within = l;
        ten = n.ten;
      };
      finish = f;
    }

bit_below : (b : Bool) → bit b < p
bit_below true = one_below
bit_below false = let h : 1 < p = one_below in omega arith

complement-below : (n : ℕ) → field_complement n < p
complement-below n = let h : 1 < p = one_below in omega arith

pub operands-equal : {o q : Operands} → o.op0 ≡ q.op0 → o.op1 ≡ q.op1 → o.dst ≡ q.dst → o ≡ q
operands-equal a b c = λ i. record { op0 = a i; op1 = b i; dst = c i }

overlay-longer : (a b : List ℕ) → length a ≤ length (overlay a b)
overlay-longer a b = rw length-append (omega arith)

-- Each class of opcodes

module _ (e : Environment) (t : MarkState mark_cells) (i : Instruction) {s u : State number_cells} (n : StatesRelated t s u) where
  r9-equal : register_mark t.registers 9 ≡ false → r9 number_cells s ≡ r9 number_cells u
  r9-equal k = unmarked k (registers-get n.registers 9)

  -- classes without sinks: marked operands go into the result

  -- no mark is on the place of a target: both have the same
  same_target : (c : Class) → mark_dst t c i ≡ false → {o q : Operands} → OperandsRelated t c i o q
      → Agreed e t c i s u o (record { op0 = q.op0; op1 = q.op1; dst = o.dst }) → Agreed e t c i s u o q
  same_target c k {o} {q} r h = subst (λ d. Agreed e t c i s u o (record { op0 = q.op0; op1 = q.op1; dst = d })) (unmarked k r.dst) h

  -- ADD and MUL: f of two elements, to register r
  in_field-related : (f : ℕ → ℕ → ℕ) {S : Type 0} {j k m : Bool} {a b v w : ℕ} → Related j a b → Related k v w → Related m (f a v) (f b w) → (r : ℕ)
      → Both (λ x y. S → NextRelated (marks_register mark_cells t r m) x y)
      (require (is_element a) NotInField (require (is_element v) NotInField (pass (writes_register number_cells s (next_pc number_cells s i) r (f a v)))))
      (require (is_element b) NotInField (require (is_element w) NotInField (pass (writes_register number_cells u (next_pc number_cells u i) r (f b w)))))
  in_field-related f g h k r =
      both-require NotInField (related-element g)
      (both-require NotInField (related-element h) (passed λ _. register-written n (next-pc n i) r k))

  pub on-addition : {o q : Operands} → OperandsRelated t addition i o q → Agreed e t addition i s u o q
  unfolding read_sink marks_after operate wants_of
  on-addition {o} r =
      same_target addition refl r
      (record {
        sinks = refl;
        marks = refl;
        next = in_field-related field_add r.op0 r.op1 (related-both field_add (λ a b. mod_below _) r.op0 r.op1) o.dst;
      })

  pub on-multiplication : {o q : Operands} → OperandsRelated t multiplication i o q → Agreed e t multiplication i s u o q
  unfolding read_sink marks_after operate wants_of
  on-multiplication {o} r =
      same_target multiplication refl r
      (record {
        sinks = refl;
        marks = ap (marks_register mark_cells t o.dst) (product-mark-alike r.op0 r.op1);
        next = in_field-related field_mul r.op0 r.op1 (related-product r.op0 r.op1) o.dst;
      })

  pub on-equality : (f : Bool → Bool) {o q : Operands} → OperandsRelated t (equality f) i o q → Agreed e t (equality f) i s u o q
  unfolding read_sink marks_after operate wants_of
  on-equality f {o} r =
      same_target (equality f) refl r
      (record {
        sinks = refl;
        marks = refl;
        next = passed λ k.
            register-written n (next-pc n i) o.dst (related-both (λ a b. bit (f (eqb a b))) (λ a b. bit_below (f (eqb a b))) r.op0 r.op1);
      })

  pub on-complement : {o q : Operands} → OperandsRelated t complement i o q → Agreed e t complement i s u o q
  unfolding read_sink marks_after operate wants_of
  on-complement {o} r =
      same_target complement refl r
      (record {
        sinks = refl;
        marks = refl;
        next =
            both-require NotInField (related-element r.op1)
            (passed λ k. register-written n (next-pc n i) o.dst (related-one field_complement complement-below r.op1));
      })

  pub on-move : {o q : Operands} → OperandsRelated t move i o q → Agreed e t move i s u o q
  unfolding read_sink marks_after operate wants_of
  on-move {o} r =
      same_target move refl r (record { sinks = refl; marks = refl; next = passed λ k. register-written n (next-pc n i) o.dst r.op1 })

  -- classes whose operands are unmarked past the sinks: both have the same

  pub on-small : (f : ℕ → ℕ → ℕ) (o : Operands) → (operand_mark t.registers i.op0 || operand_mark t.registers i.op1) ≡ false
      → Agreed e t (small f) i s u o o
  unfolding read_sink marks_after operate
  on-small f o k =
      record {
        sinks = refl;
        marks = refl;
        next = both-require NotSmall refl (both-require NotSmall refl (passed λ _. register-written n (next-pc n i) o.dst (equally k refl)));
      }

  pub on-assert : (o : Operands) → Agreed e t assert i s u o o
  unfolding read_sink marks_after operate
  on-assert o =
      record { sinks = refl; marks = refl; next = both-require AssertFailed refl (passed λ k. cells-written n (next-pc n i) n.cells) }

  pub on-range : (o : Operands) → Agreed e t range_check i s u o o
  unfolding read_sink marks_after operate
  on-range o =
      record { sinks = refl; marks = refl; next = both-require RangeCheckFailed refl (passed λ k. cells-written n (next-pc n i) n.cells) }

  pub on-jump : (o : Operands) → Agreed e t jump i s u o o
  unfolding read_sink marks_after operate
  on-jump o = record { sinks = refl; marks = refl; next = passed λ k. cells-written n refl n.cells }

  pub on-conditional : (o : Operands) → Agreed e t conditional_jump i s u o o
  unfolding read_sink marks_after operate
  on-conditional o =
      record {
        sinks = refl;
        marks = refl;
        next =
            both-require NotSmall refl
            (both-bind _ _ (value-operand e.psp n.registers i.op1) λ a b r.
            passed λ k. cells-written n (go (eqb o.op0 1) (unmarked k r)) n.cells);
      }
    where
      go : (c : Bool) {a b : ℕ} → a ≡ b → choose c a (next_pc number_cells s i) ≡ choose c b (next_pc number_cells u i)
      go true h = h
      go false h = next-pc n i

  pub on_call : (o : Operands) → register_mark t.registers 9 ≡ false → Agreed e t call i s u o o
  unfolding read_sink marks_after operate
  on_call o k =
      let d : r9 number_cells s ≡ r9 number_cells u = r9-equal k in
      record {
        sinks = refl;
        marks = ap (λ r. marks_cell mark_cells t (r - 1) false) d;
        next = both-require StoreFault (ap (leb 1) d) (both-bind _ _ (stored d) λ a b r. passed λ _. cells-written n refl r);
      }
    where
      stored : r9 number_cells s ≡ r9 number_cells u
          → Both (CellsRelated (put t.cells (r9 number_cells s - 1) 0))
          (store_one number_cells s.clk s.cells (r9 number_cells s - 1) (next_pc number_cells s i))
          (store_one number_cells u.clk u.cells (r9 number_cells u - 1) (next_pc number_cells u i))
      stored d =
          subst
          (λ r. Both (CellsRelated (put t.cells (r9 number_cells s - 1) 0))
          (store_one number_cells s.clk s.cells (r9 number_cells s - 1) (next_pc number_cells s i))
          (store_one number_cells u.clk u.cells (r - 1) (next_pc number_cells u i)))
          d
          (one-stored n.cells n.clk (r9 number_cells s - 1) false (equal (next-pc n i)))

  pub on_return : (o : Operands) → register_mark t.registers 9 ≡ false → Agreed e t return i s u o o
  unfolding read_sink marks_after operate
  on_return o k =
      let d : r9 number_cells s ≡ r9 number_cells u = r9-equal k in
      record {
        sinks = ap (λ r. cell_mark mark_cells t.cells (r - 1)) d;
        marks = ap (λ r. marks_register mark_cells t 9 (cell_mark mark_cells t.cells (r - 2))) d;
        next =
            both-bind _ _ (read 1 d) λ a b h.
            both-bind _ _ (read 2 d) λ v w l.
            passed λ q. register-written n (unmarked q h.number) 9 l.number;
      }
    where
      read : (k : ℕ) → r9 number_cells s ≡ r9 number_cells u
          → Both (HeldRelated (cell_mark mark_cells t.cells (r9 number_cells s - k)))
          (read_below number_cells s.cells (r9 number_cells s) k)
          (read_below number_cells u.cells (r9 number_cells u) k)
      read k d =
          subst
          (λ r. Both (HeldRelated (cell_mark mark_cells t.cells (r9 number_cells s - k)))
          (read_below number_cells s.cells (r9 number_cells s) k)
          (read_below number_cells u.cells r k))
          d
          (below-read n.cells (r9 number_cells s) k)

  pub on-load : (o : Operands) → Agreed e t load i s u o o
  unfolding read_sink marks_after operate
  on-load o =
      record {
        sinks = refl;
        marks = refl;
        next =
            both-require NotInField refl
            (both-require NotInField refl
            (both-bind _ _ (cell-read n.cells (field_add o.op0 o.op1)) λ v w r.
            passed λ k. register-written n (next-pc n i) o.dst r.number));
      }

  pub on_store : (o : Operands) → Agreed e t store i s u o o
  unfolding read_sink marks_after operate
  on_store o =
      record {
        sinks = refl;
        marks = refl;
        next =
            both-require NotInField refl
            (both-require NotInField refl
            (both-bind _ _
            (one-stored n.cells n.clk (field_add o.op0 o.op1) (register_mark t.registers o.dst) (registers-get n.registers o.dst))
            λ c d r. passed λ k. cells-written n (next-pc n i) r));
      }

  pub on-tape-load : (o : Operands) → Agreed e t tape_load i s u o o
  unfolding read_sink marks_after operate
  on-tape-load o =
      record {
        sinks = refl;
        marks = ap (λ x. record { registers = t.registers; cells = clean_many mark_cells t.cells o.dst (tape_values o.op0 o.op1 x) }) n.tape;
        next =
            both-require TapeFault (ap (on_tape o.op0 o.op1) n.tape)
            (both-require StoreFault (ap (λ x. not (wraps o.dst (tape_values o.op0 o.op1 x))) n.tape)
            (both-bind _ _ stored λ c d r. passed λ k. cells-written n (next-pc n i) r));
      }
    where
      vs : List ℕ → List ℕ
      vs x = tape_values o.op0 o.op1 x

      stored : Both (CellsRelated (clean_many mark_cells t.cells o.dst (vs s.tape)))
          (store_many number_cells s.clk s.cells o.dst (vs s.tape))
          (store_many number_cells u.clk u.cells o.dst (vs u.tape))
      stored =
          subst
          (λ x. Both (CellsRelated (clean_many mark_cells t.cells o.dst (vs s.tape)))
          (store_many number_cells s.clk s.cells o.dst (vs s.tape))
          (store_many number_cells u.clk u.cells o.dst (vs x)))
          n.tape
          (many-stored n.cells n.clk o.dst (vs s.tape))

  pub on-tape-store : (o : Operands) → Agreed e t tape_store i s u o o
  unfolding read_sink marks_after operate
  on-tape-store o =
      record {
        sinks = refl;
        marks = refl;
        next =
            both-bind _ _ (span-read n.cells o.op0 o.op1) λ hs ks h.
            passed λ k.
            let a : numbers_of hs ≡ numbers_of ks = ap numbers_of (h k) in
            let b = n.output in
            let c = n.written in
            tape-written n i (let d = n.tape in cc) (cc) (cc) refl (overlay-longer (s.output ++ numbers_of hs) s.written);
      }

  pub on-contract-call : (o : Operands) → Agreed e t contract_call i s u o o
  unfolding read_sink marks_after operate
  on-contract-call o =
      record {
        sinks = refl;
        marks = refl;
        next =
            both-bind _ _ (span-read n.cells o.op0 4) λ hs ks h.
            passed λ k.
            let a : numbers_of hs ≡ numbers_of ks = ap numbers_of (h k) in
            tape-written n i (let d = n.tape in cc) refl n.written (cc) (omega arith);
      }

  pub on-end : (o : Operands) → Agreed e t end i s u o o
  unfolding read_sink marks_after operate
  on-end o = record { sinks = refl; marks = refl; next = passed λ k. tape-written n i n.tape n.output n.written refl n.within }

  pub on-uncovered : (o : Operands) → Agreed e t uncovered i s u o o
  unfolding read_sink marks_after operate
  on-uncovered o = record { sinks = refl; marks = refl; next = both-refused }
