-- Which places an opcode writes, and the marks of cells that were stored or cleaned.
use Prim.Native.Nat.{ℕ, suc, ◌+◌, ◌-◌, ◌≤◌, ◌<◌}
use mathlib.Core.Path.{◌≡◌, refl, ap, subst, ◌∙◌}
use mathlib.Core.Bool.{Bool, true, false}
use mathlib.Core.List.{List, [], ◌∷◌}
use native.Mathlib.Omega.{arith}
use lib.Dec.{ltb, eqb}
use lib.ListN.{length}
use borrow.Author.Tests.{ltb-true, ltb-false}
use Rattle.rules.specs.declared.OlaOpcode.{OlaOpcode}
use Rattle.rules.specs.declared.OlaOpcode.TheVariants as O
use Rattle.rules.specs.Numbers.{bit}
use Rattle.rules.specs.Field.{field_add}
use Rattle.rules.specs.Cells.{Cells, put, number_cells, mark_cells}
use Rattle.rules.specs.Operands.{Operands}
use Rattle.rules.specs.Step.{State, r9, tape_values}
use Rattle.rules.specs.Guarded.{content_mark, cell_mark, clean_many}
use Rattle.rules.specs.MarkRules.{Place, register, cell, FromBoth, FromOne, add, mul, eq, neq, and, or, xor, gte, not, mov, Writes, both, one, mload, ret, mstore, call, tload}
use Rattle.rules.proofs.Laws.CellLaws.{get-put-same, get-put-other}

-- Cells that were cleaned

pub stored-mark : (c : Cells ℕ) (a : ℕ) (b : Bool) → cell_mark mark_cells (put c a (bit b)) a ≡ b
stored-mark c a b = ap (content_mark mark_cells) (get-put-same c a (bit b)) ∙ go b
  where
    go : (b : Bool) → eqb (bit b) 1 ≡ b
    go true = refl
    go false = refl

pub other-mark : (c : Cells ℕ) (a v x : ℕ) → (a ≡ x → ⊥) → cell_mark mark_cells (put c a v) x ≡ cell_mark mark_cells c x
other-mark c a v x h = ap (content_mark mark_cells) (get-put-other c a v x h)

pub clean-outside : (c : Cells ℕ) (a : ℕ) (vs : List ℕ) (x : ℕ) → (a ≤ x → x < a + length vs → ⊥)
    → cell_mark mark_cells (clean_many mark_cells c a vs) x ≡ cell_mark mark_cells c x
unfolding clean_many
clean-outside c a [] x h = refl
clean-outside c a (v ∷ vs) x h =
    clean-outside (put c a 0) (suc a) vs x (λ l u. h (omega arith) (omega arith))
    ∙ other-mark c a 0 x (λ e. h (omega arith) (omega arith))

pub clean-inside : (c : Cells ℕ) (a : ℕ) (vs : List ℕ) (x : ℕ) → a ≤ x → x < a + length vs → cell_mark mark_cells (clean_many mark_cells c a vs) x ≡ false
unfolding clean_many
clean-inside c a [] x l u = absurd (omega arith)
clean-inside c a (v ∷ vs) x l u = go (λ k. clean-inside (put c a 0) (suc a) vs x k (omega arith)) (ltb a x) refl
  where
    go : (suc a ≤ x → cell_mark mark_cells (clean_many mark_cells (put c a 0) (suc a) vs) x ≡ false) → (b : Bool) → ltb a x ≡ b
        → cell_mark mark_cells (clean_many mark_cells (put c a 0) (suc a) vs) x ≡ false
    go rest true e = rest (ltb-true a x e)
    go rest false e =
        let m : x ≤ a = ltb-false a x e in
        clean-outside (put c a 0) (suc a) vs x (λ l u. omega arith)
        ∙ subst (λ y. cell_mark mark_cells (put c a 0) y ≡ false) (let y : a ≡ x = omega arith in y) (stored-mark c a false)

-- Which places an opcode does not write

module _ (s : State number_cells) (o : Operands) where
  pub both-register : {c : OlaOpcode} {r : ℕ} → FromBoth c → Writes s o c (register r) → o.dst ≡ r
  both-register f (both g) = refl
  both-register f (one g) = refl
  both-register f mload = refl
  both-register f ret = elim f [ ]

  pub one-register : {c : OlaOpcode} {r : ℕ} → FromOne c → Writes s o c (register r) → o.dst ≡ r
  one-register f (both g) = refl
  one-register f (one g) = refl
  one-register f mload = refl
  one-register f ret = elim f [ ]

  pub both-cell : {c : OlaOpcode} {a : ℕ} → FromBoth c → Writes s o c (cell a) → ⊥
  both-cell f mstore = elim f [ ]
  both-cell f call = elim f [ ]
  both-cell f (tload l u) = elim f [ ]

  pub one_cell : {c : OlaOpcode} {a : ℕ} → FromOne c → Writes s o c (cell a) → ⊥
  one_cell f mstore = elim f [ ]
  one_cell f call = elim f [ ]
  one_cell f (tload l u) = elim f [ ]

  pub mload-register : {r : ℕ} → Writes s o O.Mload (register r) → o.dst ≡ r
  mload-register (both f) = refl
  mload-register (one f) = refl
  mload-register mload = refl

  pub mload-cell : {a : ℕ} → Writes s o O.Mload (cell a) → ⊥
  mload-cell w = elim w [ ]

  pub ret-cell : {a : ℕ} → Writes s o O.Ret (cell a) → ⊥
  ret-cell w = elim w [ ]

  pub ret-register : {r : ℕ} → Writes s o O.Ret (register r) → 9 ≡ r
  ret-register (both f) = elim f [ ]
  ret-register (one f) = elim f [ ]
  ret-register ret = refl

  pub mstore-cell : {a : ℕ} → Writes s o O.Mstore (cell a) → field_add o.op0 o.op1 ≡ a
  mstore-cell mstore = refl

  pub mstore-register : {r : ℕ} → Writes s o O.Mstore (register r) → ⊥
  mstore-register (both f) = elim f [ ]
  mstore-register (one f) = elim f [ ]

  pub call-cell : {a : ℕ} → Writes s o O.Call (cell a) → r9 number_cells s - 1 ≡ a
  call-cell call = refl

  pub call-register : {r : ℕ} → Writes s o O.Call (register r) → ⊥
  call-register (both f) = elim f [ ]
  call-register (one f) = elim f [ ]

  pub tload-cell : {a : ℕ} → Writes s o O.Tload (cell a) → (o.dst ≤ a) × (a < o.dst + length (tape_values o.op0 o.op1 s.tape))
  tload-cell (tload l u) = (l, u)

  pub tload-register : {r : ℕ} → Writes s o O.Tload (register r) → ⊥
  tload-register (both f) = elim f [ ]
  tload-register (one f) = elim f [ ]

-- the opcodes that write no place
pub data WritesNothing : OlaOpcode → Type 0 where
  assert : WritesNothing O.Assert
  jmp : WritesNothing O.Jmp
  cjmp : WritesNothing O.Cjmp
  end : WritesNothing O.End
  rc : WritesNothing O.Rc
  poseidon : WritesNothing O.Poseidon
  sload : WritesNothing O.Sload
  sstore : WritesNothing O.Sstore
  tstore : WritesNothing O.Tstore
  sccall : WritesNothing O.Sccall
  sigcheck : WritesNothing O.Sigcheck
  event : WritesNothing O.Event

pub nothing_written : (s : State number_cells) (o : Operands) {c : OlaOpcode} {x : Place} → WritesNothing c → Writes s o c x → ⊥
nothing_written s o n (both add) = elim n [ ]
nothing_written s o n (both mul) = elim n [ ]
nothing_written s o n (both eq) = elim n [ ]
nothing_written s o n (both neq) = elim n [ ]
nothing_written s o n (both and) = elim n [ ]
nothing_written s o n (both or) = elim n [ ]
nothing_written s o n (both xor) = elim n [ ]
nothing_written s o n (both gte) = elim n [ ]
nothing_written s o n (one not) = elim n [ ]
nothing_written s o n (one mov) = elim n [ ]
nothing_written s o n mload = elim n [ ]
nothing_written s o n ret = elim n [ ]
nothing_written s o n mstore = elim n [ ]
nothing_written s o n call = elim n [ ]
nothing_written s o n (tload l u) = elim n [ ]

-- the opcodes, by what they write
pub data WritesBy : OlaOpcode → Type 0 where
  of-both : {c : OlaOpcode} → FromBoth c → WritesBy c
  of_one : {c : OlaOpcode} → FromOne c → WritesBy c
  of-mload : WritesBy O.Mload
  of-ret : WritesBy O.Ret
  of-mstore : WritesBy O.Mstore
  of-call : WritesBy O.Call
  of-tload : WritesBy O.Tload
  of-nothing : {c : OlaOpcode} → WritesNothing c → WritesBy c

pub kind_of : (c : OlaOpcode) → WritesBy c
kind_of O.Add = of-both add
kind_of O.Mul = of-both mul
kind_of O.Eq = of-both eq
kind_of O.Assert = of-nothing assert
kind_of O.Mov = of_one mov
kind_of O.Jmp = of-nothing jmp
kind_of O.Cjmp = of-nothing cjmp
kind_of O.Call = of-call
kind_of O.Ret = of-ret
kind_of O.Mload = of-mload
kind_of O.Mstore = of-mstore
kind_of O.End = of-nothing end
kind_of O.Rc = of-nothing rc
kind_of O.And = of-both and
kind_of O.Or = of-both or
kind_of O.Xor = of-both xor
kind_of O.Not = of_one not
kind_of O.Neq = of-both neq
kind_of O.Gte = of-both gte
kind_of O.Poseidon = of-nothing poseidon
kind_of O.Sload = of-nothing sload
kind_of O.Sstore = of-nothing sstore
kind_of O.Tload = of-tload
kind_of O.Tstore = of-nothing tstore
kind_of O.Sccall = of-nothing sccall
kind_of O.Sigcheck = of-nothing sigcheck
kind_of O.Event = of-nothing event
