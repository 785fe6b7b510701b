-- What a line shows of the operands, by the slots where they stand.
use Prim.Native.Nat.{ℕ, ◌<◌}
use mathlib.Core.Path.{◌≡◌, refl, sym, subst, ◌∙◌}
use mathlib.Core.Bool.{Bool, true, false}
use mathlib.Core.List.{List}
use native.Mathlib.Omega.{arith}
use lib.ListN.{get_or}
use Rattle.rules.specs.declared.OlaOpcode.{OlaOpcode}
use Rattle.rules.specs.declared.OlaOperand.{OlaOperand}
use Rattle.rules.specs.declared.OlaOperand.TheVariants.{Absent, Immediate, Register, RegisterWithOffset, RegisterWithFactor, Psp, Pc}
use Rattle.rules.specs.Numbers.{choose}
use Rattle.rules.specs.Results.{pass}
use Rattle.rules.specs.Opcodes.{Class, addition, multiplication, equality, small, complement, move, assert, range_check, jump, conditional_jump, call, return, load, store, tape_load, tape_store, contract_call, end, uncovered, class_of}
use Rattle.rules.specs.Operands.{Want, ignored, lacking, value, later, register, target, wants_of, target_of, operand}
use Rattle.rules.proofs.Laws.ResultLaws.{refuse-pass}
use Rattle.program.specs.Table.{Stands, computed_dst}
use Rattle.operands.specs.Meanings.{number_of, stops_at}
use Rattle.operands.proofs.Preparing as Preparing
use Rattle.operands.proofs.Preparing.{Reading, reading}
use Rattle.sheets.specs.Lines.{present_of, shown, line_words}
use Rattle.sheets.specs.Traced.{read_by}
use Rattle.sheets.specs.declared.Present.{Present}

-- By the opcode's class: what is shown stands at its slot, CJMP's op1 once it is evaluated, and dst is a target
module _ (values registers : List ℕ) (s0 s1 s x : ℕ) where
  abbrev pub Alike : Class → Type 0
  Alike c =
      (shown (present_of c).op0 (number_of (wants_of c).op0 values s0) ≡ shown (present_of c).op0 (get_or values s0 0))
      × (shown (present_of c).op1 (read_by (wants_of c).op1 (number_of (wants_of c).op1 values s1) x)
      ≡ shown (present_of c).op1 (read_by (wants_of c).op1 (get_or values s1 0) x))
      × (shown (present_of c).dst (get_or registers (number_of (wants_of c).dst values s) 0)
      ≡ shown (present_of c).dst (get_or registers (shown (present_of c).dst s) 0))
      × (choose (present_of c).dst (wants_of c).dst target ≡ target)

  pub alike : (c : Class) → Alike c
  unfolding present_of wants_of
  alike addition = (refl, refl, refl, refl)
  alike multiplication = (refl, refl, refl, refl)
  alike (equality f) = (refl, refl, refl, refl)
  alike (small f) = (refl, refl, refl, refl)
  alike complement = (refl, refl, refl, refl)
  alike move = (refl, refl, refl, refl)
  alike assert = (refl, refl, refl, refl)
  alike range_check = (refl, refl, refl, refl)
  alike jump = (refl, refl, refl, refl)
  alike conditional_jump = (refl, refl, refl, refl)
  alike call = (refl, refl, refl, refl)
  alike return = (refl, refl, refl, refl)
  alike load = (refl, refl, refl, refl)
  alike store = (refl, refl, refl, refl)
  alike tape_load = (refl, refl, refl, refl)
  alike tape_store = (refl, refl, refl, refl)
  alike contract_call = (refl, refl, refl, refl)
  alike end = (refl, refl, refl, refl)
  alike uncovered = (refl, refl, refl, refl)

-- only CJMP's op1 is asked for later
late : (o : OlaOpcode) → Reading o → stops_at (wants_of (class_of o)).op1 true 0 ≡ true → o ≡ OlaOpcode.Cjmp
late o (Preparing.jump e) h = e
late o (Preparing.other f g) h = let z : true ≡ false = sym h ∙ f true 0 in absurd (let y : ◌≡◌ {A = ℕ} 0 1 = cc in omega arith)

by-then : (w : Want) (a x : ℕ) → (stops_at w true 0 ≡ true → x ≡ a) → read_by w a x ≡ a
by-then ignored a x h = refl
by-then lacking a x h = refl
by-then value a x h = refl
by-then later a x h = h refl
by-then register a x h = refl
by-then target a x h = refl

pub evaluated : (o : OlaOpcode) (a x : ℕ) → (o ≡ OlaOpcode.Cjmp → x ≡ a) → read_by (wants_of (class_of o)).op1 a x ≡ a
evaluated o a x h = by-then (wants_of (class_of o)).op1 a x (λ l. h (late o (reading o) l))

-- a line is told by what it shows
pub same_line : (clk pc : ℕ) (registers : List ℕ) (w : Present) (a a' b b' d d' : ℕ)
    → shown w.op0 a ≡ shown w.op0 a' → shown w.op1 b ≡ shown w.op1 b' → shown w.dst d ≡ shown w.dst d'
    → line_words clk pc registers w a b d ≡ line_words clk pc registers w a' b' d'
unfolding line_words
same_line clk pc registers w a a' b b' d d' p q r = rw (p, q, r)

-- dst, where it is present, is a register

target_below : (ws : List ℕ) (o : OlaOperand) (s : ℕ) {d : ℕ} → target_of o ≡ pass d → Stands ws computed_dst o s → s < 10
target_below ws Absent s h e = refuse-pass h
target_below ws (Immediate w) s h e = refuse-pass h
target_below ws (Register r) s h (e, b) = omega arith
target_below ws (RegisterWithOffset r w) s h e = refuse-pass h
target_below ws (RegisterWithFactor r w) s h e = refuse-pass h
target_below ws Psp s h e = refuse-pass h
target_below ws Pc s h e = refuse-pass h

pub shown-below : (psp : ℕ) (registers ws : List ℕ) (present : Bool) (w : Want) (o : OlaOperand) (s : ℕ) {d : ℕ}
    → choose present w target ≡ target
    → operand psp registers w o ≡ pass d → Stands ws computed_dst o s → shown present s < 10
unfolding operand
shown-below psp registers ws true w o s {d} e h q = target_below ws o s (subst (λ (v : Want). operand psp registers v o ≡ pass d) e h) q
shown-below psp registers ws false w o s e h q = omega arith
