-- Demand 3 is not empty: starts that are alike and differ, and what their calls give.
use Rattle.std.specs.Prelude.{ℕ, ◌≡◌, List, [], ◌∷◌, ◌++◌, replicate}
use Rattle.rules.specs.declared.OlaOpcode.TheVariants as O
use Rattle.rules.specs.declared.OlaOperand.{OlaOperand}
use Rattle.rules.specs.declared.OlaOperand.TheVariants.{Absent, Immediate, Register, RegisterWithFactor}
use Rattle.rules.specs.Numbers.{default_psp}
use Rattle.rules.specs.Frames.{load_words}
use Rattle.rules.specs.Text.{load_text}
use Rattle.rules.specs.Answers.{Meaning, outcome, refusal}
use Rattle.rules.specs.Entry.{GuardedSnapshot}
use Rattle.rules.specs.Calls.{Called, guarded_words, guarded_text, guarded_budget_text}
use Rattle.rules.specs.Encoding.{frame, bytes}
use Rattle.rules.specs.CaseRows.{start, with_r, with_marked_r, with_cell, with_marked_cell, with_marked_held, with_clk, guarded_start_snapshot, held_at, marked_register_at, marked_cell_at}
use Rattle.rules.specs.NonInterference.{MarkedBelow, Alike, SameCalls}

-- two starts of one call that differ and are alike, each marked number below p; the answers and steps of the calls, which are the same
pub record Witness (call : GuardedSnapshot → Called GuardedSnapshot) (g h : GuardedSnapshot) (answer : Meaning) (steps : ℕ) : Type 0 where
  pub differ : g ≡ h → ⊥
  pub alike : Alike g h
  pub below : MarkedBelow g × MarkedBelow h
  pub same : SameCalls (call g) (call h)
  pub answers : (call g).answer ≡ answer
  pub stepped : (call g).steps ≡ steps

-- and what they leave at the places that are looked at: numbers, each with its mark
pub record Carried (call : GuardedSnapshot → Called GuardedSnapshot) (g h : GuardedSnapshot) (answer : Meaning) (steps : ℕ)
    (look : GuardedSnapshot → List ℕ) (of_g of_h : List ℕ) : Type 0 where
  pub agree : Witness call g h answer steps
  pub first : look (call g).left ≡ of_g
  pub second : look (call h).left ≡ of_h

-- A marked register

-- R1 is marked and holds n; R9 is 5, and cell 4 holds 5, the pc of END below
unfoldable pub secret : ℕ → GuardedSnapshot
secret n = guarded_start_snapshot (with_r 9 5 (with_cell 4 5 (with_marked_r 1 n start)))

-- the mark goes from R1 through MSTORE to cell 3, through MLOAD to R2, and through RET to R9; then END
unfoldable pub carries : List ℕ
carries =
    frame O.Mstore (Immediate 0) (Immediate 3) (Register 1)
    ++ (frame O.Mload (Immediate 0) (Immediate 3) (Register 2)
    ++ (frame O.Ret Absent Absent Absent
    ++ frame O.End Absent Absent Absent))

-- EQ of R1 with itself to R0, and a jump by R0
unfoldable pub leaks : List ℕ
leaks = frame O.Eq (Register 1) (Register 1) (Register 0) ++ frame O.Cjmp (Register 0) (Immediate 0) Absent

-- after `carries`: R2, R9 and cell 3, each with its mark
abbrev pub marks_carried : GuardedSnapshot → List ℕ
marks_carried g = marked_register_at 2 g ++ (marked_register_at 9 g ++ marked_cell_at 3 g)

abbrev pub MarksCarried : Type 0
MarksCarried =
    Carried (guarded_words carries 10) (secret 7) (secret 8) (outcome 0 []) 4 marks_carried
    (7 ∷ 1 ∷ 7 ∷ 1 ∷ 7 ∷ 1 ∷ []) (8 ∷ 1 ∷ 8 ∷ 1 ∷ 8 ∷ 1 ∷ [])

-- A marked cell, of a program as bare words and as text

-- cell 3 is marked and holds n
unfoldable pub secret_cell : ℕ → GuardedSnapshot
secret_cell n = guarded_start_snapshot (with_marked_cell 3 n start)

-- the mark goes from cell 3 through MLOAD to R1, through ADD of 1 to R2, and through MSTORE to cell 6; then END
unfoldable pub passes_on : List ℕ
passes_on =
    frame O.Mload (Immediate 0) (Immediate 3) (Register 1)
    ++ (frame O.Add (Register 1) (Immediate 1) (Register 2)
    ++ (frame O.Mstore (Immediate 0) (Immediate 6) (Register 2)
    ++ frame O.End Absent Absent Absent))

-- a line for each of its frames
unfoldable pub passes_on_lines : List ℕ
passes_on_lines =
    bytes "000000020000890900000000000000000000000000000003\n"
    ++ (bytes "0020000400008a000000000000000001\n"
    ++ (bytes "000000040000890a00000000000000000000000000000006\n"
    ++ bytes "000000000000000b\n"))

-- TSTORE of cell 3 alone
unfoldable pub shows_line : List ℕ
shows_line = bytes "000000000000091700000000000000030000000000000001\n"

-- a call of `passes_on` from a 7 and from an 8: R1, R2, cell 3 and cell 6 afterwards, each with its mark
abbrev pub CellCarried : (GuardedSnapshot → Called GuardedSnapshot) → Type 0
CellCarried call =
    Carried call (secret_cell 7) (secret_cell 8) (outcome 0 []) 4
    (λ g. marked_register_at 1 g ++ (marked_register_at 2 g ++ (marked_cell_at 3 g ++ marked_cell_at 6 g)))
    (7 ∷ 1 ∷ 8 ∷ 1 ∷ 7 ∷ 1 ∷ 8 ∷ 1 ∷ []) (8 ∷ 1 ∷ 9 ∷ 1 ∷ 8 ∷ 1 ∷ 9 ∷ 1 ∷ [])

pub record CellsCarried : Type 0 where
  pub same_program : load_text passes_on_lines ≡ load_words passes_on
  pub words : CellCarried (guarded_words passes_on 10)
  pub text : CellCarried (guarded_text passes_on_lines 10)
  pub budget_text : CellCarried (guarded_budget_text (bytes "000000000000000a\n" ++ passes_on_lines))
  -- a text that would show the cell
  pub shown : Witness (guarded_text shows_line 1) (secret_cell 7) (secret_cell 8) (refusal 18 []) 0

-- Beyond the counts

-- nothing is used but R1, and n stands everywhere beyond the counts
unfoldable pub beyond : ℕ → GuardedSnapshot
beyond n =
    record {
      plain = record {
        machine = record {
          registers = 0 ∷ 9 ∷ replicate 8 0;
          pc = 0;
          clk = 0;
          psp = default_psp;
          storage_addr = replicate 4 0;
          cell_count = 0;
          tape_count = 0;
          output_count = 0;
        };
        addresses = n ∷ n ∷ [];
        numbers = n ∷ n ∷ [];
        moments = n ∷ n ∷ [];
        tape = n ∷ [];
        output = n ∷ [];
      };
      marks = n ∷ n ∷ [];
      extras = record { registers = 2 };
    }

-- R1 to cell 6, which takes one place of the cells' buffers
unfoldable pub stores : List ℕ
stores = frame O.Mstore (Immediate 0) (Immediate 6) (Register 1)

pub record Beyond : Type 0 where
  pub pauses : Witness (guarded_words stores 1) (beyond 3) (beyond 4) (outcome 3 []) 1
  -- what stood beyond the counts still stands there
  pub addresses : (guarded_words stores 1 (beyond 3)).left.plain.addresses ≡ 6 ∷ 3 ∷ []
  pub moments : (guarded_words stores 1 (beyond 3)).left.plain.moments ≡ 0 ∷ 3 ∷ []
  pub marks : (guarded_words stores 1 (beyond 3)).left.marks ≡ 1 ∷ 3 ∷ []

-- Blanking with zero (document 02, #108)

-- R1 is marked and holds n; R2 is 9 and R3 is 5, and cell 0 holds 4
unfoldable pub secret_factor : ℕ → GuardedSnapshot
secret_factor n = guarded_start_snapshot (with_r 2 9 (with_r 3 5 (with_cell 0 4 (with_marked_r 1 n start))))

-- R1 times 0 to R2, and R1 times R3 to R4
abbrev blanks : List ℕ
blanks = frame O.Mul (Register 1) (Immediate 0) (Register 2)

abbrev multiplies : List ℕ
multiplies = frame O.Mul (Register 1) (Register 3) (Register 4)

-- a jump by an operand, which goes on where that is 0
abbrev jumps_by : OlaOperand → List ℕ
jumps_by a = frame O.Cjmp a (Immediate 0) Absent

abbrev end : List ℕ
end = frame O.End Absent Absent Absent

unfoldable pub blanks_and_jumps : List ℕ
blanks_and_jumps = blanks ++ (jumps_by (Register 2) ++ end)

unfoldable pub multiplies_and_jumps : List ℕ
multiplies_and_jumps = multiplies ++ (jumps_by (Register 4) ++ end)

-- both, and the second product to cell 6
unfoldable pub blanks_and_multiplies : List ℕ
blanks_and_multiplies =
    blanks ++ (multiplies ++ (jumps_by (Register 2) ++ (frame O.Mstore (Immediate 0) (Immediate 6) (Register 4) ++ end)))

-- R1 times factor 0 says whether to jump, and from which cell R2 is loaded
unfoldable pub uses_factor_zero : List ℕ
uses_factor_zero =
    jumps_by (RegisterWithFactor 1 0) ++ (frame O.Mload (RegisterWithFactor 1 0) (Immediate 0) (Register 2) ++ end)

-- from a marked 0 and from a marked 7
abbrev FromZeroAndSeven : List ℕ → Meaning → ℕ → (GuardedSnapshot → List ℕ) → List ℕ → List ℕ → Type 0
FromZeroAndSeven words answer steps look of_zero of_seven =
    Carried (guarded_words words 10) (secret_factor 0) (secret_factor 7) answer steps look of_zero of_seven

pub record BlankingWitnesses : Type 0 where
  -- the product with an immediate 0 is an unmarked 0, and a jump by it goes on
  pub blanked : FromZeroAndSeven blanks_and_jumps (outcome 0 []) 3 (marked_register_at 2) (0 ∷ 0 ∷ []) (0 ∷ 0 ∷ [])
  -- a marked 0 does not blank: its product with 5 is a marked 0, and a jump by it is refused as one by a marked 35 is
  pub marked_zero : FromZeroAndSeven multiplies_and_jumps (refusal 18 []) 1 (marked_register_at 4) (0 ∷ 1 ∷ []) (35 ∷ 1 ∷ [])
  -- both products, to the end: R2, R4 and cell 6
  pub both : FromZeroAndSeven blanks_and_multiplies (outcome 0 []) 5 (λ g. marked_register_at 2 g ++ (marked_register_at 4 g ++ marked_cell_at 6 g))
      (0 ∷ 0 ∷ 0 ∷ 1 ∷ 0 ∷ 1 ∷ []) (0 ∷ 0 ∷ 35 ∷ 1 ∷ 35 ∷ 1 ∷ [])
  -- a factor operand with factor 0 is no sink
  pub factor_zero : FromZeroAndSeven uses_factor_zero (outcome 0 []) 3 (marked_register_at 2) (4 ∷ 0 ∷ []) (4 ∷ 0 ∷ [])

-- Moments (document 02, #103)

-- cell 3 is marked, holds n and has the moment m; clk is 9
unfoldable pub secret_since : ℕ → ℕ → GuardedSnapshot
secret_since m n = guarded_start_snapshot (with_clk 9 (with_marked_held 3 n m start))

-- number and moment of cell 3, and those of cell 6
abbrev pub both_held : GuardedSnapshot → List ℕ
both_held g = held_at 3 g.plain ++ held_at 6 g.plain

pub record MomentWitnesses : Type 0 where
  -- the mark goes from cell 3 to cell 6, which `passes_on` stores at clk 11; the moments are the same beside other numbers
  pub carried : Carried (guarded_words passes_on 10) (secret_since 5 7) (secret_since 5 8) (outcome 0 []) 4 both_held (7 ∷ 5 ∷ 8 ∷ 11 ∷ []) (8 ∷ 5 ∷ 9 ∷ 11 ∷ [])
  -- a marked cell with another moment is not alike, though its number is the same
  pub apart : Alike (secret_since 5 7) (secret_since 4 7) → ⊥

-- a mark that is carried on, one that would show, what stands beyond the counts, blanking with zero, and moments
pub record Witnesses : Type 0 where
  pub carried : MarksCarried
  pub cells_carried : CellsCarried
  pub leaked : Witness (guarded_words leaks 2) (secret 7) (secret 8) (refusal 18 []) 1
  pub beyond : Beyond
  pub blanking : BlankingWitnesses
  pub moments : MomentWitnesses
