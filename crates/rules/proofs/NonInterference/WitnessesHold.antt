-- The witnesses hold: they are computed, and their calls agree by demand 3.
use Prim.Native.Nat.{ℕ, zero, suc}
use mathlib.Core.Path.{◌≡◌, refl, ap}
use mathlib.Core.Bool.{Bool, true, false, ◌&&◌, ◌||◌}
use mathlib.Core.List.{List, [], ◌∷◌, ◌++◌}
use native.Mathlib.Omega.{arith}
use lib.Dec.{eqb}
use lib.ListN.{length, get_or}
use borrow.Author.Tests.{eqb-true}
use Rattle.rules.specs.declared.Instruction.{Instruction}
use Rattle.rules.specs.Results.{Result}
use Rattle.rules.specs.Answers.{Meaning}
use Rattle.rules.specs.Entry.{Snapshot, GuardedSnapshot, used_addresses, used_numbers, used_moments, used_tape, used_output, used_marks, marked_registers, marked_cells, marked_below}
use Rattle.rules.specs.Calls.{Called}
use Rattle.rules.specs.Encoding.{bytes}
use Rattle.rules.specs.NonInterference.{MarkedBelow, EqualUnless, Alike, NonInterference}
use Rattle.rules.specs.Witnesses.{
  Witness,
  secret,
  carries,
  leaks,
  MarksCarried,
  secret_cell,
  passes_on,
  passes_on_lines,
  shows_line,
  CellsCarried,
  beyond,
  stores,
  Beyond,
  secret_factor,
  blanks_and_jumps,
  multiplies_and_jumps,
  blanks_and_multiplies,
  uses_factor_zero,
  BlankingWitnesses,
  Witnesses,
  secret_since,
  MomentWitnesses,
}
use Rattle.rules.proofs.Laws.BoolLaws.{false-true, and_left, and_right}
use Rattle.rules.proofs.Laws.EntryLaws.{marked_below-at}
use Rattle.rules.proofs.Cases.Unfolding.{calling}
use Rattle.rules.proofs.NonInterference.NonInterferenceHolds.{words-hold, text-holds, budget-text-holds}

-- a test of two lists under marks, and what it says of each place
abbrev alike_under : List Bool → List ℕ → List ℕ → Bool
alike_under l [] [] = true
alike_under l [] (w ∷ ws) = false
alike_under l (v ∷ vs) [] = false
alike_under [] (v ∷ vs) (w ∷ ws) = eqb v w && alike_under [] vs ws
alike_under (b ∷ l) (v ∷ vs) (w ∷ ws) = (b || eqb v w) && alike_under l vs ws

one_place : (b : Bool) (v w : ℕ) → (b || eqb v w) ≡ true → EqualUnless b v w
one_place true v w h = tt
one_place false v w h = eqb-true v w h

no_place : (b : Bool) → EqualUnless b 0 0
no_place true = tt
no_place false = refl

places : (l : List Bool) (vs ws : List ℕ) → alike_under l vs ws ≡ true → (i : ℕ) → EqualUnless (get_or l i false) (get_or vs i 0) (get_or ws i 0)
places l [] [] h i = no_place (get_or l i false)
places l [] (w ∷ ws) h i = absurd (false-true h)
places l (v ∷ vs) [] h i = absurd (false-true h)
places [] (v ∷ vs) (w ∷ ws) h zero = eqb-true v w (and_left _ (alike_under [] vs ws) h)
places [] (v ∷ vs) (w ∷ ws) h (suc i) = places [] vs ws (and_right (eqb v w) _ h) i
places (b ∷ l) (v ∷ vs) (w ∷ ws) h zero = one_place b v w (and_left _ (alike_under l vs ws) h)
places (b ∷ l) (v ∷ vs) (w ∷ ws) h (suc i) = places l vs ws (and_right (b || eqb v w) _ h) i

-- the same for a snapshot's marked numbers
below : (g : GuardedSnapshot) → marked_below (marked_registers g) g.plain.machine.registers ≡ true
    → marked_below (marked_cells g) (used_numbers g.plain) ≡ true → MarkedBelow g
below g h k =
    record {
      registers = marked_below-at (marked_registers g) g.plain.machine.registers h;
      cells = marked_below-at (marked_cells g) (used_numbers g.plain) k;
    }

-- what alike starts have in common, in lists: single numbers, counts, lengths, and used parts but for the numbers
abbrev common : GuardedSnapshot → List (List ℕ)
common g =
    let s = g.plain in
    let m = s.machine in
    (m.pc ∷ m.clk ∷ m.psp ∷ g.extras.registers ∷ [])
    ∷ (m.cell_count ∷ m.tape_count ∷ m.output_count ∷ [])
    ∷ (length s.addresses ∷ length s.numbers ∷ length s.moments ∷ length g.marks ∷ length s.tape ∷ length s.output ∷ [])
    ∷ m.storage_addr
    ∷ used_addresses s
    ∷ used_moments s
    ∷ used_marks g
    ∷ used_tape s
    ∷ used_output s
    ∷ []

-- alike, by lists and tests that are computed
alike : (g h : GuardedSnapshot) → common g ≡ common h → (length g.plain.machine.registers ≡ 10) × (length h.plain.machine.registers ≡ 10)
    → alike_under (marked_registers g) g.plain.machine.registers h.plain.machine.registers ≡ true
    → alike_under (marked_cells g) (used_numbers g.plain) (used_numbers h.plain) ≡ true → Alike g h
alike g h e ten r c =
    record {
      pc = number 0 0;
      clk = number 0 1;
      psp = number 0 2;
      storage = list 3;
      cell_count = number 1 0;
      tape_count = number 1 1;
      output_count = number 1 2;
      address_length = number 2 0;
      number_length = number 2 1;
      moment_length = number 2 2;
      mark_length = number 2 3;
      tape_length = number 2 4;
      output_length = number 2 5;
      addresses = list 4;
      moments = list 5;
      marks = list 6;
      tape = list 7;
      output = list 8;
      numbers = places (marked_cells g) (used_numbers g.plain) (used_numbers h.plain) c;
      register_marks = number 0 3;
      ten = ten;
      registers = places (marked_registers g) g.plain.machine.registers h.plain.machine.registers r;
    }
  where
    list : (i : ℕ) → get_or (common g) i [] ≡ get_or (common h) i []
    list i = ap (λ l. get_or l i []) e

    number : (i j : ℕ) → get_or (get_or (common g) i []) j 0 ≡ get_or (get_or (common h) i []) j 0
    number i j = ap (λ l. get_or (get_or l i []) j 0) e

-- two starts that differ, are alike, and have each marked number below p
record Differing (g h : GuardedSnapshot) : Type 0 where
  differ : g ≡ h → ⊥
  alike : Alike g h
  below : MarkedBelow g × MarkedBelow h

-- they are a witness of every call that demand 3 holds of, by what one call computes
witness : {program : Result (List Instruction)} {budget : ℕ} {call : GuardedSnapshot → Called GuardedSnapshot} {plain : ℕ → Snapshot → Called Snapshot}
    → NonInterference program budget call plain → {g h : GuardedSnapshot} → Differing g h
    → {answer : Meaning} {steps : ℕ} → (call g).answer ≡ answer → (call g).steps ≡ steps → Witness call g h answer steps
witness n {g} {h} d a s =
    record {
      differ = d.differ;
      alike = d.alike;
      below = d.below;
      same = n.agrees g h d.alike d.below.0 d.below.1;
      answers = a;
      stepped = s;
    }

-- A marked register

secrets : Differing (secret 7) (secret 8)
unfolding secret calling
secrets =
    record {
      differ = λ e. let z : ◌≡◌ {A = ℕ} 7 8 = ap (λ (g : GuardedSnapshot). get_or g.plain.machine.registers 1 0) e in omega arith;
      alike = alike (secret 7) (secret 8) refl (refl, refl) refl refl;
      below = (below (secret 7) refl refl, below (secret 8) refl refl);
    }

carried-holds : MarksCarried
unfolding secret carries calling
carried-holds = record { agree = witness (words-hold carries 10) secrets refl refl; first = refl; second = refl }

-- A marked cell

secret-cells : Differing (secret_cell 7) (secret_cell 8)
unfolding secret_cell calling
secret-cells =
    record {
      differ = λ e. let z : ◌≡◌ {A = ℕ} 7 8 = ap (λ (g : GuardedSnapshot). get_or g.plain.numbers 0 0) e in omega arith;
      alike = alike (secret_cell 7) (secret_cell 8) refl (refl, refl) refl refl;
      below = (below (secret_cell 7) refl refl, below (secret_cell 8) refl refl);
    }

cells-carried : CellsCarried
unfolding secret_cell passes_on passes_on_lines shows_line calling
cells-carried =
    record {
      same_program = refl;
      words = record { agree = witness (words-hold passes_on 10) secret-cells refl refl; first = refl; second = refl };
      text = record { agree = witness (text-holds passes_on_lines 10) secret-cells refl refl; first = refl; second = refl };
      budget_text = record {
        agree = witness (budget-text-holds (bytes "000000000000000a\n" ++ passes_on_lines)) secret-cells refl refl;
        first = refl;
        second = refl;
      };
      shown = witness (text-holds shows_line 1) secret-cells refl refl;
    }

-- Beyond the counts

beyonds : Differing (beyond 3) (beyond 4)
unfolding beyond calling
beyonds =
    record {
      differ = λ e. let z : ◌≡◌ {A = ℕ} 3 4 = ap (λ (g : GuardedSnapshot). get_or g.marks 0 0) e in omega arith;
      alike = alike (beyond 3) (beyond 4) refl (refl, refl) refl refl;
      below = (below (beyond 3) refl refl, below (beyond 4) refl refl);
    }

beyond-holds : Beyond
unfolding beyond stores calling
beyond-holds = record { pauses = witness (words-hold stores 1) beyonds refl refl; addresses = refl; moments = refl; marks = refl }

-- Blanking with zero

secret-factors : Differing (secret_factor 0) (secret_factor 7)
unfolding secret_factor calling
secret-factors =
    record {
      differ = λ e. let z : ◌≡◌ {A = ℕ} 0 7 = ap (λ (g : GuardedSnapshot). get_or g.plain.machine.registers 1 0) e in omega arith;
      alike = alike (secret_factor 0) (secret_factor 7) refl (refl, refl) refl refl;
      below = (below (secret_factor 0) refl refl, below (secret_factor 7) refl refl);
    }

blanking-holds : BlankingWitnesses
unfolding secret_factor blanks_and_jumps multiplies_and_jumps blanks_and_multiplies uses_factor_zero calling
blanking-holds =
    record {
      blanked = record { agree = witness (words-hold blanks_and_jumps 10) secret-factors refl refl; first = refl; second = refl };
      marked_zero = record { agree = witness (words-hold multiplies_and_jumps 10) secret-factors refl refl; first = refl; second = refl };
      both = record { agree = witness (words-hold blanks_and_multiplies 10) secret-factors refl refl; first = refl; second = refl };
      factor_zero = record { agree = witness (words-hold uses_factor_zero 10) secret-factors refl refl; first = refl; second = refl };
    }

-- Moments

secrets-since : Differing (secret_since 5 7) (secret_since 5 8)
unfolding secret_since calling
secrets-since =
    record {
      differ = λ e. let z : ◌≡◌ {A = ℕ} 7 8 = ap (λ (g : GuardedSnapshot). get_or g.plain.numbers 0 0) e in omega arith;
      alike = alike (secret_since 5 7) (secret_since 5 8) refl (refl, refl) refl refl;
      below = (below (secret_since 5 7) refl refl, below (secret_since 5 8) refl refl);
    }

moments-hold : MomentWitnesses
unfolding secret_since passes_on calling
moments-hold =
    record {
      carried = record { agree = witness (words-hold passes_on 10) secrets-since refl refl; first = refl; second = refl };
      apart = λ a. let z : ◌≡◌ {A = ℕ} 5 4 = ap (λ l. get_or l 0 0) a.moments in omega arith;
    }

pub witnesses : Witnesses
unfolding secret leaks calling
witnesses =
    record {
      carried = carried-holds;
      cells_carried = cells-carried;
      leaked = witness (words-hold leaks 2) secrets refl refl;
      beyond = beyond-holds;
      blanking = blanking-holds;
      moments = moments-hold;
    }
