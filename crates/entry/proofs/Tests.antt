-- The tests of refusal 3, put together again.
use mathlib.Core.Path.{◌≡◌, refl, sym, ap, ◌∙◌}
use mathlib.Core.Bool.{Bool, true, false, ◌&&◌}
use mathlib.Core.List.{List, [], ◌∷◌, ◌++◌}
use lib.Dec.{leb, ltb, eqb}
use lib.ListN.{length}
use Rattle.rules.specs.Numbers.{clock_end, cell_limit, value_limit, marks_end}
use Rattle.rules.specs.Step.{is_storable}
use Rattle.rules.specs.Entry.{Snapshot, GuardedSnapshot, used_addresses, used_numbers, used_moments, used_marks, marked_registers, marked_cells, every, rising_from, marked_below, all, plain_entry, marked_numbers_below, marks_entry}
use Rattle.rules.proofs.Laws.BoolLaws.{and-with-true}

-- The machine and the buffers

all-append : (bs cs : List Bool) → all (bs ++ cs) ≡ (all bs && all cs)
unfolding all
all-append [] cs = refl
all-append (true ∷ bs) cs = all-append bs cs
all-append (false ∷ bs) cs = refl

three : (sizes rising numbers moments : Bool) → (sizes && all (rising ∷ numbers ∷ moments ∷ [])) ≡ (((sizes && rising) && numbers) && moments)
unfolding all
three false rising numbers moments = refl
three true false numbers moments = refl
three true true false moments = refl
three true true true moments = and-with-true moments

module _ (s : Snapshot) where
  -- the tests that look at no element
  abbrev pub sizes_fit : Bool
  sizes_fit =
      all
      (ltb s.machine.clk clock_end
      ∷ leb s.machine.cell_count (length s.addresses)
      ∷ leb s.machine.tape_count (length s.tape)
      ∷ leb s.machine.output_count (length s.output)
      ∷ eqb (length s.numbers) (length s.addresses)
      ∷ eqb (length s.moments) (length s.addresses)
      ∷ leb (length s.addresses) cell_limit
      ∷ leb (length s.tape) value_limit
      ∷ leb (length s.output) value_limit
      ∷ [])

  plain-tests : plain_entry s
      ≡ (((sizes_fit && rising_from 0 (used_addresses s)) && every is_storable (used_numbers s)) && every (λ t. leb t s.machine.clk) (used_moments s))
  unfolding plain_entry
  plain-tests = all-append (_ ∷ _ ∷ _ ∷ _ ∷ _ ∷ _ ∷ _ ∷ _ ∷ _ ∷ []) _ ∙ three sizes_fit _ _ _

  pub plain-refused : ((sizes_fit && rising_from 0 (used_addresses s)) && every is_storable (used_numbers s)) ≡ false → plain_entry s ≡ false
  plain-refused e = rw e at plain-tests

  pub plain-decided : ((sizes_fit && rising_from 0 (used_addresses s)) && every is_storable (used_numbers s)) ≡ true
      → plain_entry s ≡ every (λ t. leb t s.machine.clk) (used_moments s)
  plain-decided e = rw e at plain-tests

-- one test more, where those before it passed or failed

pub passed : {before tests test value : Bool} → before ≡ tests → before ≡ true → value ≡ test → value ≡ (tests && test)
passed {before} {tests} {test} e t v = v ∙ ap (λ b. b && test) (sym (sym e ∙ t))

pub failed : {before tests value : Bool} (test : Bool) → before ≡ tests → before ≡ false → value ≡ before → value ≡ (tests && test)
failed test e f v = v ∙ f ∙ ap (λ b. b && test) (sym (sym e ∙ f))

-- The marks

told : (even few low registers cells : Bool) → all (even ∷ few ∷ low ∷ all (registers ∷ cells ∷ []) ∷ []) ≡ ((even && (few && low)) && (registers && cells))
unfolding all
told false few low registers cells = refl
told true false low registers cells = refl
told true true false registers cells = refl
told true true true registers cells = and-with-true (registers && (cells && true)) ∙ ap (λ b. registers && b) (and-with-true cells)

module _ (g : GuardedSnapshot) where
  -- the tests that look at no number
  abbrev pub marks_fit : Bool
  marks_fit = eqb (length g.marks) (length g.plain.addresses) && (every (λ t. leb t 1) (used_marks g) && ltb g.extras.registers marks_end)

  marks-tests : marks_entry g ≡ (marks_fit && (marked_below (marked_registers g) g.plain.machine.registers && marked_below (marked_cells g) (used_numbers g.plain)))
  unfolding marks_entry marked_numbers_below
  marks-tests = told _ _ _ _ _

  pub marks-refused : marks_fit ≡ false → marks_entry g ≡ false
  marks-refused e = rw e at marks-tests

  pub marks-decided : marks_fit ≡ true
      → marks_entry g ≡ (marked_below (marked_registers g) g.plain.machine.registers && marked_below (marked_cells g) (used_numbers g.plain))
  marks-decided e = rw e at marks-tests
