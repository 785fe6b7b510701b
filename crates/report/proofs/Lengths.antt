-- The digits of a decimal, how long the lines are at most, and the lines of the values from a place on.
use mathlib.Core.Path.{◌≡◌, refl, sym, ap, ◌∙◌}
use mathlib.Core.Bool.{Bool, true, false}
use mathlib.Core.List.{List, [], ◌∷◌, ◌++◌}
use Prim.Native.Nat.{ℕ, zero, suc, ◌+◌, ◌-◌, ◌/◌, ◌%◌, ◌<◌, ◌≤◌}
use native.Mathlib.Numerals.{add-one}
use native.Mathlib.Omega.{arith}
use lib.Dec.{ltb, leb}
use lib.ListN.{length, get_or, drop, length-append, drop_of_length-le}
use lib.Seq.{drop-cons}
use borrow.Author.Tests.{lt-ltb, le-ltb, lt-leb, le-leb, leb-true, leb-false}
use Rattle.rules.specs.Numbers.{choose}
use Rattle.rules.specs.Hexadecimal.{digit_count, shortest_hex}
use Rattle.rules.specs.Solve.{kilosteps, decimal, value_lines}
use Rattle.hexadecimal.proofs.Words.{low-length}
use Rattle.report.specs.declared.label.Label.{Label}
use Rattle.report.specs.declared.label.Label.TheVariants as L
use Rattle.report.specs.ReportLines.{value_line, label_text, frame_field, fields, first_line}

pub decimal-one : (n : ℕ) → n < 10 → decimal n ≡ (n + 48) ∷ []
unfolding decimal
decimal-one n h = rw (lt-ltb n 10 h)

pub decimal-two : (n : ℕ) → 10 ≤ n → decimal n ≡ (n / 10 + 48) ∷ ((n % 10 + 48) ∷ [])
unfolding decimal
decimal-two n h = rw (le-ltb n 10 h)

decimal-length : (n : ℕ) → length (decimal n) ≤ 2
unfolding decimal
decimal-length n = go (ltb n 10)
  where
    go : (b : Bool) → length (choose b ((n + 48) ∷ []) ((n / 10 + 48) ∷ ((n % 10 + 48) ∷ []))) ≤ 2
    go true = omega arith
    go false = omega arith

pub count_most : (n v : ℕ) → digit_count n v ≤ suc n
unfolding digit_count
count_most zero v = omega arith
count_most (suc n) v = go (count_most n (v / 16)) (ltb v 16)
  where
    go : digit_count n (v / 16) ≤ suc n → (b : Bool) → choose b 1 (suc (digit_count n (v / 16))) ≤ suc (suc n)
    go ih true = omega arith
    go ih false = omega arith

pub hex-length : (v : ℕ) → length (shortest_hex v) ≤ 16
unfolding shortest_hex
hex-length v = omega (arith, low-length (digit_count 15 v) v, count_most 15 v)

-- a value's line: its digits and the line feed
pub value-count : (v : ℕ) → digit_count 15 v + 1 ≡ length (value_line v)
unfolding shortest_hex
value-count v = omega (arith, low-length (digit_count 15 v) v, length-append (shortest_hex v) (10 ∷ []))

label-length : (label : Label) → length (label_text label) ≤ 17
unfolding label_text
label-length (L.Outcome n) = omega (arith, hex-length n)
label-length (L.Refusal n) = omega (arith, decimal-length n)
label-length (L.Malformed n) = omega (arith, decimal-length 2)

frame-length : (label : Label) → length (frame_field label) ≤ 17
unfolding frame_field
frame-length (L.Outcome n) = omega arith
frame-length (L.Refusal n) = omega arith
frame-length (L.Malformed n) = omega (arith, hex-length n)

fields-length : (steps pc clk : ℕ) → length (fields steps pc clk) ≤ 68
unfolding fields
fields-length steps pc clk =
    let k = kilosteps clk in
    simp length-append (omega (arith, hex-length steps, hex-length pc, hex-length clk, hex-length k))

pub first-line-length : (label : Label) (steps pc clk : ℕ) → length (first_line label steps pc clk) ≤ 128
unfolding first_line
first-line-length label steps pc clk =
    simp length-append (omega (arith, label-length label, fields-length steps pc clk, frame-length label))

-- the lines of the values from a place on
module _ (vs : List ℕ) (i : ℕ) where
  pub next-value : i < length vs → value_lines (drop i vs) ≡ value_line (get_or vs i 0) ++ value_lines (drop (i + 1) vs)
  unfolding value_lines
  next-value h = rw (drop-cons vs i 0 h, add-one i)

  pub no_value : length vs ≤ i → value_lines (drop i vs) ≡ []
  unfolding value_lines
  no_value h = rw (drop_of_length-le vs h)

  pub all_fit : (places : ℕ) → length vs ≤ i → leb (length (value_lines (drop i vs))) places ≡ true
  all_fit places h = le-leb (length (value_lines (drop i vs))) places (omega (arith, ap length (no_value h)))

  -- all of them fit in so many places where, after the first, the others fit in those that are left
  module _ (places n : ℕ) (more : i < length vs) (e : n ≡ length (value_line (get_or vs i 0))) where
    both : length (value_lines (drop i vs)) ≡ n + length (value_lines (drop (i + 1) vs))
    both = ap length (next-value more) ∙ length-append (value_line (get_or vs i 0)) (value_lines (drop (i + 1) vs)) ∙ ap (λ (k : ℕ). k + length (value_lines (drop (i + 1) vs))) (sym e)

    pub too_long : places < n → leb (length (value_lines (drop i vs))) places ≡ false
    too_long h = lt-leb (length (value_lines (drop i vs))) places (omega (arith, both))

    pub fits_after : n ≤ places → leb (length (value_lines (drop i vs))) places ≡ leb (length (value_lines (drop (i + 1) vs))) (places - n)
    fits_after h = go (leb (length (value_lines (drop (i + 1) vs))) (places - n)) refl
      where
        go : (b : Bool) → leb (length (value_lines (drop (i + 1) vs))) (places - n) ≡ b → leb (length (value_lines (drop i vs))) places ≡ b
        go true f = le-leb (length (value_lines (drop i vs))) places (omega (arith, both, leb-true))
        go false f = lt-leb (length (value_lines (drop i vs))) places (omega (arith, both, leb-false))
