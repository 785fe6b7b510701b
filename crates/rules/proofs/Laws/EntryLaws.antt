-- The tests of refusal 3, read one by one and put together again; and the word of the registers' marks.
use Prim.Native.Nat.{ℕ, zero, suc, ◌+◌, ◌*◌, ◌/◌, ◌%◌, ◌^◌, ◌<◌}
use mathlib.Core.Path.{◌≡◌, refl, ap}
use mathlib.Core.Bool.{Bool, true, false, not, ◌||◌}
use mathlib.Core.List.{List, [], ◌∷◌}
use native.Mathlib.Omega.{arith}
use native.Mathlib.Nat.{pow-succ'}
use lib.Dec.{ltb, eqb, lit<}
use lib.ListN.{length, get_or}
use borrow.Author.Tests.{ltb-true, lt-ltb}
use Rattle.rules.specs.Numbers.{p, bit}
use Rattle.rules.specs.Entry.{low_bits, word_of_bits, marked_below, all}
use Rattle.rules.proofs.Laws.BoolLaws.{false-true, and_left, and_right, and-true}

-- one of the tests
pub all-at : (bs : List Bool) → all bs ≡ true → (i : ℕ) → get_or bs i true ≡ true
unfolding all
all-at [] h i = refl
all-at (true ∷ bs) h zero = refl
all-at (true ∷ bs) h (suc i) = all-at bs h i
all-at (false ∷ bs) h i = absurd (false-true h)

pub all_none : all [] ≡ true
unfolding all
all_none = refl

pub all_more : {b : Bool} (bs : List Bool) → b ≡ true → all bs ≡ true → all (b ∷ bs) ≡ true
unfolding all
all_more bs e h = and-true e h

-- marked numbers

below-p : (t : Bool) (n : ℕ) → (not t || ltb n p) ≡ true → t ≡ true → n < p
below-p true n h e = ltb-true n p h
below-p false n h e = absurd (false-true e)

pub below-test : (t : Bool) (n : ℕ) → (t ≡ true → n < p) → (not t || ltb n p) ≡ true
below-test true n h = lt-ltb n p (h refl)
below-test false n h = refl

zero-below : 0 < p
unfolding p
zero-below = lit< tt

pub marked_below-at : (ts : List Bool) (ns : List ℕ) → marked_below ts ns ≡ true → (i : ℕ) → get_or ts i false ≡ true → get_or ns i 0 < p
marked_below-at [] ns h i e = absurd (false-true e)
marked_below-at (t ∷ ts) [] h i e = zero-below
marked_below-at (t ∷ ts) (n ∷ ns) h zero e = below-p t n (and_left _ (marked_below ts ns) h) e
marked_below-at (t ∷ ts) (n ∷ ns) h (suc i) e = marked_below-at ts ns (and_right (not t || ltb n p) _ h) i e

pub marked_below-of : (ts : List Bool) (ns : List ℕ) → ((i : ℕ) → get_or ts i false ≡ true → get_or ns i 0 < p) → marked_below ts ns ≡ true
marked_below-of [] ns h = refl
marked_below-of (t ∷ ts) [] h = refl
marked_below-of (t ∷ ts) (n ∷ ns) h = and-true (below-test t n (h 0)) (marked_below-of ts ns (λ i. h (suc i)))

-- bits of a word

pub low_bits-word : (l : List Bool) → low_bits (length l) (word_of_bits l) ≡ l
low_bits-word [] = refl
low_bits-word (true ∷ l) =
    let m : (1 + 2 * word_of_bits l) % 2 ≡ 1 = omega arith in
    let d : (1 + 2 * word_of_bits l) / 2 ≡ word_of_bits l = omega arith in
    rw (m, d) (ap (◌∷◌ true) (low_bits-word l))
low_bits-word (false ∷ l) =
    let m : (0 + 2 * word_of_bits l) % 2 ≡ 0 = omega arith in
    let d : (0 + 2 * word_of_bits l) / 2 ≡ word_of_bits l = omega arith in
    rw (m, d) (ap (◌∷◌ false) (low_bits-word l))

pub length-low_bits : (n w : ℕ) → length (low_bits n w) ≡ n
length-low_bits zero w = refl
length-low_bits (suc n) w = ap suc (length-low_bits n (w / 2))

pub word_below : (l : List Bool) → word_of_bits l < 2 ^ length l
word_below [] = lit< tt
word_below (true ∷ l) = let h : word_of_bits l < 2 ^ length l = word_below l in rw pow-succ' (omega arith)
word_below (false ∷ l) = let h : word_of_bits l < 2 ^ length l = word_below l in rw pow-succ' (omega arith)

-- the lowest bit is its number
pub lowest-bit : (b : ℕ) → b < 2 → bit (eqb b 1) ≡ b
lowest-bit zero h = refl
lowest-bit (suc zero) h = refl
lowest-bit (suc (suc b)) h = absurd (omega arith)

-- the word of a word's bits is the word
pub word-again : (n w : ℕ) → w < 2 ^ n → word_of_bits (low_bits n w) ≡ w
word-again zero w h = omega arith
word-again (suc n) w h =
    let p = pow-succ' 2 n in
    let g : word_of_bits (low_bits n (w / 2)) ≡ w / 2 = word-again n (w / 2) (omega arith) in
    let l = lowest-bit (w % 2) (omega arith) in
    omega arith
