-- The tests on elements, told by what the library says of lists.
use Prim.Native.Nat.{ℕ, zero, suc, ◌+◌, ◌-◌, ◌/◌, ◌%◌, ◌≤◌, ◌<◌}
use mathlib.Core.Path.{◌≡◌, refl, sym, ap, ◌∙◌}
use mathlib.Core.Bool.{Bool, true, false, not, ◌&&◌, ◌||◌}
use mathlib.Core.List.{List, [], ◌∷◌, map}
use native.Mathlib.Omega.{arith}
use native.Mathlib.Numerals.{add-one}
use lib.Dec.{ltb, leb, eqb}
use lib.ListN.{length, get_or, drop}
use lib.Seq.{drop-cons}
use borrow.Author.Tests.{lt-ltb, le-leb, ltb-true, ltb-false}
use denote.Ref.{Bor}
use Rattle.std.specs.Prelude.{Option, Some, None}
use Rattle.std.specs.Bool.{IsTrue}
use Rattle.std.specs.Option.{MatchOption, option_copied}
use Rattle.std.specs.List.{list_all, zip, IsAllAdjacentAnswer, slice_get}
use Rattle.rules.specs.Numbers.{p, heap_end}
use Rattle.rules.specs.Entry.{every, rising_from, low_bits, marked_below}
use Rattle.hardware.proofs.RankLaws.{rising-apart}
use Rattle.rules.proofs.Laws.BoolLaws.{and_left, and_right, and-true}

-- each number beside its mark
pub marked_below-all : (ns ts : List ℕ) → list_all (λ (q : ℕ × ℕ). not (eqb q.1 1) || ltb q.0 p) (zip ns ts) ≡ marked_below (map (λ t. eqb t 1) ts) ns
marked_below-all [] [] = refl
marked_below-all [] (t ∷ ts) = refl
marked_below-all (n ∷ ns) [] = refl
marked_below-all (n ∷ ns) (t ∷ ts) = ap (λ b. (not (eqb t 1) || ltb n p) && b) (marked_below-all ns ts)

-- Rising addresses

-- one after the other from n on, the last within the heap
rises : (n : ℕ) (l : List ℕ) → (0 < length l → n ≤ get_or l 0 0) → ((k : ℕ) → suc k < length l → get_or l k 0 < get_or l (suc k) 0)
    → ((k : ℕ) → length l ≡ suc k → get_or l k 0 < heap_end) → rising_from n l ≡ true
rises n [] f s e = refl
rises n (a ∷ []) f s e = rw (le-leb n a (f (omega arith)), lt-ltb a heap_end (e 0 refl))
rises n (a ∷ b ∷ l) f s e =
    let i = rises (suc a) (b ∷ l) (λ h. s 0 (omega arith)) (λ k h. s (suc k) (omega arith)) (λ k h. e (suc k) (omega arith)) in
    let k : b < heap_end = ltb-true b heap_end (and_left _ _ (and_right (leb (suc a) b) _ i)) in
    let m : a < b = s 0 (omega arith) in
    and-true (le-leb n a (f (omega arith))) (and-true (lt-ltb a heap_end (omega arith)) i)

-- and where they do not
not-rising : (l : List ℕ) → (rising_from 0 l ≡ true → ⊥) → rising_from 0 l ≡ false
not-rising l f = go (rising_from 0 l) refl
  where
    go : (t : Bool) → rising_from 0 l ≡ t → t ≡ false
    go true r = absurd (f r)
    go false r = refl

below-heap : (n : ℕ) (l : List ℕ) (k : ℕ) → rising_from n l ≡ true → k < length l → get_or l k 0 < heap_end
below-heap n [] k r h = absurd (omega arith)
below-heap n (a ∷ l) zero r h = ltb-true a heap_end (and_left _ _ (and_right (leb n a) _ r))
below-heap n (a ∷ l) (suc k) r h = below-heap (suc a) l k (and_right (ltb a heap_end) _ (and_right (leb n a) _ r)) (omega arith)

item : (l : List ℕ) (k : ℕ) → k < length l → slice_get l k ≡ Some (get_or l k 0)
item [] k h = absurd (omega arith)
item (a ∷ l) zero h = refl
item (a ∷ l) (suc k) h = item l k (omega arith)

-- of those that rise the last tells whether all are within the heap
last-tells : (l : List ℕ) (o : Option (Bor ℕ)) (t : Bool) → ((k : ℕ) → suc k < length l → get_or l k 0 < get_or l (suc k) 0)
    → option_copied o ≡ slice_get l (length l - 1) → MatchOption o (IsTrue t) (λ x. t ≡ ltb x.now heap_end) → t ≡ rising_from 0 l
last-tells [] None t s g m = m
last-tells [] (Some x) t s g m = let z : ◌≡◌ {A = ℕ} 0 1 = cc in absurd (omega arith)
last-tells (a ∷ l) None t s g m =
    let q : suc (length l) - 1 ≡ length l = omega arith in
    let e : option_copied None ≡ Some (get_or (a ∷ l) (length l) 0) = g ∙ ap (slice_get (a ∷ l)) q ∙ item (a ∷ l) (length l) (omega arith) in
    let z : ◌≡◌ {A = ℕ} 0 1 = cc in
    absurd (omega arith)
last-tells (a ∷ l) (Some x) t s g m =
    let n : suc (length l) - 1 ≡ length l = omega arith in
    let e : Some x.now ≡ Some (get_or (a ∷ l) (length l) 0) = g ∙ ap (slice_get (a ∷ l)) n ∙ item (a ∷ l) (length l) (omega arith) in
    let q : x.now ≡ get_or (a ∷ l) (length l) 0 = cc in
    m ∙ go (ltb x.now heap_end) refl q
  where
    go : (t : Bool) → ltb x.now heap_end ≡ t → x.now ≡ get_or (a ∷ l) (length l) 0 → t ≡ rising_from 0 (a ∷ l)
    go true h q = let k : x.now < heap_end = ltb-true _ _ h in sym (rises 0 (a ∷ l) (λ _. omega arith) s (λ j e. let i : j ≡ length l = omega arith in rw i (omega arith)))
    go false h q =
        let k : heap_end ≤ x.now = ltb-false _ _ h in
        sym (not-rising (a ∷ l) (λ r. let f : get_or (a ∷ l) (length l) 0 < heap_end = below-heap 0 (a ∷ l) (length l) r (omega arith) in omega arith))

module _ (l : List ℕ) (s : Bool) (a : IsAllAdjacentAnswer (λ x y b. b ≡ ltb x y) l s) where
  pub unsorted : s ≡ false → s ≡ rising_from 0 l
  unsorted e =
      let m : (k : ℕ) × (k + 1 < length l) × ((d : ℕ) → false ≡ ltb (get_or l k d) (get_or l (k + 1) d)) = rw e at a in
      let f : get_or l (m.0 + 1) 0 ≤ get_or l m.0 0 = ltb-false _ _ (sym (m.2 0)) in
      let h : m.0 + 1 < length l = m.1 in
      e ∙ sym (not-rising l (λ r. let q : get_or l m.0 0 + (m.0 + 1) ≤ get_or l (m.0 + 1) 0 + m.0 = rising-apart 0 l m.0 (m.0 + 1) r (omega arith) h in omega arith))

  pub sorted : s ≡ true → (o : Option (Bor ℕ)) (t : Bool) → option_copied o ≡ slice_get l (length l - 1)
      → MatchOption o (IsTrue t) (λ x. t ≡ ltb x.now heap_end) → t ≡ rising_from 0 l
  sorted e o t g m =
      let f : (k : ℕ) (d : ℕ) → k + 1 < length l → true ≡ ltb (get_or l k d) (get_or l (k + 1) d) = rw e at a in
      last-tells l o t (λ k h. rw (← add-one k) (ltb-true _ _ (sym (f k 0 (omega arith))))) g m

-- The marks of registers: the bits that are left of a word

module _ (l : List ℕ) (i n w : ℕ) (h : i < n) (k : i < length l) where
  registers-here : marked_below (low_bits (n - i) w) (drop i l)
      ≡ ((not (eqb (w % 2) 1) || ltb (get_or l i 0) p) && marked_below (low_bits (n - (i + 1)) (w / 2)) (drop (i + 1) l))
  registers-here =
      let e : n - i ≡ suc (n - (i + 1)) = omega arith in
      rw (e, add-one i, drop-cons l i 0 k)

  pub registers-more : (not (eqb (w % 2) 1) || ltb (get_or l i 0) p) ≡ true
      → marked_below (low_bits (n - i) w) (drop i l) ≡ marked_below (low_bits (n - (i + 1)) (w / 2)) (drop (i + 1) l)
  registers-more e = rw e at registers-here
