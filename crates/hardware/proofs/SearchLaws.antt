-- What is found among rising addresses, in the words of the contracts: an address, a span, capacity.
use Rattle.std.specs.Prelude.{Some, None, Ok, Err}
use Prim.Native.Nat.{ℕ, zero, suc, ◌+◌, ◌-◌, ◌≤◌, ◌<◌}
use mathlib.Core.Path.{◌≡◌, refl, sym, ap, subst, ◌∙◌}
use mathlib.Core.Bool.{Bool, true, false}
use mathlib.Core.List.{List}
use native.Mathlib.Omega.{arith}
use lib.Dec.{leb, ltb}
use lib.ListN.{length, get_or}
use borrow.Author.Tests.{leb-true, leb-false, le-leb, lt-leb}
use mir.Val.{bool_byte}
use Rattle.rules.specs.Numbers.{choose}
use Rattle.rules.specs.Entry.{rising_from}
use Rattle.hardware.specs.Buffers.{rank, last_at_most, found_of, has_all, span_of, missing}
use Rattle.hardware.proofs.RankLaws.{rank-length, rank_mono, rank-here, has-at, has-none, last-other, last-rank, last_none, last-there, there-last, missing-ranks, missing-most}

module _ (l : List ℕ) (o : rising_from 0 l ≡ true) where
  -- An address, by its rank

  module _ (a i : ℕ) (e : i ≡ rank l a) where
    pub found-present : i < length l → get_or l i 0 ≡ a → Ok i ≡ found_of l a
    found-present h g = rw (has-at l a i h g) (ap Ok e)

    absent-found : (rank l a < length l → get_or l (rank l a) 0 ≡ a → ⊥) → Err i ≡ found_of l a
    absent-found f = rw (has-none l a o f) (ap Err e)

    pub found-other : (get_or l i 0 ≡ a → ⊥) → Err i ≡ found_of l a
    found-other f = absent-found (λ _ g. f (ap (λ (k : ℕ). get_or l k 0) e ∙ g))

    pub found-end : length l ≤ i → Err i ≡ found_of l a
    found-end h = absent-found (λ k _. omega arith)

  -- one that stands at a place is found there
  pub found_here : (a i : ℕ) → i < length l → get_or l i 0 ≡ a → Ok i ≡ found_of l a
  found_here a i h e = found-present a i (sym (rank-here l a i o h e)) h e

  -- where the last that is at most an address is not it, it is absent
  module _ (a i : ℕ) (e : i ≡ last_at_most l a) where
    pub found-behind : i < length l → (get_or l i 0 ≡ a → ⊥) → Err (i + bool_byte (ltb (get_or l i 0) a)) ≡ found_of l a
    found-behind h f = rw (last-other l a i o e f) (ap Err (last-rank l a i o e h))

    pub found_none : length l ≤ i → Err i ≡ found_of l a
    found_none h = found-end a i (last_none l a i o e h) h

  -- A span, by the rank of its first address

  module _ (a i : ℕ) (e : i ≡ rank l a) where
    absent-span : (m : ℕ) → (has_all l a m ≡ true → ⊥) → None ≡ span_of l a m
    absent-span m f = go (has_all l a m) refl
      where
        go : (t : Bool) → has_all l a m ≡ t → None ≡ choose t (Some (rank l a)) None
        go true h = absurd (f h)
        go false h = refl

    -- where all of a span are there, its last is
    last_of : (m : ℕ) → 0 < m → has_all l a m ≡ true → (i + (m - 1) < length l) × (get_or l (i + (m - 1)) 0 ≡ a + (m - 1))
    last_of m p h =
        let s : m ≡ suc (m - 1) = omega arith in
        there-last l a (m - 1) (i + (m - 1)) o (omega arith) (subst (λ (m : ℕ). has_all l a m ≡ true) s h)

    pub span-ends : (m : ℕ) → has_all l a m ≡ true → i + m ≤ length l
    span-ends zero h = omega (arith, rank-length l a)
    span-ends (suc m) h = let k : i + (suc m - 1) < length l = (last_of (suc m) (omega arith) h).0 in omega arith

    pub span-short : (m : ℕ) → (m ≡ 0 → ⊥) → length l - i < m → None ≡ span_of l a m
    span-short m z h = absent-span m (λ t. let k : i + (m - 1) < length l = (last_of m (omega arith) t).0 in omega arith)

    pub span-other : (m : ℕ) → (m ≡ 0 → ⊥) → (get_or l (i + (m - 1)) 0 ≡ a + (m - 1) → ⊥) → None ≡ span_of l a m
    span-other m z f = absent-span m (λ t. f (last_of m (omega arith) t).1)

    pub span-present : (m : ℕ) → (m ≡ 0 → ⊥) → m ≤ length l - i → get_or l (i + (m - 1)) 0 ≡ a + (m - 1) → Some i ≡ span_of l a m
    span-present m z h g =
        let s : suc (m - 1) ≡ m = omega arith in
        rw (subst (λ (m : ℕ). has_all l a m ≡ true) s (last-there l a (m - 1) (i + (m - 1)) o (omega arith) (omega arith) g)) (ap Some e)

  -- Capacity

  module _ (a m low high : ℕ) (e : low ≡ rank l a) (f : high ≡ rank l (a + m)) where
    pub ranks-rise : low ≤ high
    ranks-rise = let k : rank l a ≤ rank l (a + m) = rank_mono l a (a + m) (omega arith) in omega arith

    -- those between the ranks are present
    pub new-cells : m ≡ missing l a m + (high - low)
    new-cells =
        let k : missing l a m + rank l (a + m) ≡ m + rank l a = missing-ranks l a m (a + m) o refl in
        let r : low ≤ high = ranks-rise in
        omega arith

    pub ranks-within : high - low ≤ m
    ranks-within = let k : m ≡ missing l a m + (high - low) = new-cells in omega arith

    -- n of a capacity of k are used
    pub capacity-for-new : (n k : ℕ) → n ≤ k → leb (m - (high - low)) (k - n) ≡ leb (n + missing l a m) k
    capacity-for-new n k w = go (leb (n + missing l a m) k) refl
      where
        go : (t : Bool) → leb (n + missing l a m) k ≡ t → leb (m - (high - low)) (k - n) ≡ t
        go true h =
            let f : n + missing l a m ≤ k = leb-true _ _ h in
            let q : m ≡ missing l a m + (high - low) = new-cells in
            le-leb (m - (high - low)) (k - n) (omega arith)
        go false h =
            let f : k < n + missing l a m = leb-false _ _ h in
            let q : m ≡ missing l a m + (high - low) = new-cells in
            lt-leb (m - (high - low)) (k - n) (omega arith)

pub capacity-for-all : (l : List ℕ) (a m n k : ℕ) → n ≤ k → m ≤ k - n → true ≡ leb (n + missing l a m) k
capacity-for-all l a m n k w h =
    let f : missing l a m ≤ m = missing-most l a m in
    sym (le-leb (n + missing l a m) k (omega arith))

-- what it says of a span that it is found
pub span-at : (l : List ℕ) (a n i : ℕ) → span_of l a n ≡ Some i → (has_all l a n ≡ true) × (i ≡ rank l a)
span-at l a n i e = go (has_all l a n) refl e
  where
    go : (t : Bool) → has_all l a n ≡ t → choose t (Some (rank l a)) None ≡ Some i → (has_all l a n ≡ true) × (i ≡ rank l a)
    go true h e = (h, cc)
    go false h e = let z : ◌≡◌ {A = ℕ} 0 1 = cc in absurd (omega arith)

-- what the searches' proofs cite

pub ruleset found_laws = (found_here, found-behind, found_none)

pub ruleset rank_laws = (rank-here, last-rank, last_none)

pub ruleset span_laws = (rank-length, span-short, span-present, span-other)
