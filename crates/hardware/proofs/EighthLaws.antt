-- The search for the last of the rising addresses that is at most another: a round by eighths, and a step to one place more.
use Prim.Native.Nat.{ℕ, zero, suc, ◌+◌, ◌*◌, ◌-◌, min, ◌≤◌, ◌<◌}
use mathlib.Core.Path.{◌≡◌, refl, sym}
use mathlib.Core.Bool.{Bool, true, false}
use mathlib.Core.List.{List}
use native.Mathlib.Nat.{mul-le-mul_right}
use native.Mathlib.Omega.{arith}
use lib.Dec.{leb, ltb}
use lib.ListN.{length, get_or}
use borrow.Author.Tests.{ltb-true, ltb-false}
use mir.Val.{bool_byte}
use Rattle.rules.specs.Entry.{rising_from}
use Rattle.hardware.specs.Buffers.{rank, last_at_most}
use Rattle.hardware.proofs.RankLaws.{at-most-rank, byte-most}

-- By parts of e places, from low on

module _ (l : List ℕ) (a low e : ℕ) where
  -- how many of the suc n addresses at low + e, low + 2 * e and so on are at most a
  abbrev pub passed : ℕ → ℕ
  passed zero = bool_byte (leb (get_or l (low + e) 0) a)
  passed (suc n) = passed n + bool_byte (leb (get_or l (low + suc (suc n) * e) 0) a)

  pub passed-most : (n : ℕ) → passed n ≤ suc n
  passed-most zero = byte-most (leb (get_or l (low + e) 0) a)
  passed-most (suc n) = omega (arith, passed-most n, byte-most (leb (get_or l (low + suc (suc n) * e) 0) a))

  -- where m of n are: the last lies in the part behind the m-th, or further where all are
  record Part (n m : ℕ) : Type 0 where
    from : low + m * e ≤ last_at_most l a
    to : m < n → rank l (suc a) ≤ low + suc m * e

  module _ (r : rising_from 0 l ≡ true) (h : low ≤ last_at_most l a) where
    first : (t : Bool) → t ≡ ltb (low + e) (rank l (suc a)) → Part 1 (bool_byte t)
    first true q = let k : low + e < rank l (suc a) = ltb-true _ _ (sym q) in omega arith
    first false q = let k : rank l (suc a) ≤ low + e = ltb-false _ _ (sym q) in omega arith

    next : (n m : ℕ) → m ≤ n → Part n m → (t : Bool) → t ≡ ltb (low + suc n * e) (rank l (suc a)) → Part (suc n) (m + bool_byte t)
    next n m i p t q = go (ltb m n) refl t q
      where
        go : (u : Bool) → ltb m n ≡ u → (t : Bool) → t ≡ ltb (low + suc n * e) (rank l (suc a)) → Part (suc n) (m + bool_byte t)
        go true f true q =
            let j : rank l (suc a) ≤ low + suc m * e = p.to (ltb-true m n f) in
            let k : low + suc n * e < rank l (suc a) = ltb-true _ _ (sym q) in
            let w : suc m * e ≤ n * e = mul-le-mul_right e (ltb-true m n f) in
            absurd (omega arith)
        go true f false q = let j : rank l (suc a) ≤ low + suc m * e = p.to (ltb-true m n f) in omega arith
        go false f true q =
            let k : low + suc n * e < rank l (suc a) = ltb-true _ _ (sym q) in
            let w : m * e ≤ n * e = mul-le-mul_right e i in
            omega (arith, ltb-false m n f)
        go false f false q =
            let k : rank l (suc a) ≤ low + suc n * e = ltb-false _ _ (sym q) in
            let w : n * e ≤ m * e = mul-le-mul_right e (ltb-false m n f) in
            omega arith

    part : (n : ℕ) → low + suc n * e < length l → Part (suc n) (passed n)
    part zero k = first _ (at-most-rank l a (low + e) r (omega arith))
    part (suc n) k = next (suc n) (passed n) (passed-most n) (part n (omega arith)) _ (at-most-rank l a (low + suc (suc n) * e) r k)

    -- seven tell the eighth: where the last lies after a round
    pub eighth : (left : ℕ) → 0 < e → 8 * e ≤ left → rank l (suc a) ≤ low + left → low + left ≤ length l
        → (low + passed 6 * e ≤ last_at_most l a) × (rank l (suc a) ≤ low + passed 6 * e + (left - 7 * e)) × (low + passed 6 * e + (left - 7 * e) ≤ length l)
    eighth left o f k w = go (passed 6) (passed-most 6) (part 6 (omega arith)) (ltb (passed 6) 7) refl
      where
        go : (m : ℕ) → m ≤ 7 → Part 7 m → (t : Bool) → ltb m 7 ≡ t
            → (low + m * e ≤ last_at_most l a) × (rank l (suc a) ≤ low + m * e + (left - 7 * e)) × (low + m * e + (left - 7 * e) ≤ length l)
        go m i p true g =
            let j : rank l (suc a) ≤ low + suc m * e = p.to (ltb-true m 7 g) in
            omega (arith, mul-le-mul_right e i)
        go m i p false g = omega (arith, mul-le-mul_right e i, mul-le-mul_right e (ltb-false m 7 g))

-- One place more

-- the last of the first low + i, and of one more
pub one_more : (l : List ℕ) (a low i n : ℕ) → rising_from 0 l ≡ true → 1 ≤ i → low + i < length l → n ≡ min (rank l (suc a)) (low + i) - 1
    → n + bool_byte (leb (get_or l (low + i) 0) a) ≡ min (rank l (suc a)) (low + (i + 1)) - 1
one_more l a low i n r h k e = go (leb (get_or l (low + i) 0) a) (at-most-rank l a (low + i) r k)
  where
    go : (t : Bool) → t ≡ ltb (low + i) (rank l (suc a)) → n + bool_byte t ≡ min (rank l (suc a)) (low + (i + 1)) - 1
    go true q = omega (arith, ltb-true (low + i) (rank l (suc a)) (sym q))
    go false q = omega (arith, ltb-false (low + i) (rank l (suc a)) (sym q))
