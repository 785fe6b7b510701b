-- Among rising addresses: whether an address is there, and how many lie below it.
use Prim.Native.Nat.{ℕ, zero, suc, ◌+◌, ◌≤◌, ◌<◌}
use mathlib.Core.Path.{◌≡◌, refl, sym, ap, ◌∙◌}
use mathlib.Core.Bool.{Bool, true, false, ◌||◌}
use mathlib.Core.List.{List, [], ◌∷◌}
use native.Mathlib.Omega.{arith}
use lib.Dec.{ltb, leb, eqb}
use lib.ListN.{length, get_or}
use borrow.Author.Tests.{lt-ltb, le-ltb, ltb-true, ltb-false, leb-true, leb-false, eq-eqb, ne_eqb, eqb-true, eqb-false}
use mir.Val.{bool_byte}
use Rattle.rules.specs.Numbers.{heap_end, choose}
use Rattle.rules.specs.Entry.{rising_from}
use Rattle.rules.proofs.Laws.BoolLaws.{false-true, and_left, and_right, and-true, or-second}
use Rattle.hardware.specs.Buffers.{rank, last_at_most, has, has_all, missing}

-- Rising lists

pub rising-first : (n a : ℕ) (l : List ℕ) → rising_from n (a ∷ l) ≡ true → n ≤ a
rising-first n a l r = leb-true n a (and_left (leb n a) _ r)

pub rising-rest : (n a : ℕ) (l : List ℕ) → rising_from n (a ∷ l) ≡ true → rising_from (suc a) l ≡ true
rising-rest n a l r = and_right (ltb a heap_end) _ (and_right (leb n a) _ r)

-- addresses rise by one a place at least
pub rising-at : (n : ℕ) (l : List ℕ) (k : ℕ) → rising_from n l ≡ true → k < length l → n + k ≤ get_or l k 0
rising-at n [] k r h = absurd (omega arith)
rising-at n (a ∷ l) zero r h = let q : n ≤ a = rising-first n a l r in omega arith
rising-at n (a ∷ l) (suc k) r h =
    let q : n ≤ a = rising-first n a l r in
    let i : suc a + k ≤ get_or l k 0 = rising-at (suc a) l k (rising-rest n a l r) (omega arith) in
    omega arith

pub rising-apart : (n : ℕ) (l : List ℕ) (i j : ℕ) → rising_from n l ≡ true → i ≤ j → j < length l → get_or l i 0 + j ≤ get_or l j 0 + i
rising-apart n [] i j r h k = absurd (omega arith)
rising-apart n (a ∷ l) zero zero r h k = omega arith
rising-apart n (a ∷ l) zero (suc j) r h k =
    let q : suc a + j ≤ get_or l j 0 = rising-at (suc a) l j (rising-rest n a l r) (omega arith) in
    let m : a + suc j ≤ get_or l j 0 + 0 = omega arith in
    m
rising-apart n (a ∷ l) (suc i) zero r h k = absurd (omega arith)
rising-apart n (a ∷ l) (suc i) (suc j) r h k =
    let q : get_or l i 0 + j ≤ get_or l j 0 + i = rising-apart (suc a) l i j (rising-rest n a l r) (omega arith) (omega arith) in
    let m : get_or l i 0 + suc j ≤ get_or l j 0 + suc i = omega arith in
    m

-- The rank

rank-first : (t : Bool) {n m : ℕ} → n ≤ m → choose t (suc n) zero ≤ suc m
rank-first true h = omega arith
rank-first false h = omega arith

pub rank-length : (l : List ℕ) (a : ℕ) → rank l a ≤ length l
rank-length [] a = omega arith
rank-length (b ∷ l) a = rank-first (ltb b a) (rank-length l a)

-- a place whose address is not below has no more in front of it
rank-le : (l : List ℕ) (a m : ℕ) → a ≤ get_or l m 0 → rank l a ≤ m
rank-le [] a m h = omega arith
rank-le (b ∷ l) a zero h = rw (le-ltb b a h) (omega arith)
rank-le (b ∷ l) a (suc m) h = rank-first (ltb b a) (rank-le l a m h)

pub rank-gt : (n : ℕ) (l : List ℕ) (a m : ℕ) → rising_from n l ≡ true → m < length l → get_or l m 0 < a → m < rank l a
rank-gt n [] a m r h k = absurd (omega arith)
rank-gt n (b ∷ l) a zero r h k = rw (lt-ltb b a k) (omega arith)
rank-gt n (b ∷ l) a (suc m) r h k =
    let q : suc b + m ≤ get_or l m 0 = rising-at (suc b) l m (rising-rest n b l r) (omega arith) in
    let i : m < rank l a = rank-gt (suc b) l a m (rising-rest n b l r) (omega arith) k in
    rw (lt-ltb b a (omega arith)) (omega arith)

-- none lies below the first
pub rank_below : (n : ℕ) (l : List ℕ) (a : ℕ) → rising_from n l ≡ true → a ≤ n → rank l a ≡ 0
rank_below n [] a r h = refl
rank_below n (b ∷ l) a r h = let q : n ≤ b = rising-first n b l r in rw (le-ltb b a (omega arith))

-- what stands at the rank is not below
pub rank-at : (l : List ℕ) (a : ℕ) → rank l a < length l → a ≤ get_or l (rank l a) 0
rank-at [] a h = absurd (omega arith)
rank-at (b ∷ l) a h = go (rank-at l a) (ltb b a) refl h
  where
    go : (rank l a < length l → a ≤ get_or l (rank l a) 0) → (t : Bool) → ltb b a ≡ t → choose t (suc (rank l a)) zero < suc (length l)
        → a ≤ get_or (b ∷ l) (choose t (suc (rank l a)) zero) 0
    go k true e h = k (omega arith)
    go k false e h = ltb-false b a e

-- an address is at most another where its place lies before the rank of the next
pub at-most-rank : (l : List ℕ) (a i : ℕ) → rising_from 0 l ≡ true → i < length l → leb (get_or l i 0) a ≡ ltb i (rank l (suc a))
at-most-rank l a i r h = go (leb (get_or l i 0) a) refl
  where
    go : (t : Bool) → leb (get_or l i 0) a ≡ t → t ≡ ltb i (rank l (suc a))
    go true e = let k : get_or l i 0 ≤ a = leb-true _ _ e in sym (lt-ltb i _ (rank-gt 0 l (suc a) i r h (omega arith)))
    go false e = sym (le-ltb i _ (rank-le l (suc a) i (leb-false _ _ e)))

-- an address that stands at a place has this rank
pub rank-here : (l : List ℕ) (a i : ℕ) → rising_from 0 l ≡ true → i < length l → get_or l i 0 ≡ a → rank l a ≡ i
rank-here l a zero r h e = let k : rank l a ≤ 0 = rank-le l a 0 (omega arith) in omega arith
rank-here l a (suc i) r h e =
    let k : rank l a ≤ suc i = rank-le l a (suc i) (omega arith) in
    let q : get_or l i 0 + suc i ≤ get_or l (suc i) 0 + i = rising-apart 0 l i (suc i) r (omega arith) h in
    let m : i < rank l a = rank-gt 0 l a i r (omega arith) (omega arith) in
    omega arith

-- Being there

pub has-at : (l : List ℕ) (a i : ℕ) → i < length l → get_or l i 0 ≡ a → has l a ≡ true
has-at [] a i h e = absurd (omega arith)
has-at (b ∷ l) a zero h e = rw (eq-eqb b a e)
has-at (b ∷ l) a (suc i) h e = or-second (eqb b a) (has-at l a i (omega arith) e)

has-below : (n : ℕ) (l : List ℕ) (a : ℕ) → rising_from n l ≡ true → a < n → has l a ≡ false
has-below n [] a r h = refl
has-below n (b ∷ l) a r h =
    let q : n ≤ b = rising-first n b l r in
    rw (ne_eqb b a (λ e. omega arith)) (has-below (suc b) l a (rising-rest n b l r) (omega arith))

pub has-rank : (n : ℕ) (l : List ℕ) (a : ℕ) → rising_from n l ≡ true → has l a ≡ true → (rank l a < length l) × (get_or l (rank l a) 0 ≡ a)
has-rank n [] a r h = absurd (false-true h)
has-rank n (b ∷ l) a r h = go (has-rank (suc b) l a (rising-rest n b l r)) (eqb b a) refl h
  where
    go : (has l a ≡ true → (rank l a < length l) × (get_or l (rank l a) 0 ≡ a)) → (t : Bool) → eqb b a ≡ t → (t || has l a) ≡ true
        → (rank (b ∷ l) a < suc (length l)) × (get_or (b ∷ l) (rank (b ∷ l) a) 0 ≡ a)
    go k true e h = let q : b ≡ a = eqb-true b a e in rw (le-ltb b a (omega arith)) (omega arith, q)
    go k false e h =
        let i = k h in
        let q : suc b + rank l a ≤ get_or l (rank l a) 0 = rising-at (suc b) l (rank l a) (rising-rest n b l r) i.0 in
        let j : get_or l (rank l a) 0 ≡ a = i.1 in
        let m : rank l a < length l = i.0 in
        rw (lt-ltb b a (omega arith)) (omega arith, j)

-- an address is there where it stands at its rank
pub has-none : (l : List ℕ) (a : ℕ) → rising_from 0 l ≡ true → (rank l a < length l → get_or l (rank l a) 0 ≡ a → ⊥) → has l a ≡ false
has-none l a r n = go (has l a) refl
  where
    go : (t : Bool) → has l a ≡ t → t ≡ false
    go true e = let i = has-rank 0 l a r e in absurd (n i.0 i.1)
    go false e = refl

-- the rank of the next address
pub rank-next : (n : ℕ) (l : List ℕ) (a : ℕ) → rising_from n l ≡ true → rank l (suc a) ≡ choose (has l a) (suc (rank l a)) (rank l a)
rank-next n [] a r = refl
rank-next n (b ∷ l) a r = go (rank-next (suc b) l a (rising-rest n b l r)) (ltb b a) refl (eqb b a) refl
  where
    last : (t : Bool) → suc (choose t (suc (rank l a)) (rank l a)) ≡ choose t (suc (suc (rank l a))) (suc (rank l a))
    last true = refl
    last false = refl

    go : rank l (suc a) ≡ choose (has l a) (suc (rank l a)) (rank l a) → (t : Bool) → ltb b a ≡ t → (u : Bool) → eqb b a ≡ u
        → choose (ltb b (suc a)) (suc (rank l (suc a))) zero ≡ choose (u || has l a) (suc (choose t (suc (rank l a)) zero)) (choose t (suc (rank l a)) zero)
    go h true e true f = let q : b ≡ a = eqb-true b a f in let k : b < a = ltb-true b a e in absurd (omega arith)
    go h true e false f = let k : b < a = ltb-true b a e in rw (lt-ltb b (suc a) (omega arith), h) (last (has l a))
    go h false e true f =
        let q : b ≡ a = eqb-true b a f in
        rw (lt-ltb b (suc a) (omega arith), h, has-below (suc b) l a (rising-rest n b l r) (omega arith))
        (let k : rank l a ≡ 0 = rank_below (suc b) l a (rising-rest n b l r) (omega arith) in omega arith)
    go h false e false f =
        let k : a ≤ b = ltb-false b a e in
        let m : b ≡ a → ⊥ = eqb-false b a f in
        rw (le-ltb b (suc a) (omega arith), has-below (suc b) l a (rising-rest n b l r) (omega arith))

-- The place of the last that is at most an address

pub byte-most : (t : Bool) → bool_byte t ≤ 1
byte-most true = omega arith
byte-most false = omega arith

-- the next address has the same rank or the next
rank-near : (t : Bool) {n m : ℕ} → n ≡ choose t (suc m) m → (m ≤ n) × (n ≤ suc m)
rank-near true e = omega arith
rank-near false e = omega arith

module _ (l : List ℕ) (a i : ℕ) (r : rising_from 0 l ≡ true) (e : i ≡ last_at_most l a) where
  -- an address that does not stand at this place is not there
  pub last-other : (get_or l i 0 ≡ a → ⊥) → has l a ≡ false
  last-other f = go (has l a) refl
    where
      go : (t : Bool) → has l a ≡ t → t ≡ false
      go true t =
          let n : rank l (suc a) ≡ suc (rank l a) = rw t at (rank-next 0 l a r) in
          let q : i ≡ rank l a = omega arith in
          absurd (f (ap (λ (i : ℕ). get_or l i 0) q ∙ (has-rank 0 l a r t).1))
      go false t = refl

  -- the rank of an address is this place, or the next where a lower one stands here
  pub last-rank : i < length l → i + bool_byte (ltb (get_or l i 0) a) ≡ rank l a
  last-rank h = go (ltb (get_or l i 0) a) refl
    where
      go : (t : Bool) → ltb (get_or l i 0) a ≡ t → i + bool_byte t ≡ rank l a
      go true t = omega (arith, rank-near (has l a) (rank-next 0 l a r), rank-gt 0 l a i r h (ltb-true _ _ t))
      go false t = omega (arith, rank-near (has l a) (rank-next 0 l a r), rank-le l a i (ltb-false _ _ t))

  pub last_none : length l ≤ i → i ≡ rank l a
  last_none h = omega (arith, rank-length l (suc a), rank-length l a)

-- A span

-- all are there where the last stands as far from the first one's rank as it should
pub last-there : (l : List ℕ) (a m i : ℕ) → rising_from 0 l ≡ true → i ≡ rank l a + m → i < length l → get_or l i 0 ≡ a + m → has_all l a (suc m) ≡ true
last-there l a zero i r e h g = and-true (has-at l a i h (omega arith)) refl
last-there l a (suc m) i r e h g =
    let j : get_or l (rank l a) 0 + i ≤ get_or l i 0 + rank l a = rising-apart 0 l (rank l a) i r (omega arith) h in
    let k : a ≤ get_or l (rank l a) 0 = rank-at l a (omega arith) in
    let q : has l a ≡ true = has-at l a (rank l a) (omega arith) (omega arith) in
    let n : rank l (suc a) ≡ suc (rank l a) = rw q at (rank-next 0 l a r) in
    and-true q (last-there l (suc a) m i r (omega arith) h (omega arith))

pub there-last : (l : List ℕ) (a m i : ℕ) → rising_from 0 l ≡ true → i ≡ rank l a + m → has_all l a (suc m) ≡ true → (i < length l) × (get_or l i 0 ≡ a + m)
there-last l a zero i r e h =
    let f = has-rank 0 l a r (and_left (has l a) _ h) in
    let k : rank l a < length l = f.0 in
    let q : i ≡ rank l a = omega arith in
    let z : a ≡ a + 0 = omega arith in
    (omega arith, ap (λ (i : ℕ). get_or l i 0) q ∙ f.1 ∙ z)
there-last l a (suc m) i r e h =
    let n : rank l (suc a) ≡ suc (rank l a) = rw (and_left (has l a) _ h) at (rank-next 0 l a r) in
    let f = there-last l (suc a) m i r (omega arith) (and_right (has l a) _ h) in
    let k : i < length l = f.0 in
    let q : get_or l i 0 ≡ suc a + m = f.1 in
    (k, omega arith)

-- those that are there lie between two ranks
pub missing-ranks : (l : List ℕ) (a n b : ℕ) → rising_from 0 l ≡ true → b ≡ a + n → missing l a n + rank l b ≡ n + rank l a
missing-ranks l a zero b r e = let q : b ≡ a = omega arith in rw q (omega arith)
missing-ranks l a (suc n) b r e = go (has l a) (rank-next 0 l a r) (missing-ranks l (suc a) n b r (omega arith))
  where
    go : (t : Bool) → rank l (suc a) ≡ choose t (suc (rank l a)) (rank l a) → missing l (suc a) n + rank l b ≡ n + rank l (suc a)
        → choose t (missing l (suc a) n) (suc (missing l (suc a) n)) + rank l b ≡ suc n + rank l a
    go true h k = omega arith
    go false h k = omega arith

pub missing-most : (l : List ℕ) (a n : ℕ) → missing l a n ≤ n
missing-most l a zero = omega arith
missing-most l a (suc n) = go (has l a) (missing-most l (suc a) n)
  where
    go : (t : Bool) → missing l (suc a) n ≤ n → choose t (missing l (suc a) n) (suc (missing l (suc a) n)) ≤ suc n
    go true h = omega arith
    go false h = omega arith

pub rank_mono : (l : List ℕ) (a b : ℕ) → a ≤ b → rank l a ≤ rank l b
rank_mono [] a b h = omega arith
rank_mono (c ∷ l) a b h = go (rank_mono l a b h) (ltb c a) refl
  where
    go : rank l a ≤ rank l b → (t : Bool) → ltb c a ≡ t → choose t (suc (rank l a)) zero ≤ rank (c ∷ l) b
    go k true e = let q : c < a = ltb-true c a e in rw (lt-ltb c b (omega arith)) (omega arith)
    go k false e = omega arith
