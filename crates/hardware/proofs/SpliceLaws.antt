-- Values stored from an address on: they are one splice, of what lies below the address, the values, and what lies behind the last of them.
use Prim.Native.Nat.{ℕ, zero, suc, ◌+◌, ◌≤◌, ◌<◌}
use mathlib.Core.Path.{◌≡◌, refl, sym, ap, ◌∙◌}
use mathlib.Core.Bool.{Bool, true, false}
use mathlib.Core.List.{List, [], ◌∷◌, ◌++◌}
use native.Mathlib.Omega.{arith}
use lib.Dec.{ltb, leb, eqb}
use lib.ListN.{length, get_or, take, drop, take-append-drop}
use lib.Seq.{drop-cons, drop-drop}
use borrow.Author.Tests.{lt-ltb, le-ltb, ltb-true, ltb-false, le-leb, ne_eqb, eqb-true, eqb-false}
use Rattle.rules.specs.Cells.{Cells, none, cell, put, addresses, contents}
use Rattle.rules.specs.Entry.{rising_from}
use Rattle.rules.proofs.Laws.BoolLaws.{and_left, and_right, and-true}
use Rattle.hardware.specs.Buffers.{rank, has, has_all}
use Rattle.hardware.specs.Places.{overwritten, consecutive, spliced}
use Rattle.hardware.proofs.RankLaws.{rising-first, rising-rest, rank_below, rank-next, has-rank}

-- Consecutive addresses

pub length-consecutive : (a n : ℕ) → length (consecutive a n) ≡ n
length-consecutive a zero = refl
length-consecutive a (suc n) = ap suc (length-consecutive (suc a) n)

pub get_or-consecutive : (a n i : ℕ) → i < n → get_or (consecutive a n) i 0 ≡ a + i
get_or-consecutive a zero i h = absurd (omega arith)
get_or-consecutive a (suc n) zero h = omega arith
get_or-consecutive a (suc n) (suc i) h =
    let k : get_or (consecutive (suc a) n) i 0 ≡ suc a + i = get_or-consecutive (suc a) n i (omega arith) in
    omega arith

-- Many cells at once

-- the contents of a buffer beside the addresses, put in from an address on
abbrev pub put_all : Cells ℕ → ℕ → List ℕ → Cells ℕ
put_all c a [] = c
put_all c a (v ∷ vs) = put_all (put c a v) (suc a) vs

-- a cell below the first address stays in front
behind-many : (b w : ℕ) (c : Cells ℕ) (a : ℕ) (vs : List ℕ) → b < a → put_all (cell b w c) a vs ≡ cell b w (put_all c a vs)
behind-many b w c a [] h = refl
behind-many b w c a (v ∷ vs) h =
    rw (le-ltb a b (omega arith), ne_eqb a b (λ e. omega arith)) (behind-many b w (put c a v) (suc a) vs (omega arith))

-- the cells d that are left behind an address, of cells from this address on
record Behind (c : Cells ℕ) (a v : ℕ) (d : Cells ℕ) : Type 0 where
  stored : put c a v ≡ cell a v d
  rises : rising_from (suc a) (addresses d) ≡ true
  addresses_left : (b : ℕ) → a < b → drop (rank (addresses d) b) (addresses d) ≡ drop (rank (addresses c) b) (addresses c)
  contents_left : (b : ℕ) → a < b → drop (rank (addresses d) b) (contents d) ≡ drop (rank (addresses c) b) (contents c)

behind : (c : Cells ℕ) (a v : ℕ) → rising_from a (addresses c) ≡ true → (d : Cells ℕ) × Behind c a v d
behind none a v r = (none, record { stored = refl; rises = refl; addresses_left = λ b h. refl; contents_left = λ b h. refl })
behind (cell b w c) a v r = go (ltb a b) refl (eqb a b) refl
  where
    go : (t : Bool) → ltb a b ≡ t → (u : Bool) → eqb a b ≡ u → (d : Cells ℕ) × Behind (cell b w c) a v d
    go true e u f =
        let h : a < b = ltb-true a b e in (
          cell b w c,
          record {
            stored = rw e;
            rises = and-true (le-leb (suc a) b h) (and_right (leb a b) _ r);
            addresses_left = λ x k. refl;
            contents_left = λ x k. refl;
          },
        )
    go false e true f =
        let q : a ≡ b = eqb-true a b f in (
          c,
          record {
            stored = rw (e, f);
            rises = rw q (rising-rest a b (addresses c) r);
            addresses_left = λ x k. rw (lt-ltb b x (omega arith));
            contents_left = λ x k. rw (lt-ltb b x (omega arith));
          },
        )
    go false e false f =
        let h : a ≤ b = rising-first a b (addresses c) r in
        let k : b ≤ a = ltb-false a b e in
        let m : a ≡ b → ⊥ = eqb-false a b f in
        absurd (m (omega arith))

-- of cells from the first address on
first-many : (c : Cells ℕ) (a : ℕ) (vs : List ℕ) → rising_from a (addresses c) ≡ true
    → (addresses (put_all c a vs) ≡ consecutive a (length vs) ++ drop (rank (addresses c) (a + length vs)) (addresses c))
    × (contents (put_all c a vs) ≡ vs ++ drop (rank (addresses c) (a + length vs)) (contents c))
first-many c a [] r = rw (rank_below a (addresses c) (a + 0) r (omega arith)) (refl, refl)
first-many c a (v ∷ vs) r =
    let f = behind c a v r in
    let b = f.1 in
    let q : suc a + length vs ≡ a + suc (length vs) = omega arith in
    let e : put_all (put c a v) (suc a) vs ≡ cell a v (put_all f.0 (suc a) vs) =
    ap (λ (c : Cells ℕ). put_all c (suc a) vs) b.stored ∙ behind-many a v f.0 (suc a) vs (omega arith) in
    let i = first-many f.0 (suc a) vs b.rises in (
      ap addresses e
          ∙ ap (λ (l : List ℕ). a ∷ l) i.0
          ∙ ap (λ (l : List ℕ). a ∷ (consecutive (suc a) (length vs) ++ l)) (b.addresses_left (suc a + length vs) (omega arith))
          ∙ ap (λ (k : ℕ). a ∷ (consecutive (suc a) (length vs) ++ drop (rank (addresses c) k) (addresses c))) q,
      ap contents e
          ∙ ap (λ (l : List ℕ). v ∷ l) i.1
          ∙ ap (λ (l : List ℕ). v ∷ (vs ++ l)) (b.contents_left (suc a + length vs) (omega arith))
          ∙ ap (λ (k : ℕ). v ∷ (vs ++ drop (rank (addresses c) k) (contents c))) q,
    )

pub spliced-many : (n : ℕ) (c : Cells ℕ) (a : ℕ) (vs : List ℕ) → rising_from n (addresses c) ≡ true
    → (addresses (put_all c a vs) ≡ spliced (rank (addresses c) a) (rank (addresses c) (a + length vs)) (consecutive a (length vs)) (addresses c))
    × (contents (put_all c a vs) ≡ spliced (rank (addresses c) a) (rank (addresses c) (a + length vs)) vs (contents c))
spliced-many n none a vs r = first-many none a vs refl
spliced-many n (cell b w c) a vs r = go (spliced-many (suc b) c a vs (rising-rest n b (addresses c) r)) (ltb b a) refl
  where
    go : (addresses (put_all c a vs) ≡ spliced (rank (addresses c) a) (rank (addresses c) (a + length vs)) (consecutive a (length vs)) (addresses c))
        × (contents (put_all c a vs) ≡ spliced (rank (addresses c) a) (rank (addresses c) (a + length vs)) vs (contents c))
        → (t : Bool) → ltb b a ≡ t
        → (addresses (put_all (cell b w c) a vs)
        ≡ spliced (rank (b ∷ addresses c) a) (rank (b ∷ addresses c) (a + length vs)) (consecutive a (length vs)) (b ∷ addresses c))
        × (contents (put_all (cell b w c) a vs) ≡ spliced (rank (b ∷ addresses c) a) (rank (b ∷ addresses c) (a + length vs)) vs (w ∷ contents c))
    go i true e =
        let h : b < a = ltb-true b a e in
        rw (e, lt-ltb b (a + length vs) (omega arith), behind-many b w c a vs h)
        (ap (λ (l : List ℕ). b ∷ l) i.0, ap (λ (l : List ℕ). w ∷ l) i.1)
    go i false e =
        let h : a ≤ b = ltb-false b a e in
        rw e (first-many (cell b w c) a vs (and-true (le-leb a b h) (and_right (leb n b) _ r)))

-- all are present

-- their addresses stand one behind the other
all_there : (l : List ℕ) (a n : ℕ) → rising_from 0 l ≡ true → has_all l a n ≡ true
    → (rank l (a + n) ≡ rank l a + n) × (drop (rank l a) l ≡ consecutive a n ++ drop (rank l (a + n)) l)
all_there l a zero r h = let e : a + 0 ≡ a = omega arith in rw e (omega arith, refl)
all_there l a (suc n) r h =
    let t : has l a ≡ true = and_left (has l a) _ h in
    let k : rank l (suc a) ≡ suc (rank l a) = rw t at (rank-next 0 l a r) in
    let f = has-rank 0 l a r t in
    let q : suc a + n ≡ a + suc n = omega arith in
    let i = rw q at (all_there l (suc a) n r (and_right (has l a) _ h)) in
    let m : rank l (a + suc n) ≡ rank l (suc a) + n = i.0 in (
      omega arith,
      drop-cons l (rank l a) 0 f.0
          ∙ ap (λ (x : ℕ). x ∷ drop (suc (rank l a)) l) f.1
          ∙ ap (λ (l : List ℕ). a ∷ l) (ap (λ (k : ℕ). drop k l) (sym k) ∙ i.1),
    )

pub present-many : (c : Cells ℕ) (a : ℕ) (vs : List ℕ) → rising_from 0 (addresses c) ≡ true → has_all (addresses c) a (length vs) ≡ true
    → (addresses (put_all c a vs) ≡ addresses c) × (contents (put_all c a vs) ≡ overwritten (rank (addresses c) a) vs (contents c))
present-many c a vs r h =
    let s = spliced-many 0 c a vs r in
    let t = all_there (addresses c) a (length vs) r h in
    let i = rank (addresses c) a in (
      s.0 ∙ ap (λ (l : List ℕ). take i (addresses c) ++ l) (sym t.1) ∙ take-append-drop i (addresses c),
      s.1
          ∙ ap (λ (k : ℕ). spliced i k vs (contents c)) t.0
          ∙ ap (λ (l : List ℕ). take i (contents c) ++ (vs ++ l)) (sym (drop-drop (length vs) i (contents c))),
    )
