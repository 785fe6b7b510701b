-- Cells read through their addresses: one cell, and a span of cells, whose contents stand side by side.
use Prim.Native.Nat.{ℕ, zero, suc, ◌+◌, ◌≤◌, ◌<◌}
use mathlib.Core.Path.{◌≡◌, refl, sym, ◌∙◌}
use mathlib.Core.Bool.{Bool, true, false, ◌&&◌, ◌||◌}
use mathlib.Core.List.{◌∷◌}
use native.Mathlib.Omega.{arith}
use lib.Dec.{eqb}
use lib.ListN.{length, get_or, take, drop}
use lib.Seq.{drop-cons}
use borrow.Author.Tests.{lt-ltb, le-ltb, eqb-true}
use Rattle.rules.specs.declared.Refusal.TheVariants.{CellAbsent}
use Rattle.rules.specs.declared.Held.{Held}
use Rattle.rules.specs.Numbers.{choose}
use Rattle.rules.specs.Results.{refuse, pass, bind}
use Rattle.rules.specs.Memory.{Content, absent, present, held}
use Rattle.rules.specs.Cells.{Cells, none, cell, get, count, addresses, contents, number_cells, mark_cells}
use Rattle.rules.specs.PlainMap.{is_present}
use Rattle.rules.specs.Step.{read_many}
use Rattle.rules.specs.Guarded.{span_mark}
use Rattle.rules.specs.Entry.{rising_from}
use Rattle.rules.proofs.Laws.BoolLaws.{false-true, and_left, and_right}
use Rattle.rules.proofs.Laws.CellLaws.{length-addresses, length-contents}
use Rattle.hardware.specs.Buffers.{rank, has, has_all, any_mark}
use Rattle.hardware.proofs.RankLaws.{rising-rest, rising-at, rank-length, has-rank, rank-next}

-- One cell

-- an address is present where it is one of the addresses
pub present-has : {A : Type 0} (c : Cells A) (a : ℕ) → is_present (get c a) ≡ has (addresses c) a
present-has none a = refl
present-has (cell b w c) a = go (present-has c a) (eqb b a)
  where
    go : is_present (get c a) ≡ has (addresses c) a → (t : Bool) → is_present (choose t (present w) (get c a)) ≡ (t || has (addresses c) a)
    go h true = refl
    go h false = h

pub absent-get : {A : Type 0} (c : Cells A) (a : ℕ) → has (addresses c) a ≡ false → get c a ≡ absent
absent-get {A} c a e = go (get c a) (present-has c a ∙ e)
  where
    go : (s : Content A) → is_present s ≡ false → s ≡ absent
    go absent e = refl
    go (present v) e = absurd (false-true (sym e))

-- what is present stands at the address's rank
pub present-get : {A : Type 0} (d : A) (n : ℕ) (c : Cells A) (a : ℕ) → rising_from n (addresses c) ≡ true → has (addresses c) a ≡ true
    → get c a ≡ present (get_or (contents c) (rank (addresses c) a) d)
present-get d n none a r h = absurd (false-true h)
present-get d n (cell b w c) a r h = go (present-get d (suc b) c a (rising-rest n b (addresses c) r)) (eqb b a) refl h
  where
    go : (has (addresses c) a ≡ true → get c a ≡ present (get_or (contents c) (rank (addresses c) a) d)) → (t : Bool) → eqb b a ≡ t
        → (t || has (addresses c) a) ≡ true → choose t (present w) (get c a) ≡ present (get_or (w ∷ contents c) (rank (b ∷ addresses c) a) d)
    go k true e h = let q : b ≡ a = eqb-true b a e in rw (le-ltb b a (omega arith))
    go k false e h =
        let i = has-rank (suc b) (addresses c) a (rising-rest n b (addresses c) r) h in
        let q : suc b + rank (addresses c) a ≤ get_or (addresses c) (rank (addresses c) a) 0 = rising-at (suc b) (addresses c) (rank (addresses c) a) (rising-rest n b (addresses c) r) i.0 in
        let j : get_or (addresses c) (rank (addresses c) a) 0 ≡ a = i.1 in
        rw (lt-ltb b a (omega arith)) (k h)

-- A span

module _ {A : Type 0} (c : Cells A) (r : rising_from 0 (addresses c) ≡ true) where
  -- the contents from a present cell on
  contents-from : (d : A) (a : ℕ) → has (addresses c) a ≡ true
      → drop (rank (addresses c) a) (contents c) ≡ get_or (contents c) (rank (addresses c) a) d ∷ drop (rank (addresses c) (suc a)) (contents c)
  contents-from d a h =
      let i : rank (addresses c) a < length (addresses c) = (has-rank 0 (addresses c) a r h).0 in
      let j : length (addresses c) ≡ length (contents c) = length-addresses c ∙ sym (length-contents c) in
      rw (rank-next 0 (addresses c) a r, h) (drop-cons (contents c) (rank (addresses c) a) d (omega arith))

  pub span-within : (a n : ℕ) → has_all (addresses c) a n ≡ true → rank (addresses c) a + n ≤ count c
  span-within a zero h =
      let i : rank (addresses c) a ≤ length (addresses c) = rank-length (addresses c) a in
      let j : length (addresses c) ≡ count c = length-addresses c in
      omega arith
  span-within a (suc n) h =
      let k : rank (addresses c) (suc a) ≡ suc (rank (addresses c) a) = rw (and_left (has (addresses c) a) _ h) at (rank-next 0 (addresses c) a r) in
      let i : rank (addresses c) (suc a) + n ≤ count c = span-within (suc a) n (and_right (has (addresses c) a) _ h) in
      omega arith

module _ (c : Cells Held) (r : rising_from 0 (addresses c) ≡ true) where
  pub span-values : (a n : ℕ) → has_all (addresses c) a n ≡ true
      → read_many number_cells c a n ≡ pass (take n (drop (rank (addresses c) a) (contents c)))
  unfolding read_many bind
  span-values a zero h = refl
  span-values a (suc n) h =
      let e : has (addresses c) a ≡ true = and_left (has (addresses c) a) _ h in
      rw (present-get (held 0 0) 0 c a r e, span-values (suc a) n (and_right (has (addresses c) a) _ h), contents-from c r (held 0 0) a e)

  pub span-absent : (a n : ℕ) → has_all (addresses c) a n ≡ false → read_many number_cells c a n ≡ refuse CellAbsent
  unfolding read_many bind
  span-absent a zero h = absurd (false-true (sym h))
  span-absent a (suc n) h = go (span-absent (suc a) n) (has (addresses c) a) refl h
    where
      go : (has_all (addresses c) (suc a) n ≡ false → read_many number_cells c (suc a) n ≡ refuse CellAbsent) → (t : Bool) → has (addresses c) a ≡ t
          → (t && has_all (addresses c) (suc a) n) ≡ false → read_many number_cells c a (suc n) ≡ refuse CellAbsent
      go k true e h = rw (present-get (held 0 0) 0 c a r e, k h)
      go k false e h = rw (absent-get c a e)

pub span-mark : (t : Cells ℕ) → rising_from 0 (addresses t) ≡ true → (a n : ℕ) → has_all (addresses t) a n ≡ true
    → span_mark mark_cells t a n ≡ any_mark (take n (drop (rank (addresses t) a) (contents t)))
unfolding span_mark
span-mark t r a zero h = refl
span-mark t r a (suc n) h =
    let e : has (addresses t) a ≡ true = and_left (has (addresses t) a) _ h in
    rw (present-get 0 0 t a r e, span-mark t r (suc a) n (and_right (has (addresses t) a) _ h), contents-from t r 0 a e)
