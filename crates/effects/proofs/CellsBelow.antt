-- RET's two cells below R9: among rising addresses they stand side by side.
use Rattle.std.specs.Prelude.{Ok, Err}
use Prim.Native.Nat.{ℕ, suc, ◌+◌, ◌-◌, ◌≤◌, ◌<◌}
use mathlib.Core.Path.{◌≡◌, refl, sym, ap, ◌∙◌}
use mathlib.Core.Bool.{Bool, true, false, ◌&&◌}
use mathlib.Core.List.{List}
use native.Mathlib.Omega.{arith}
use lib.Dec.{leb, eqb}
use lib.ListN.{length, get_or, take}
use borrow.Author.Tests.{leb-true, leb-false, eqb-true, eqb-false, le-leb, lt-leb}
use Rattle.rules.specs.declared.Held.{Held}
use Rattle.rules.specs.declared.Refusal.TheVariants.{CellAbsent}
use Rattle.rules.specs.Results.{refuse, pass, require}
use Rattle.rules.specs.Memory.{Content, absent, present, held}
use Rattle.rules.specs.Cells.{Cells, get, number_cells, mark_cells}
use Rattle.rules.specs.Step.{content_value, read_below}
use Rattle.rules.specs.Guarded.{cell_mark}
use Rattle.rules.specs.Entry.{rising_from}
use Rattle.rules.proofs.Laws.BoolLaws.{and_left, and_right}
use Rattle.hardware.specs.Buffers.{rank, found_of, cells_of, mark_cells_of, Ordered}
use Rattle.hardware.proofs.RankLaws.{rank-next}
use Rattle.hardware.proofs.PlaceLaws.{found_at}
use Rattle.hardware.proofs.SearchLaws.{found-present, found-other, found-end}
use Rattle.hardware.proofs.BufferLaws.{get-found, get_absent, mark-found}
use Rattle.effects.specs.Effects.{SetRegister, Refuse}
use Rattle.effects.specs.Changes.{on_result, sink_where, returns_from}

-- the place behind that of an address is the next address's, where `Addresses::is_next` looks
module _ (l : List ℕ) (o : rising_from 0 l ≡ true) (a i b : ℕ) (f : found_of l a ≡ Ok i) (p : b ≡ suc a) where
  next-rank : i + 1 ≡ rank l b
  next-rank =
      let g = found_at l a i f in
      let k : rank l (suc a) ≡ suc (rank l a) = rw g.0 at (rank-next 0 l a o) in
      let r : rank l b ≡ suc i = ap (rank l) p ∙ k ∙ ap suc g.1 in
      omega arith

  abbrev is_next : Bool
  is_next = leb (i + 2) (length l) && eqb (get_or l (i + 1) 0) b

  pub next-present : is_next ≡ true → found_of l b ≡ Ok (i + 1)
  next-present h =
      let k = leb-true (i + 2) (length l) (and_left (leb (i + 2) (length l)) _ h) in
      sym (found-present l o b (i + 1) next-rank (omega arith) (eqb-true (get_or l (i + 1) 0) b (and_right (leb (i + 2) (length l)) _ h)))

  pub next-absent : is_next ≡ false → found_of l b ≡ Err (i + 1)
  next-absent = go (leb (i + 2) (length l)) refl
    where
      go : (s : Bool) → leb (i + 2) (length l) ≡ s → (s && eqb (get_or l (i + 1) 0) b) ≡ false → found_of l b ≡ Err (i + 1)
      go true e h = sym (found-other l o b (i + 1) next-rank (eqb-false (get_or l (i + 1) 0) b h))
      go false e h =
          let k = leb-false (i + 2) (length l) e in
          sym (found-end l o b (i + 1) next-rank (omega arith))

module _ (guarded : Bool) (n : ℕ) (xs ns ms ts : List ℕ) (o : Ordered guarded n xs ns ms ts) (r : ℕ) where
  abbrev c : Cells Held
  c = cells_of n xs ns ms

  abbrev t : Cells ℕ
  t = mark_cells_of n xs ts

  below-present : (k i : ℕ) → k ≤ r → found_of (take n xs) (r - k) ≡ Ok i → read_below number_cells c r k ≡ pass (held (get_or ns i 0) (get_or ms i 0))
  unfolding require
  below-present k i h f = rw (le-leb k r h, get-found n xs ns ms o.addresses o.level o.moment_level (r - k) i f)

  mark-told : (a i : ℕ) → found_of (take n xs) a ≡ Ok i → (guarded && cell_mark mark_cells t a) ≡ (guarded && eqb (get_or ts i 0) 1)
  mark-told a i f = go guarded refl
    where
      go : (s : Bool) → guarded ≡ s → (s && cell_mark mark_cells t a) ≡ (s && eqb (get_or ts i 0) 1)
      go true e = rw (mark-found n xs ts o.addresses (o.mark_level e) a i f)
      go false e = refl

  below-absent : (k i : ℕ) → found_of (take n xs) (r - k) ≡ Err i → read_below number_cells c r k ≡ refuse CellAbsent
  unfolding require
  below-absent k i f = rw (get_absent n xs ns ms o.addresses o.level o.moment_level (r - k) i f) (go (leb k r))
    where
      go : (s : Bool) → require s CellAbsent (content_value number_cells absent) ≡ refuse CellAbsent
      go true = refl
      go false = refl

  -- where one of them is absent

  pub first_absent : (i : ℕ) → found_of (take n xs) (r - 1) ≡ Err i → returns_from guarded c t r ≡ Refuse CellAbsent
  unfolding on_result
  first_absent i f = rw (below-absent 1 i f)

  second-refuses : read_below number_cells c r 2 ≡ refuse CellAbsent → returns_from guarded c t r ≡ Refuse CellAbsent
  unfolding require on_result
  second-refuses e = rw e (go (leb 1 r) (get c (r - 1)))
    where
      go : (s : Bool) (q : Content Held) → on_result (require s CellAbsent (content_value number_cells q)) (λ pc. Refuse CellAbsent) ≡ Refuse CellAbsent
      go true absent = refl
      go true (present m) = refl
      go false q = refl

  pub second-absent : (i : ℕ) → found_of (take n xs) (r - 2) ≡ Err i → returns_from guarded c t r ≡ Refuse CellAbsent
  second-absent i f = second-refuses (below-absent 2 i f)

  pub no_second : r < 2 → returns_from guarded c t r ≡ Refuse CellAbsent
  unfolding require
  no_second h = second-refuses (rw (lt-leb 2 r h))

  -- where both are present
  pub both-present : (i j : ℕ) → 2 ≤ r → found_of (take n xs) (r - 2) ≡ Ok i → found_of (take n xs) (r - 1) ≡ Ok j
      → returns_from guarded c t r
      ≡ sink_where (guarded && eqb (get_or ts j 0) 1) (SetRegister 9 (get_or ns i 0) (guarded && eqb (get_or ts i 0) 1) (get_or ns j 0))
  unfolding on_result
  both-present i j h f g =
      rw (below-present 1 j (omega arith) g, below-present 2 i h f, mark-told (r - 1) j g, mark-told (r - 2) i f)
