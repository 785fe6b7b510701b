-- Cells in buffers, in the words of the contracts: what is found, where a span stands, what has capacity, what is read and what is stored.
use Rattle.std.specs.Prelude.{Option, Some, None, Ok, Err, ◌&&◌}
use Prim.Native.Nat.{ℕ, suc, ◌+◌, ◌≤◌, ◌<◌}
use mathlib.Core.Path.{◌≡◌, refl, sym, ap, subst, ◌∙◌}
use mathlib.Core.Bool.{Bool, true, false}
use mathlib.Core.List.{List, [], ◌∷◌, ◌++◌}
use native.Mathlib.Numerals.{add-one}
use native.Mathlib.Omega.{arith}
use lib.Dec.{eqb}
use lib.ListN.{length, get_or, set, take, drop}
use lib.Seq.{length-take-le, get_or-take, split_at, set_split}
use Rattle.rules.specs.declared.Held.{Held}
use Rattle.rules.specs.Numbers.{choose, bit}
use Rattle.rules.specs.Memory.{absent, present, held, numbers_of, moments_of, held_of}
use Rattle.rules.specs.Cells.{Cells, get, put, count, addresses, contents, zipped, mark_cells}
use Rattle.rules.specs.Guarded.{cell_mark}
use Rattle.rules.specs.Step.{overlay}
use Rattle.rules.specs.Entry.{rising_from}
use Rattle.rules.proofs.Laws.CellLaws.{length-addresses, addresses-zipped, contents-zipped}
use Rattle.rules.proofs.Laws.HeldLaws.{numbers-held, moments-held, length-held, get_or-held, mapped, addresses-mapped, contents-mapped, count-mapped, put-mapped, zipped-mapped}
use Rattle.hardware.specs.declared.cells.Cell.{Cell}
use Rattle.hardware.specs.Buffers.{rank, has, found_of, has_all, cells_of, mark_cells_of, cell_of, put_many, Rising, Ordered, Holding}
use Rattle.hardware.specs.Places.{insert_at, filled, consecutive, spliced}
use Rattle.hardware.proofs.RankLaws.{rank-length, rank-next, has-rank}
use Rattle.hardware.proofs.SearchLaws as search
use Rattle.hardware.proofs.SpanLaws.{absent-get, present-get}
use Rattle.hardware.proofs.SpliceLaws.{put_all, spliced-many}
use Rattle.hardware.proofs.PlaceLaws.{insert-spliced, found_at, found-absent, found_below}
use Rattle.hardware.proofs.WriteLaws.{overlay-set, overlay-taken, length-put-in}

-- Searches

-- among the used addresses of a buffer
module _ (n : ℕ) (xs : List ℕ) (o : Rising n xs) (a i : ℕ) where
  used : length (take n xs) ≡ n
  used = length-take-le n xs o.within

  -- a place that is found lies among the used ones, and one where an address would go not behind them
  pub found_within : Ok i ≡ found_of (take n xs) a → i < n
  found_within e = subst (λ (k : ℕ). i < k) used (found_below (take n xs) a i o.rises (sym e))

  pub rank-used : i ≡ rank (take n xs) a → i ≤ n
  rank-used e = omega (arith, used, rank-length (take n xs) a)

  pub absent-within : Err i ≡ found_of (take n xs) a → i ≤ n
  absent-within e = rank-used (sym (found-absent (take n xs) a i (sym e)).1)

  module _ (e : i ≡ rank (take n xs) a) where
    pub found-present : i < n → get_or xs i 0 ≡ a → Ok i ≡ found_of (take n xs) a
    found-present h g = search.found-present (take n xs) o.rises a i e (omega (arith, used)) (get_or-take n xs i 0 h ∙ g)

    pub found-other : i < n → (get_or xs i 0 ≡ a → ⊥) → Err i ≡ found_of (take n xs) a
    found-other h f = search.found-other (take n xs) o.rises a i e (λ g. f (sym (get_or-take n xs i 0 h) ∙ g))

    pub found-end : n ≤ i → Err i ≡ found_of (take n xs) a
    found-end h = search.found-end (take n xs) o.rises a i e (omega (arith, used))

    pub span-ends : (m : ℕ) → has_all (take n xs) a m ≡ true → i + m ≤ n
    span-ends m h = omega (arith, used, search.span-ends (take n xs) o.rises a i e m h)

-- Contents beside the addresses

module _ {A : Type 0} (n : ℕ) (xs : List ℕ) (vs : List A) (o : Rising n xs) (l : length vs ≡ n) where
  beside-addresses : addresses (zipped (take n xs) vs) ≡ take n xs
  beside-addresses = let k : length (take n xs) ≡ n = length-take-le n xs o.within in addresses-zipped (take n xs) vs (omega arith)

  beside-contents : contents (zipped (take n xs) vs) ≡ vs
  beside-contents = contents-zipped (take n xs) vs (length-take-le n xs o.within ∙ sym l)

  beside-rises : rising_from 0 (addresses (zipped (take n xs) vs)) ≡ true
  beside-rises = ap (rising_from 0) beside-addresses ∙ o.rises

  beside-found : (d : A) (a i : ℕ) → found_of (take n xs) a ≡ Ok i → get (zipped (take n xs) vs) a ≡ present (get_or vs i d)
  beside-found d a i f =
      let q = found_at (take n xs) a i f in
      present-get d 0 (zipped (take n xs) vs) a beside-rises (ap (λ (l : List ℕ). has l a) beside-addresses ∙ q.0)
      ∙ ap present (ap (λ (l : List A). get_or l (rank (addresses (zipped (take n xs) vs)) a) d) beside-contents
      ∙ ap (λ (k : ℕ). get_or vs k d) (ap (λ (l : List ℕ). rank l a) beside-addresses ∙ q.1))

  beside-absent : (a i : ℕ) → found_of (take n xs) a ≡ Err i → get (zipped (take n xs) vs) a ≡ absent
  beside-absent a i f =
      absent-get (zipped (take n xs) vs) a (ap (λ (l : List ℕ). has l a) beside-addresses ∙ (found-absent (take n xs) a i f).0)

-- One buffer: the marks, and by themselves the numbers or the moments

module _ (n : ℕ) (xs bs : List ℕ) (o : Rising n xs) (l : length bs ≡ length xs) where
  used-length : length (take n bs) ≡ n
  used-length = let w : n ≤ length xs = o.within in length-take-le n bs (omega arith)

  pub mark-addresses : addresses (mark_cells_of n xs bs) ≡ take n xs
  mark-addresses = beside-addresses n xs (take n bs) o used-length

  pub mark-contents : contents (mark_cells_of n xs bs) ≡ take n bs
  mark-contents = beside-contents n xs (take n bs) o used-length

  pub mark-rises : rising_from 0 (addresses (mark_cells_of n xs bs)) ≡ true
  mark-rises = beside-rises n xs (take n bs) o used-length

  pub mark-found : (a i : ℕ) → found_of (take n xs) a ≡ Ok i → get (mark_cells_of n xs bs) a ≡ present (get_or bs i 0)
  mark-found a i f =
      beside-found n xs (take n bs) o used-length 0 a i f ∙ ap present (get_or-take n bs i 0 (found_within n xs o a i (sym f)))

  -- what is stored is one splice

  pub splice : (a k : ℕ) (vs : List ℕ) → k ≡ length vs → (low high : ℕ) → low ≡ rank (take n xs) a → high ≡ rank (take n xs) (a + k)
      → (addresses (put_all (mark_cells_of n xs bs) a vs) ≡ spliced low high (consecutive a k) (take n xs))
      × (contents (put_all (mark_cells_of n xs bs) a vs) ≡ spliced low high vs (take n bs))
  splice a k vs q low high e f =
      let c : addresses (mark_cells_of n xs bs) ≡ take n xs = mark-addresses in
      let g : rank (addresses (mark_cells_of n xs bs)) a ≡ low = ap (λ (l : List ℕ). rank l a) c ∙ sym e in
      let h : rank (addresses (mark_cells_of n xs bs)) (a + k) ≡ high = ap (λ (l : List ℕ). rank l (a + k)) c ∙ sym f in
      let m = rw (← q, g, h) at (spliced-many 0 (mark_cells_of n xs bs) a vs mark-rises) in
      (m.0 ∙ ap (spliced low high (consecutive a k)) c, m.1 ∙ ap (spliced low high vs) mark-contents)

  module _ (a i v : ℕ) where
    -- in the place of itself
    stored-found : Ok i ≡ found_of (take n xs) a
        → (addresses (put (mark_cells_of n xs bs) a v) ≡ take n xs) × (contents (put (mark_cells_of n xs bs) a v) ≡ set (take n bs) i v)
    stored-found e =
        let q = found_at (take n xs) a i (sym e) in
        let r : i ≡ rank (take n xs) a = sym q.1 in
        let t : rank (take n xs) (suc a) ≡ suc (rank (take n xs) a) = rw q.0 at (rank-next 0 (take n xs) a o.rises) in
        let s = splice a 1 (v ∷ []) refl i (suc i) r (rw (add-one a) (omega arith)) in
        let h : i < n = found_within n xs o a i e in
        let g : get_or (take n xs) i 0 ≡ a = ap (λ (i : ℕ). get_or (take n xs) i 0) r ∙ (has-rank 0 (take n xs) a o.rises q.0).1 in
        let u : length (take n xs) ≡ n = length-take-le n xs o.within in
        let w : length (take n bs) ≡ n = used-length in (
          s.0
              ∙ sym (split_at (take n xs) i 0 (omega arith) ∙ ap (λ (x : ℕ). take i (take n xs) ++ x ∷ drop (suc i) (take n xs)) g),
          s.1 ∙ sym (set_split (take n bs) i v (omega arith)),
        )

    -- in the place of none
    stored-absent : Err i ≡ found_of (take n xs) a
        → (addresses (put (mark_cells_of n xs bs) a v) ≡ insert_at i a (take n xs)) × (contents (put (mark_cells_of n xs bs) a v) ≡ insert_at i v (take n bs))
    stored-absent e =
        let q = found-absent (take n xs) a i (sym e) in
        let r : i ≡ rank (take n xs) a = sym q.1 in
        let t : rank (take n xs) (suc a) ≡ rank (take n xs) a = rw q.0 at (rank-next 0 (take n xs) a o.rises) in
        let s = splice a 1 (v ∷ []) refl i i r (rw (add-one a) (omega arith)) in
        (s.0 ∙ sym (insert-spliced i a (take n xs)), s.1 ∙ sym (insert-spliced i v (take n bs)))

-- Cells as two: their numbers by themselves, and their moments by themselves

pub record Alone (c : Cells Held) (ns ms : Cells ℕ) : Type 0 where
  pub numbers : mapped (λ h. h.number) c ≡ ns
  pub moments : mapped (λ h. h.moment) c ≡ ms

numbers-many : (moment : ℕ) (c : Cells Held) (a : ℕ) (vs : List ℕ)
    → mapped (λ h. h.number) (put_many moment c a vs) ≡ put_all (mapped (λ h. h.number) c) a vs
numbers-many moment c a [] = refl
numbers-many moment c a (v ∷ vs) =
    numbers-many moment (put c a (held v moment)) (suc a) vs
    ∙ ap (λ (d : Cells ℕ). put_all d (suc a) vs) (put-mapped (λ h. h.number) c a (held v moment))

moments-many : (moment : ℕ) (c : Cells Held) (a : ℕ) (vs : List ℕ)
    → mapped (λ h. h.moment) (put_many moment c a vs) ≡ put_all (mapped (λ h. h.moment) c) a (filled moment vs)
moments-many moment c a [] = refl
moments-many moment c a (v ∷ vs) =
    moments-many moment (put c a (held v moment)) (suc a) vs
    ∙ ap (λ (d : Cells ℕ). put_all d (suc a) (filled moment vs)) (put-mapped (λ h. h.moment) c a (held v moment))

-- buffers that hold both hold the cells
pub held-together : {guarded : Bool} {c : Cells Held} {d e t : Cells ℕ} {r : ℕ} {xs ns ms ts xs' ns' ms' ts' : List ℕ} → Alone c d e → r ≡ count d
    → xs' ≡ overlay (addresses d) xs → ns' ≡ overlay (contents d) ns → ms' ≡ overlay (contents e) ms → ts' ≡ choose guarded (overlay (contents t) ts) ts
    → Holding guarded c t r xs ns ms ts xs' ns' ms' ts'
held-together {guarded} {c} {d} {e} {t} {r} {xs} {ns} {ms} {ts} p u f g m k =
    record {
      used = u ∙ ap count (sym p.numbers) ∙ count-mapped (λ h. h.number) c;
      addresses = f ∙ ap (λ (l : List ℕ). overlay l xs) (ap addresses (sym p.numbers) ∙ addresses-mapped (λ h. h.number) c);
      numbers = g ∙ ap (λ (l : List ℕ). overlay l ns) (ap contents (sym p.numbers) ∙ contents-mapped (λ h. h.number) c);
      moments = m ∙ ap (λ (l : List ℕ). overlay l ms) (ap contents (sym p.moments) ∙ contents-mapped (λ h. h.moment) c);
      marks = k;
    }

-- Numbers and moments together

module _ (n : ℕ) (xs ns ms : List ℕ) (o : Rising n xs) (l : length ns ≡ length xs) (m : length ms ≡ length xs) where
  both_used : (length (take n ns) ≡ n) × (length (take n ms) ≡ n)
  both_used = (used-length n xs ns o l, used-length n xs ms o m)

  held-length : length (held_of (take n ns) (take n ms)) ≡ n
  held-length = let b = both_used in length-held (take n ns) (take n ms) (omega arith) ∙ b.0

  pub addresses-of : addresses (cells_of n xs ns ms) ≡ take n xs
  addresses-of = beside-addresses n xs (held_of (take n ns) (take n ms)) o held-length

  pub contents-of : contents (cells_of n xs ns ms) ≡ held_of (take n ns) (take n ms)
  contents-of = beside-contents n xs (held_of (take n ns) (take n ms)) o held-length

  pub numbers_of-held : numbers_of (contents (cells_of n xs ns ms)) ≡ take n ns
  numbers_of-held = let b = both_used in ap numbers_of contents-of ∙ numbers-held (take n ns) (take n ms) (omega arith)

  pub moments-of : moments_of (contents (cells_of n xs ns ms)) ≡ take n ms
  moments-of = let b = both_used in ap moments_of contents-of ∙ moments-held (take n ns) (take n ms) (omega arith)

  pub rises-of : rising_from 0 (addresses (cells_of n xs ns ms)) ≡ true
  rises-of = beside-rises n xs (held_of (take n ns) (take n ms)) o held-length

  pub get-found : (a i : ℕ) → found_of (take n xs) a ≡ Ok i → get (cells_of n xs ns ms) a ≡ present (held (get_or ns i 0) (get_or ms i 0))
  get-found a i f =
      let b = both_used in
      let h : i < n = found_within n xs o a i (sym f) in
      beside-found n xs (held_of (take n ns) (take n ms)) o held-length (held 0 0) a i f
      ∙ ap present (get_or-held (take n ns) (take n ms) i (omega arith) (omega arith) ∙ (λ j. held (get_or-take n ns i 0 h j) (get_or-take n ms i 0 h j)))

  pub get_absent : (a i : ℕ) → found_of (take n xs) a ≡ Err i → get (cells_of n xs ns ms) a ≡ absent
  get_absent a i f = beside-absent n xs (held_of (take n ns) (take n ms)) o held-length a i f

  -- the numbers by themselves, and the moments by themselves

  numbers-alone : mapped (λ h. h.number) (cells_of n xs ns ms) ≡ mark_cells_of n xs ns
  numbers-alone =
      let b = both_used in
      zipped-mapped (λ h. h.number) (take n xs) (held_of (take n ns) (take n ms))
      ∙ ap (zipped (take n xs)) (numbers-held (take n ns) (take n ms) (omega arith))

  moments-alone : mapped (λ h. h.moment) (cells_of n xs ns ms) ≡ mark_cells_of n xs ms
  moments-alone =
      let b = both_used in
      zipped-mapped (λ h. h.moment) (take n xs) (held_of (take n ns) (take n ms))
      ∙ ap (zipped (take n xs)) (moments-held (take n ns) (take n ms) (omega arith))

  -- a store is one of numbers and one of moments
  pub stored-alone : (a v moment : ℕ) → Alone (put (cells_of n xs ns ms) a (held v moment)) (put (mark_cells_of n xs ns) a v) (put (mark_cells_of n xs ms) a moment)
  stored-alone a v moment =
      record {
        numbers = put-mapped (λ h. h.number) (cells_of n xs ns ms) a (held v moment) ∙ ap (λ (c : Cells ℕ). put c a v) numbers-alone;
        moments = put-mapped (λ h. h.moment) (cells_of n xs ns ms) a (held v moment) ∙ ap (λ (c : Cells ℕ). put c a moment) moments-alone;
      }

  pub many-alone : (moment a : ℕ) (vs : List ℕ)
      → Alone (put_many moment (cells_of n xs ns ms) a vs) (put_all (mark_cells_of n xs ns) a vs) (put_all (mark_cells_of n xs ms) a (filled moment vs))
  many-alone moment a vs =
      record {
        numbers = numbers-many moment (cells_of n xs ns ms) a vs ∙ ap (λ (c : Cells ℕ). put_all c a vs) numbers-alone;
        moments = moments-many moment (cells_of n xs ns ms) a vs ∙ ap (λ (c : Cells ℕ). put_all c a (filled moment vs)) moments-alone;
      }

-- What is read

module _ (guarded : Bool) (n : ℕ) (xs ns ms ts : List ℕ) (o : Ordered guarded n xs ns ms ts) (a i : ℕ) where
  pub read-present : found_of (take n xs) a ≡ Ok i
      → Some (record { number = get_or ns i 0; moment = get_or ms i 0; marked = guarded && eqb (get_or ts i 0) 1 })
      ≡ cell_of guarded (cells_of n xs ns ms) (mark_cells_of n xs ts) a
  read-present f = rw (get-found n xs ns ms o.addresses o.level o.moment_level a i f) (go guarded refl)
    where
      go : (t : Bool) → guarded ≡ t
          → ◌≡◌ {A = Option Cell} (Some (record { number = get_or ns i 0; moment = get_or ms i 0; marked = t && eqb (get_or ts i 0) 1 }))
          (Some (record { number = get_or ns i 0; moment = get_or ms i 0; marked = t && cell_mark mark_cells (mark_cells_of n xs ts) a }))
      go true t = rw (mark-found n xs ts o.addresses (o.mark_level t) a i f)
      go false t = refl

  pub read-absent : found_of (take n xs) a ≡ Err i → None ≡ cell_of guarded (cells_of n xs ns ms) (mark_cells_of n xs ts) a
  read-absent f = rw (get_absent n xs ns ms o.addresses o.level o.moment_level a i f)

-- What is stored

-- a cell that is found is written at its place
module _ (guarded : Bool) (n : ℕ) (xs ns ms ts : List ℕ) (o : Ordered guarded n xs ns ms ts) (a v moment : ℕ) (t : Bool) (i : ℕ)
    (e : Ok i ≡ found_of (take n xs) a) where
  contents-written : (bs : List ℕ) (w : ℕ) → length bs ≡ length xs → set bs i w ≡ overlay (contents (put (mark_cells_of n xs bs) a w)) bs
  contents-written bs w l =
      let k : n ≤ length xs = o.addresses.within in
      overlay-set n bs i w (found_within n xs o.addresses a i e) (omega arith)
      ∙ ap (λ (z : List ℕ). overlay z bs) (sym (stored-found n xs bs o.addresses l a i w e).1)

  marks-written : (s : Bool) → guarded ≡ s → choose s (set ts i (bit t)) ts ≡ choose s (overlay (contents (put (mark_cells_of n xs ts) a (bit t))) ts) ts
  marks-written true q = contents-written ts (bit t) (o.mark_level q)
  marks-written false q = refl

  pub written-holds : Holding guarded (put (cells_of n xs ns ms) a (held v moment)) (put (mark_cells_of n xs ts) a (bit t)) n
      xs ns ms ts xs (set ns i v) (set ms i moment) (choose guarded (set ts i (bit t)) ts)
  written-holds =
      let w : n ≤ length xs = o.addresses.within in
      let c : addresses (put (mark_cells_of n xs ns) a v) ≡ take n xs = (stored-found n xs ns o.addresses o.level a i v e).0 in
      held-together (stored-alone n xs ns ms o.addresses o.level o.moment_level a v moment)
      (sym (length-take-le n xs w) ∙ ap length (sym c) ∙ length-addresses (put (mark_cells_of n xs ns) a v))
      (sym (ap (λ (z : List ℕ). overlay z xs) c ∙ overlay-taken n xs w))
      (contents-written ns v o.level)
      (contents-written ms moment o.moment_level)
      (marks-written guarded refl)

-- a new one is put in where it would go
pub inserted-holds : (guarded : Bool) (n : ℕ) (xs ns ms ts : List ℕ) → Ordered guarded n xs ns ms ts → n < length xs → (a v moment : ℕ) (t : Bool) (i : ℕ)
    → Err i ≡ found_of (take n xs) a → (xs' ns' ms' ts' : List ℕ) → xs' ≡ overlay (insert_at i a (take n xs)) xs
    → ns' ≡ overlay (insert_at i v (take n ns)) ns → ms' ≡ overlay (insert_at i moment (take n ms)) ms
    → (s : Bool) → guarded ≡ s → ts' ≡ choose s (overlay (insert_at i (bit t) (take n ts)) ts) ts
    → Holding guarded (put (cells_of n xs ns ms) a (held v moment)) (put (mark_cells_of n xs ts) a (bit t)) (n + 1) xs ns ms ts xs' ns' ms' ts'
inserted-holds guarded n xs ns ms ts o h a v moment t i e xs' ns' ms' ts' f g m s q k =
    let c = stored-absent n xs ns o.addresses o.level a i v e in
    held-together (stored-alone n xs ns ms o.addresses o.level o.moment_level a v moment)
    (length-put-in n i a xs h ∙ ap length (sym c.0) ∙ length-addresses (put (mark_cells_of n xs ns) a v))
    (f ∙ ap (λ (z : List ℕ). overlay z xs) (sym c.0))
    (g ∙ ap (λ (z : List ℕ). overlay z ns) (sym c.1))
    (m ∙ ap (λ (z : List ℕ). overlay z ms) (sym (stored-absent n xs ms o.addresses o.moment_level a i moment e).1))
    (k ∙ go s q)
  where
    go : (s : Bool) → guarded ≡ s
        → choose s (overlay (insert_at i (bit t) (take n ts)) ts) ts ≡ choose guarded (overlay (contents (put (mark_cells_of n xs ts) a (bit t))) ts) ts
    go true q = rw q (ap (λ (z : List ℕ). overlay z ts) (sym (stored-absent n xs ts o.addresses (o.mark_level q) a i (bit t) e).1))
    go false q = rw q
