-- New cells put in: what lies behind moves up, and the places that are left are written. Together they are the splice of a store of many.
use Prim.Native.Nat.{ℕ, zero, suc, ◌+◌, ◌-◌, ◌≤◌, ◌<◌}
use mathlib.Core.Path.{◌≡◌, refl, sym, ap, ◌∙◌}
use mathlib.Core.Bool.{Bool, true, false}
use mathlib.Core.List.{List, [], ◌∷◌, ◌++◌}
use native.Mathlib.Omega.{arith}
use lib.ListN.{length, get_or, set, take, drop, length-drop}
use lib.Seq.{length-take-le, drop-cons, get_or-take, take-take}
use Rattle.rules.specs.Numbers.{choose}
use Rattle.rules.specs.Cells.{Cells, count, addresses, contents, mark_cells}
use Rattle.rules.specs.Step.{overlay}
use Rattle.rules.specs.Guarded.{clean_many}
use Rattle.rules.proofs.Laws.CellLaws.{length-addresses}
use Rattle.rules.proofs.Laws.HeldLaws.{count-mapped}
use Rattle.hardware.specs.Buffers.{rank, missing, cells_of, mark_cells_of, put_many, Rising, Ordered, Holding}
use Rattle.hardware.specs.Places.{insert_at, overwritten, filled, consecutive, spliced, moved}
use Rattle.hardware.proofs.StoreLaws.{count-put_many}
use Rattle.hardware.proofs.PlaceLaws.{insert-spliced}
use Rattle.hardware.proofs.SpliceLaws.{put_all, length-consecutive}
use Rattle.hardware.proofs.SearchLaws.{ranks-rise, new-cells}
use Rattle.hardware.proofs.BufferLaws.{rank-used, addresses-of, rises-of, splice, many-alone, held-together}
use Rattle.storing.proofs.OverwriteLaws.{length-filled, length-overwritten, part_length, part-back, clean-zeros}

-- Moving up, from the end on

-- what stands before the moved ones stays
get_or-before : (i j : ℕ) (vs l : List ℕ) → j < i → j < length l → get_or (overwritten i vs l) j 0 ≡ get_or l j 0
get_or-before zero j vs l h k = absurd (omega arith)
get_or-before (suc i) j vs [] h k = absurd (omega arith)
get_or-before (suc i) zero vs (x ∷ l) h k = refl
get_or-before (suc i) (suc j) vs (x ∷ l) h k = get_or-before i j vs l (omega arith) (omega arith)

set_before : (i v : ℕ) (vs l : List ℕ) → i < length l → set (overwritten (suc i) vs l) i v ≡ overwritten i (v ∷ vs) l
set_before i v vs [] h = absurd (omega arith)
set_before zero v vs (x ∷ l) h = refl
set_before (suc i) v vs (x ∷ l) h = ap (λ (l : List ℕ). x ∷ l) (set_before i v vs l (omega arith))

pub moved-next : (n k i j : ℕ) (l : List ℕ) → i ≡ suc j → i ≤ n → n + k ≤ length l
    → set (moved n i (i + k) l) (j + k) (get_or (moved n i (i + k) l) j 0) ≡ moved n j (j + k) l
moved-next n k i j l e h m =
    let u : length (take n l) ≡ n = length-take-le n l (omega arith) in
    let s : i + k ≡ suc (j + k) = omega arith in
    let g : get_or (moved n i (i + k) l) j 0 ≡ get_or (take n l) j 0 =
    get_or-before (i + k) j (drop i (take n l)) l (omega arith) (omega arith) ∙ sym (get_or-take n l j 0 (omega arith)) in
    let d : drop j (take n l) ≡ get_or (take n l) j 0 ∷ drop (suc j) (take n l) = drop-cons (take n l) j 0 (omega arith) in
    ap (set (moved n i (i + k) l) (j + k)) g
    ∙ ap (λ (q : ℕ). set (overwritten q (drop i (take n l)) l) (j + k) (get_or (take n l) j 0)) s
    ∙ set_before (j + k) (get_or (take n l) j 0) (drop i (take n l)) l (omega arith)
    ∙ ap (λ (q : ℕ). overwritten (j + k) (get_or (take n l) j 0 ∷ drop q (take n l)) l) e
    ∙ ap (λ (us : List ℕ). overwritten (j + k) us l) (sym d)

-- one value in the place that is left

set_one : (i v : ℕ) (l : List ℕ) → i < length l → set l i v ≡ overwritten i (v ∷ []) l
set_one i v [] h = absurd (omega arith)
set_one zero v (x ∷ l) h = refl
set_one (suc i) v (x ∷ l) h = ap (λ (l : List ℕ). x ∷ l) (set_one i v l (omega arith))

-- values in the places that are left

filled-before : (i j : ℕ) (vs us l : List ℕ) → j ≡ i + length vs → j ≤ length l
    → overwritten i vs (overwritten j us l) ≡ overlay (take i l ++ (vs ++ us)) l
filled-before zero zero [] us l e h = refl
filled-before zero zero (v ∷ vs) us l e h = absurd (omega arith)
filled-before zero (suc j) [] us l e h = absurd (omega arith)
filled-before (suc i) zero vs us l e h = absurd (omega arith)
filled-before zero (suc j) (v ∷ vs) us [] e h = absurd (omega arith)
filled-before (suc i) (suc j) vs us [] e h = absurd (omega arith)
filled-before zero (suc j) (v ∷ vs) us (x ∷ l) e h = ap (λ (l : List ℕ). v ∷ l) (filled-before zero j vs us l (omega arith) (omega arith))
filled-before (suc i) (suc j) vs us (x ∷ l) e h = ap (λ (l : List ℕ). x ∷ l) (filled-before i j vs us l (omega arith) (omega arith))

places-filled : (n low high k : ℕ) (vs l : List ℕ) → k ≡ length vs → low ≤ n → low + k ≤ length l
    → overwritten low vs (moved n high (low + k) l) ≡ overlay (spliced low high vs (take n l)) l
places-filled n low high k vs l e h m =
    filled-before low (low + k) vs (drop high (take n l)) l (omega arith) m
    ∙ ap (λ (us : List ℕ). overlay (us ++ (vs ++ drop high (take n l))) l) (sym (take-take low n l h))

-- of one value, which is put in
pub moved-set : (n i v : ℕ) (l : List ℕ) → i ≤ n → n < length l → set (moved n i (i + 1) l) i v ≡ overlay (insert_at i v (take n l)) l
moved-set n i v l h k =
    let u : length (take n l) ≡ n = length-take-le n l (omega arith) in
    let d : length (drop i (take n l)) ≡ length (take n l) - i = length-drop i (take n l) in
    let m : length (moved n i (i + 1) l) ≡ length l = length-overwritten (i + 1) (drop i (take n l)) l (omega arith) in
    set_one i v (moved n i (i + 1) l) (omega arith)
    ∙ places-filled n i i 1 (v ∷ []) l refl h (omega arith)
    ∙ ap (λ (us : List ℕ). overlay us l) (sym (insert-spliced i v (take n l)))

-- the same of the addresses: the places are lent, j elements, and come back with consecutive ones
pub places-numbered : (n low high k j a : ℕ) (l us ys : List ℕ) → j ≡ k → low ≤ n → low + k ≤ length l → length us ≡ length l
    → us ≡ moved n high (low + k) l → ys ≡ consecutive a (length (take j (drop low us)))
    → take low us ++ (ys ++ drop j (drop low us)) ≡ overlay (spliced low high (consecutive a k) (take n l)) l
places-numbered n low high k j a l us ys e h m q f g =
    let c : length (consecutive a k) ≡ k = length-consecutive a k in
    let w : ys ≡ consecutive a k = g ∙ ap (consecutive a) (part_length low j (consecutive a k) us (omega arith) (omega arith) ∙ c) in
    part-back low j (consecutive a k) us (omega arith) (omega arith) ys (ap length w)
    ∙ ap (λ (z : List ℕ). overwritten low z us) w
    ∙ ap (overwritten low (consecutive a k)) f
    ∙ places-filled n low high k (consecutive a k) l (sym c) h m

-- In buffers

-- the places for k cells, of which some are present, lie within the buffers
pub record PlacesFor (n : ℕ) (xs : List ℕ) (a k low high : ℕ) : Type 0 where
  pub rises : low ≤ high
  pub used : high ≤ n
  pub new : k ≡ missing (take n xs) a k + (high - low)
  pub fits : n + missing (take n xs) a k ≤ length xs

pub places-for : (n : ℕ) (xs : List ℕ) → Rising n xs → (a k low high : ℕ) → low ≡ rank (take n xs) a → high ≡ rank (take n xs) (a + k)
    → n + missing (take n xs) a k ≤ length xs → PlacesFor n xs a k low high
places-for n xs o a k low high e f h =
    record {
      rises = ranks-rise (take n xs) o.rises a k low high e f;
      used = rank-used n xs o (a + k) high f;
      new = new-cells (take n xs) o.rises a k low high e f;
      fits = h;
    }

module _ (n : ℕ) (xs bs : List ℕ) (o : Rising n xs) (l : length bs ≡ length xs) (a k : ℕ) (vs : List ℕ) (q : k ≡ length vs) (low high : ℕ)
    (e : low ≡ rank (take n xs) a) (f : high ≡ rank (take n xs) (a + k)) where
  contents-filled : n + missing (take n xs) a k ≤ length xs
      → overwritten low vs (moved n high (low + k) bs) ≡ overlay (contents (put_all (mark_cells_of n xs bs) a vs)) bs
  contents-filled h =
      let r : PlacesFor n xs a k low high = places-for n xs o a k low high e f h in
      places-filled n low high k vs bs q (omega arith) (omega arith)
      ∙ ap (λ (z : List ℕ). overlay z bs) (sym (splice n xs bs o l a k vs q low high e f).1)

pub count-stored : (n : ℕ) (xs ns ms : List ℕ) → Rising n xs → length ns ≡ length xs → length ms ≡ length xs → (moment a : ℕ) (vs : List ℕ)
    → count (put_many moment (cells_of n xs ns ms) a vs) ≡ n + missing (take n xs) a (length vs)
count-stored n xs ns ms o l m moment a vs =
    let c : addresses (cells_of n xs ns ms) ≡ take n xs = addresses-of n xs ns ms o l m in
    let k : count (cells_of n xs ns ms) ≡ n = sym (length-addresses (cells_of n xs ns ms)) ∙ ap length c ∙ length-take-le n xs o.within in
    count-put_many moment (cells_of n xs ns ms) a vs (rises-of n xs ns ms o l m) ∙ rw (c, k)

module _ (guarded : Bool) (n : ℕ) (xs ns ms ts : List ℕ) (o : Ordered guarded n xs ns ms ts) (a : ℕ) (vs : List ℕ) (low : ℕ)
    (e : low ≡ rank (take n xs) a) (h : n + missing (take n xs) a (length vs) ≤ length xs) where
  abbrev high : ℕ
  high = rank (take n xs) (a + length vs)

  -- one value in all their places
  places-alike : (v : ℕ) (bs : List ℕ) → length bs ≡ length xs
      → overwritten low (filled v vs) (moved n high (low + length vs) bs) ≡ overlay (contents (put_all (mark_cells_of n xs bs) a (filled v vs))) bs
  places-alike v bs l =
      contents-filled n xs bs o.addresses l a (length vs) (filled v vs) (sym (length-filled v vs)) low high e refl h

  marks-filled : (s : Bool) → guarded ≡ s → (ts₁ : List ℕ) → ts₁ ≡ choose s (moved n high (low + length vs) ts) ts
      → choose s (overwritten low (filled 0 vs) ts₁) ts₁ ≡ choose s (overlay (contents (clean_many mark_cells (mark_cells_of n xs ts) a vs)) ts) ts
  marks-filled true q ts₁ g =
      ap (overwritten low (filled 0 vs)) g
      ∙ places-alike 0 ts (o.mark_level q)
      ∙ ap (λ (t : Cells ℕ). overlay (contents t) ts) (sym (clean-zeros (mark_cells_of n xs ts) a vs))
  marks-filled false q ts₁ g = g

  pub places-hold : (moment r : ℕ) (xs' ns₁ ms₁ ts₁ ns' ms' ts' : List ℕ) → r ≡ n + missing (take n xs) a (length vs)
      → xs' ≡ overlay (spliced low high (consecutive a (length vs)) (take n xs)) xs
      → ns₁ ≡ moved n high (low + length vs) ns → ms₁ ≡ moved n high (low + length vs) ms
      → ts₁ ≡ choose guarded (moved n high (low + length vs) ts) ts
      → ns' ≡ overwritten low vs ns₁ → ms' ≡ overwritten low (filled moment vs) ms₁ → ts' ≡ choose guarded (overwritten low (filled 0 vs) ts₁) ts₁
      → Holding guarded (put_many moment (cells_of n xs ns ms) a vs) (clean_many mark_cells (mark_cells_of n xs ts) a vs) r xs ns ms ts xs' ns' ms' ts'
  places-hold moment r xs' ns₁ ms₁ ts₁ ns' ms' ts' u f g m k i p j =
      let s = splice n xs ns o.addresses o.level a (length vs) vs refl low high e refl in
      let b = many-alone n xs ns ms o.addresses o.level o.moment_level moment a vs in
      let c = count-stored n xs ns ms o.addresses o.level o.moment_level moment a vs in
      held-together b
      (u ∙ sym c ∙ sym (count-mapped (λ h. h.number) (put_many moment (cells_of n xs ns ms) a vs)) ∙ ap count b.numbers)
      (f ∙ ap (λ (z : List ℕ). overlay z xs) (sym s.0))
      (i ∙ ap (overwritten low vs) g ∙ contents-filled n xs ns o.addresses o.level a (length vs) vs refl low high e refl h)
      (p ∙ ap (overwritten low (filled moment vs)) m ∙ places-alike moment ms o.moment_level)
      (j ∙ marks-filled guarded refl ts₁ k)
