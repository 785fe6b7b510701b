-- Values in the place of others: the laws of `overwritten` and `filled`, and a store of many to cells that are all present.
use Prim.Native.Nat.{ℕ, zero, suc, ◌+◌, ◌-◌, ◌≤◌, ◌<◌}
use mathlib.Core.Path.{◌≡◌, refl, sym, ap, ◌∙◌}
use mathlib.Core.Bool.{Bool, true, false}
use mathlib.Core.List.{List, [], ◌∷◌, ◌++◌}
use native.Mathlib.Nat.{zero-add, suc-add}
use native.Mathlib.Omega.{arith}
use lib.ListN.{length, get_or, set, take, drop, length-replicate, length-drop, take-append-drop}
use lib.Seq.{length-take-le}
use Rattle.rules.specs.Numbers.{choose, heap_end, word_end}
use Rattle.rules.specs.Cells.{Cells, put, addresses, contents, mark_cells}
use Rattle.rules.specs.Step.{overlay}
use Rattle.rules.specs.Guarded.{clean_many}
use Rattle.rules.proofs.Laws.CellLaws.{length-addresses}
use Rattle.hardware.specs.Buffers.{rank, has_all, cells_of, mark_cells_of, put_many, Rising, Ordered, Holding}
use Rattle.hardware.specs.Places.{overwritten, filled}
use Rattle.hardware.proofs.SpliceLaws.{put_all, present-many}
use Rattle.hardware.proofs.WriteLaws.{overlay-taken, overlay-next}
use Rattle.hardware.proofs.BufferLaws.{mark-addresses, mark-contents, mark-rises, many-alone, held-together, span-ends}

-- As many of one value

pub length-filled : (v : ℕ) (l : List ℕ) → length (filled v l) ≡ length l
length-filled v l = length-replicate (length l) v

pub get_or-filled : (v : ℕ) (l : List ℕ) (i : ℕ) → i < length l → get_or (filled v l) i 0 ≡ v
get_or-filled v [] i h = absurd (omega arith)
get_or-filled v (x ∷ l) zero h = refl
get_or-filled v (x ∷ l) (suc i) h = get_or-filled v l i (omega arith)

pub overlay-all : (us xs : List ℕ) → length us ≡ length xs → overlay us xs ≡ us
overlay-all [] [] e = refl
overlay-all [] (x ∷ xs) e = absurd (omega arith)
overlay-all (u ∷ us) [] e = absurd (omega arith)
overlay-all (u ∷ us) (x ∷ xs) e = ap (λ (l : List ℕ). u ∷ l) (overlay-all us xs (omega arith))

-- Overwriting

pub length-overwritten : (i : ℕ) (vs l : List ℕ) → i + length vs ≤ length l → length (overwritten i vs l) ≡ length l
length-overwritten zero [] l h = refl
length-overwritten zero (v ∷ vs) [] h = absurd (omega arith)
length-overwritten zero (v ∷ vs) (x ∷ l) h = ap suc (length-overwritten zero vs l (omega arith))
length-overwritten (suc i) vs [] h = absurd (omega arith)
length-overwritten (suc i) vs (x ∷ l) h = ap suc (length-overwritten i vs l (omega arith))

-- what stands behind stays
overwritten-front : (i : ℕ) (vs l m : List ℕ) → i + length vs ≤ length l → overwritten i vs (l ++ m) ≡ overwritten i vs l ++ m
overwritten-front zero [] l m h = refl
overwritten-front zero (v ∷ vs) [] m h = absurd (omega arith)
overwritten-front zero (v ∷ vs) (x ∷ l) m h = ap (λ (l : List ℕ). v ∷ l) (overwritten-front zero vs l m (omega arith))
overwritten-front (suc i) vs [] m h = absurd (omega arith)
overwritten-front (suc i) vs (x ∷ l) m h = ap (λ (l : List ℕ). x ∷ l) (overwritten-front i vs l m (omega arith))

-- one more of the values
pub overwritten-next : (i : ℕ) (vs l : List ℕ) (k : ℕ) → k < length vs → i + k < length l
    → set (overwritten i (take k vs) l) (i + k) (get_or vs k 0) ≡ overwritten i (take (k + 1) vs) l
overwritten-next zero vs l k h m =
    ap (λ (j : ℕ). set (overlay (take k vs) l) j (get_or vs k 0)) (zero-add k) ∙ overlay-next vs l k h (omega arith)
overwritten-next (suc i) vs [] k h m = absurd (omega arith)
overwritten-next (suc i) vs (x ∷ l) k h m =
    ap (λ (j : ℕ). set (x ∷ overwritten i (take k vs) l) j (get_or vs k 0)) (suc-add i k) ∙ ap (λ (l : List ℕ). x ∷ l) (overwritten-next i vs l k h (omega arith))

-- a part of a buffer is lent and comes back

module _ (i k : ℕ) (vs l : List ℕ) (e : k ≡ length vs) (h : i + length vs ≤ length l) where
  pub part_length : length (take k (drop i l)) ≡ length vs
  part_length = let m : length (drop i l) ≡ length l - i = length-drop i l in length-take-le k (drop i l) (omega arith) ∙ e

  pub part-back : (ys : List ℕ) → length ys ≡ length vs → take i l ++ (ys ++ drop k (drop i l)) ≡ overwritten i ys l
  part-back ys q = ap (λ (k : ℕ). take i l ++ (ys ++ drop k (drop i l))) (e ∙ sym q)

-- of a buffer, of which the first n elements are used
pub overwritten-used : (n i : ℕ) (vs xs : List ℕ) → n ≤ length xs → i + length vs ≤ n
    → overwritten i vs xs ≡ overlay (overwritten i vs (take n xs)) xs
overwritten-used n i vs xs h k =
    let u : length (take n xs) ≡ n = length-take-le n xs h in
    let m : length (overwritten i vs (take n xs)) ≡ n = length-overwritten i vs (take n xs) (omega arith) ∙ u in
    ap (overwritten i vs) (sym (take-append-drop n xs))
    ∙ overwritten-front i vs (take n xs) (drop n xs) (omega arith)
    ∙ ap (λ (k : ℕ). overwritten i vs (take n xs) ++ drop k xs) (sym m)

-- A store of many

-- a span of cells does not reach the end of the words
pub within-words : (a n : ℕ) → a < word_end → (0 < n → a + n ≤ heap_end) → a + n < word_end
unfolding heap_end word_end
within-words a zero h k = omega arith
within-words a (suc n) h k = let l : a + suc n ≤ heap_end = k (omega arith) in omega arith

-- many marks are cleared as many zeros are stored
pub clean-zeros : (t : Cells ℕ) (a : ℕ) (vs : List ℕ) → clean_many mark_cells t a vs ≡ put_all t a (filled 0 vs)
unfolding clean_many
clean-zeros t a [] = refl
clean-zeros t a (v ∷ vs) = clean-zeros (put t a 0) (suc a) vs

-- In buffers

module _ (n : ℕ) (xs bs : List ℕ) (o : Rising n xs) (l : length bs ≡ length xs) (a i : ℕ) (e : i ≡ rank (take n xs) a) (vs : List ℕ)
    (h : has_all (take n xs) a (length vs) ≡ true) where
  present-cells : (addresses (put_all (mark_cells_of n xs bs) a vs) ≡ take n xs) × (contents (put_all (mark_cells_of n xs bs) a vs) ≡ overwritten i vs (take n bs))
  present-cells =
      let c : addresses (mark_cells_of n xs bs) ≡ take n xs = mark-addresses n xs bs o l in
      let m = present-many (mark_cells_of n xs bs) a vs (mark-rises n xs bs o l) (ap (λ (l : List ℕ). has_all l a (length vs)) c ∙ h) in (
        m.0 ∙ c,
        m.1
            ∙ ap (λ (k : ℕ). overwritten k vs (contents (mark_cells_of n xs bs))) (ap (λ (l : List ℕ). rank l a) c ∙ sym e)
            ∙ ap (overwritten i vs) (mark-contents n xs bs o l),
      )

  contents-kept : overwritten i vs bs ≡ overlay (contents (put_all (mark_cells_of n xs bs) a vs)) bs
  contents-kept =
      let m : n ≤ length xs = o.within in
      overwritten-used n i vs bs (omega arith) (span-ends n xs o a i e (length vs) h) ∙ ap (λ (z : List ℕ). overlay z bs) (sym present-cells.1)

module _ (guarded : Bool) (n : ℕ) (xs ns ms ts : List ℕ) (o : Ordered guarded n xs ns ms ts) (a i : ℕ) (e : i ≡ rank (take n xs) a) (vs : List ℕ)
    (h : has_all (take n xs) a (length vs) ≡ true) where
  -- one value in all their places
  filled-kept : (v : ℕ) (bs : List ℕ) → length bs ≡ length xs
      → overwritten i (filled v vs) bs ≡ overlay (contents (put_all (mark_cells_of n xs bs) a (filled v vs))) bs
  filled-kept v bs l = contents-kept n xs bs o.addresses l a i e (filled v vs) (ap (has_all (take n xs) a) (length-filled v vs) ∙ h)

  marks-cleared : (s : Bool) → guarded ≡ s
      → choose s (overwritten i (filled 0 vs) ts) ts ≡ choose s (overlay (contents (clean_many mark_cells (mark_cells_of n xs ts) a vs)) ts) ts
  marks-cleared true q =
      filled-kept 0 ts (o.mark_level q) ∙ ap (λ (t : Cells ℕ). overlay (contents t) ts) (sym (clean-zeros (mark_cells_of n xs ts) a vs))
  marks-cleared false q = refl

  pub overwritten-holds : (moment : ℕ) (ns' ms' ts' : List ℕ) → ns' ≡ overwritten i vs ns → ms' ≡ overwritten i (filled moment vs) ms
      → ts' ≡ choose guarded (overwritten i (filled 0 vs) ts) ts
      → Holding guarded (put_many moment (cells_of n xs ns ms) a vs) (clean_many mark_cells (mark_cells_of n xs ts) a vs) n xs ns ms ts xs ns' ms' ts'
  overwritten-holds moment ns' ms' ts' f m g =
      let w : n ≤ length xs = o.addresses.within in
      let c : addresses (put_all (mark_cells_of n xs ns) a vs) ≡ take n xs = (present-cells n xs ns o.addresses o.level a i e vs h).0 in
      held-together (many-alone n xs ns ms o.addresses o.level o.moment_level moment a vs)
      (sym (length-take-le n xs w) ∙ ap length (sym c) ∙ length-addresses (put_all (mark_cells_of n xs ns) a vs))
      (sym (ap (λ (z : List ℕ). overlay z xs) c ∙ overlay-taken n xs w))
      (f ∙ contents-kept n xs ns o.addresses o.level a i e vs h)
      (m ∙ filled-kept moment ms o.moment_level)
      (g ∙ marks-cleared guarded refl)
