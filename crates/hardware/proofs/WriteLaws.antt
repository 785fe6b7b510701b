-- Writes into a buffer, told as what is lent afterwards: the used part changed, and behind it what stood there.
use Prim.Native.Nat.{ℕ, suc, ◌+◌, ◌≤◌, ◌<◌}
use mathlib.Core.Path.{◌≡◌, sym, ap, ◌∙◌}
use mathlib.Core.List.{List, [], ◌∷◌, ◌++◌}
use native.Mathlib.Nat.{le_of_lt}
use native.Mathlib.Numerals.{add-one}
use native.Mathlib.Omega.{arith}
use lib.ListN.{length, get_or, set, take, drop, length-set, length-append, take-append-drop}
use lib.Seq.{set-append_left, drop-cons, set-append_seam, append_snoc, length-take-le, take-suc}
use Rattle.rules.specs.Step.{overlay}
use Rattle.hardware.specs.Places.{insert_at}
use Rattle.hardware.proofs.PlaceLaws.{length-insert}

pub set-overlay : (us xs : List ℕ) (i v : ℕ) → i < length us → set (overlay us xs) i v ≡ overlay (set us i v) xs
set-overlay us xs i v h = set-append_left us (drop (length us) xs) i v h ∙ ap (λ (n : ℕ). set us i v ++ drop n xs) (sym (length-set us i v))

overlay-more : (us xs : List ℕ) (v : ℕ) → length us < length xs → set (overlay us xs) (length us) v ≡ overlay (us ++ v ∷ []) xs
overlay-more us xs v h =
    let e : length (us ++ v ∷ []) ≡ suc (length us) = length-append us (v ∷ []) ∙ omega arith in
    rw (drop-cons xs (length us) 0 h, set-append_seam us (get_or xs (length us) 0) (drop (suc (length us)) xs) v, e)
    (sym (append_snoc us v (drop (suc (length us)) xs)))

-- the used part as it was
pub overlay-taken : (n : ℕ) (xs : List ℕ) → n ≤ length xs → overlay (take n xs) xs ≡ xs
overlay-taken n xs h = rw (length-take-le n xs h) (take-append-drop n xs)

-- one more of the values
pub overlay-next : (vs xs : List ℕ) (i : ℕ) → i < length vs → i < length xs → set (overlay (take i vs) xs) i (get_or vs i 0) ≡ overlay (take (i + 1) vs) xs
overlay-next vs xs i h k =
    let l : length (take i vs) ≡ i = length-take-le i vs (le_of_lt h) in
    rw (add-one, take-suc vs i 0 h)
    (ap (λ (n : ℕ). set (overlay (take i vs) xs) n (get_or vs i 0)) (sym l) ∙ overlay-more (take i vs) xs (get_or vs i 0) (rw l k))

-- a value in the place of another
pub overlay-set : (n : ℕ) (xs : List ℕ) (i v : ℕ) → i < n → n ≤ length xs → set xs i v ≡ overlay (set (take n xs) i v) xs
overlay-set n xs i v h k =
    let j : length (take n xs) ≡ n = length-take-le n xs k in
    sym (sym (set-overlay (take n xs) xs i v (omega arith)) ∙ ap (λ (z : List ℕ). set z i v) (overlay-taken n xs k))

pub length-put-in : (n i v : ℕ) (xs : List ℕ) → n < length xs → n + 1 ≡ length (insert_at i v (take n xs))
length-put-in n i v xs h =
    let k : length (take n xs) ≡ n = length-take-le n xs (le_of_lt h) in
    let m : length (insert_at i v (take n xs)) ≡ suc (length (take n xs)) = length-insert i v (take n xs) in
    omega arith
