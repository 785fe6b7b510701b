-- A value that takes its place among the used elements: the laws of `insert_at`, and what a search finds.
use Rattle.std.specs.Prelude.{Ok, Err}
use Prim.Native.Nat.{ℕ, zero, suc, ◌<◌}
use mathlib.Core.Path.{◌≡◌, refl, ap}
use mathlib.Core.Bool.{Bool, true, false}
use mathlib.Core.List.{List, [], ◌∷◌}
use native.Mathlib.Omega.{arith}
use lib.ListN.{length}
use Rattle.rules.specs.Numbers.{choose}
use Rattle.rules.specs.Entry.{rising_from}
use Rattle.hardware.specs.Buffers.{rank, has, found_of}
use Rattle.hardware.specs.Places.{insert_at, spliced}
use Rattle.hardware.proofs.RankLaws.{has-rank}

-- Putting in

pub length-insert : (i v : ℕ) (l : List ℕ) → length (insert_at i v l) ≡ suc (length l)
length-insert zero v l = refl
length-insert (suc i) v [] = refl
length-insert (suc i) v (x ∷ l) = ap suc (length-insert i v l)

pub insert-spliced : (i v : ℕ) (l : List ℕ) → insert_at i v l ≡ spliced i i (v ∷ []) l
insert-spliced zero v l = refl
insert-spliced (suc i) v [] = refl
insert-spliced (suc i) v (x ∷ l) = ap (λ (l : List ℕ). x ∷ l) (insert-spliced i v l)

-- What a search finds

pub found_at : (l : List ℕ) (a i : ℕ) → found_of l a ≡ Ok i → (has l a ≡ true) × (rank l a ≡ i)
found_at l a i h = go (has l a) refl h
  where
    go : (t : Bool) → has l a ≡ t → choose t (Ok (rank l a)) (Err (rank l a)) ≡ Ok i → (has l a ≡ true) × (rank l a ≡ i)
    go true e h = (e, cc)
    go false e h = let z : ◌≡◌ {A = ℕ} 0 1 = cc in absurd (omega arith)

pub found-absent : (l : List ℕ) (a i : ℕ) → found_of l a ≡ Err i → (has l a ≡ false) × (rank l a ≡ i)
found-absent l a i h = go (has l a) refl h
  where
    go : (t : Bool) → has l a ≡ t → choose t (Ok (rank l a)) (Err (rank l a)) ≡ Err i → (has l a ≡ false) × (rank l a ≡ i)
    go true e h = let z : ◌≡◌ {A = ℕ} 0 1 = cc in absurd (omega arith)
    go false e h = (e, cc)

pub found_below : (l : List ℕ) (a i : ℕ) → rising_from 0 l ≡ true → found_of l a ≡ Ok i → i < length l
found_below l a i r e =
    let f = found_at l a i e in
    let h : rank l a < length l = (has-rank 0 l a r f.0).0 in
    let q : rank l a ≡ i = f.1 in
    omega arith
