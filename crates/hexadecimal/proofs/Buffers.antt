-- A buffer with characters laid over it: its length, nothing laid over, more laid after, one more stored.
use Rattle.std.specs.Prelude.{Some, None}
use mathlib.Core.Path.{◌≡◌, sym, ap, ap₂, ◌∙◌}
use mathlib.Core.List.{List, [], ◌∷◌, ◌++◌, append_assoc}
use Prim.Native.Nat.{ℕ, suc, ◌+◌, ◌<◌, ◌≤◌}
use native.Mathlib.Omega.{arith}
use lib.ListN.{length, take, drop, set, length-append, length-drop, take-append-drop, length-take, length-set}
use lib.Seq.{length-take-le, take_at, drop-drop, drop-cons, get_or-set_same, drop-set-lt, take-set-le, drop-append-add}
use borrow.Author.Tests.{le-leb, lt-leb}
use Rattle.hexadecimal.specs.Writing.{overlay_at, Writes}

module _ (b : List ℕ) (at : ℕ) where
  pub overlay-nil : overlay_at b at [] ≡ b
  unfolding overlay_at
  overlay-nil =
      let e : at + 0 ≡ at = omega arith in
      ap (λ (k : ℕ). take at b ++ drop k b) e ∙ take-append-drop at b

  module _ (xs : List ℕ) where
    pub overlay-length : at + length xs ≤ length b → length (overlay_at b at xs) ≡ length b
    unfolding overlay_at
    overlay-length h = simp (length-append, length-take, length-drop) (omega arith)

    pub overlay-append : (ys : List ℕ) → at + length xs ≤ length b → overlay_at (overlay_at b at xs) (at + length xs) ys ≡ overlay_at b at (xs ++ ys)
    unfolding overlay_at
    overlay-append ys h =
        let k = at + length xs in
        let front : List ℕ = take at b ++ xs in
        let n : length front ≡ k = length-append (take at b) xs ∙ ap (λ (m : ℕ). m + length xs) (length-take-le at b (omega arith)) in
        let e : overlay_at b at xs ≡ front ++ drop k b = sym (append_assoc (take at b) xs (drop k b)) in
        let t : take k (overlay_at b at xs) ≡ front = ap (take k) e ∙ take_at front (drop k b) k n in
        let j : k + length ys ≡ at + length (xs ++ ys) = omega (arith, length-append xs ys) in
        let d : drop (k + length ys) (overlay_at b at xs) ≡ drop (at + length (xs ++ ys)) b =
        ap (drop (k + length ys)) e ∙ ap (λ (m : ℕ). drop (m + length ys) (front ++ drop k b)) (sym n)
        ∙ drop-append-add front (drop k b) (length ys) ∙ drop-drop (length ys) k b ∙ ap (λ (m : ℕ). drop m b) j in
        ap₂ (λ (x y : List ℕ). x ++ (ys ++ y)) t d ∙ simp append_assoc

    pub overlay-snoc : (c : ℕ) → at + length xs < length b → overlay_at (set b (at + length xs) c) at xs ≡ overlay_at b at (xs ++ (c ∷ []))
    unfolding overlay_at
    overlay-snoc c h =
        let k = at + length xs in
        let i : k < length (set b k c) = rw length-set h in
        let t : take at (set b k c) ≡ take at b = take-set-le at b k c (omega arith) in
        let d : drop k (set b k c) ≡ c ∷ drop (suc k) b =
        drop-cons (set b k c) k 0 i ∙ ap₂ (λ (x : ℕ) (r : List ℕ). x ∷ r) (get_or-set_same b k c 0 h) (drop-set-lt (suc k) b k c (omega arith)) in
        let s : at + length (xs ++ (c ∷ [])) ≡ suc k = omega (arith, length-append xs (c ∷ [])) in
        rw (t, d, s, append_assoc)

    pub no-space : length b < at + length xs → Writes xs b at None b
    no-space h = let e = lt-leb (at + length xs) (length b) h in record { answer = rw e; written = rw e }

    pub all-written : at + length xs ≤ length b → Writes xs b at (Some (at + length xs)) (overlay_at b at xs)
    all-written h = let e = le-leb (at + length xs) (length b) h in record { answer = rw e; written = rw e }
