-- What is lent, afterwards: the laws of `overlay`, the used part and then what stood there.
use Prim.Native.Nat.{ℕ, ◌+◌, ◌-◌, ◌≤◌, ◌<◌}
use mathlib.Core.Path.{◌≡◌, refl, sym, ap, ◌∙◌}
use mathlib.Core.Bool.{Bool, true, false}
use mathlib.Core.List.{List, ◌++◌, append_assoc, append-nil}
use native.Mathlib.Omega.{arith}
use lib.Dec.{leb}
use lib.ListN.{length, take, drop, length-append, length-drop, take-append-drop, drop_of_length-le}
use lib.Seq.{take-append_seam, take_at, drop-append-le, drop-append-add, drop-drop}
use borrow.Author.Tests.{leb-true, leb-false}
use Rattle.rules.specs.Step.{overlay}

module _ {A : Type 0} where
  -- the buffer keeps its length where the used part fits
  pub length-overlay : (used before : List A) → length used ≤ length before → length (overlay used before) ≡ length before
  length-overlay used before h = rw (length-append, length-drop) (omega arith)

  pub length-overlay-le : (used before : List A) (n : ℕ) → length used ≤ n → length before ≤ n → length (overlay used before) ≤ n
  length-overlay-le used before n h k = rw (length-append, length-drop) (omega arith)

  pub used-overlay : (used before : List A) → take (length used) (overlay used before) ≡ used
  used-overlay used before = take-append_seam used _

  pub take-overlay : (used before : List A) (n : ℕ) → length used ≡ n → take n (overlay used before) ≡ used
  take-overlay used before n e = take_at used _ n e

  -- what stands there already changes nothing
  pub overlay-same : (used before : List A) → take (length used) before ≡ used → overlay used before ≡ before
  overlay-same used before e = ap (λ l. l ++ drop (length used) before) (sym e) ∙ take-append-drop (length used) before

  -- two overlays are one
  pub overlay-overlay : (a b c : List A) → overlay a (overlay b c) ≡ overlay (overlay a b) c
  overlay-overlay a b c = go (leb (length a) (length b)) refl
    where
      go : (t : Bool) → leb (length a) (length b) ≡ t → overlay a (overlay b c) ≡ overlay (overlay a b) c
      go true e =
          let h : length a ≤ length b = leb-true _ _ e in
          let n : length b ≡ length (overlay a b) = rw (length-append, length-drop) (omega arith) in
          ap (λ l. a ++ l) (drop-append-le (length a) b (drop (length b) c) h)
          ∙ sym (append_assoc a (drop (length a) b) (drop (length b) c))
          ∙ ap (λ n. overlay a b ++ drop n c) n
      go false e =
          let h : length b < length a = leb-false _ _ e in
          let n : length a ≡ length b + (length a - length b) = omega arith in
          let l : drop (length a) (overlay b c) ≡ drop (length a) c =
          ap (λ n. drop n (overlay b c)) n
          ∙ drop-append-add b (drop (length b) c) (length a - length b)
          ∙ drop-drop (length a - length b) (length b) c
          ∙ ap (λ n. drop n c) (sym n)
          in
          let m : overlay a b ≡ a = ap (λ l. a ++ l) (drop_of_length-le b {i = length a} (omega arith)) ∙ append-nil a in
          ap (λ l. a ++ l) l ∙ sym (ap (λ l. l ++ drop (length l) c) m)

  -- one that is at least as long covers what was laid there before
  pub overlay-covers : (a b c : List A) → length b ≤ length a → overlay a (overlay b c) ≡ overlay a c
  overlay-covers a b c h = overlay-overlay a b c ∙ ap (λ l. overlay l c) (ap (λ l. a ++ l) (drop_of_length-le b {i = length a} h) ∙ append-nil a)
