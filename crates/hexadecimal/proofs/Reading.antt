-- A word of sixteen characters by its two halves.
use Rattle.std.specs.Prelude.{Option, Some, None}
use Rattle.std.specs.Simd.{first_chunks}
use mathlib.Core.Path.{◌≡◌, refl, sym, ap, ◌∙◌}
use mathlib.Core.List.{List, [], ◌∷◌, ◌++◌}
use Prim.Native.Nat.{ℕ, zero, suc, ◌+◌, ◌*◌, ◌/◌, ◌^◌, ◌<◌, ◌≤◌}
use native.Mathlib.Nat.{add-zero, pow-suc, mul-le-mul_right}
use native.Mathlib.Omega.{arith}
use lib.ListN.{length, get_or, take, drop, length-take, length-drop}
use lib.Seq.{take-add, take_all}
use borrow.Author.Tests.{eq-eqb, ne_eqb}
use Rattle.rules.specs.Hexadecimal.{digit_of, on_digit, digits_of, word_of}
use Rattle.eight_digits.proofs.Appending.{digits_append}
use Rattle.hexadecimal.proofs.Digits.{digit_lt}

-- a number before the digits
digits-after : (cs : List ℕ) (k b : ℕ) → digits_of (k + b) cs ≡ on_digit (digits_of b cs) (λ n. Some (k * 16 ^ length cs + n))
unfolding digits_of
digits-after [] k b = ap Some (omega arith)
digits-after (c ∷ cs) k b = go (digits-after cs) (digit_of c)
  where
    go : ((j e : ℕ) → digits_of (j + e) cs ≡ on_digit (digits_of e cs) (λ n. Some (j * 16 ^ length cs + n))) → (v : Option ℕ)
        → on_digit v (λ d. digits_of ((k + b) * 16 + d) cs) ≡ on_digit (on_digit v (λ d. digits_of (b * 16 + d) cs)) (λ n. Some (k * 16 ^ suc (length cs) + n))
    go ih None = refl
    go ih (Some d) =
        let e : (k + b) * 16 + d ≡ k * 16 + (b * 16 + d) = omega arith in
        let f : k * 16 * 16 ^ length cs ≡ k * 16 ^ suc (length cs) = rw (pow-suc 16 (length cs)) (omega arith) in
        ap (λ (n : ℕ). digits_of n cs) e
        ∙ ih (k * 16) (b * 16 + d)
        ∙ ap (λ (m : ℕ). on_digit (digits_of (b * 16 + d) cs) (λ n. Some (m + n))) f

-- how large the number of digits can be
digits_lt : (cs : List ℕ) (n v : ℕ) → digits_of n cs ≡ Some v → v < suc n * 16 ^ length cs
unfolding digits_of
digits_lt [] n v e = let f : n ≡ v = cc in omega arith
digits_lt (c ∷ cs) n v e = go (digits_lt cs) (digit_of c) refl e
  where
    go : ((m u : ℕ) → digits_of m cs ≡ Some u → u < suc m * 16 ^ length cs) → (w : Option ℕ) → digit_of c ≡ w → on_digit w (λ d. digits_of (n * 16 + d) cs) ≡ Some v
        → v < suc n * 16 ^ suc (length cs)
    go ih None f e = let z : ◌≡◌ {A = ℕ} 0 1 = cc in absurd (omega arith)
    go ih (Some d) f e =
        let l = digit_lt c d f in
        let m : suc (n * 16 + d) * 16 ^ length cs ≤ suc n * 16 * 16 ^ length cs = mul-le-mul_right (16 ^ length cs) (omega arith) in
        let p : suc n * 16 * 16 ^ length cs ≡ suc n * 16 ^ suc (length cs) = rw (pow-suc 16 (length cs)) (omega arith) in
        omega (arith, ih (n * 16 + d) v e)

-- the word of sixteen characters, which stand as two halves in the list that `as_chunks` makes of them
module _ (s : List ℕ) (halves : List (List ℕ)) (long : length s ≡ 16) (cut : halves ≡ first_chunks 8 (length s / 8) s) where
  both-halves : halves ≡ take 8 s ∷ take 8 (drop 8 s) ∷ []
  both-halves = cut ∙ ap (λ (n : ℕ). first_chunks 8 (n / 8) s) long

  pub half_lt : (i v : ℕ) → i < 2 → digits_of 0 (get_or halves i []) ≡ Some v → v < 2 ^ 32
  half_lt i v h e =
      let n : length (get_or halves i []) ≡ 8 = rw both-halves (half-long i h) in
      let b : v < 1 * 16 ^ 8 = rw n at (digits_lt (get_or halves i []) 0 v e) in
      omega arith
    where
      half-long : (j : ℕ) → j < 2 → length (get_or (take 8 s ∷ take 8 (drop 8 s) ∷ []) j []) ≡ 8
      half-long zero l = simp length-take (omega arith)
      half-long (suc zero) l = simp (length-take, length-drop) (omega arith)
      half-long (suc (suc j)) l = absurd (omega arith)

  pub joined : word_of s ≡ on_digit (digits_of 0 (get_or halves 0 [])) (λ high. on_digit (digits_of 0 (get_or halves 1 [])) (λ low. Some (high * 2 ^ 32 + low)))
  unfolding word_of
  joined =
      let n : length (take 8 (drop 8 s)) ≡ 8 = simp (length-take, length-drop) (omega arith) in
      let whole : take 8 s ++ take 8 (drop 8 s) ≡ s = sym (take-add 8 8 s) ∙ take_all 16 s (omega arith) in
      rw (both-halves, eq-eqb (length s) 16 long)
      (ap (digits_of 0) (sym whole)
      ∙ digits_append (take 8 s) (take 8 (drop 8 s)) 0
      ∙ after (digits_of 0 (take 8 s)) n)
    where
      after : (v : Option ℕ) → length (take 8 (drop 8 s)) ≡ 8
          → on_digit v (λ m. digits_of m (take 8 (drop 8 s))) ≡ on_digit v (λ high. on_digit (digits_of 0 (take 8 (drop 8 s))) (λ low. Some (high * 2 ^ 32 + low)))
      after None n = refl
      after (Some high) n =
          ap (λ (k : ℕ). digits_of k (take 8 (drop 8 s))) (sym (add-zero high))
          ∙ digits-after (take 8 (drop 8 s)) high 0
          ∙ ap (λ (k : ℕ). on_digit (digits_of 0 (take 8 (drop 8 s))) (λ low. Some (high * 16 ^ k + low))) n

pub too_short : (s : List ℕ) (at : ℕ) → length s < at + 16 → word_of (take 16 (drop at s)) ≡ None
unfolding word_of
too_short s at h =
    let n : length (take 16 (drop at s)) < 16 = simp (length-take, length-drop) (omega arith) in
    simp (ne_eqb (length (take 16 (drop at s))) 16 (λ e. omega arith))
