-- Reading digits after digits.
use Rattle.std.specs.Prelude.{Option, Some, None}
use mathlib.Core.Path.{◌≡◌, refl}
use mathlib.Core.List.{List, [], ◌∷◌, ◌++◌}
use Prim.Native.Nat.{ℕ, ◌+◌, ◌*◌}
use Rattle.rules.specs.Hexadecimal.{digit_of, on_digit, digits_of}

pub digits_append : (cs ds : List ℕ) (n : ℕ) → digits_of n (cs ++ ds) ≡ on_digit (digits_of n cs) (λ m. digits_of m ds)
unfolding digits_of
digits_append [] ds n = refl
digits_append (c ∷ cs) ds n = go (digits_append cs ds) (digit_of c)
  where
    go : ((m : ℕ) → digits_of m (cs ++ ds) ≡ on_digit (digits_of m cs) (λ k. digits_of k ds)) → (v : Option ℕ)
        → on_digit v (λ d. digits_of (n * 16 + d) (cs ++ ds)) ≡ on_digit (on_digit v (λ d. digits_of (n * 16 + d) cs)) (λ k. digits_of k ds)
    go ih None = refl
    go ih (Some d) = ih (n * 16 + d)

-- one more at the end
pub digits-snoc : (cs : List ℕ) (n c : ℕ) → digits_of n (cs ++ (c ∷ [])) ≡ on_digit (digits_of n cs) (λ m. on_digit (digit_of c) (λ d. Some (m * 16 + d)))
unfolding digits_of
digits-snoc cs n c = digits_append cs (c ∷ []) n
