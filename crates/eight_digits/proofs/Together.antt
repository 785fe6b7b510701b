-- What the number of eight digits is, outright.
use Rattle.std.specs.Prelude.{Option, Some, None}
use mathlib.Core.Path.{◌≡◌, refl, ap, ◌∙◌}
use mathlib.Core.List.{List, [], ◌∷◌}
use Prim.Native.Nat.{ℕ, zero, suc, ◌+◌, ◌*◌, ◌<◌}
use native.Mathlib.Nat.{not-suc-le-zero, le_of_suc-le-suc}
use native.Mathlib.Omega.{arith}
use lib.Dec.{lit<}
use lib.ListN.{length, get_or}
use Rattle.rules.specs.Hexadecimal.{digit_of, on_digit, digits_of}
use Rattle.eight_digits.specs.EightDigits.{byte, characters, eight_digits, EightTogether}

-- a digit, and the characters after it
taken : (n c d : ℕ) (cs : List ℕ) → digit_of c ≡ Some d → digits_of n (c ∷ cs) ≡ digits_of (n * 16 + d) cs
unfolding digits_of
taken n c d cs e = ap (λ (v : Option ℕ). on_digit v (λ k. digits_of (n * 16 + k) cs)) e

all-taken : (n : ℕ) → digits_of n [] ≡ Some n
unfolding digits_of
all-taken n = refl

-- a character that is no digit, at a place
stops : (cs : List ℕ) (n j : ℕ) → j < length cs → digit_of (get_or cs j 0) ≡ None → digits_of n cs ≡ None
unfolding digits_of
stops [] n j h e = absurd (not-suc-le-zero h)
stops (c ∷ cs) n zero h e = ap (λ (v : Option ℕ). on_digit v (λ k. digits_of (n * 16 + k) cs)) e
stops (c ∷ cs) n (suc j) h e = go (λ m. stops cs m j (le_of_suc-le-suc h) e) (digit_of c)
  where
    go : ((m : ℕ) → digits_of m cs ≡ None) → (v : Option ℕ) → on_digit v (λ k. digits_of (n * 16 + k) cs) ≡ None
    go ih None = refl
    go ih (Some d) = ih (n * 16 + d)

abbrev Stop : List ℕ → Type 0
Stop cs = (j : ℕ) × (j < length cs) × (digit_of (get_or cs j 0) ≡ None)

stopped : (cs : List ℕ) (n : ℕ) → digits_of n cs ≡ None → Stop cs
unfolding digits_of
stopped [] n e = let z : ◌≡◌ {A = ℕ} 0 1 = cc in absurd (omega arith)
stopped (c ∷ cs) n e = go (stopped cs) (digit_of c) refl e
  where
    go : ((m : ℕ) → digits_of m cs ≡ None → Stop cs) → (v : Option ℕ) → digit_of c ≡ v → on_digit v (λ k. digits_of (n * 16 + k) cs) ≡ None → Stop (c ∷ cs)
    go ih None f e = (0, omega arith, f)
    go ih (Some d) f e = let s = ih (n * 16 + d) e in (suc s.0, omega (arith, s.1), s.2)

-- the first character is the highest byte
character-of : (w j : ℕ) → j < 8 → digit_of (get_or (characters w) j 0) ≡ None → (i : ℕ) × (i < 8) × (digit_of (byte i w) ≡ None)
character-of w zero h e = (7, lit< tt, e)
character-of w (suc zero) h e = (6, lit< tt, e)
character-of w (suc (suc zero)) h e = (5, lit< tt, e)
character-of w (suc (suc (suc zero))) h e = (4, lit< tt, e)
character-of w (suc (suc (suc (suc zero)))) h e = (3, lit< tt, e)
character-of w (suc (suc (suc (suc (suc zero))))) h e = (2, lit< tt, e)
character-of w (suc (suc (suc (suc (suc (suc zero)))))) h e = (1, lit< tt, e)
character-of w (suc (suc (suc (suc (suc (suc (suc zero))))))) h e = (0, lit< tt, e)
character-of w (suc (suc (suc (suc (suc (suc (suc (suc j)))))))) h e = absurd (omega arith)

byte-stops : (w i : ℕ) → i < 8 → digit_of (byte i w) ≡ None → eight_digits w ≡ None
byte-stops w zero h e = stops (characters w) 0 7 (lit< tt) e
byte-stops w (suc zero) h e = stops (characters w) 0 6 (lit< tt) e
byte-stops w (suc (suc zero)) h e = stops (characters w) 0 5 (lit< tt) e
byte-stops w (suc (suc (suc zero))) h e = stops (characters w) 0 4 (lit< tt) e
byte-stops w (suc (suc (suc (suc zero)))) h e = stops (characters w) 0 3 (lit< tt) e
byte-stops w (suc (suc (suc (suc (suc zero))))) h e = stops (characters w) 0 2 (lit< tt) e
byte-stops w (suc (suc (suc (suc (suc (suc zero)))))) h e = stops (characters w) 0 1 (lit< tt) e
byte-stops w (suc (suc (suc (suc (suc (suc (suc zero))))))) h e = stops (characters w) 0 0 (lit< tt) e
byte-stops w (suc (suc (suc (suc (suc (suc (suc (suc i)))))))) h e = absurd (omega arith)

pub eight-together : EightTogether
eight-together =
    record {
      number = λ w d digit.
          taken _ (byte 7 w) (d 7) _ (digit 7 (lit< tt))
          ∙ taken _ (byte 6 w) (d 6) _ (digit 6 (lit< tt))
          ∙ taken _ (byte 5 w) (d 5) _ (digit 5 (lit< tt))
          ∙ taken _ (byte 4 w) (d 4) _ (digit 4 (lit< tt))
          ∙ taken _ (byte 3 w) (d 3) _ (digit 3 (lit< tt))
          ∙ taken _ (byte 2 w) (d 2) _ (digit 2 (lit< tt))
          ∙ taken _ (byte 1 w) (d 1) _ (digit 1 (lit< tt))
          ∙ taken _ (byte 0 w) (d 0) _ (digit 0 (lit< tt))
          ∙ all-taken _
          ∙ ap Some (omega arith);
      none = byte-stops;
      none_only = λ w e. let s = stopped (characters w) 0 e in character-of w s.0 s.1 s.2;
    }
