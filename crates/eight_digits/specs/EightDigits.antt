-- Eight characters in one word, and the number of their digits. Document 02, #106.
use Rattle.std.specs.Prelude.{ℕ, ◌+◌, ◌*◌, ◌/◌, ◌%◌, ◌^◌, ◌<◌, ◌≡◌, List, [], ◌∷◌, Option, Some, None}
use Rattle.rules.specs.Hexadecimal.{digit_of, digits_of}

-- the bytes of a word, from the lowest, which is 0, to the highest, which is 7
abbrev pub byte : ℕ → ℕ → ℕ
byte i w = w / 256 ^ i % 256

-- its characters: the first is the highest byte, the eighth the lowest
abbrev pub characters : ℕ → List ℕ
characters w = byte 7 w ∷ byte 6 w ∷ byte 5 w ∷ byte 4 w ∷ byte 3 w ∷ byte 2 w ∷ byte 1 w ∷ byte 0 w ∷ []

-- their number, digit by digit
abbrev pub eight_digits : ℕ → Option ℕ
eight_digits w = digits_of 0 (characters w)

-- What that is, outright. The digit in byte i counts 16^i; and there is none exactly where some character is no digit.
pub record EightTogether : Type 0 where
  pub number : (w : ℕ) (d : ℕ → ℕ) → ((i : ℕ) → i < 8 → digit_of (byte i w) ≡ Some (d i))
      → eight_digits w ≡ Some (d 7 * 16 ^ 7 + d 6 * 16 ^ 6 + d 5 * 16 ^ 5 + d 4 * 16 ^ 4 + d 3 * 16 ^ 3 + d 2 * 16 ^ 2 + d 1 * 16 + d 0)
  pub none : (w i : ℕ) → i < 8 → digit_of (byte i w) ≡ None → eight_digits w ≡ None
  pub none_only : (w : ℕ) → eight_digits w ≡ None → (i : ℕ) × (i < 8) × (digit_of (byte i w) ≡ None)
