-- Digits 0-9a-f, as characters: how a word is read, and how numbers are written.
use Rattle.std.specs.Prelude.{ℕ, zero, suc, ◌+◌, ◌*◌, ◌-◌, ◌/◌, ◌%◌, ◌&&◌, List, [], ◌∷◌, ◌++◌, ltb, leb, eqb, length, Option, Some, None}
use Rattle.rules.specs.Numbers.{choose}

-- the value of a digit: '0' to '9' are 48 to 57, 'a' to 'f' are 97 to 102
unfoldable pub digit_of : ℕ → Option ℕ
digit_of c = choose (leb 48 c && leb c 57) (Some (c - 48)) (choose (leb 97 c && leb c 102) (Some (c - 87)) None)

abbrev pub on_digit : Option ℕ → (ℕ → Option ℕ) → Option ℕ
on_digit None k = None
on_digit (Some d) k = k d

-- the number of digits, the first the highest, after the number n
unfoldable pub digits_of : ℕ → List ℕ → Option ℕ
digits_of n [] = Some n
digits_of n (c ∷ cs) = on_digit (digit_of c) (λ d. digits_of (n * 16 + d) cs)

-- a word: exactly 16 digits
unfoldable pub word_of : List ℕ → Option ℕ
word_of cs = choose (eqb (length cs) 16) (digits_of 0 cs) None

-- the character of a digit's value
abbrev pub digit_char : ℕ → ℕ
digit_char d = choose (ltb d 10) (d + 48) (d + 87)

-- a number's lowest n digits, the highest first
unfoldable pub low_digits : ℕ → ℕ → List ℕ
low_digits zero v = []
low_digits (suc n) v = low_digits n (v / 16) ++ (digit_char (v % 16) ∷ [])

-- 16 digits of a word
abbrev pub digits16 : ℕ → List ℕ
digits16 v = low_digits 16 v

-- how many digits a number has, at least one and at most n + 1
unfoldable pub digit_count : ℕ → ℕ → ℕ
digit_count zero v = 1
digit_count (suc n) v = choose (ltb v 16) 1 (suc (digit_count n (v / 16)))

-- a word in shortest hexadecimal
unfoldable pub shortest_hex : ℕ → List ℕ
shortest_hex v = low_digits (digit_count 15 v) v
