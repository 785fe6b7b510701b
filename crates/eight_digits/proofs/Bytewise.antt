-- What `number` computes of a word, byte by byte: whether some character is no digit, and the digits. What it finds of one byte is tested at
-- all 256.
use Rattle.std.specs.Prelude.{Option, Some, None}
use mathlib.Core.Path.{◌≡◌, refl, sym, ap, ap₂, ◌∙◌, subst}
use mathlib.Core.Bool.{Bool, true, false}
use mathlib.Core.List.{List, [], ◌∷◌, ◌++◌}
use Prim.Native.Nat.{ℕ, zero, suc, ◌+◌, ◌-◌, ◌*◌, ◌/◌, ◌%◌, ◌^◌, ◌≤◌, ◌<◌}
use native.Mathlib.Omega.{arith}
use native.Mathlib.Nat.{div-add-mod'}
use lib.Bits.{bit_and, bit_or, bit_xor, and_block, and_mask, and_zero_r}
use lib.Dec.{T, eqb, eqb→eq, lit<}
use borrow.Author.Tests.{eq-eqb, ne_eqb, eqb-true, eqb-false}
use Rattle.rules.specs.Numbers.{choose}
use Rattle.rules.specs.Hexadecimal.{digit_of, on_digit, digits_of}
use Rattle.rules.proofs.Laws.Computed.{at}
use Rattle.eight_digits.specs.EightDigits.{byte, characters, eight_digits}
use Rattle.eight_digits.proofs.Masks.{down, six, sixes, bit6, bits6, high, highs}
use Rattle.eight_digits.proofs.Appending.{digits-snoc}
use Rattle.eight_digits.proofs.Lanes.{lanes, rep, rep-lanes, id-lanes, same-lanes, add-lanes, times-lanes, lanes-lt, tested, and-lanes, or-lanes, xor-lanes}
use Rattle.eight_digits.proofs.Squeeze.{pack}

-- what the function computes of the word
abbrev pub letters-of : ℕ → ℕ
letters-of w = bit_and (w / 64) 0x0101_0101_0101_0101

abbrev pub moved-of : ℕ → ℕ
moved-of w = w - letters-of w * down

abbrev pub digits_in : ℕ → ℕ
digits_in w = bit_xor (moved-of w) 0x3030_3030_3030_3030

abbrev pub wrong-of : ℕ → ℕ
wrong-of w =
    bit_or (bit_and (digits_in w) highs) (bit_and (bit_xor (moved-of w + sixes) w) bits6)

-- and of one byte
abbrev letter : ℕ → ℕ
letter x = x / 64 % 2

abbrev moved : ℕ → ℕ
moved x = x - letter x * down

abbrev digit : ℕ → ℕ
digit x = bit_xor (moved x) 48

abbrev other : ℕ → ℕ
other x = bit_xor (moved x + six) x

abbrev wrong : ℕ → ℕ
wrong x = bit_or (bit_and (digit x) high) (bit_and (other x) bit6)

-- the word by its bytes
letter-lanes : (n w : ℕ) → bit_and (w / 64) (rep 1 n) ≡ lanes letter n w
unfolding rep lanes
letter-lanes zero w = and_zero_r (w / 64)
letter-lanes (suc n) w =
    let d : w / 64 / 256 ≡ w / 256 / 64 = omega arith in
    let m : w / 64 % 256 % 2 ≡ w % 256 / 64 % 2 = omega arith in
    ap (λ (x : ℕ). bit_and x (rep 1 n * 256 + 1)) (sym (div-add-mod' (w / 64) 256))
    ∙ and_block 8 (w / 64 / 256) (rep 1 n) (w / 64 % 256) 1 (omega arith) (lit< tt)
    ∙ ap₂ (λ (a b : ℕ). a * 256 + b) (ap (λ (x : ℕ). bit_and x (rep 1 n)) d ∙ letter-lanes n (w / 256)) (and_mask (w / 64 % 256) 1 ∙ m)

module _ (w : ℕ) (h : w < 2 ^ 64) where
  moved-and-letters : lanes moved 8 w + letters-of w * down ≡ w
  unfolding rep
  moved-and-letters =
      ap (λ (k : ℕ). lanes moved 8 w + k) (ap (λ (k : ℕ). k * down) (letter-lanes 8 w) ∙ times-lanes down letter 8 w)
      ∙ add-lanes moved (λ x. letter x * down) 8 w
      ∙ same-lanes (λ x. moved x + letter x * down) (λ x. x) (λ x b. omega arith) 8 w
      ∙ sym (id-lanes 8 w h)

  -- no byte borrows from the next
  pub enough : letters-of w * down ≤ w
  enough = omega (arith, moved-and-letters)

  moved-lanes : moved-of w ≡ lanes moved 8 w
  moved-lanes = omega (arith, moved-and-letters)

  digit-lanes : digits_in w ≡ lanes digit 8 w
  unfolding rep
  digit-lanes =
      ap₂ (λ (a b : ℕ). bit_xor a b) moved-lanes (rep-lanes 48 8 w) ∙ xor-lanes moved (λ _. 48) (tested moved tt) (λ x b. lit< tt) 8 w

  past-lanes : moved-of w + sixes ≡ lanes (λ x. moved x + six) 8 w
  unfolding rep
  past-lanes = ap₂ (λ (a b : ℕ). a + b) moved-lanes (rep-lanes six 8 w) ∙ add-lanes moved (λ _. six) 8 w

  -- nor carries into it
  pub past-lt : moved-of w + sixes < 2 ^ 64
  past-lt = omega (arith, past-lanes, lanes-lt (λ x. moved x + six) (tested (λ x. moved x + six) tt) 8 w)

  other-lanes : bit_xor (moved-of w + sixes) w ≡ lanes other 8 w
  other-lanes =
      ap₂ (λ (a b : ℕ). bit_xor a b) past-lanes (id-lanes 8 w h) ∙ xor-lanes (λ x. moved x + six) (λ x. x) (tested (λ x. moved x + six) tt) (λ x b. b) 8 w

  wrong-lanes : wrong-of w ≡ lanes wrong 8 w
  unfolding rep
  wrong-lanes =
      let d : bit_and (digits_in w) highs ≡ lanes (λ x. bit_and (digit x) high) 8 w =
      ap₂ (λ (a b : ℕ). bit_and a b) digit-lanes (rep-lanes high 8 w) ∙ and-lanes digit (λ _. high) (tested digit tt) (λ x b. lit< tt) 8 w in
      let o : bit_and (bit_xor (moved-of w + sixes) w) bits6 ≡ lanes (λ x. bit_and (other x) bit6) 8 w =
      ap₂ (λ (a b : ℕ). bit_and a b) other-lanes (rep-lanes bit6 8 w) ∙ and-lanes other (λ _. bit6) (tested other tt) (λ x b. lit< tt) 8 w in
      ap₂ (λ (a b : ℕ). bit_or a b) d o
      ∙ or-lanes (λ x. bit_and (digit x) high) (λ x. bit_and (other x) bit6) (tested (λ x. bit_and (digit x) high) tt) (tested (λ x. bit_and (other x) bit6) tt) 8 w

-- one byte: tested at all 256
same : Option ℕ → Option ℕ → Bool
same (Some a) (Some b) = eqb a b
same (Some a) None = false
same None (Some b) = false
same None None = true

same→eq : (a b : Option ℕ) → T (same a b) → a ≡ b
unfolding same
same→eq (Some a) (Some b) t = ap Some (eqb→eq a b t)
same→eq (Some a) None t = absurd t
same→eq None (Some b) t = absurd t
same→eq None None t = refl

byte-is : (x : ℕ) → x < 256 → digit_of x ≡ choose (eqb (wrong x) 0) (Some (digit x % 16)) None
unfolding same digit_of
byte-is x h =
    same→eq (digit_of x) (choose (eqb (wrong x) 0) (Some (digit x % 16)) None)
    (at (λ (k : ℕ). same (digit_of k) (choose (eqb (wrong k) 0) (Some (digit k % 16)) None)) 256 tt x h)

imp : Bool → Bool → Bool
imp true b = b
imp false b = true

digit-small : (x : ℕ) → x < 256 → wrong x ≡ 0 → digit x ≡ digit x % 16
unfolding imp
digit-small x h e =
    eqb→eq (digit x) (digit x % 16)
    (subst (λ (b : Bool). T (imp b (eqb (digit x) (digit x % 16)))) (eq-eqb (wrong x) 0 e) (at (λ (k : ℕ). imp (eqb (wrong k) 0) (eqb (digit k) (digit k % 16))) 256 tt x h))

-- the digits of a word's bytes, the lowest first
unfoldable pub digits : ℕ → ℕ → List ℕ
digits zero w = []
digits (suc n) w = digit (w % 256) % 16 ∷ digits n (w / 256)

packed : (n w : ℕ) → lanes wrong n w ≡ 0 → lanes digit n w ≡ pack 256 (digits n w)
unfolding lanes digits pack
packed zero w e = refl
packed (suc n) w e = ap₂ (λ (a b : ℕ). a * 256 + b) (packed n (w / 256) (omega arith)) (digit-small (w % 256) (omega arith) (omega arith))

-- the n low bytes as characters, the first in the highest
unfoldable chars : ℕ → ℕ → List ℕ
chars zero w = []
chars (suc n) w = chars n (w / 256) ++ (w % 256 ∷ [])

eight-chars : (w : ℕ) → chars 8 w ≡ characters w
unfolding chars
eight-chars w =
    let e₀ : w ≡ w / 256 ^ 0 = omega arith in
    let e₂ : w / 256 / 256 ≡ w / 256 ^ 2 = omega arith in
    let e₃ : w / 256 ^ 2 / 256 ≡ w / 256 ^ 3 = omega arith in
    let e₄ : w / 256 ^ 3 / 256 ≡ w / 256 ^ 4 = omega arith in
    let e₅ : w / 256 ^ 4 / 256 ≡ w / 256 ^ 5 = omega arith in
    let e₆ : w / 256 ^ 5 / 256 ≡ w / 256 ^ 6 = omega arith in
    let e₇ : w / 256 ^ 6 / 256 ≡ w / 256 ^ 7 = omega arith in
    rw (e₂, e₃, e₄, e₅, e₆, e₇)
    (ap (λ (k : ℕ). byte 7 w ∷ byte 6 w ∷ byte 5 w ∷ byte 4 w ∷ byte 3 w ∷ byte 2 w ∷ byte 1 w ∷ k % 256 ∷ []) e₀)

-- one more character at the end
abbrev on_digits : Option ℕ → Option ℕ → Option ℕ
on_digits m d = on_digit m (λ k. on_digit d (λ v. Some (k * 16 + v)))

join : (l b p d : ℕ) → on_digits (choose (eqb l 0) (Some p) None) (choose (eqb b 0) (Some d) None) ≡ choose (eqb (l * 256 + b) 0) (Some (p * 16 + d)) None
join l b p d = go (eqb l 0) (eqb b 0) refl refl
  where
    go : (s t : Bool) → eqb l 0 ≡ s → eqb b 0 ≡ t → on_digits (choose s (Some p) None) (choose t (Some d) None) ≡ choose (eqb (l * 256 + b) 0) (Some (p * 16 + d)) None
    go true true e f = rw (eq-eqb (l * 256 + b) 0 (omega (arith, eqb-true)))
    go true false e f = rw (ne_eqb (l * 256 + b) 0 (λ z. eqb-false b 0 f (omega arith)))
    go false true e f = rw (ne_eqb (l * 256 + b) 0 (λ z. eqb-false l 0 e (omega arith)))
    go false false e f = rw (ne_eqb (l * 256 + b) 0 (λ z. eqb-false l 0 e (omega arith)))

read-lanes : (n w : ℕ) → digits_of 0 (chars n w) ≡ choose (eqb (lanes wrong n w) 0) (Some (pack 16 (digits n w))) None
unfolding digits_of chars lanes digits pack
read-lanes zero w = refl
read-lanes (suc n) w =
    digits-snoc (chars n (w / 256)) 0 (w % 256)
    ∙ ap₂ (λ (a b : Option ℕ). on_digits a b) (read-lanes n (w / 256)) (byte-is (w % 256) (omega arith))
    ∙ join (lanes wrong n (w / 256)) (wrong (w % 256)) (pack 16 (digits n (w / 256))) (digit (w % 256) % 16)

-- what the function's two answers rest on
module _ (w : ℕ) (h : w < 2 ^ 64) where
  read : eight_digits w ≡ choose (eqb (lanes wrong 8 w) 0) (Some (pack 16 (digits 8 w))) None
  read = ap (digits_of 0) (sym (eight-chars w)) ∙ read-lanes 8 w

  pub no_number : (wrong-of w ≡ 0 → ⊥) → eight_digits w ≡ None
  no_number f = read ∙ rw (ne_eqb (lanes wrong 8 w) 0 (λ z. f (wrong-lanes w h ∙ z)))

  pub a-number : wrong-of w ≡ 0 → eight_digits w ≡ Some (pack 16 (digits 8 w))
  a-number e = read ∙ rw (eq-eqb (lanes wrong 8 w) 0 (sym (wrong-lanes w h) ∙ e))

  pub its-digits : wrong-of w ≡ 0 → digits_in w ≡ pack 256 (digits 8 w)
  its-digits e = digit-lanes w h ∙ packed 8 w (sym (wrong-lanes w h) ∙ e)

  pub digits_le : wrong-of w ≡ 0 → digits_in w ≤ 0x0f0f_0f0f_0f0f_0f0f
  unfolding digits pack
  digits_le e = let d = its-digits e in omega arith
