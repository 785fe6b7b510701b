-- A word as n bytes, and one function applied to each of them: what a masked operation on the word does.
use mathlib.Core.Path.{◌≡◌, refl, ap, ap₂, ◌∙◌}
use Prim.Native.Nat.{ℕ, zero, suc, ◌+◌, ◌*◌, ◌/◌, ◌%◌, ◌^◌, ◌<◌}
use native.Mathlib.Nat.{zero-mul, add-mul, mul_right_comm, pow-suc}
use native.Mathlib.Omega.{arith}
use lib.Arith.{digits_lt}
use lib.Dec.{T, ltb, ltb→lt}
use lib.Bits.{bit_and, bit_or, bit_xor, and_block, or_block, xor_block}
use Rattle.rules.proofs.Laws.Computed.{every, at}

-- each of the n low bytes of w, replaced by what f makes of it
unfoldable pub lanes : (ℕ → ℕ) → ℕ → ℕ → ℕ
lanes f zero w = 0
lanes f (suc n) w = lanes f n (w / 256) * 256 + f (w % 256)

-- a byte n times over
unfoldable pub rep : ℕ → ℕ → ℕ
rep b zero = 0
rep b (suc n) = rep b n * 256 + b

pub rep-lanes : (b n w : ℕ) → rep b n ≡ lanes (λ _. b) n w
unfolding lanes rep
rep-lanes b zero w = refl
rep-lanes b (suc n) w = ap (λ (k : ℕ). k * 256 + b) (rep-lanes b n (w / 256))

pub id-lanes : (n w : ℕ) → w < 256 ^ n → w ≡ lanes (λ x. x) n w
unfolding lanes
id-lanes zero w h = omega arith
id-lanes (suc n) w h =
    let e : w / 256 ≡ lanes (λ x. x) n (w / 256) = id-lanes n (w / 256) (omega arith) in
    omega arith

byte : (w : ℕ) → w % 256 < 256
byte w = omega arith

-- two functions that agree on bytes
pub same-lanes : (f g : ℕ → ℕ) → ((x : ℕ) → x < 256 → f x ≡ g x) → (n w : ℕ) → lanes f n w ≡ lanes g n w
unfolding lanes
same-lanes f g e zero w = refl
same-lanes f g e (suc n) w = ap₂ (λ (k r : ℕ). k * 256 + r) (same-lanes f g e n (w / 256)) (e (w % 256) (byte w))

pub add-lanes : (f g : ℕ → ℕ) (n w : ℕ) → lanes f n w + lanes g n w ≡ lanes (λ x. f x + g x) n w
unfolding lanes
add-lanes f g zero w = refl
add-lanes f g (suc n) w =
    let e = add-lanes f g n (w / 256) in
    omega arith

pub times-lanes : (k : ℕ) (f : ℕ → ℕ) (n w : ℕ) → lanes f n w * k ≡ lanes (λ x. f x * k) n w
unfolding lanes
times-lanes k f zero w = zero-mul k
times-lanes k f (suc n) w =
    add-mul (lanes f n (w / 256) * 256) (f (w % 256)) k
    ∙ ap (λ (m : ℕ). m + f (w % 256) * k) (mul_right_comm (lanes f n (w / 256)) 256 k ∙ ap (λ (m : ℕ). m * 256) (times-lanes k f n (w / 256)))

-- a function whose value on a byte is a byte
abbrev pub Byte : (ℕ → ℕ) → Type 0
Byte f = (x : ℕ) → x < 256 → f x < 256

pub lanes-lt : (f : ℕ → ℕ) → Byte f → (n w : ℕ) → lanes f n w < 256 ^ n
unfolding lanes
lanes-lt f h zero w = omega arith
lanes-lt f h (suc n) w = rw (pow-suc 256 n) (digits_lt (lanes-lt f h n (w / 256)) (h (w % 256) (byte w)))

-- shown by a test at all 256
pub tested : (f : ℕ → ℕ) → T (every (λ x. ltb (f x) 256) 0 256) → Byte f
tested f t x h = ltb→lt (f x) 256 (at (λ (k : ℕ). ltb (f k) 256) 256 t x h)

-- an operation that goes byte by byte
module _ (op : ℕ → ℕ → ℕ) (none : op 0 0 ≡ 0) (block : (a b r s : ℕ) → r < 256 → s < 256 → op (a * 256 + r) (b * 256 + s) ≡ op a b * 256 + op r s) where
  pub op-lanes : (f g : ℕ → ℕ) → Byte f → Byte g → (n w : ℕ) → op (lanes f n w) (lanes g n w) ≡ lanes (λ x. op (f x) (g x)) n w
  unfolding lanes
  op-lanes f g hf hg zero w = none
  op-lanes f g hf hg (suc n) w =
      block (lanes f n (w / 256)) (lanes g n (w / 256)) (f (w % 256)) (g (w % 256)) (hf (w % 256) (byte w)) (hg (w % 256) (byte w))
      ∙ ap (λ (k : ℕ). k * 256 + op (f (w % 256)) (g (w % 256))) (op-lanes f g hf hg n (w / 256))

pub and-lanes : (f g : ℕ → ℕ) → Byte f → Byte g → (n w : ℕ) → bit_and (lanes f n w) (lanes g n w) ≡ lanes (λ x. bit_and (f x) (g x)) n w
and-lanes = op-lanes bit_and refl (λ a b r s. and_block 8 a b r s)

pub or-lanes : (f g : ℕ → ℕ) → Byte f → Byte g → (n w : ℕ) → bit_or (lanes f n w) (lanes g n w) ≡ lanes (λ x. bit_or (f x) (g x)) n w
or-lanes = op-lanes bit_or refl (λ a b r s. or_block 8 a b r s)

pub xor-lanes : (f g : ℕ → ℕ) → Byte f → Byte g → (n w : ℕ) → bit_xor (lanes f n w) (lanes g n w) ≡ lanes (λ x. bit_xor (f x) (g x)) n w
xor-lanes = op-lanes bit_xor refl (λ a b r s. xor_block 8 a b r s)
