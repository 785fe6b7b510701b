-- The numbers that `number` tests characters by. They stand in a file of their own so that a must-fail edit can change them with the code:
-- then the test of all bytes is what refuses it.
use Prim.Native.Nat.{ℕ}

-- how far letters are moved down, and what then tells them from the digits before: of a byte, and of all eight
abbrev pub down : ℕ
down = 0x27

abbrev pub six : ℕ
six = 0x06

abbrev pub sixes : ℕ
sixes = 0x0606_0606_0606_0606

-- bit 6, which tells: of a byte, and of all eight
abbrev pub bit6 : ℕ
bit6 = 0x40

abbrev pub bits6 : ℕ
bits6 = 0x4040_4040_4040_4040

-- the bits that no digit has
abbrev pub high : ℕ
high = 0xf0

abbrev pub highs : ℕ
highs = 0xf0f0_f0f0_f0f0_f0f0
