-- Document 01's numbers, and the choice by a test.
use Rattle.std.specs.Prelude.{ℕ, Bool, true, false}

-- p, the Goldilocks prime 2^64 - 2^32 + 1
unfoldable pub p : ℕ
p = 0xFFFFFFFF00000001

-- the ends of the stack and of the heap; the prophet region ends at p
unfoldable pub stack_end : ℕ
stack_end = 0xFFFFFFFD00000003

unfoldable pub heap_end : ℕ
heap_end = 0xFFFFFFFE00000002

-- `psp_start` of a default `OlaMemory`: where the prophet region starts
abbrev pub default_psp : ℕ
default_psp = heap_end

-- RC accepts up to this number; AND, OR, XOR and GTE refuse operands from it on
unfoldable pub small_end : ℕ
small_end = 0xFFFFFFFF

-- words are below it
unfoldable pub word_end : ℕ
word_end = 0x10000000000000000

-- a run stops where clk reaches it
unfoldable pub clock_end : ℕ
clock_end = 1000000000000

-- the most frames, bytes of text, cells, and values of tape or output
unfoldable pub frame_limit : ℕ
frame_limit = 512

unfoldable pub text_limit : ℕ
text_limit = 65536

unfoldable pub cell_limit : ℕ
cell_limit = 2048

unfoldable pub value_limit : ℕ
value_limit = 4096

-- a word of marks, one bit for each of the ten registers, is below it
abbrev pub marks_end : ℕ
marks_end = 1024

-- the most words of a program: a frame has at most four
abbrev pub word_limit : ℕ
word_limit = 2048

abbrev pub choose : {A : Type 0} → Bool → A → A → A
choose true a b = a
choose false a b = b

abbrev pub bit : Bool → ℕ
bit true = 1
bit false = 0
