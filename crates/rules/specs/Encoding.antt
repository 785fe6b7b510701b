-- How the tables of cases write a program: the words of a frame, by document 01's layout, and the bytes of a text.
use Rattle.std.specs.Prelude.{ℕ, ◌+◌, ◌*◌, ◌^◌, List, [], ◌∷◌, ◌++◌}
use Prim.Native.Char.{code}
use Prim.Native.String.{String, [] as end, ◌∷◌ as ◌then◌}
use Rattle.rules.specs.declared.OlaOpcode.{OlaOpcode}
use Rattle.rules.specs.declared.OlaOpcode.TheVariants as O
use Rattle.rules.specs.declared.OlaOperand.{OlaOperand}
use Rattle.rules.specs.declared.OlaOperand.TheVariants.{Absent, Immediate, Register, RegisterWithOffset, RegisterWithFactor, Psp, Pc}

-- the opcodes by their numbers, the operands by their kinds, selectors and value words
abbrev pub opcode_number : OlaOpcode → ℕ
opcode_number O.Add = 0
opcode_number O.Mul = 1
opcode_number O.Eq = 2
opcode_number O.Assert = 3
opcode_number O.Mov = 4
opcode_number O.Jmp = 5
opcode_number O.Cjmp = 6
opcode_number O.Call = 7
opcode_number O.Ret = 8
opcode_number O.Mload = 9
opcode_number O.Mstore = 10
opcode_number O.End = 11
opcode_number O.Rc = 12
opcode_number O.And = 13
opcode_number O.Or = 14
opcode_number O.Xor = 15
opcode_number O.Not = 16
opcode_number O.Neq = 17
opcode_number O.Gte = 18
opcode_number O.Poseidon = 19
opcode_number O.Sload = 20
opcode_number O.Sstore = 21
opcode_number O.Tload = 22
opcode_number O.Tstore = 23
opcode_number O.Sccall = 24
opcode_number O.Sigcheck = 25
opcode_number O.Event = 26

abbrev pub kind_number : OlaOperand → ℕ
kind_number Absent = 0
kind_number (Immediate v) = 1
kind_number (Register r) = 2
kind_number (RegisterWithOffset r v) = 3
kind_number (RegisterWithFactor r v) = 4
kind_number Psp = 5
kind_number Pc = 6

abbrev pub selector : OlaOperand → ℕ
selector Absent = 0
selector (Immediate v) = 0
selector (Register r) = 2 ^ r
selector (RegisterWithOffset r v) = 2 ^ r
selector (RegisterWithFactor r v) = 2 ^ r
selector Psp = 0
selector Pc = 0

abbrev pub value_words : OlaOperand → List ℕ
value_words Absent = []
value_words (Immediate v) = v ∷ []
value_words (Register r) = []
value_words (RegisterWithOffset r v) = v ∷ []
value_words (RegisterWithFactor r v) = v ∷ []
value_words Psp = []
value_words Pc = []

-- opcode, op0, op1, dst
unfoldable pub frame : OlaOpcode → OlaOperand → OlaOperand → OlaOperand → List ℕ
frame o a b d =
    (opcode_number o
    + kind_number a * 2 ^ 8
    + kind_number b * 2 ^ 11
    + kind_number d * 2 ^ 14
    + selector a * 2 ^ 52
    + selector b * 2 ^ 42
    + selector d * 2 ^ 32)
    ∷ (value_words a ++ (value_words b ++ value_words d))

abbrev pub imm : ℕ → OlaOperand
imm n = Immediate n

-- operands of refusals 6 and 7: an absent one, and one whose offset is p
abbrev pub absent6 : OlaOperand
absent6 = Absent

abbrev pub offset7 : OlaOperand
offset7 = RegisterWithOffset 2 0xFFFFFFFF00000001

-- the bytes of a text
unfoldable pub bytes : String → List ℕ
bytes end = []
bytes (c then s) = code c ∷ bytes s
