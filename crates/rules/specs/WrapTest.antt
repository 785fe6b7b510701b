-- TLOAD's test of dst and count decides no call: where it refuses, the store behind it would refuse the same, 14.
use Rattle.std.specs.Prelude.{ℕ, ◌≤◌, ◌-◌, ◌≡◌, true, List, length, replicate}
use Rattle.rules.specs.declared.Instruction.{Instruction}
use Rattle.rules.specs.declared.Held.{Held}
use Rattle.rules.specs.declared.Refusal.TheVariants.{TapeFault, StoreFault, ProphetStore}
use Rattle.rules.specs.Numbers.{p}
use Rattle.rules.specs.Results.{Result, refuse, pass, require, bind}
use Rattle.rules.specs.Memory.{Memory}
use Rattle.rules.specs.Cells.{number_cells}
use Rattle.rules.specs.Opcodes.{tape_load}
use Rattle.rules.specs.Operands.{Operands}
use Rattle.rules.specs.Step.{Environment, State, Next, next_pc, on_tape, tape_values, store_many, writes_cells, operate}
use Rattle.rules.specs.Entry.{Snapshot, GuardedSnapshot, plain_entry, guarded_entry, environment}
use Rattle.rules.specs.Calls.{plain_run_of, guarded_run_of}

module _ (number_memory : Memory Held) where
  -- TLOAD as `operate` has it, without the test `wraps`
  abbrev pub untested : Instruction → State number_memory → Operands → Result (Next number_memory)
  untested i s o =
      require (on_tape o.op0 o.op1 s.tape) TapeFault
      (bind (store_many number_memory s.clk s.cells o.dst (tape_values o.op0 o.op1 s.tape)) λ c.
      pass (writes_cells number_memory s (next_pc number_memory s i) c))

  -- in a state every TLOAD gives the same without the test
  abbrev pub DecidesNothing : Environment → State number_memory → Type 0
  DecidesNothing e s = (i : Instruction) (o : Operands) → operate number_memory e tape_load i s o ≡ untested i s o

-- the last n values of the tape, to the cells from p - 1 on
abbrev pub last_below : ℕ → Operands
last_below n = record { op0 = 1; op1 = n; dst = p - 1 }

-- at no TLOAD of a call does it decide anything
pub record WrapTest : Type 1 where
  -- with a tape of at most 2^32 - 1 values, over any memory
  pub short_tape : (number_memory : Memory Held) (e : Environment) (s : State number_memory) → length s.tape ≤ 0xFFFFFFFF → DecidesNothing number_memory e s
  -- with one value more it can decide: 14, and 15 without it
  pub longer_tape : (number_memory : Memory Held) (e : Environment) (s : State number_memory) → s.tape ≡ replicate 0x100000000 0 → (i : Instruction)
      → (operate number_memory e tape_load i s (last_below 0x100000000) ≡ refuse StoreFault) × (untested number_memory i s (last_below 0x100000000) ≡ refuse ProphetStore)
  -- so in every state that a call comes to, whose tape has at most 4,096 values, it decides nothing
  pub plain_calls : (program : List Instruction) (s : Snapshot) → length s.machine.registers ≡ 10 → plain_entry s ≡ true
      → (steps : ℕ) → DecidesNothing number_cells (environment program s) (plain_run_of program steps s).state
  pub guarded_calls : (program : List Instruction) (g : GuardedSnapshot) → length g.plain.machine.registers ≡ 10 → guarded_entry g ≡ true
      → (steps : ℕ) → DecidesNothing number_cells (environment program g.plain) (guarded_run_of program steps g).state.plain
