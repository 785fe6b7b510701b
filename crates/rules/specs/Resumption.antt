-- What a call leaves can be handed in again: the buffers keep their lengths, and the snapshot stands for the state that the run left.
use Rattle.std.specs.Prelude.{◌<◌, ◌≡◌, true, List, length}
use Rattle.rules.specs.declared.Instruction.{Instruction}
use Rattle.rules.specs.Numbers.{clock_end}
use Rattle.rules.specs.Cells.{number_cells, mark_cells}
use Rattle.rules.specs.Step.{State}
use Rattle.rules.specs.Guarded.{GuardedState}
use Rattle.rules.specs.Entry as Entry
use Rattle.rules.specs.Entry.{Snapshot, GuardedSnapshot, plain_entry, guarded_entry, state_of, guarded_state_of, snapshot_after, guarded_snapshot_after}
use Rattle.rules.specs.Soundness.{Sound, GuardedSound}

-- a state as the next call sees it: what the run wrote behind the output no longer counts as written
abbrev pub resumed : State number_cells → State number_cells
resumed t =
    record {
      registers = t.registers;
      pc = t.pc;
      clk = t.clk;
      cells = t.cells;
      tape = t.tape;
      output = t.output;
      written = t.output;
    }

abbrev pub guarded_resumed : GuardedState number_cells mark_cells → GuardedState number_cells mark_cells
guarded_resumed q = record { plain = resumed q.plain; marks = q.marks }

pub record Resumable (program : List Instruction) (s : Snapshot) (t : State number_cells) : Type 0 where
  pub addresses : length (snapshot_after s t).addresses ≡ length s.addresses
  pub numbers : length (snapshot_after s t).numbers ≡ length s.numbers
  pub moments : length (snapshot_after s t).moments ≡ length s.moments
  pub tape : length (snapshot_after s t).tape ≡ length s.tape
  pub output : length (snapshot_after s t).output ≡ length s.output
  pub environment : Entry.environment program (snapshot_after s t) ≡ Entry.environment program s
  pub state : state_of (snapshot_after s t) ≡ resumed t
  -- it is refused 3 only for its clock
  pub entry : t.clk < clock_end → plain_entry (snapshot_after s t) ≡ true

pub record GuardedResumable (program : List Instruction) (g : GuardedSnapshot) (q : GuardedState number_cells mark_cells) : Type 0 where
  pub plain : Resumable program g.plain q.plain
  pub marks : length (guarded_snapshot_after g q).marks ≡ length g.marks
  pub state : guarded_state_of (guarded_snapshot_after g q) ≡ guarded_resumed q
  pub entry : q.plain.clk < clock_end → guarded_entry (guarded_snapshot_after g q) ≡ true

-- The theorem: it holds of every sound state over the buffers of a snapshot that passed entry, so of every end of a run from there

pub record Resumption (program : List Instruction) : Type 0 where
  pub plain : (s : Snapshot) (t : State number_cells) → plain_entry s ≡ true → Sound (Entry.environment program s) t → Resumable program s t
  pub guarded : (g : GuardedSnapshot) (q : GuardedState number_cells mark_cells) → guarded_entry g ≡ true
      → GuardedSound (Entry.environment program g.plain) q → GuardedResumable program g q
