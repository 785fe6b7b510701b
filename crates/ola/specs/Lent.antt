-- What stands in the buffers that C lends, after a call.
use Rattle.std.specs.Prelude.{ℕ, List}
use Rattle.rules.specs.Entry.{Snapshot, GuardedSnapshot}
use Rattle.rules.specs.Calls.{Called}
use Rattle.sheets.specs.TracedCalls.{TracedSnapshot}
use Rattle.records.specs.Records.{machine_record, marks_record, answer_record}

-- all that a plain call writes: two records, and the machine's buffers
pub record Buffers : Type 0 where
  pub answer : List ℕ
  pub machine : List ℕ
  pub addresses : List ℕ
  pub numbers : List ℕ
  pub moments : List ℕ
  pub tape : List ℕ
  pub output : List ℕ

-- a guarded call also writes the record of its extras, and the cells' marks
pub record GuardedBuffers : Type 0 where
  pub plain : Buffers
  pub extras : List ℕ
  pub marks : List ℕ

-- a traced call also writes the sheet
pub record TracedBuffers : Type 0 where
  pub plain : Buffers
  pub sheet : List ℕ

abbrev pub buffers : List ℕ → List ℕ → List ℕ → List ℕ → List ℕ → List ℕ → List ℕ → Buffers
buffers answer machine xs ns ms tape output =
    record { answer = answer; machine = machine; addresses = xs; numbers = ns; moments = ms; tape = tape; output = output }

abbrev pub guarded_buffers : List ℕ → List ℕ → List ℕ → List ℕ → List ℕ → List ℕ → List ℕ → List ℕ → List ℕ → GuardedBuffers
guarded_buffers answer machine extras xs ns ms ts tape output =
    record { plain = buffers answer machine xs ns ms tape output; extras = extras; marks = ts }

abbrev pub traced_buffers : List ℕ → List ℕ → List ℕ → List ℕ → List ℕ → List ℕ → List ℕ → List ℕ → TracedBuffers
traced_buffers answer machine xs ns ms tape output sheet = record { plain = buffers answer machine xs ns ms tape output; sheet = sheet }

abbrev left_in : List ℕ → Snapshot → Buffers
left_in answer s = buffers answer (machine_record s.machine) s.addresses s.numbers s.moments s.tape s.output

-- what a call leaves
abbrev pub plain_left : Called Snapshot → Buffers
plain_left c = left_in (answer_record c.answer c.steps) c.left

abbrev pub guarded_left : Called GuardedSnapshot → GuardedBuffers
guarded_left c =
    record {
      plain = left_in (answer_record c.answer c.steps) c.left.plain;
      extras = marks_record c.left.extras;
      marks = c.left.marks;
    }

abbrev pub traced_left : Called TracedSnapshot → TracedBuffers
traced_left c = record { plain = left_in (answer_record c.answer c.steps) c.left.plain; sheet = c.left.sheet }
