-- `traced::stepping::run` meets its contract: the loop's invariant: what is left of the run, from what the steps done left, is the whole run.
use Rattle.rules.specs.Handed.{snapshot}
use Rattle.program.specs.Table.{program_of}
use Rattle.sheets.specs.TracedCalls.{traced_snapshot}
use Rattle.traced.proofs.Going.{Going}
use Rattle.traced.proofs.stepping.run.Given as goal

abbrev pub invariant-loop-done : goal.invariant-loop-done
invariant-loop-done l =
    Going (program_of l.program.words.now) l.budget (traced_snapshot l.initial.machine l.initial.addresses l.initial.numbers l.initial.moments l.initial.tape l.initial.output l.initial.sheet) (snapshot l.machine l.addresses l.numbers l.moments l.tape l.output) l.done l.at l.sheet
