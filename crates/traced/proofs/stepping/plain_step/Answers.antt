-- `traced::stepping::plain_step` meets its contract: it is the loop's run with budget 1.
use Rattle.program.specs.Table.{program_of}
use Rattle.traced.proofs.PlainSteps.{passes-plain, stepped-plain}
use Rattle.traced.proofs.stepping.plain_step.Goals as goal

pub run-requires-clause-passed_entry : goal.run-requires-clause-passed_entry
run-requires-clause-passed_entry c =
    let a = c.args in
    passes-plain a.machine a.addresses.now a.numbers.now a.moments.now a.tape.now a.output.now c.requires.output_value

pub returns : goal.returns
returns c =
    let a = c.args in
    let r = c.run in
    stepped-plain a.machine a.addresses.now a.numbers.now a.moments.now a.tape.now a.output.now (program_of a.program.words.now) r.result
    r.new.addresses r.new.numbers r.new.moments r.new.marks r.new.tape r.new.output
    r.ensures
