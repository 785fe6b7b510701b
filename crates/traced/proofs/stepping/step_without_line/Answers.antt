-- `traced::stepping::step_without_line` meets its contract: the step's own refusal goes first, else it is 19.
use mathlib.Core.Path.{ap, ◌∙◌}
use native.Mathlib.Omega.{arith}
use Rattle.rules.specs.declared.Answer.{Answer}
use Rattle.rules.specs.declared.Machine.{Machine}
use Rattle.rules.specs.declared.Ran.{Ran}
use Rattle.rules.specs.Handed.{snapshot, no_marks}
use Rattle.program.specs.Table.{program_of}
use Rattle.traced.proofs.PlainSteps.{own-refusal, too_short}
use Rattle.traced.proofs.stepping.step_without_line.Goals as goal

abbrev stopped : Machine → Answer → Ran
stopped m a = record { answer = a; steps = 0; machine = m; extras = no_marks }

pub returns-then-tried-eq0 : goal.returns-then-tried-eq0
returns-then-tried-eq0 c =
    let a = c.args in
    let t = c.try_step-tried in
    c.stop.ensures
    ∙ ap (stopped a.machine) (own-refusal (program_of a.program.words.now) (snapshot a.machine a.addresses.now a.numbers.now a.moments.now a.tape.now a.output.now) t.result t.ensures (omega arith))

pub returns : goal.returns
returns c =
    let a = c.args in
    let t = c.try_step-tried in
    c.stop-2.ensures
    ∙ ap (stopped a.machine) (too_short (program_of a.program.words.now) (snapshot a.machine a.addresses.now a.numbers.now a.moments.now a.tape.now a.output.now) t.result t.ensures (λ e. omega arith))
