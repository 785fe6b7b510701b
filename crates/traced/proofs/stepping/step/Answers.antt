-- `traced::stepping::step` meets its contract: the further read, the sheet's length, the plain step and its line, in this order.
use mathlib.Core.Path.{◌≡◌, sym, ◌∙◌}
use mathlib.Core.List.{List, []}
use Prim.Native.Nat.{◌<◌}
use native.Mathlib.Omega.{arith}
use lib.ListN.{length}
use Rattle.rules.specs.declared.Instruction.{Instruction}
use Rattle.rules.specs.Entry.{Snapshot}
use Rattle.rules.specs.Handed.{snapshot}
use Rattle.program.specs.Table.{program_of}
use Rattle.looking.specs.Looks.{Looks}
use Rattle.traced.proofs.PlainSteps.{cells-rise, as-many-numbers, as-many-moments}
use Rattle.traced.proofs.Tracing.{at-unread, at-short, at-refused, is-accepted}
use Rattle.traced.proofs.Stepped.{is-short, is-long, no_step, refused-step, finished}
use borrow.Author.Rules.{rules}
use Rattle.traced.proofs.stepping.step.Goals as goal
use Rattle.traced.proofs.stepping.step.Goals.{After-look-look, Else-ran-eq0, Start}

abbrev program : Start → List Instruction
program s = program_of s.args.program.words.now

abbrev before : Start → Snapshot
before s = let a = s.args in snapshot a.machine a.addresses.now a.numbers.now a.moments.now a.tape.now a.output.now

ten : (s : Start) → length s.args.machine.registers ≡ 10
ten s = search rules

-- what is seen of the step
looks : (c : After-look-look)
    → let a = c.args in
    Looks (program_of a.program.words.now) (snapshot a.machine a.addresses.now a.numbers.now a.moments.now a.tape.now a.output.now) c.look-look.result
looks c =
    let a = c.args in
    c.look-look.ensures.looks a.numbers.now a.moments.now a.tape.now a.output.now
    (as-many-numbers a.machine a.addresses.now a.numbers.now a.moments.now a.tape.now a.output.now c.requires.output_value)
    (as-many-moments a.machine a.addresses.now a.numbers.now a.moments.now a.tape.now a.output.now c.requires.output_value)

-- dst is a register
index : (c : Else-ran-eq0)
    → let a = c.args in
    Looks (program_of a.program.words.now) (snapshot a.machine a.addresses.now a.numbers.now a.moments.now a.tape.now a.output.now) c.look-look.result
    → c.look-look.result.dst < 10
index c l =
    let a = c.args in
    let k = is-accepted (program_of a.program.words.now) (length a.sheet.now)
    (snapshot a.machine a.addresses.now a.numbers.now a.moments.now a.tape.now a.output.now) []
    (λ z. c.if-ran-eq0.false (c.plain_step-ran.ensures.answered.steps ∙ z)) in
    (l.line k.0 k.1).0

pub look-look-requires-clause-rising : goal.look-look-requires-clause-rising
look-look-requires-clause-rising c =
    let a = c.args in
    cells-rise a.machine a.addresses.now a.numbers.now a.moments.now a.tape.now a.output.now c.requires.output_value

pub returns-then-look : goal.returns-then-look
returns-then-look c ls h =
    no_step (program (goal.at.returns-then-look c).Start) (before (goal.at.returns-then-look c).Start) ls c.args.at c.args.sheet.now c.requires.at_in_bounds c.requires.output_value c.stop.result _ c.stop.ensures
    (at-unread (program (goal.at.returns-then-look c).Start) (length c.args.sheet.now) (before (goal.at.returns-then-look c).Start) ls (sym (looks (goal.at.returns-then-look c).After-look-look).unread ∙ c.if-look.true))

pub returns-then-sheet-at-lt-LINE_BYTES : goal.returns-then-sheet-at-lt-LINE_BYTES
returns-then-sheet-at-lt-LINE_BYTES c ls h =
    no_step (program (goal.at.returns-then-sheet-at-lt-LINE_BYTES c).Start) (before (goal.at.returns-then-sheet-at-lt-LINE_BYTES c).Start) ls c.args.at c.args.sheet.now c.requires.at_in_bounds c.requires.output_value c.step_without_line.result _ c.step_without_line.ensures
    (at-short (program (goal.at.returns-then-sheet-at-lt-LINE_BYTES c).Start) (length c.args.sheet.now) (before (goal.at.returns-then-sheet-at-lt-LINE_BYTES c).Start) ls (sym (looks (goal.at.returns-then-sheet-at-lt-LINE_BYTES c).After-look-look).unread ∙ c.if-look.false)
    (is-short (length c.args.sheet.now) c.args.at (length ls) h c.requires.at_in_bounds c.if-sheet-at-lt-LINE_BYTES.true))

pub returns-then-ran-eq0 : goal.returns-then-ran-eq0
returns-then-ran-eq0 c ls h =
    let p = c.plain_step-ran in
    refused-step (program (goal.at.returns-then-ran-eq0 c).Start) (before (goal.at.returns-then-ran-eq0 c).Start) ls c.args.at c.args.sheet.now c.requires.at_in_bounds p.result _ p.ensures c.if-ran-eq0.true
    (at-refused (program (goal.at.returns-then-ran-eq0 c).Start) (length c.args.sheet.now) (before (goal.at.returns-then-ran-eq0 c).Start) ls (sym (looks (goal.at.returns-then-ran-eq0 c).After-look-look).unread ∙ c.if-look.false)
    (is-long (length c.args.sheet.now) c.args.at (length ls) h c.requires.at_in_bounds c.if-sheet-at-lt-LINE_BYTES.false)
    (sym p.ensures.answered.steps ∙ c.if-ran-eq0.true))

pub offset_bounds-ran-look : goal.offset_bounds-ran-look
offset_bounds-ran-look c = let at = goal.at.offset_bounds-ran-look c in omega (arith, index at.Else-ran-eq0 (looks at.After-look-look))

pub bounds-ran-look : goal.bounds-ran-look
bounds-ran-look c = let at = goal.at.bounds-ran-look c in index at.Else-ran-eq0 (looks at.After-look-look)

pub returns : goal.returns
returns c ls h =
    let p = c.plain_step-ran in
    let l = c.if-look.false in
    finished (program (goal.at.returns c).Start) (before (goal.at.returns c).Start) ls c.args.at c.args.sheet.now c.requires.at_in_bounds p.result _ p.ensures c.look-look.result (looks (goal.at.returns c).After-look-look) c.if-look.false
    (is-long (length c.args.sheet.now) c.args.at (length ls) h c.requires.at_in_bounds c.if-sheet-at-lt-LINE_BYTES.false) c.if-ran-eq0.false (ten (goal.at.returns c).Start) (omega (arith, c.requires.at_in_bounds, c.if-sheet-at-lt-LINE_BYTES.false))
    _ _ c.line_words-line.ensures c.put_line.ensures
