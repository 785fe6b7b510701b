-- `looking::look` meets its contract: nothing is seen where nothing starts or an operand is refused, else what the row and the values say.
use Rattle.std.specs.Prelude.{false, Ok, Err}
use mathlib.Core.Path.{◌≡◌, sym, ap, subst, ◌∙◌}
use lib.ListN.{get_or, take}
use Rattle.rules.specs.Operands.{instruction_at}
use Rattle.rules.specs.Handed.{snapshot, no_marks}
use Rattle.program.specs.Table.{program_of, Says}
use Rattle.operands.specs.Meanings.{Computes}
use Rattle.effects.specs.declared.Mode.{Mode}
use Rattle.effects.specs.Deciding.{AtRow}
use Rattle.interpreter.proofs.Preparing.{simple-fetched, computed-fetched}
use Rattle.looking.specs.Looks.{absent_below, sight_of, Looks}
use Rattle.looking.proofs.Sights.{outside-looks, refused-looks, seen-looks}
use Rattle.looking.proofs.look.Goals as goal
use Rattle.looking.proofs.look.Goals.{in-Some-frame+in_default-compute, in_default-frame, In-Some, Joined-frame}

said : (c : In-Some) → let a = c.args in Says a.program.words.now a.machine.pc c.in-Some.row.now (instruction_at (program_of a.program.words.now) a.machine.pc)
said c = c.in-Some.ensures

abbrev plain : Mode
plain = record { guarded = false; extras = no_marks }

-- the operands stand at their slots, and the registers stay
abbrev Stood : Joined-frame → Type 0
Stood c =
    let a = c.args in
    AtRow plain a.machine.psp a.program.words.now c.in-Some.row.now c.match-frame.values a.machine.pc
    × (take 10 c.match-frame.values ≡ a.machine.registers)

stood : (c : Joined-frame) (says : let a = c.args in Says a.program.words.now a.machine.pc c.in-Some.row.now (instruction_at (program_of a.program.words.now) a.machine.pc)) → Stood c
stood c says =
    let a = c.args in
    let ws = a.program.words.now in
    let row = c.in-Some.row.now in
    let vs = c.load_values.new.values in
    let st = c.load_values.ensures.0 in
    elim c.match-frame.branch [
      | in-Some-frame+in_default-compute w ↦
          let x : Computes ws w.in-Some-frame.place row.op0 false vs (Ok tt) w.compute.new.values = rw (sym w.in_default-compute.is) w.compute.ensures in
          rw w.values-is
          (computed-fetched ws a.machine.pc row says w.in-Some-frame.place (sym c.frame.ensures ∙ w.in-Some-frame.is) plain a.machine.psp vs st x, x.registers ∙ c.load_values.ensures.1)
      | in_default-frame w ↦
          rw w.values-is
          (simple-fetched ws a.machine.pc row says plain a.machine.psp vs st (sym c.frame.ensures ∙ w.in_default-frame.is), c.load_values.ensures.1)
    ]

pub returns-in_default-clause-looks : goal.returns-in_default-clause-looks
returns-in_default-clause-looks c ns ms tape output level moment_level =
    let a = c.args in
    outside-looks a.program.words.now a.machine a.addresses.now ns ms tape output c.in_default.ensures

pub returns-in-Err-clause-looks : goal.returns-in-Err-clause-looks
returns-in-Err-clause-looks c ns ms tape output level moment_level =
    let a = c.args in
    let ws = a.program.words.now in
    let x : Computes ws c.in-Some-frame.place c.in-Some.row.now.op0 false c.load_values.new.values (Err c.in-Err.field-0) c.compute.new.values =
    rw (sym c.in-Err.is) c.compute.ensures in
    refused-looks ws a.machine a.addresses.now ns ms tape output c.in-Some.row.now (said (goal.at.returns-in-Err-clause-looks c).In-Some) c.load_values.new.values
    c.load_values.ensures.0 c.load_values.ensures.1 c.in-Some-frame.place (sym c.frame.ensures ∙ c.in-Some-frame.is) c.in-Err.field-0 c.compute.new.values x

pub returns-clause-looks : goal.returns-clause-looks
returns-clause-looks c ns ms tape output level moment_level =
    let at = goal.at.returns-clause-looks c in
    let a = c.args in
    let ws = a.program.words.now in
    let s = stood at.Joined-frame (said at.In-Some) in
    subst (Looks (program_of ws) (snapshot a.machine a.addresses.now ns ms tape output))
    (sym (c.look_at.ensures ∙ ap (λ l. sight_of c.in-Some.row.now (absent_below l (get_or a.machine.registers 9 0)) c.match-frame.values) c.of-used.ensures))
    (seen-looks ws a.machine a.addresses.now ns ms tape output c.in-Some.row.now (said at.In-Some) c.match-frame.values c.requires.rising level moment_level s.0 s.1)
