-- `entry::accepts_marks` meets its contract: its tests are those of `marks_entry`.
use mathlib.Core.Path.{◌≡◌, sym, ap, ◌∙◌}
use native.Mathlib.Omega.{arith}
use lib.Dec.{leb, ltb, eqb}
use lib.ListN.{length, take}
use Rattle.std.proofs.lemmas.Bool.Decides.{nat_tests}
use Rattle.std.specs.Prelude.{◌&&◌, true, false}
use Rattle.rules.specs.Numbers.{marks_end}
use Rattle.rules.specs.Entry.{every, marked_below, marked_registers, marked_cells, used_numbers}
use Rattle.rules.specs.Handed.{guarded_snapshot}
use Rattle.rules.proofs.Laws.BoolLaws.{false-true}
use Rattle.entry.proofs.Elements.{marked_below-all}
use Rattle.entry.proofs.Tests.{marks-refused, marks-decided}
use Rattle.entry.proofs.accepts_marks.Goals as goal
use Rattle.entry.proofs.accepts_marks.Goals.{Joined-at_most, then-extras-lt-MARKS_END, else-extras-lt-MARKS_END}

fit : (c : Joined-at_most)
    → let a = c.args in
    c.if-at_most.value
    ≡ (eqb (length a.marks.now) (length a.addresses.now) && (every (λ t. leb t 1) (take a.machine.cell_count a.marks.now) && ltb a.extras.registers marks_end))
fit c = grind (arith, nat_tests)

pub returns-then-registers_below : goal.returns-then-registers_below
returns-then-registers_below c moments tape output =
    let a = c.args in
    let g = guarded_snapshot a.machine a.extras a.addresses.now a.numbers.now moments a.marks.now tape output in
    let f = fit (goal.at.returns-then-registers_below c).Joined-at_most in
    let cells : c.marked_below.result ≡ marked_below (marked_cells g) (used_numbers g.plain) =
    rw (← c.used.ensures, ← c.used-used_marks.ensures) (c.marked_below.ensures ∙ marked_below-all c.used.result.now c.used-used_marks.result.now)
    in
    elim c.if-extras-lt-MARKS_END.branch [
      | then-extras-lt-MARKS_END w ↦
          let registers : marked_below (marked_registers g) a.machine.registers ≡ true = sym w.registers_below.ensures ∙ sym w.value-is ∙ c.if-registers_below.true in
          cells ∙ sym (marks-decided g (sym f ∙ w.if-extras-lt-MARKS_END.true) ∙ ap (λ b. b && marked_below (marked_cells g) (used_numbers g.plain)) registers)
      | else-extras-lt-MARKS_END w ↦ absurd (false-true (sym w.if-extras-lt-MARKS_END.false ∙ sym w.value-is ∙ c.if-registers_below.true))
    ]

pub returns-else-registers_below : goal.returns-else-registers_below
returns-else-registers_below c moments tape output =
    let a = c.args in
    let g = guarded_snapshot a.machine a.extras a.addresses.now a.numbers.now moments a.marks.now tape output in
    let f = fit (goal.at.returns-else-registers_below c).Joined-at_most in
    elim c.if-extras-lt-MARKS_END.branch [
      | then-extras-lt-MARKS_END w ↦
          let registers : marked_below (marked_registers g) a.machine.registers ≡ false = sym w.registers_below.ensures ∙ sym w.value-is ∙ c.if-registers_below.false in
          c.if-registers_below.false
          ∙ sym (marks-decided g (sym f ∙ w.if-extras-lt-MARKS_END.true) ∙ ap (λ b. b && marked_below (marked_cells g) (used_numbers g.plain)) registers)
      | else-extras-lt-MARKS_END w ↦ c.if-registers_below.false ∙ sym (marks-refused g (sym f ∙ w.if-extras-lt-MARKS_END.false))
    ]
