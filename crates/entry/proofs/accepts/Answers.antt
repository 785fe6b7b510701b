-- `entry::accepts` meets its contract: its tests are those of `plain_entry`.
use mathlib.Core.Path.{◌≡◌, sym, ap, ◌∙◌}
use native.Mathlib.Omega.{arith}
use lib.Dec.{leb}
use Rattle.std.specs.Prelude.{◌&&◌}
use Rattle.std.proofs.lemmas.Bool.Decides.{nat_tests}
use Rattle.rules.specs.Numbers.{p, clock_end, cell_limit, value_limit}
use Rattle.rules.specs.Step.{is_storable}
use Rattle.rules.specs.Entry.{all, every, rising_from, used_addresses, used_numbers}
use Rattle.rules.specs.Handed.{snapshot}
use Rattle.entry.proofs.Tests.{sizes_fit, passed, failed, plain-refused, plain-decided}
use Rattle.entry.proofs.accepts.Goals as goal
use Rattle.entry.proofs.accepts.Goals.{Joined-tape-le-VALUE_LIMIT, Joined-sizes_fit, Joined-rising, then-sizes_fit, else-sizes_fit, then-rising, else-rising}

sizes : (c : Joined-tape-le-VALUE_LIMIT) → let a = c.args in let s = snapshot a.machine a.addresses.now a.numbers.now a.moments.now a.tape.now a.output.now in c.if-tape-le-VALUE_LIMIT.sizes_fit ≡ sizes_fit s
unfolding all clock_end cell_limit value_limit
sizes c = grind (arith, nat_tests)

addresses : (c : Joined-sizes_fit) → let a = c.args in let s = snapshot a.machine a.addresses.now a.numbers.now a.moments.now a.tape.now a.output.now in c.if-tape-le-VALUE_LIMIT.sizes_fit ≡ sizes_fit s
    → c.if-sizes_fit.value ≡ (sizes_fit s && rising_from 0 (used_addresses s))
addresses c f =
    elim c.if-sizes_fit.branch [
      | then-sizes_fit w ↦ passed f w.if-sizes_fit.true (w.value-is ∙ w.rising.ensures ∙ ap (rising_from 0) w.used.ensures)
      | else-sizes_fit w ↦ failed _ f w.if-sizes_fit.false w.value-is
    ]

numbers : (c : Joined-rising) → let a = c.args in let s = snapshot a.machine a.addresses.now a.numbers.now a.moments.now a.tape.now a.output.now in c.if-sizes_fit.value ≡ (sizes_fit s && rising_from 0 (used_addresses s))
    → c.if-rising.value ≡ ((sizes_fit s && rising_from 0 (used_addresses s)) && every is_storable (used_numbers s))
unfolding p
numbers c f =
    elim c.if-rising.branch [
      | then-rising w ↦ passed f w.if-rising.true (w.value-is ∙ w.at_most.ensures ∙ ap (every is_storable) w.used-then-rising.ensures)
      | else-rising w ↦ failed _ f w.if-rising.false w.value-is
    ]

pub returns-then-at_most : goal.returns-then-at_most
returns-then-at_most c =
    let r = goal.at.returns-then-at_most c in
    let f = numbers r.Joined-rising (addresses r.Joined-sizes_fit (sizes r.Joined-tape-le-VALUE_LIMIT)) in
    c.at_most-then-at_most.ensures
    ∙ ap (every (λ t. leb t c.args.machine.clk)) c.used-then-at_most.ensures
    ∙ sym (plain-decided _ (sym f ∙ c.if-at_most.true))

pub returns-else-at_most : goal.returns-else-at_most
returns-else-at_most c =
    let r = goal.at.returns-else-at_most c in
    let f = numbers r.Joined-rising (addresses r.Joined-sizes_fit (sizes r.Joined-tape-le-VALUE_LIMIT)) in
    c.if-at_most.false ∙ sym (plain-refused _ (sym f ∙ c.if-at_most.false))
