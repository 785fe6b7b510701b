-- `effects::arithmetic::small` meets its contract: op0's test before op1's.
use mathlib.Core.Path.{◌≡◌}
use mathlib.Core.Bool.{true, false}
use borrow.Author.Rules.{rules}
use Rattle.rules.specs.Step.{is_small}
use Rattle.effects.specs.Changes.{check}
use Rattle.effects.proofs.arithmetic.small.Goals as goal
use Rattle.effects.proofs.arithmetic.small.Goals.{then-not-is_small-via-then-not-is_small, then-not-is_small-via-else-not-is_small+then-not-is_small-2}

pub returns-then-not-is_small : goal.returns-then-not-is_small
unfolding check
returns-then-not-is_small c =
    elim c.then-not-is_small.branch [
      | then-not-is_small-via-then-not-is_small w ↦ let e : is_small c.args.a ≡ false = search rules in rw e c.refuse.ensures
      | then-not-is_small-via-else-not-is_small+then-not-is_small-2 w ↦
          let e : is_small c.args.a ≡ true = search rules in
          let f : is_small c.args.b ≡ false = search rules in
          rw (e, f) c.refuse.ensures
    ]

pub returns : goal.returns
unfolding check
returns c =
    let e : is_small c.args.a ≡ true = search rules in
    let f : is_small c.args.b ≡ true = search rules in
    rw (e, f) c.set_register.ensures
