-- `goldilocks::wide::Wide::reduce` meets its contract: `fold` says what the two parts of the sum come to.
use mathlib.Core.Path.{ap, ◌∙◌}
use Prim.Native.Nat.{ℕ, ◌+◌, ◌*◌, ◌/◌, ◌%◌, ◌^◌}
use native.Mathlib.Nat.{div-add-mod'}
use borrow.Author.Rules.{rules}
use Rattle.rules.specs.Numbers.{p}
use Rattle.goldilocks.proofs.Remainders.{fold}
use Rattle.goldilocks.proofs.wide.Wide.reduce.Goals as goal

pub sum-requires : goal.sum-requires
unfolding p
sum-requires c = search rules

pub returns : goal.returns
returns c =
    let w = c.args.self in
    c.sum.ensures
    ∙ fold c.difference.result (w.high / 2 ^ 32) (w.high % 2 ^ 32) w.low c.difference.ensures
    ∙ ap (λ (n : ℕ). (n * 2 ^ 64 + w.low) % p) (div-add-mod' w.high (2 ^ 32))
