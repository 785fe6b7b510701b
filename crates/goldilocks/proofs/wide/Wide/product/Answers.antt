-- `goldilocks::wide::Wide::product` meets its contract: a number is its high word and its low one.
use mathlib.Core.Path.{ap₂, ◌∙◌}
use Prim.Native.Nat.{ℕ, ◌+◌, ◌*◌, ◌^◌}
use native.Mathlib.Nat.{div-add-mod'}
use Rattle.goldilocks.proofs.wide.Wide.product.Goals as goal

pub returns : goal.returns
returns c =
    let a = c.args in
    ap₂ (λ (h l : ℕ). h * 2 ^ 64 + l) c.high_product.ensures c.low_product.ensures ∙ div-add-mod' (a.u * a.v) (2 ^ 64)
