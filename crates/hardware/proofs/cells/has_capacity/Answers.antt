-- `hardware::cells::has_capacity` meets its contract: where there is no capacity for all, two ranks tell how many are present.
use mathlib.Core.Path.{◌≡◌, ap, ◌∙◌}
use mathlib.Core.List.{List}
use Prim.Native.Nat.{ℕ, ◌+◌}
use native.Mathlib.Omega.{arith}
use lib.ListN.{take}
use Rattle.rules.specs.Numbers.{word_end}
use Rattle.hardware.specs.Buffers.{rank}
use Rattle.hardware.proofs.SearchLaws.{capacity-for-all, ranks-rise, ranks-within, capacity-for-new}
use Rattle.hardware.proofs.cells.has_capacity.Goals as goal
use Rattle.hardware.proofs.cells.has_capacity.Goals.{After-rank_of-low, After-rank_of-high}

pub returns-then-n-free : goal.returns-then-n-free
returns-then-n-free c =
    let a = c.args in
    capacity-for-all (take a.count a.addresses.now) a.start a.n a.count _ c.requires.rising.within c.if-n-free.true

pub overflow_add-start : goal.overflow_add-start
unfolding word_end
overflow_add-start c = omega arith

-- the two ranks
module _ (c : After-rank_of-high) where
  abbrev addresses : List ℕ
  addresses = take c.args.count c.args.addresses.now

  low : c.rank_of-low.result ≡ rank addresses c.args.start
  low = c.rank_of-low.ensures ∙ ap (λ (l : List ℕ). rank l c.args.start) c.of-used.ensures

  high : c.rank_of-high.result ≡ rank addresses (c.args.start + c.args.n)
  high = c.rank_of-high.ensures ∙ ap (λ (l : List ℕ). rank l (c.args.start + c.args.n)) c.of-used.ensures

pub overflow_sub-result : goal.overflow_sub-result
overflow_sub-result c =
    ranks-rise _ c.requires.rising.rises c.args.start c.args.n _ _ (low c) (high c)

pub overflow_sub-result-2 : goal.overflow_sub-result-2
overflow_sub-result-2 c =
    let h = (goal.at.overflow_sub-result-2 c).After-rank_of-high in
    ranks-within _ c.requires.rising.rises c.args.start c.args.n _ _ (low h) (high h)

pub returns : goal.returns
returns c =
    let h = (goal.at.returns c).After-rank_of-high in
    let o = c.requires.rising in
    capacity-for-new _ o.rises c.args.start c.args.n _ _ (low h) (high h) c.args.count _ o.within
