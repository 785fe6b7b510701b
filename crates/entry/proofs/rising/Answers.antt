-- `entry::rising` meets its contract.
use lib.Dec.{ltb}
use Rattle.std.proofs.Common.{rules}
use Rattle.std.proofs.lemmas.List.Sorted.{answers_always}
use Rattle.rules.specs.Numbers.{heap_end}
use Rattle.entry.proofs.Elements.{sorted, unsorted}
use Rattle.entry.proofs.rising.Goals as goal

pub returns-then-is_sorted_by : goal.returns-then-is_sorted_by
unfolding heap_end
returns-then-is_sorted_by c =
    sorted c.args.addresses.now c.is_sorted_by.result (c.is_sorted_by.ensures.cases ltb (answers_always _ _ _ (λ f a r f' h. search rules)))
    c.if-is_sorted_by.true c.last.result c.is_none_or.result c.last.ensures.value (search rules)

pub returns-else-is_sorted_by : goal.returns-else-is_sorted_by
returns-else-is_sorted_by c =
    unsorted c.args.addresses.now c.is_sorted_by.result (c.is_sorted_by.ensures.cases ltb (answers_always _ _ _ (λ f a r f' h. search rules)))
    c.if-is_sorted_by.false
