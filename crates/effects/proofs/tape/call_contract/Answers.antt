-- `effects::tape::call_contract` meets its contract: the span, its sink, room on the tape.
use mathlib.Core.Path.{◌≡◌, sym, ap, ◌∙◌}
use Rattle.effects.specs.Views.{used_addresses}
use Rattle.effects.specs.Changes.{check, sink_where}
use Rattle.effects.specs.Operations.{span_among}
use Rattle.effects.proofs.Spans.{among-within}
use Rattle.effects.proofs.tape.call_contract.Goals as goal
use Rattle.effects.proofs.tape.call_contract.Goals.{After-find_cells}

found : (c : After-find_cells) → span_among (used_addresses c.args.seen.now) c.args.start 4 ≡ c.find_cells.result
found c = sym (c.find_cells.ensures ∙ ap (λ l. span_among l c.args.start 4) c.used.ensures)

pub returns-in-Err : goal.returns-in-Err
returns-in-Err c = rw (found (goal.at.returns-in-Err c).After-find_cells ∙ c.in-Err.is) c.refuse.ensures

pub any_marked-requires : goal.any_marked-requires
any_marked-requires c =
    let b = c.args.seen.now.cells in
    among-within b.count b.addresses.now b.ordered.addresses c.args.start 4 c.in-Ok.at (sym (found (goal.at.any_marked-requires c).After-find_cells ∙ c.in-Ok.is))

pub returns-then-any_marked : goal.returns-then-any_marked
unfolding sink_where
returns-then-any_marked c =
    rw (found (goal.at.returns-then-any_marked c).After-find_cells ∙ c.in-Ok.is, sym c.any_marked.ensures ∙ c.if-any_marked.true) c.sink.ensures

pub returns-then-not-has_room : goal.returns-then-not-has_room
unfolding sink_where check
returns-then-not-has_room c =
    rw (
      found (goal.at.returns-then-not-has_room c).After-find_cells ∙ c.in-Ok.is,
      sym c.any_marked.ensures ∙ c.if-any_marked.false,
      sym c.has_room.ensures ∙ c.if-not-has_room.true,
    ) c.refuse-then-not-has_room.ensures

pub returns : goal.returns
unfolding sink_where check
returns c =
    rw (
      found (goal.at.returns c).After-find_cells ∙ c.in-Ok.is,
      sym c.any_marked.ensures ∙ c.if-any_marked.false,
      sym c.has_room.ensures ∙ c.if-not-has_room.false,
    ) c.call_contract.ensures
