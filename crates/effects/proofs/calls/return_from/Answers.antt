-- `effects::calls::return_from` meets its contract: the lower cell is found, the upper one stands behind it, then its sink is looked at.
use Rattle.std.specs.Prelude.{Ok, List, Result}
use Prim.Native.Nat.{ℕ, ◌+◌, ◌-◌, ◌<◌}
use mathlib.Core.Path.{◌≡◌, sym, ap, ◌∙◌}
use mathlib.Core.Bool.{◌&&◌}
use native.Mathlib.Omega.{arith}
use lib.Dec.{eqb}
use lib.ListN.{get_or, take}
use borrow.Author.Rules.{rules}
use borrow.Author.Rules.{rules}
use Rattle.rules.specs.declared.Held.{Held}
use Rattle.rules.specs.Memory.{held}
use Rattle.hardware.specs.declared.cells.CellBuffers.{CellBuffers}
use Rattle.hardware.specs.Buffers.{found_of, cells_of, mark_cells_of}
use Rattle.hardware.proofs.BufferLaws.{found_within}
use Rattle.hardware.proofs.PlaceLaws.{found_below}
use Rattle.effects.specs.Effects.{SetRegister}
use Rattle.effects.specs.Changes.{sink_where, returns_from}
use Rattle.effects.proofs.CellsBelow.{next-present, next-absent, first_absent, second-absent, no_second, both-present}
use Rattle.effects.proofs.calls.return_from.Goals as goal
use Rattle.effects.proofs.calls.return_from.Goals.{After-find, After-is_next, Else-not-is_next, In-Ok}

-- where an address is among those of the cells, by a search among those used
module _ (b : CellBuffers) (used : List ℕ) (e : used ≡ take b.count b.addresses.now) (a : ℕ) where
  found-among : {r : Result ℕ ℕ} → found_of used a ≡ r → found_of (take b.count b.addresses.now) a ≡ r
  found-among f = ap (λ l. found_of l a) (sym e) ∙ f

-- where the upper one stands there
module _ (c : Else-not-is_next) where
  abbrev b : CellBuffers
  b = c.args.cells

  at-upper : found_of (take b.count b.addresses.now) (c.args.r9 - 1) ≡ Ok (c.in-Ok.at + 1)
  at-upper =
      let u = c.used-used.result in
      found-among b u.used.now c.used-used.ensures (c.args.r9 - 1)
      (next-present u.used.now u.rising (c.args.r9 - 2) c.in-Ok.at (c.args.r9 - 1) (sym c.find.ensures ∙ c.in-Ok.is) (omega arith)
      (search rules))

  upper-used : c.in-Ok.at + 1 < b.count
  upper-used = found_within b.count b.addresses.now b.ordered.addresses (c.args.r9 - 1) (c.in-Ok.at + 1) (sym at-upper)

  -- what both cells say
  returned : returns_from b.guarded (cells_of b.count b.addresses.now b.numbers.now b.moments.now) (mark_cells_of b.count b.addresses.now b.marks.now) c.args.r9
      ≡ sink_where (b.guarded && eqb (get_or b.marks.now (c.in-Ok.at + 1) 0) 1)
      (SetRegister 9 (get_or b.numbers.now c.in-Ok.at 0) (b.guarded && eqb (get_or b.marks.now c.in-Ok.at 0) 1) (get_or b.numbers.now (c.in-Ok.at + 1) 0))
  returned =
      both-present b.guarded b.count b.addresses.now b.numbers.now b.moments.now b.marks.now b.ordered c.args.r9
      c.in-Ok.at (c.in-Ok.at + 1) c.if-r9-lt2.false
      (found-among b c.used-used.result.used.now c.used-used.ensures (c.args.r9 - 2) (sym c.find.ensures ∙ c.in-Ok.is)) at-upper

pub returns-then-r9-lt2 : goal.returns-then-r9-lt2
returns-then-r9-lt2 c =
    let b = c.args.cells in
    rw (no_second b.guarded b.count b.addresses.now b.numbers.now b.moments.now b.marks.now b.ordered c.args.r9 c.if-r9-lt2.true)
    c.refuse.ensures

pub returns-in_default : goal.returns-in_default
returns-in_default c =
    let b = c.args.cells in
    let e = found-among b c.used-used.result.used.now c.used-used.ensures (c.args.r9 - 2) (sym c.find.ensures ∙ c.in_default.is) in
    rw (second-absent b.guarded b.count b.addresses.now b.numbers.now b.moments.now b.marks.now b.ordered c.args.r9 _ e) c.refuse-in_default.ensures

pub is_next-requires : goal.is_next-requires
is_next-requires c = let u = c.used-used.result in found_below u.used.now (c.args.r9 - 2) c.in-Ok.at u.rising (sym c.find.ensures ∙ c.in-Ok.is)

pub returns-then-not-is_next : goal.returns-then-not-is_next
returns-then-not-is_next c =
    let b = c.args.cells in
    let u = c.used-used.result in
    let e = found-among b u.used.now c.used-used.ensures (c.args.r9 - 1)
    (next-absent u.used.now u.rising (c.args.r9 - 2) c.in-Ok.at (c.args.r9 - 1) (sym c.find.ensures ∙ c.in-Ok.is) (omega arith)
    (search rules)) in
    rw (first_absent b.guarded b.count b.addresses.now b.numbers.now b.moments.now b.marks.now b.ordered c.args.r9 (c.in-Ok.at + 1) e)
    c.refuse-then-not-is_next.ensures

pub is_marked_at-requires : goal.is_marked_at-requires
is_marked_at-requires c = upper-used (goal.at.is_marked_at-requires c).Else-not-is_next

pub held_at-upper-requires : goal.held_at-upper-requires
held_at-upper-requires c = upper-used (goal.at.held_at-upper-requires c).Else-not-is_next

pub returns-then-is_marked_at : goal.returns-then-is_marked_at
unfolding sink_where
returns-then-is_marked_at c =
    rw (returned (goal.at.returns-then-is_marked_at c).Else-not-is_next, sym c.is_marked_at.ensures ∙ c.if-is_marked_at.true) c.sink.ensures

number_of : {h : Held} {n m : ℕ} → h ≡ held n m → h.number ≡ n
number_of e = ap (λ h. h.number) e

pub returns : goal.returns
unfolding sink_where
returns c =
    rw (
      returned (goal.at.returns c).Else-not-is_next,
      sym c.is_marked_at.ensures ∙ c.if-is_marked_at.false,
      ← c.is_marked_at-2.ensures,
      ← number_of c.held_at-lower.ensures,
      ← number_of c.held_at-upper.ensures,
    ) c.set_register.ensures
