-- `hardware::cells::CellBuffers::read` meets its contract: number, moment and mark stand where the address is found.
use Rattle.std.specs.Prelude.{Ok}
use Prim.Native.Nat.{ℕ, ◌<◌}
use mathlib.Core.Path.{◌≡◌, sym, ap, ◌∙◌}
use mathlib.Core.List.{List}
use native.Mathlib.Omega.{arith}
use lib.ListN.{take}
use Rattle.hardware.specs.Buffers.{found_of}
use Rattle.hardware.proofs.BufferLaws.{found_within, read-present, read-absent}
use Rattle.hardware.proofs.cells.CellBuffers.read.Goals as goal
use Rattle.hardware.proofs.cells.CellBuffers.read.Goals.{After-find, In-Ok}

found : (c : After-find) → found_of (take c.args.self.count c.args.self.addresses.now) c.args.address ≡ c.find.result
found c = sym (c.find.ensures ∙ ap (λ (l : List ℕ). found_of l c.args.address) c.used.ensures)

pub returns-in_default : goal.returns-in_default
returns-in_default c =
    let b = c.args.self in
    read-absent b.guarded b.count b.addresses.now b.numbers.now b.moments.now b.marks.now b.ordered c.args.address c.in_default.field-0
    (found (goal.at.returns-in_default c).After-find ∙ c.in_default.is)

-- the place that was found
module _ (c : In-Ok) where
  at_place : found_of (take c.args.self.count c.args.self.addresses.now) c.args.address ≡ Ok c.in-Ok.at
  at_place = found c.before ∙ c.in-Ok.is

  place-used : c.in-Ok.at < c.args.self.count
  place-used = let b = c.args.self in found_within b.count b.addresses.now b.ordered.addresses c.args.address c.in-Ok.at (sym at_place)

pub offset_bounds-self-at : goal.offset_bounds-self-at
offset_bounds-self-at c = omega (arith, place-used c, c.args.self.ordered, c.well_formed)

pub bounds-self-at : goal.bounds-self-at
bounds-self-at c = omega (arith, place-used (goal.at.bounds-self-at c).In-Ok, c.args.self.ordered)

pub offset_bounds-self-at-2 : goal.offset_bounds-self-at-2
offset_bounds-self-at-2 c = omega (arith, place-used (goal.at.offset_bounds-self-at-2 c).In-Ok, c.args.self.ordered, c.well_formed)

pub bounds-self-at-2 : goal.bounds-self-at-2
bounds-self-at-2 c = omega (arith, place-used (goal.at.bounds-self-at-2 c).In-Ok, c.args.self.ordered)

pub is_marked_at-requires : goal.is_marked_at-requires
is_marked_at-requires c = place-used (goal.at.is_marked_at-requires c).In-Ok

pub returns : goal.returns
returns c =
    let b = c.args.self in
    let e = read-present b.guarded b.count b.addresses.now b.numbers.now b.moments.now b.marks.now b.ordered c.args.address c.in-Ok.at
    (at_place (goal.at.returns c).In-Ok) in
    rw c.is_marked_at.ensures e
