-- `storing::cells::insert` meets its contract: number, moment, address, and in a guarded run the mark are put in at the place.
use Prim.Native.Nat.{◌≤◌}
use mathlib.Core.Path.{refl}
use mathlib.Core.Bool.{true, false}
use native.Mathlib.Omega.{arith}
use Rattle.hardware.proofs.BufferLaws.{absent-within, inserted-holds}
use Rattle.storing.proofs.cells.insert.Goals as goal
use Rattle.storing.proofs.cells.insert.Goals.{Start}

place-used : (c : Start) → c.args.at ≤ c.args.count
place-used c = absent-within c.args.count c.args.addresses.now c.requires.ordered.addresses c.args.address c.args.at c.requires.at_value

pub insert_held-requires : goal.insert_held-requires
insert_held-requires c = record {
  at_le_count = omega (arith, place-used (goal.at.insert_held-requires c).Start);
  count_in_bounds = omega (arith, c.requires.ordered.level);
  count_in_bounds_2 = omega (arith, c.requires.ordered.moment_level);
}

pub insert_at-requires : goal.insert_at-requires
insert_at-requires c = record {
  at_le_count = omega (arith, place-used (goal.at.insert_at-requires c).Start);
  count_in_bounds = c.requires.count_in_bounds;
}

pub insert_at-requires-then-guarded : goal.insert_at-requires-then-guarded
insert_at-requires-then-guarded c =
    let l = c.requires.ordered.mark_level c.if-guarded.true in
    let p = place-used (goal.at.insert_at-requires-then-guarded c).Start in
    record {
      at_le_count = omega (arith, p);
      count_in_bounds = omega (arith, l);
    }

pub returns-then-guarded : goal.returns-then-guarded
returns-then-guarded c =
    let a = c.args in
    let x = c.insert_at.ensures in
    let h = c.insert_held.ensures in
    inserted-holds a.guarded a.count a.addresses.now a.numbers.now a.moments.now a.marks.now c.requires.ordered c.requires.count_in_bounds a.address
    a.number a.moment a.mark a.at c.requires.at_value _ _ _ _ x h.numbers_after h.moments_after true c.if-guarded.true c.insert_at-then-guarded.ensures

pub returns-else-guarded : goal.returns-else-guarded
returns-else-guarded c =
    let a = c.args in
    let x = c.insert_at.ensures in
    let h = c.insert_held.ensures in
    inserted-holds a.guarded a.count a.addresses.now a.numbers.now a.moments.now a.marks.now c.requires.ordered c.requires.count_in_bounds a.address
    a.number a.moment a.mark a.at c.requires.at_value _ _ _ _ x h.numbers_after h.moments_after false c.if-guarded.false refl
