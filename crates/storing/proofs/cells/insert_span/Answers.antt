-- `storing::cells::insert_span` meets its contract: two ranks tell how many cells are new, and so how far what lies behind them moves.
use Prim.Native.Nat.{ℕ, ◌+◌, ◌-◌}
use mathlib.Core.Path.{◌≡◌, sym, ap, ◌∙◌}
use mathlib.Core.Bool.{Bool}
use mathlib.Core.List.{List}
use native.Mathlib.Omega.{arith}
use lib.ListN.{take}
use Rattle.rules.specs.Numbers.{word_end, choose}
use Rattle.hardware.specs.Buffers.{rank}
use Rattle.hardware.specs.Places.{moved}
use Rattle.storing.proofs.InsertLaws.{places-numbered, PlacesFor, places-for}
use Rattle.storing.proofs.cells.insert_span.Goals as goal
use Rattle.storing.proofs.cells.insert_span.Goals.{After-rank_of-high}

pub overflow_add-start : goal.overflow_add-start
unfolding word_end
overflow_add-start c = omega arith

-- where the end of the places was found
module _ (c : After-rank_of-high) where
  abbrev high : ℕ
  high = rank (take c.args.count c.args.addresses.now) (c.args.start + c.args.n)

  at_high : c.rank_of-high.result ≡ high
  at_high = c.rank_of-high.ensures ∙ ap (λ (l : List ℕ). rank l (c.args.start + c.args.n)) c.of.ensures

  found : PlacesFor c.args.count c.args.addresses.now c.args.start c.args.n c.args.low c.rank_of-high.result
  found =
      let a = c.args in
      let o = c.requires in
      places-for a.count a.addresses.now o.ordered.addresses a.start a.n a.low c.rank_of-high.result
      o.low_value at_high o.n_in_bounds

  -- what moves up by the new cells moves behind the places

  abbrev shifted : List ℕ → List ℕ
  shifted = moved c.args.count c.rank_of-high.result (c.rank_of-high.result + (c.args.n - (c.rank_of-high.result - c.args.low)))

  abbrev opened : List ℕ → List ℕ
  opened = moved c.args.count high (c.args.low + c.args.n)

  behind : (bs : List ℕ) → shifted bs ≡ opened bs
  behind bs =
      let a = c.args in
      let r = found in
      let h = c.rank_of-high.result in
      let e : h + (a.n - (h - a.low)) ≡ a.low + a.n = omega arith in
      ap (λ (to : ℕ). moved a.count h to bs) e ∙ ap (λ (from : ℕ). moved a.count from (a.low + a.n) bs) at_high

  moved-behind : (bs bs' : List ℕ) → bs' ≡ shifted bs → bs' ≡ opened bs
  moved-behind bs bs' m = m ∙ behind bs

  marks-behind : (guarded : Bool) (bs bs' : List ℕ) → bs' ≡ choose guarded (shifted bs) bs → bs' ≡ choose guarded (opened bs) bs
  marks-behind guarded bs bs' m = m ∙ ap (λ (z : List ℕ). choose guarded z bs) (behind bs)

pub overflow_sub-new : goal.overflow_sub-new
overflow_sub-new c = (found c).rises

pub overflow_sub-new-2 : goal.overflow_sub-new-2
overflow_sub-new-2 c = let r = found c in omega arith

pub move_contents-requires : goal.move_contents-requires
move_contents-requires c =
    let r = found (goal.at.move_contents-requires c).After-rank_of-high in
    let o = c.requires.ordered in
    record {
      from_le_count = r.used;
      n_in_bounds = omega (arith, o.level);
      moments_len = o.moment_level ∙ sym o.level;
      marks_len = λ t. o.mark_level t ∙ sym o.level;
    }

pub move_up-requires : goal.move_up-requires
move_up-requires c =
    let r = found (goal.at.move_up-requires c).After-rank_of-high in
    record {
      from_le_count = r.used;
      n_in_bounds = omega arith;
    }

pub overflow_add-end : goal.overflow_add-end
overflow_add-end c = let r = found (goal.at.overflow_add-end c).After-rank_of-high in omega arith

pub offset_bounds-addresses-low : goal.offset_bounds-addresses-low
offset_bounds-addresses-low c = let r = found (goal.at.offset_bounds-addresses-low c).After-rank_of-high in omega arith

pub overflow_add-result : goal.overflow_add-result
overflow_add-result c = let r = found (goal.at.overflow_add-result c).After-rank_of-high in omega arith

pub slice_bounds-number_cells-end : goal.slice_bounds-number_cells-end
slice_bounds-number_cells-end c = let r = found (goal.at.slice_bounds-number_cells-end c).After-rank_of-high in omega arith

pub returns : goal.returns
returns c =
    let a = c.args in
    let f = (goal.at.returns c).After-rank_of-high in
    let r = found f in
    let e : a.low + a.n - a.low ≡ a.n = omega arith in
    let m = c.move_contents.ensures in
    let u = c.move_up in
    let w = c.number_cells in
    record {
      value = omega arith;
      addresses_after = places-numbered a.count a.low (high f) a.n (a.low + a.n - a.low) a.start a.addresses.now u.new.buffer w.new.addresses
          e (omega arith) (omega arith) (omega arith) (moved-behind f a.addresses.now _ u.ensures) w.ensures;
      numbers_after = moved-behind f a.numbers.now _ m.numbers_after;
      moments_after = moved-behind f a.moments.now _ m.moments_after;
      marks_after = marks-behind f a.guarded a.marks.now _ m.marks_after;
    }
