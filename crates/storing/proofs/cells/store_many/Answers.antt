-- `storing::cells::store_many` meets its contract: where all cells are present only their contents change, else they are put in.
use mathlib.Core.Path.{◌≡◌, refl, sym, ap, ◌∙◌}
use mathlib.Core.List.{List}
use Prim.Native.Nat.{ℕ, ◌+◌, ◌≤◌}
use native.Mathlib.Omega.{arith}
use lib.ListN.{length, take}
use Rattle.rules.specs.Numbers.{word_end}
use Rattle.hardware.specs.Buffers.{missing, rank, span_of}
use Rattle.hardware.proofs.SearchLaws.{span-at}
use Rattle.hardware.proofs.BufferLaws.{span-ends}
use Rattle.storing.proofs.OverwriteLaws.{within-words, overwritten-holds}
use Rattle.storing.proofs.InsertLaws.{places-for, count-stored, places-hold}
use Rattle.storing.proofs.cells.store_many.Goals as goal
use Rattle.storing.proofs.cells.store_many.Goals.{Start, After-find_span, After-rank_of-low}

fits : (c : Start)
    → c.args.count + missing (take c.args.count c.args.addresses.now) c.args.start (length c.args.values.now)
    ≤ length c.args.addresses.now
fits c =
    let a = c.args in
    let o = c.requires.ordered in
    let e = count-stored a.count a.addresses.now a.numbers.now a.moments.now o.addresses o.level o.moment_level a.moment a.start
    a.values.now in
    omega (arith, c.requires.values_in_bounds)

pub find_span-requires : goal.find_span-requires
unfolding word_end
find_span-requires c = within-words c.args.start (length c.args.values.now) (omega arith) c.requires.values_bound

-- where the span is, or where it would go, is told of the used addresses
spans : (c : After-find_span) → span_of (take c.args.count c.args.addresses.now) c.args.start (length c.args.values.now) ≡ c.find_span.result
spans c = sym (c.find_span.ensures ∙ ap (λ (l : List ℕ). span_of l c.args.start (length c.args.values.now)) c.of-present.ensures)

low : (c : After-rank_of-low) → c.rank_of-low.result ≡ rank (take c.args.count c.args.addresses.now) c.args.start
low c = c.rank_of-low.ensures ∙ ap (λ (l : List ℕ). rank l c.args.start) c.of-present.ensures

pub overwrite-requires : goal.overwrite-requires
overwrite-requires c =
    let a = c.args in
    let o = c.requires.ordered in
    let f = span-at _ a.start (length a.values.now) _ (spans (goal.at.overwrite-requires c).After-find_span ∙ c.in-Some.is) in
    let w = span-ends a.count a.addresses.now o.addresses a.start _ f.1 (length a.values.now) f.0 in
    record {
      values_in_bounds = omega (arith, w, o.addresses.within, o.level);
      moments_len = o.moment_level ∙ sym o.level;
      marks_len = λ t. o.mark_level t ∙ sym o.level;
    }

pub insert_span-used-requires : goal.insert_span-used-requires
unfolding word_end
insert_span-used-requires c =
    let l = low (goal.at.insert_span-used-requires c).After-rank_of-low in
    record {
      ordered = c.requires.ordered;
      low_value = l;
      n_bound = within-words c.args.start (length c.args.values.now) (omega arith) c.requires.values_bound;
      n_in_bounds = fits (goal.at.insert_span-used-requires c).Start;
    }

pub overwrite-requires-in-None : goal.overwrite-requires-in-None
overwrite-requires-in-None c =
    let a = c.args in
    let o = c.requires.ordered in
    let l = low (goal.at.overwrite-requires-in-None c).After-rank_of-low in
    let r = places-for a.count a.addresses.now o.addresses a.start (length a.values.now) _ _ l refl (fits (goal.at.overwrite-requires-in-None c).Start) in
    record {
      values_in_bounds = omega (arith, o.level);
      moments_len = omega (arith, o.level, o.moment_level);
      marks_len = λ t. omega (arith, o.level, o.mark_level t);
    }

pub returns-in-Some : goal.returns-in-Some
returns-in-Some c =
    let a = c.args in
    let f = span-at _ a.start (length a.values.now) _ (spans (goal.at.returns-in-Some c).After-find_span ∙ c.in-Some.is) in
    let w = c.overwrite.ensures in
    overwritten-holds a.guarded a.count a.addresses.now a.numbers.now a.moments.now a.marks.now c.requires.ordered a.start _ f.1
    a.values.now f.0 a.moment _ _ _ w.numbers_after w.moments_after w.marks_after

pub returns-in-None : goal.returns-in-None
returns-in-None c =
    let a = c.args in
    let m = c.insert_span-used.ensures in
    let w = c.overwrite-in-None.ensures in
    let l = low (goal.at.returns-in-None c).After-rank_of-low in
    places-hold a.guarded a.count a.addresses.now a.numbers.now a.moments.now a.marks.now c.requires.ordered a.start a.values.now _ l
    (fits (goal.at.returns-in-None c).Start) a.moment _ _ _ _ _ _ _ _ m.value m.addresses_after m.numbers_after m.moments_after m.marks_after
    w.numbers_after w.moments_after w.marks_after
