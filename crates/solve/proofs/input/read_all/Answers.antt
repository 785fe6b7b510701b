-- `solve::input::read_all`: what a read gives stands after what was there.
use Rattle.std.proofs.Common.{rules, ◌≡◌, ℕ, ◌+◌, ◌-◌, ◌≤◌, List, ◌++◌, length, take, drop, sym, ap, ◌∙◌, subst, le_refl, drop_at, length-take-le}
use Rattle.std.proofs.lemmas.Slice.{take-put_mid_below}
use Rattle.std.specs.Io.KnownBytes.{Consumes}
use Rattle.std.proofs.KnownBytes.{Consumes-trans}
use borrow.Rule.Slice.PartMut.{put_mid, post_of}
use lib.Seq.{take-add, take-append-le}
use Rattle.solve.proofs.input.read_all.Goals as goal

-- the buffer's start, and n bytes of the part that was put at its end
longer : (at n : ℕ) (old part : List ℕ) → at ≤ length old → n ≤ length part
    → take at old ++ take n part ≡ take (at + n) (put_mid at (length old - at) old part)
longer at n old part within fits =
    let after = post_of at (length old - at) old in
    let new = put_mid at (length old - at) old part in
    let front : take at new ≡ take at old = take-put_mid_below _ _ _ _ _ (le_refl _) within in
    let back : take n (drop at new) ≡ take n part =
    ap (take n) (drop_at (take at old) (part ++ after) at (length-take-le at old within)) ∙ take-append-le n part after fits in
    sym (take-add at n new ∙ ap (λ l. l ++ take n (drop at new)) front ∙ ap (λ l. take at old ++ l) back)

pub loop-at-preserved : goal.loop-at-preserved
loop-at-preserved g c =
    let joined = longer c.loop-at.at c.in_ok-more.more c.loop-at.buffer c.read.new.buf c.loop-at.invariant.1 c.in_ok-more.ensures.bound.0 in
    (search rules, search rules, subst (Consumes _ _) joined (Consumes-trans _ _ _ _ _ c.loop-at.invariant.2 c.in_ok-more.ensures.bytes.0))
