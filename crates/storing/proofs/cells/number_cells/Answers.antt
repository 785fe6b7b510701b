-- `storing::cells::number_cells` meets its contract. The loop's invariant: the first i addresses are written.
use Prim.Native.Nat.{ℕ, ◌+◌, ◌-◌, ◌≤◌, ◌<◌}
use mathlib.Core.Path.{◌≡◌, sym, ap, ◌∙◌}
use mathlib.Core.List.{List}
use native.Mathlib.Omega.{arith}
use lib.ListN.{length, get_or, set, take, length-set, get_or-append}
use lib.Seq.{take_all, length-take-le, get_or-take}
use Rattle.rules.specs.Numbers.{word_end}
use Rattle.rules.specs.Step.{overlay}
use Rattle.hardware.specs.Places.{consecutive}
use Rattle.hardware.proofs.WriteLaws.{overlay-next}
use Rattle.storing.proofs.OverwriteLaws.{overlay-all}
use Rattle.hardware.proofs.SpliceLaws.{length-consecutive, get_or-consecutive}
use Rattle.storing.proofs.cells.number_cells.Goals as goal

module _ (a : ℕ) (xs : List ℕ) where
  abbrev wanted : List ℕ
  wanted = consecutive a (length xs)

  as_many : length wanted ≡ length xs
  as_many = length-consecutive a (length xs)

  -- the one before it tells an address
  before : (i : ℕ) → 1 ≤ i → i < length xs → get_or (overlay (take i wanted) xs) (i - 1) 0 + 1 ≡ a + i
  before i p h =
      let k : length (take i wanted) ≡ i = length-take-le i wanted (omega (arith, as_many)) in
      let g : get_or (overlay (take i wanted) xs) (i - 1) 0 ≡ a + (i - 1) =
      get_or-append (take i wanted) _ 0 (i - 1) (omega arith)
      ∙ get_or-take i wanted (i - 1) 0 (omega arith)
      ∙ get_or-consecutive a (length xs) (i - 1) (omega arith)
      in
      omega arith

  -- one address more
  next : (i : ℕ) → 1 ≤ i → i < length xs
      → set (overlay (take i wanted) xs) i (get_or (overlay (take i wanted) xs) (i - 1) 0 + 1) ≡ overlay (take (i + 1) wanted) xs
  next i p h =
      ap (set (overlay (take i wanted) xs) i) (before i p h ∙ sym (get_or-consecutive a (length xs) i h))
      ∙ overlay-next wanted xs i (omega (arith, as_many)) h

pub overflow_add-addresses : goal.overflow_add-addresses
unfolding word_end
overflow_add-addresses c =
    let l = c.loop-i in
    let xs = set c.args.addresses.now 0 c.args.start in
    let k : length xs ≡ length c.args.addresses.now = length-set c.args.addresses.now 0 c.args.start in
    let b = before c.args.start xs l.i (omega arith) (omega arith) in
    rw l.invariant (omega (arith, c.requires))

pub loop-i-preserved : goal.loop-i-preserved
loop-i-preserved c =
    let l = c.loop-i in
    ap (λ (z : List ℕ). set z l.i (get_or z (l.i - 1) 0 + 1)) l.invariant ∙ next c.args.start _ l.i (omega arith) (omega arith)

pub returns : goal.returns
returns c =
    let s = c.args in
    let l = c.loop-i in
    let xs = set s.addresses.now 0 s.start in
    let q : length xs ≡ length s.addresses.now = length-set s.addresses.now 0 s.start in
    let k : length (wanted s.start xs) ≡ length xs = as_many s.start xs in
    l.invariant
    ∙ ap (λ (z : List ℕ). overlay z xs) (take_all l.i (wanted s.start xs) (omega arith))
    ∙ overlay-all (wanted s.start xs) xs k
    ∙ ap (consecutive s.start) q
