-- `report::lines::put_label` meets its contract: each start's text is that of its case.
use mathlib.Core.Path.{ap}
use mathlib.Core.List.{[], ◌∷◌}
use Prim.Native.Nat.{ℕ, suc, ◌<◌, ◌≤◌}
use native.Mathlib.Omega.{arith}
use lib.ListN.{length, set}
use Rattle.rules.specs.Hexadecimal.{shortest_hex}
use Rattle.report.specs.ReportLines.{label_text}
use Rattle.report.proofs.Placing.{Rest, placed_one, placed-as, placed-length, rest_all, rest-after}
use Rattle.report.proofs.lines.put_label.Goals as goal
use Rattle.report.proofs.lines.put_label.Goals.{In-Outcome}

-- of an outcome the number is left, after the letter
module _ (c : In-Outcome) where
  abbrev number : ℕ
  number = c.in-Outcome.number

  fits : suc (length (shortest_hex number)) ≤ length c.args.buffer.now
  unfolding label_text
  fits = rw c.in-Outcome.is at c.requires

  some-place : 0 < length c.args.buffer.now
  some-place = omega (arith, fits)

  left : let b = c.args.buffer.now in Rest (101 ∷ shortest_hex number) b 0 (shortest_hex number) (set b 0 101) 1
  left =
      rest-after (101 ∷ []) (shortest_hex number) (rest_all (omega (arith, fits))) (placed_one c.args.buffer.now 0 101 some-place)

pub bounds-buffer-0 : goal.bounds-buffer-0
bounds-buffer-0 c = some-place c

pub put_hex-requires : goal.put_hex-requires
put_hex-requires c = (left (goal.at.put_hex-requires c).In-Outcome).fits

pub put_decimal-requires : goal.put_decimal-requires
unfolding label_text
put_decimal-requires c = rw c.in-Refusal.is at c.requires

pub put_decimal-requires-in-Malformed : goal.put_decimal-requires-in-Malformed
unfolding label_text
put_decimal-requires-in-Malformed c = rw c.in-Malformed.is at c.requires

pub returns-in-Outcome : goal.returns-in-Outcome
unfolding label_text
returns-in-Outcome c = placed-as (ap label_text c.in-Outcome.is) ((left (goal.at.returns-in-Outcome c).In-Outcome).whole c.put_hex.ensures)

pub shape_of-buffer-in-Outcome : goal.shape_of-buffer-in-Outcome
shape_of-buffer-in-Outcome c = placed-length (omega (arith, c.requires)) (returns-in-Outcome c)

pub returns-in-Refusal : goal.returns-in-Refusal
unfolding label_text
returns-in-Refusal c = placed-as (ap label_text c.in-Refusal.is) c.put_decimal.ensures

pub returns-in-Malformed : goal.returns-in-Malformed
unfolding label_text
returns-in-Malformed c = placed-as (ap label_text c.in-Malformed.is) c.put_decimal-in-Malformed.ensures
