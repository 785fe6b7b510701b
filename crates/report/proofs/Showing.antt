-- What is printed of a call is the lines of its label; and the label of each answer.
use mathlib.Core.Path.{◌≡◌, sym, ap, ◌∙◌, subst}
use mathlib.Core.Bool.{true, false}
use mathlib.Core.List.{List, [], ◌∷◌, ◌++◌, append-nil, append_assoc}
use Prim.Native.Nat.{ℕ}
use native.Mathlib.Omega.{arith}
use lib.ListN.{take}
use Rattle.rules.specs.declared.Machine.{Machine}
use Rattle.rules.specs.Answers.{Meaning, outcome, refusal}
use Rattle.rules.specs.Entry.{Snapshot}
use Rattle.rules.specs.Calls.{Called}
use Rattle.rules.specs.Solve.{kilosteps, decimal, spaced, zero_fields, value_lines, carried_fields, printed}
use Rattle.report.specs.declared.label.Label.{Label}
use Rattle.report.specs.declared.label.Label.TheVariants as L
use Rattle.report.specs.ReportLines.{Labels, outcome-label, refusal-label, frame-label, is_entry_label, label_text, frame_field, fields, first_line, lines_from}

-- `reported`, of any meaning
abbrev called : Meaning → ℕ → Machine → List ℕ → Called Snapshot
called m steps machine output =
    record { answer = m; steps = steps; left = record { machine = machine; addresses = []; numbers = []; moments = []; tape = []; output = output } }

regroup : (label fields frame end values : List ℕ) → (label ++ (fields ++ (frame ++ end))) ++ values ≡ label ++ (fields ++ (frame ++ (end ++ values)))
regroup label fields frame end values = simp append_assoc

module _ (steps : ℕ) (machine : Machine) (output : List ℕ) where
  abbrev used : List ℕ
  used = take machine.output_count output

  pub shown : {m : Meaning} {label : Label} → Labels m label → is_entry_label label ≡ false → printed (called m steps machine output) ≡ lines_from label steps machine.pc machine.clk used
  unfolding printed is_entry_label label_text frame_field fields first_line lines_from
  shown (outcome-label {n}) e = sym (regroup (label_text (L.Outcome n)) (fields steps machine.pc machine.clk) [] (10 ∷ []) (value_lines used))
  shown (refusal-label {n}) e = rw e (sym (regroup (decimal n) (fields steps machine.pc machine.clk) [] (10 ∷ []) (value_lines used)))
  shown frame-label e = absurd (let z : ◌≡◌ {A = ℕ} 0 1 = cc in omega arith)

  pub shown-entry : {m : Meaning} {label : Label} → Labels m label → is_entry_label label ≡ true → printed (called m steps machine output) ≡ lines_from label 0 0 0 (take 0 output)
  unfolding printed is_entry_label label_text frame_field fields first_line lines_from kilosteps value_lines carried_fields
  shown-entry outcome-label e = absurd (let z : ◌≡◌ {A = ℕ} 0 1 = cc in omega arith)
  shown-entry (refusal-label {n}) e = rw e (sym (append-nil (first_line (L.Refusal n) 0 0 0)))
  shown-entry (frame-label {n}) e =
      ap (λ (carried : List ℕ). decimal 2 ++ (zero_fields ++ (carried ++ (10 ∷ [])))) (append-nil (spaced n)) ∙ sym (append-nil (first_line (L.Malformed n) 0 0 0))

-- the label, from what an answer means
pub labels-outcome : {m : Meaning} {n : ℕ} {vs : List ℕ} → m ≡ outcome n vs → Labels m (L.Outcome n)
labels-outcome {m} {n} e = subst (λ (m : Meaning). Labels m (L.Outcome n)) (sym e) outcome-label

pub labels-refusal : {m : Meaning} {n : ℕ} → m ≡ refusal n [] → Labels m (L.Refusal n)
labels-refusal {m} {n} e = subst (λ (m : Meaning). Labels m (L.Refusal n)) (sym e) refusal-label

pub labels-frame : {m : Meaning} {n : ℕ} → m ≡ refusal 2 (n ∷ []) → Labels m (L.Malformed n)
labels-frame {m} {n} e = subst (λ (m : Meaning). Labels m (L.Malformed n)) (sym e) frame-label

pub ruleset labels = (labels-outcome, labels-refusal, labels-frame)
