-- The lines of a call, in the parts that the code writes.
use Rattle.std.specs.Prelude.{ℕ, Bool, true, false, List, [], ◌∷◌, ◌++◌}
use Rattle.rules.specs.declared.Answer.{Answer}
use Rattle.rules.specs.declared.Machine.{Machine}
use Rattle.rules.specs.Hexadecimal.{shortest_hex}
use Rattle.rules.specs.Text.{line_feed}
use Rattle.rules.specs.Answers.{Meaning, outcome, refusal, meaning}
use Rattle.rules.specs.Entry.{Snapshot}
use Rattle.rules.specs.Calls.{Called}
use Rattle.rules.specs.Solve.{kilosteps, decimal, spaced, value_lines, is_entry_refusal}
use Rattle.report.specs.declared.label.Label.{Label}
use Rattle.report.specs.declared.label.Label.TheVariants as L

-- a call, as far as its lines show it: of the buffers they look at the output alone
unfoldable pub reported : Answer → ℕ → Machine → List ℕ → Called Snapshot
reported answer steps machine output =
    record {
      answer = meaning answer;
      steps = steps;
      left = record { machine = machine; addresses = []; numbers = []; moments = []; tape = []; output = output };
    }

-- the label of what an answer means; a callee is not shown
pub data Labels : Meaning → Label → Type 0 where
  outcome-label : {n : ℕ} {vs : List ℕ} → Labels (outcome n vs) (L.Outcome n)
  refusal-label : {n : ℕ} → Labels (refusal n []) (L.Refusal n)
  frame-label : {n : ℕ} → Labels (refusal 2 (n ∷ [])) (L.Malformed n)

-- a label of a call refused at entry
unfoldable pub is_entry_label : Label → Bool
is_entry_label (L.Outcome n) = false
is_entry_label (L.Refusal n) = is_entry_refusal n
is_entry_label (L.Malformed n) = true

-- the label as text; 'e' is 101
unfoldable pub label_text : Label → List ℕ
label_text (L.Outcome n) = 101 ∷ shortest_hex n
label_text (L.Refusal n) = decimal n
label_text (L.Malformed n) = decimal 2

-- the frame that refusal 2 carries
unfoldable pub frame_field : Label → List ℕ
frame_field (L.Outcome n) = []
frame_field (L.Refusal n) = []
frame_field (L.Malformed n) = spaced n

unfoldable pub fields : ℕ → ℕ → ℕ → List ℕ
fields steps pc clk = spaced steps ++ (spaced pc ++ (spaced clk ++ spaced (kilosteps clk)))

unfoldable pub first_line : Label → ℕ → ℕ → ℕ → List ℕ
first_line label steps pc clk = label_text label ++ (fields steps pc clk ++ (frame_field label ++ (line_feed ∷ [])))

abbrev pub value_line : ℕ → List ℕ
value_line v = shortest_hex v ++ (line_feed ∷ [])

unfoldable pub lines_from : Label → ℕ → ℕ → ℕ → List ℕ → List ℕ
lines_from label steps pc clk values = first_line label steps pc clk ++ value_lines values
