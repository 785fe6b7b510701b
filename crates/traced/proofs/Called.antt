-- A traced call that is refused at entry: its program, or what is handed in.
use Prim.Native.Nat.{ℕ}
use mathlib.Core.Path.{◌≡◌, refl, ap, ◌∙◌}
use mathlib.Core.Bool.{false}
use mathlib.Core.List.{List}
use Rattle.rules.specs.declared.Answer.TheVariants.{Refused}
use Rattle.rules.specs.declared.Instruction.{Instruction}
use Rattle.rules.specs.declared.Machine.{Machine}
use Rattle.rules.specs.declared.Ran.{Ran}
use Rattle.rules.specs.declared.Refusal.{Refusal}
use Rattle.rules.specs.declared.Refusal.TheVariants.{BadState}
use Rattle.rules.specs.Results.{Result, refuse, pass}
use Rattle.rules.specs.Answers.{meaning}
use Rattle.rules.specs.Entry.{plain_entry}
use Rattle.rules.specs.Calls.{Called, refused_call}
use Rattle.rules.specs.Handed.{no_marks}
use Rattle.sheets.specs.TracedCalls.{TracedSnapshot, traced_snapshot, traced_called, traced_call}

pub refused-is : (r : Ran) (f : Refusal) (m : Machine) (xs ns ms tape output sheet : List ℕ) → r ≡ record { answer = Refused f; steps = 0; machine = m; extras = no_marks }
    → traced_called r xs ns ms tape output sheet ≡ refused_call f (traced_snapshot m xs ns ms tape output sheet)
unfolding meaning
refused-is r f m xs ns ms tape output sheet e = ap (λ (x : Ran). traced_called x xs ns ms tape output sheet) e

module _ (budget : ℕ) (t : TracedSnapshot) (c : Called TracedSnapshot) where
  pub unfit : (program : List Instruction) → plain_entry t.plain ≡ false → c ≡ refused_call BadState t → c ≡ traced_call (pass program) budget t
  unfolding traced_call
  unfit program h e = rw h e

  refused-call : (f : Refusal) → refused_call f t ≡ traced_call (refuse f) budget t
  unfolding traced_call
  refused-call f = refl

  pub load-refused : (loaded : Result (List Instruction)) (f : Refusal) → loaded ≡ refuse f → c ≡ refused_call f t → c ≡ traced_call loaded budget t
  load-refused loaded f h e = rw h (e ∙ refused-call f)
