-- A call by mode that is refused: its program, or what is handed in.
use Prim.Native.Nat.{ℕ}
use mathlib.Core.Path.{◌≡◌, refl, sym, ap, ◌∙◌}
use mathlib.Core.Bool.{Bool, true, false}
use mathlib.Core.List.{List}
use Rattle.rules.specs.declared.Instruction.{Instruction}
use Rattle.rules.specs.declared.Machine.{Machine}
use Rattle.rules.specs.declared.Marks.{Marks}
use Rattle.rules.specs.declared.Ran.{Ran}
use Rattle.rules.specs.declared.Answer.TheVariants.{Refused}
use Rattle.rules.specs.declared.Refusal.{Refusal}
use Rattle.rules.specs.declared.Refusal.TheVariants.{BadState}
use Rattle.rules.specs.Results.{Result, refuse, pass}
use Rattle.rules.specs.Answers.{meaning}
use Rattle.rules.specs.Entry.{GuardedSnapshot}
use Rattle.rules.specs.Calls.{Called, refused_call, plain_call, guarded_call}
use Rattle.rules.specs.Handed.{guarded_snapshot, guarded_called}
use Rattle.checking.specs.ModeCalls.{mode_entry, mode_call}

-- A call refused at entry

pub refused-is : (r : Ran) (f : Refusal) (m : Machine) (extras : Marks) (xs ns ms ts tape output : List ℕ)
    → r ≡ record { answer = Refused f; steps = 0; machine = m; extras = extras }
    → guarded_called r xs ns ms ts tape output ≡ refused_call f (guarded_snapshot m extras xs ns ms ts tape output)
unfolding meaning
refused-is r f m extras xs ns ms ts tape output e = ap (λ (x : Ran). guarded_called x xs ns ms ts tape output) e

-- by either call
refused-call : (budget : ℕ) (g : GuardedSnapshot) (guarded : Bool) (f : Refusal) → refused_call f g ≡ mode_call guarded (refuse f) budget g
unfolding mode_call guarded_call plain_call
refused-call budget g true f = refl
refused-call budget g false f = refl

module _ (program : List Instruction) (budget : ℕ) (g : GuardedSnapshot) (c : Called GuardedSnapshot) where
  pub unfit : (guarded fits : Bool) → fits ≡ mode_entry guarded g → fits ≡ false → c ≡ refused_call BadState g → c ≡ mode_call guarded (pass program) budget g
  unfolding mode_entry mode_call guarded_call plain_call
  unfit true fits h f e = rw (sym h ∙ f) e
  unfit false fits h f e = rw (sym h ∙ f) e

-- The program is refused

module _ (guarded : Bool) (budget : ℕ) (g : GuardedSnapshot) (c : Called GuardedSnapshot) where
  pub load-refused : (loaded : Result (List Instruction)) (f : Refusal) → loaded ≡ refuse f → c ≡ refused_call f g → c ≡ mode_call guarded loaded budget g
  load-refused loaded f h e = rw h (e ∙ refused-call budget g guarded f)
