-- A step that calls carries four words, so the answer's meaning has them as they are.
use Prim.Native.Nat.{ℕ, zero, suc}
use mathlib.Core.Path.{◌≡◌, refl, ap, ◌∙◌}
use mathlib.Core.Bool.{Bool, true, false}
use mathlib.Core.List.{List, [], ◌∷◌}
use native.Mathlib.Omega.{arith}
use lib.Dec.{eqb}
use lib.ListN.{length, get_or}
use Rattle.rules.specs.declared.Instruction.{Instruction}
use Rattle.rules.specs.declared.Held.{Held}
use Rattle.rules.specs.declared.Answer.TheVariants.{Calling, DelegateCalling}
use Rattle.rules.specs.Numbers.{choose}
use Rattle.rules.specs.Results.{pass}
use Rattle.rules.specs.Memory.{numbers_of}
use Rattle.rules.specs.Cells.{Cells, number_cells}
use Rattle.rules.specs.Opcodes.{Class, addition, multiplication, equality, small, complement, move, assert, range_check, jump, conditional_jump, call, return, load, store, tape_load, tape_store, contract_call, end, uncovered, class_of}
use Rattle.rules.specs.Operands.{Operands}
use Rattle.rules.specs.Step.{Environment, State, Finish, goes_on, ends, calls, delegates, callee, read_many, read_span, operate, step}
use Rattle.rules.specs.Answers.{outcome, meaning}
use Rattle.rules.proofs.Laws.HeldLaws.{length-map}
use Rattle.rules.proofs.Laws.Passing.{Passing, passing-refused, passed, passing-require, passing-bind, passing-any, passing-at}

abbrev Four : Finish → Type 0
Four goes_on = Unit {0}
Four ends = Unit {0}
Four (calls vs) = length vs ≡ 4
Four (delegates vs) = length vs ≡ 4

many_read : (c : Cells Held) (a n : ℕ) → Passing (λ vs. length vs ≡ n) (read_many number_cells c a n)
unfolding read_many
many_read c a zero = passed refl
many_read c a (suc n) = passing-any _ _ λ v. passing-bind _ (many_read c (suc a) n) λ vs h. passed (ap suc h)

span-read : (c : Cells Held) (a n : ℕ) → Passing (λ vs. length vs ≡ n) (read_span number_cells c a n)
unfolding read_span
span-read c a n = passing-require _ λ u. passing-require _ λ l. many_read c a n

either_way : (b : Bool) (vs : List ℕ) → length vs ≡ 4 → Four (choose b (delegates vs) (calls vs))
either_way true vs h = h
either_way false vs h = h

module _ (e : Environment) (i : Instruction) (s : State number_cells) (o : Operands) where
  operated : (c : Class) → Passing (λ n. Four n.finish) (operate number_cells e c i s o)
  unfolding operate
  operated addition = passing-require _ λ a. passing-require _ λ b. passed tt
  operated multiplication = passing-require _ λ a. passing-require _ λ b. passed tt
  operated (equality f) = passed tt
  operated (small f) = passing-require _ λ a. passing-require _ λ b. passed tt
  operated complement = passing-require _ λ a. passed tt
  operated move = passed tt
  operated assert = passing-require _ λ a. passed tt
  operated range_check = passing-require _ λ a. passed tt
  operated jump = passed tt
  operated conditional_jump = passing-require _ λ a. passing-any _ _ λ b. passed tt
  operated call = passing-require _ λ a. passing-any _ _ λ c. passed tt
  operated return = passing-any _ _ λ pc. passing-any _ _ λ r. passed tt
  operated load = passing-require _ λ a. passing-require _ λ b. passing-any _ _ λ v. passed tt
  operated store = passing-require _ λ a. passing-require _ λ b. passing-any _ _ λ c. passed tt
  operated tape_load = passing-require _ λ a. passing-require _ λ b. passing-any _ _ λ c. passed tt
  operated tape_store = passing-any _ _ λ hs. passed tt
  operated contract_call = passing-bind _ (span-read s.cells o.op0 4) λ hs h. passed (either_way (eqb o.op1 1) (numbers_of hs) (length-map _ hs ∙ h))
  operated end = passed tt
  operated uncovered = passing-refused

stepped : (e : Environment) (s : State number_cells) → Passing (λ n. Four n.finish) (step number_cells e s)
unfolding step
stepped e s =
    passing-any _ _ λ i.
    passing-any _ _ λ o.
    passing-bind _ (operated e i s o (class_of i.opcode)) λ n h.
    passing-require _ λ b. passed h

four-words : (vs : List ℕ) → length vs ≡ 4 → get_or vs 0 0 ∷ get_or vs 1 0 ∷ get_or vs 2 0 ∷ get_or vs 3 0 ∷ [] ≡ vs
four-words [] h = absurd (omega arith)
four-words (a ∷ []) h = absurd (omega arith)
four-words (a ∷ b ∷ []) h = absurd (omega arith)
four-words (a ∷ b ∷ c ∷ []) h = absurd (omega arith)
four-words (a ∷ b ∷ c ∷ d ∷ []) h = refl
four-words (a ∷ b ∷ c ∷ d ∷ v ∷ vs) h = absurd (omega arith)

module _ (e : Environment) (s s' : State number_cells) (vs : List ℕ) where
  pub calling-meaning : step number_cells e s ≡ pass (record { state = s'; finish = calls vs }) → meaning (callee Calling vs) ≡ outcome 1 vs
  unfolding meaning
  calling-meaning h = ap (outcome 1) (four-words vs (passing-at (stepped e s) h))

  pub delegating-meaning : step number_cells e s ≡ pass (record { state = s'; finish = delegates vs }) → meaning (callee DelegateCalling vs) ≡ outcome 2 vs
  unfolding meaning
  delegating-meaning h = ap (outcome 2) (four-words vs (passing-at (stepped e s) h))
