-- `solve` from its parts: a call from its start, and the lines of what that gave; and which buffer has room for them.
use Rattle.std.specs.Prelude.{Option, Some, None}
use Prim.Native.Nat.{ℕ, ◌+◌, ◌≤◌}
use mathlib.Core.Path.{◌≡◌, refl, sym, ap, subst, ◌∙◌}
use mathlib.Core.Bool.{true}
use mathlib.Core.List.{List, []}
use native.Mathlib.Omega.{arith}
use lib.ListN.{length, replicate}
use borrow.Author.Tests.{le-leb}
use Rattle.rules.specs.declared.Machine.{Machine}
use Rattle.rules.specs.declared.Ran.{Ran}
use Rattle.rules.specs.Numbers.{cell_limit, value_limit}
use Rattle.rules.specs.Answers.{Meaning, outcome, refusal, meaning}
use Rattle.rules.specs.Calls.{plain_budget_text}
use Rattle.rules.specs.Solve.{printed, solve_start, solve}
use Rattle.rules.proofs.SolveLines.{solve-fits}
use Rattle.hexadecimal.specs.Writing.{fits, Writes}
use Rattle.report.specs.ReportLines.{reported}
use Rattle.rules.specs.Handed.{snapshot, called}

starts : (m : Machine) → m ≡ solve_start.machine
    → snapshot m (replicate 2048 0) (replicate 2048 0) (replicate 2048 0) (replicate 4096 0) (replicate 4096 0) ≡ solve_start
unfolding solve_start cell_limit value_limit
starts m e = ap (λ x. snapshot x (replicate 2048 0) (replicate 2048 0) (replicate 2048 0) (replicate 4096 0) (replicate 4096 0)) e

-- of the buffers the lines show the output alone
shows : (a : Meaning) (steps : ℕ) (m : Machine) (xs ns ms tape output : List ℕ)
    → printed (record { answer = a; steps = steps; left = snapshot m [] [] [] [] output })
    ≡ printed (record { answer = a; steps = steps; left = snapshot m xs ns ms tape output })
unfolding printed
shows (outcome n vs) steps m xs ns ms tape output = refl
shows (refusal n vs) steps m xs ns ms tape output = refl

shown : (r : Ran) (xs ns ms tape output : List ℕ)
    → printed (reported r.answer r.steps r.machine output) ≡ printed (called r xs ns ms tape output)
unfolding reported
shown r xs ns ms tape output = shows (meaning r.answer) r.steps r.machine xs ns ms tape output

pub solved : (input : List ℕ) (m : Machine) (r : Ran) (xs ns ms tape output lines after : List ℕ) (put : Option ℕ) → m ≡ solve_start.machine
    → called r xs ns ms tape output ≡ plain_budget_text input (snapshot m (replicate 2048 0) (replicate 2048 0) (replicate 2048 0) (replicate 4096 0) (replicate 4096 0))
    → Writes (printed (reported r.answer r.steps r.machine output)) lines 0 put after
    → Writes (solve input) lines 0 put after
unfolding solve
solved input m r xs ns ms tape output lines after put s c w =
    subst (λ l. Writes l lines 0 put after) (shown r xs ns ms tape output ∙ ap printed (c ∙ ap (plain_budget_text input) (starts m s))) w

-- a buffer of 69,703 bytes has room for the lines
pub lines_fit : (input lines after : List ℕ) (put : Option ℕ) → Writes (solve input) lines 0 put after → put ≡ None → 69703 ≤ length lines → ⊥
lines_fit input lines after put w q h =
    let l = solve-fits input in
    let e : fits lines 0 (solve input) ≡ true = le-leb (0 + length (solve input)) (length lines) (omega arith) in
    let f : None ≡ Some (0 + length (solve input)) = sym q ∙ (rw e at w.answer) in
    let z : ◌≡◌ {A = ℕ} 0 1 = cc in
    omega arith
