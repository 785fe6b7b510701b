-- Each call is the run over a plain map.
use Prim.Native.Nat.{ℕ}
use mathlib.Core.Path.{◌≡◌, refl, sym, subst}
use mathlib.Core.Bool.{Bool, true, false}
use mathlib.Core.List.{List}
use lib.ListN.{length}
use Rattle.rules.specs.declared.Instruction.{Instruction}
use Rattle.rules.specs.declared.Refusal.TheVariants.{BadState}
use Rattle.rules.specs.Numbers.{choose}
use Rattle.rules.specs.Results.{Result, refuse, pass}
use Rattle.rules.specs.Frames.{load_words}
use Rattle.rules.specs.Text.{load_text, load_budget_text}
use Rattle.rules.specs.Answers.{meaning}
use Rattle.rules.specs.Entry.{Snapshot, GuardedSnapshot, plain_entry, guarded_entry, environment, state_of, guarded_state_of, snapshot_after, guarded_snapshot_after}
use Rattle.rules.specs.Calls.{refused_call, plain_run_of, guarded_run_of, plain_answered, guarded_answered, job_budget, job_program, plain_call, plain_words, plain_text, plain_budget_text, guarded_call, guarded_words, guarded_text, guarded_budget_text}
use Rattle.rules.specs.MapCalls.{OnMap, refused-program, unfit-state, runs, GuardedOnMap, refused-guarded, unfit-guarded, runs-guarded, MapCalls}
use Rattle.rules.proofs.Laws.CellLaws.{rising-addresses}
use Rattle.rules.proofs.Soundness.GuardedSoundness.{guarded-run-sound}
use Rattle.rules.proofs.Soundness.EntrySoundness.{entry-sound, guarded-entry-sound}
use Rattle.rules.proofs.MapAgreement.GuardedMapAgreement.{map-agreement}

-- A loaded program, by the test of the state

entered : (program : List Instruction) (budget : ℕ) (s : Snapshot) → length s.machine.registers ≡ 10 → (b : Bool) → plain_entry s ≡ b
    → OnMap (pass program) budget s (choose b (plain_answered s (plain_run_of program budget s)) (refused_call BadState s))
entered program budget s ten false e = unfit-state e
entered program budget s ten true e =
    let h = (map-agreement (environment program s)).run budget (state_of s) (entry-sound program s ten e).cells.rising in
    subst (OnMap (pass program) budget s)
    (λ i. record { answer = meaning (sym h.answer i); steps = sym h.steps i; left = snapshot_after s (plain_run_of program budget s).state })
    (runs e (plain_run_of program budget s).state h.state)

guarded-entered : (program : List Instruction) (budget : ℕ) (g : GuardedSnapshot) → length g.plain.machine.registers ≡ 10
    → (b : Bool) → guarded_entry g ≡ b
    → GuardedOnMap (pass program) budget g (choose b (guarded_answered g (guarded_run_of program budget g)) (refused_call BadState g))
guarded-entered program budget g ten false e = unfit-guarded e
guarded-entered program budget g ten true e =
    let q = guarded_state_of g in
    let w = guarded-entry-sound program g ten e in
    let c = w.plain.cells.rising in
    let h =
    (map-agreement (environment program g.plain)).guarded_run budget q
    (record { plain = c; marks = rising-addresses 0 q.marks.cells q.plain.cells w.addresses c }) in
    subst (GuardedOnMap (pass program) budget g)
    (λ i. record { answer = meaning (sym h.answer i); steps = sym h.steps i; left = guarded_snapshot_after g (guarded_run_of program budget g).state })
    (runs-guarded e (guarded_run_of program budget g).state h.state (guarded-run-sound (environment program g.plain) budget q w).addresses)

-- Of any program as loaded

plain-on-map : (program : Result (List Instruction)) (budget : ℕ) (s : Snapshot) → length s.machine.registers ≡ 10
    → OnMap program budget s (plain_call program budget s)
unfolding plain_call
plain-on-map (refuse f) budget s ten = refused-program
plain-on-map (pass program) budget s ten = entered program budget s ten (plain_entry s) refl

guarded-on-map : (program : Result (List Instruction)) (budget : ℕ) (g : GuardedSnapshot) → length g.plain.machine.registers ≡ 10
    → GuardedOnMap program budget g (guarded_call program budget g)
unfolding guarded_call
guarded-on-map (refuse f) budget g ten = refused-guarded
guarded-on-map (pass program) budget g ten = guarded-entered program budget g ten (guarded_entry g) refl

pub calls-on-map : MapCalls
unfolding plain_words plain_text plain_budget_text guarded_words guarded_text guarded_budget_text
calls-on-map =
    record {
      of_words = λ words. plain-on-map (load_words words);
      of_text = λ text. plain-on-map (load_text text);
      of_budget_text = λ text. plain-on-map (job_program (load_budget_text text)) (job_budget (load_budget_text text));
      of_budget_text_program = λ text. plain-on-map (job_program (load_budget_text text));
      of_guarded_words = λ words. guarded-on-map (load_words words);
      of_guarded_text = λ text. guarded-on-map (load_text text);
      of_guarded_budget_text = λ text. guarded-on-map (job_program (load_budget_text text)) (job_budget (load_budget_text text));
      of_guarded_budget_text_program = λ text. guarded-on-map (job_program (load_budget_text text));
    }
