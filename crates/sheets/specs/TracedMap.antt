-- Demand 2 for traced calls: each is refused at entry, or is the traced run over a plain map from address to number and moment, with the
-- same lines. The buffers of cells then hold what that map holds, in rising order.
use Rattle.std.specs.Prelude.{ℕ, ◌≡◌, true, false, List, length}
use Rattle.rules.specs.declared.Instruction.{Instruction}
use Rattle.rules.specs.declared.Refusal.{Refusal}
use Rattle.rules.specs.declared.Refusal.TheVariants.{BadState}
use Rattle.rules.specs.Results.{Result, refuse, pass}
use Rattle.rules.specs.Frames.{load_words}
use Rattle.rules.specs.Text.{load_text, load_budget_text}
use Rattle.rules.specs.Cells.{number_cells}
use Rattle.rules.specs.PlainMap.{number_map}
use Rattle.rules.specs.Step.{RunEnd}
use Rattle.rules.specs.Answers.{meaning}
use Rattle.rules.specs.Entry.{plain_entry, environment}
use Rattle.rules.specs.Calls.{Called, refused_call, job_budget, job_program}
use Rattle.rules.specs.MapAgreement.{map_state, SameState}
use Rattle.sheets.specs.Traced.{TracedState, traced_run}
use Rattle.sheets.specs.TracedCalls.{TracedSnapshot, traced_state_of, traced_snapshot_after, traced_call, traced_words, traced_text, traced_budget_text}

-- The traced run over a plain map, from what is handed in

abbrev pub map_traced_state : TracedState number_cells → TracedState number_map
map_traced_state q = record { plain = map_state q.plain; lines = q.lines }

abbrev pub traced_map_run : List Instruction → ℕ → TracedSnapshot → RunEnd (TracedState number_map)
traced_map_run program budget t =
    traced_run number_map (environment program t.plain) (length t.sheet) budget (map_traced_state (traced_state_of t))

pub record SameTracedState (q : TracedState number_cells) (r : TracedState number_map) : Type 0 where
  pub plain : SameState q.plain r.plain
  pub lines : q.lines ≡ r.lines

-- What a call gives. Of one that runs: the map's answer and steps, and the snapshot of a state that agrees with the map's, lines included.
pub data TracedOnMap : Result (List Instruction) → ℕ → TracedSnapshot → Called TracedSnapshot → Type 0 where
  refused-program : {f : Refusal} {budget : ℕ} {t : TracedSnapshot} → TracedOnMap (refuse f) budget t (refused_call f t)
  unfit-state : {program : List Instruction} {budget : ℕ} {t : TracedSnapshot} → plain_entry t.plain ≡ false
      → TracedOnMap (pass program) budget t (refused_call BadState t)
  runs : {program : List Instruction} {budget : ℕ} {t : TracedSnapshot} → plain_entry t.plain ≡ true
      → (q : TracedState number_cells) → SameTracedState q (traced_map_run program budget t).state
      → TracedOnMap (pass program) budget t
      (record {
        answer = meaning (traced_map_run program budget t).answer;
        steps = (traced_map_run program budget t).steps;
        left = traced_snapshot_after t q;
      })

-- The theorem, for each public call. A machine has ten registers by its type.
pub record TracedMapCalls : Type 0 where
  pub of_words : (words : List ℕ) (budget : ℕ) (t : TracedSnapshot) → length t.plain.machine.registers ≡ 10
      → TracedOnMap (load_words words) budget t (traced_words words budget t)
  pub of_text : (text : List ℕ) (budget : ℕ) (t : TracedSnapshot) → length t.plain.machine.registers ≡ 10
      → TracedOnMap (load_text text) budget t (traced_text text budget t)
  pub of_budget_text : (text : List ℕ) (t : TracedSnapshot) → length t.plain.machine.registers ≡ 10
      → TracedOnMap (job_program (load_budget_text text)) (job_budget (load_budget_text text)) t (traced_budget_text text t)
  pub of_budget_text_program : (text : List ℕ) (budget : ℕ) (t : TracedSnapshot) → length t.plain.machine.registers ≡ 10
      → TracedOnMap (job_program (load_budget_text text)) budget t (traced_call (job_program (load_budget_text text)) budget t)
