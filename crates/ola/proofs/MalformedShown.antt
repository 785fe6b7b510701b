-- The record of a call's answer shows refusal 2 as the call answers it.
use Prim.Native.Nat.{ℕ}
use mathlib.Core.Path.{◌≡◌, sym, ap, subst}
use mathlib.Core.List.{List, [], ◌∷◌}
use native.Mathlib.Omega.{arith}
use lib.ListN.{get_or}
use Rattle.rules.specs.Answers.{Meaning, outcome, refusal}
use Rattle.rules.specs.Calls.{Called}
use Rattle.rules.specs.MalformedFrames.{Numbered, ToCarry, CarriesEarliest}
use Rattle.rules.proofs.EntryRefusals.EarliestCarried.{calls-carry-earliest}
use Rattle.records.specs.Records.{callee_of, answer_record}
use Rattle.ola.specs.MalformedRecords.{ShowsEarliest, RecordsShowEarliest}

module _ (f : Numbered) where
  carries : (a : Meaning) (steps : ℕ) → ((values : List ℕ) → a ≡ refusal 2 values → (n : ℕ) × (values ≡ n ∷ []) × ToCarry f n)
      → get_or (answer_record a steps) 0 0 ≡ 1 → get_or (answer_record a steps) 1 0 ≡ 2 → ToCarry f (get_or (answer_record a steps) 3 0)
  unfolding answer_record
  carries (outcome n vs) steps h e k = absurd (omega arith)
  carries (refusal n vs) steps h e k =
      let c = h vs (ap (λ (n : ℕ). refusal n vs) k) in
      subst (ToCarry f) (sym (ap (λ (l : List ℕ). get_or l 0 0) c.1)) c.2

  module _ {S : Type 0} (s : S) (call : Called S) (h : CarriesEarliest f s call) where
    -- with the call's own steps, and of a check, with none
    run-shows : ShowsEarliest f (answer_record call.answer call.steps)
    unfolding answer_record callee_of
    run-shows =
        record {
          carries = carries call.answer call.steps h.carries;
          refuses = λ n k. ap (λ (c : Called S). answer_record c.answer c.steps) (h.refuses n k);
        }

    check-shows : ShowsEarliest f (answer_record call.answer 0)
    unfolding answer_record callee_of
    check-shows =
        record {
          carries = carries call.answer 0 h.carries;
          refuses = λ n k. ap (λ (c : Called S). answer_record c.answer 0) (h.refuses n k);
        }

pub records-show-earliest : RecordsShowEarliest
records-show-earliest =
    let h = calls-carry-earliest in
    record {
      run_words = λ words budget s. run-shows _ s _ (h.of_words words budget s);
      step_words = λ words s. run-shows _ s _ (h.of_words words 1 s);
      run_text = λ text budget s. run-shows _ s _ (h.of_text text budget s);
      run_budget_text = λ text s. run-shows _ s _ (h.of_budget_text text s);
      check_words = λ words s. check-shows _ s _ (h.of_words words 0 s);
      check_text = λ text s. check-shows _ s _ (h.of_text text 0 s);
      check_budget_text = λ text s. check-shows _ s _ (h.of_budget_text_check text s);
      guarded_run_words = λ words budget g. run-shows _ g _ (h.of_guarded_words words budget g);
      guarded_step_words = λ words g. run-shows _ g _ (h.of_guarded_words words 1 g);
      guarded_run_text = λ text budget g. run-shows _ g _ (h.of_guarded_text text budget g);
      guarded_run_budget_text = λ text g. run-shows _ g _ (h.of_guarded_budget_text text g);
      guarded_check_words = λ words g. check-shows _ g _ (h.of_guarded_words words 0 g);
      guarded_check_text = λ text g. check-shows _ g _ (h.of_guarded_text text 0 g);
      guarded_check_budget_text = λ text g. check-shows _ g _ (h.of_guarded_budget_text_check text g);
    }
