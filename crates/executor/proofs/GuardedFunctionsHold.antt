-- The theorem: demand 3 holds of each public guarded function.
use Rattle.rules.proofs.NonInterference.NonInterferenceHolds.{words-hold, text-holds, job-holds, budget-text-holds}
use Rattle.executor.specs.GuardedFunctions.{NonInterfering}

pub non-interfering : NonInterfering
non-interfering =
    record {
      run_words = words-hold;
      step_words = λ words. words-hold words 1;
      run_text = text-holds;
      run_budget_text = budget-text-holds;
      check_words = λ words. words-hold words 0;
      check_text = λ text. text-holds text 0;
      check_budget_text = λ text. job-holds text 0;
    }
