-- The theorem: demand 3 holds, in C's words, of each exported guarded function. It follows from demand 3 of the calls: what a call leaves in the
-- records is read back as it was left, and the words of an answer say 18 exactly where the call meets 18.
use Prim.Native.Nat.{ℕ}
use mathlib.Core.Path.{◌≡◌, refl, sym, ap, ap₂, subst, ◌∙◌}
use mathlib.Core.Bool.{Bool, true, false}
use mathlib.Core.List.{List}
use native.Mathlib.Omega.{arith}
use lib.ListN.{length, drop, length-append, length-drop}
use lib.Seq.{length-take-le}
use Rattle.rules.specs.declared.Instruction.{Instruction}
use Rattle.rules.specs.declared.Machine.{Machine}
use Rattle.rules.specs.declared.Marks.{Marks}
use Rattle.rules.specs.declared.Refusal.TheVariants.{BadState}
use Rattle.rules.specs.declared.Answer.{Answer}
use Rattle.rules.specs.declared.Answer.TheVariants.{Refused}
use Rattle.rules.specs.Numbers.{choose}
use Rattle.rules.specs.Results.{Result, refuse, pass}
use Rattle.rules.specs.Frames.{load_words}
use Rattle.rules.specs.Text.{load_text, load_budget_text}
use Rattle.rules.specs.Answers.{Meaning, refusal_meaning, meaning}
use Rattle.rules.specs.Entry.{Snapshot, GuardedSnapshot, guarded_entry}
use Rattle.rules.specs.Calls.{Called, paused_after, refused_call, guarded_run_of, guarded_answered, plain_call, guarded_call, job_budget, job_program, plain_words, plain_text, guarded_words, guarded_text, guarded_budget_text}
use Rattle.rules.specs.Handed.{guarded_snapshot}
use Rattle.rules.specs.NonInterference.{Alike, MarkedBelow, MeetsSink, SinkAfter, without_marks, NonInterference}
use Rattle.records.specs.Records.{machine_of, machine_record, marks_record, callee_of, answer_record}
use Rattle.records.proofs.RecordLaws.{records-kept}
use Rattle.records.proofs.ReadingBack.{steps-read, records-read}
use Rattle.executor.proofs.GuardedFunctionsHold.{non-interfering}
use Rattle.machine.proofs.GuardedStepsHold.{non-interfering-in-place}
use Rattle.ola.specs.Lent.{GuardedBuffers, guarded_buffers, plain_left, guarded_left}
use Rattle.ola.specs.GuardedRecords.{guarded_handed, with_answer, with_guarded_answer, after_run, after_guarded_run, after_check, after_guarded_check, SaysSink, SaysSinkAfter, refusal_words, paused_words, Sized, AlikeLent, SameLeft, NonInterferenceInRecords, NonInterferingInRecords}
use Rattle.ola.proofs.SinkWords.{said-sink, sink-words, says-sink}

-- What a call leaves is read back

module _ (c : Called GuardedSnapshot)
    (ten : length c.left.plain.machine.registers ≡ 10)
    (four : length c.left.plain.machine.storage_addr ≡ 4) where
  left-sized : Sized (guarded_left c)
  unfolding machine_record marks_record
  left-sized = record { machine = simp length-append (omega (arith, ten, four)); extras = refl }

  left-read : guarded_handed (guarded_left c) ≡ c.left
  left-read =
      ap₂ (λ (m : Machine) (e : Marks).
      guarded_snapshot m e c.left.plain.addresses c.left.plain.numbers c.left.plain.moments c.left.marks c.left.plain.tape c.left.plain.output)
      (records-read.machine c.left.plain.machine ten four)
      (records-read.extras c.left.extras)

four-words : (b : GuardedBuffers) → Sized b → length (guarded_handed b).plain.machine.storage_addr ≡ 4
unfolding machine_of
four-words b s =
    length-take-le 4 (drop 13 b.plain.machine) (let d = length-drop 13 b.plain.machine in let l = s.machine in omega arith)

-- What is needed of a call beside demand 3: its answer is one that the table of answers has, and it keeps the storage address

answered : (program : Result (List Instruction)) (budget : ℕ) (g : GuardedSnapshot) → (a : Answer) × ((guarded_call program budget g).answer ≡ meaning a)
unfolding guarded_call meaning
answered (refuse f) budget g = (Refused f, refl)
answered (pass program) budget g = go (guarded_entry g)
  where
    go : (b : Bool) → (a : Answer) × ((choose b (guarded_answered g (guarded_run_of program budget g)) (refused_call BadState g)).answer ≡ meaning a)
    go true = ((guarded_run_of program budget g).answer, refl)
    go false = (Refused BadState, refl)

storage-kept : (program : Result (List Instruction)) (budget : ℕ) (g : GuardedSnapshot)
    → (guarded_call program budget g).left.plain.machine.storage_addr ≡ g.plain.machine.storage_addr
unfolding guarded_call
storage-kept (refuse f) budget g = refl
storage-kept (pass program) budget g = go (guarded_entry g)
  where
    go : (b : Bool)
        → (choose b (guarded_answered g (guarded_run_of program budget g)) (refused_call BadState g)).left.plain.machine.storage_addr
        ≡ g.plain.machine.storage_addr
    go true = refl
    go false = refl

four-left : (program : Result (List Instruction)) (budget : ℕ) (b : GuardedBuffers) → Sized b
    → length (guarded_call program budget (guarded_handed b)).left.plain.machine.storage_addr ≡ 4
four-left program budget b s = ap length (storage-kept program budget (guarded_handed b)) ∙ four-words b s

-- A call and the words of its answer

module _ (program : Result (List Instruction)) (budget : ℕ) (g : GuardedSnapshot) where
  meets : (steps : ℕ) → SaysSink (answer_record (guarded_call program budget g).answer steps) → MeetsSink (guarded_call program budget g)
  meets steps h =
      let a = answered program budget g in
      a.1 ∙ said-sink a.0 steps (subst (λ (m : Meaning). SaysSink (answer_record m steps)) a.1 h)

  meets-after : (k : ℕ) → SaysSinkAfter k (answer_record (guarded_call program budget g).answer (guarded_call program budget g).steps)
      → SinkAfter k (guarded_call program budget g)
  meets-after k h = (meets _ h.0, sym (steps-read (guarded_call program budget g).answer (guarded_call program budget g).steps) ∙ h.1)

-- Runs and steps

module _ (program : Result (List Instruction)) (budget : ℕ) (h : NonInterference program budget (guarded_call program budget) (plain_call program)) where
  abbrev called : GuardedBuffers → Called GuardedSnapshot
  called b = guarded_call program budget (guarded_handed b)

  run-agrees : (b c : GuardedBuffers) → AlikeLent b c → MarkedBelow (guarded_handed b) → MarkedBelow (guarded_handed c)
      → SameLeft (guarded_left (called b)) (guarded_left (called c))
  run-agrees b c al below-b below-c =
      let w = h.agrees (guarded_handed b) (guarded_handed c) al.read below-b below-c in
      let four-b = four-left program budget b al.sized.0 in
      let four-c = four-left program budget c al.sized.1 in
      let ten = w.left.ten in
      record {
        answer = ap₂ answer_record w.answer w.steps;
        rest = record {
          sized = (left-sized (called b) ten.0 four-b, left-sized (called c) ten.1 four-c);
          read =
              subst (λ g. Alike g (guarded_handed (guarded_left (called c)))) (sym (left-read (called b) ten.0 four-b))
              (subst (Alike (called b).left) (sym (left-read (called c) ten.1 four-c)) w.left);
        };
      }

  run-unfit : (b : GuardedBuffers) → Sized b → called b ≡ refused_call BadState (guarded_handed b)
      → guarded_left (called b) ≡ with_guarded_answer (refusal_words 3 0) b
  unfolding answer_record callee_of refusal_meaning
  run-unfit b s e =
      ap guarded_left e
      ∙ ap₂ (λ (m x : List ℕ).
      guarded_buffers (refusal_words 3 0) m x b.plain.addresses b.plain.numbers b.plain.moments b.marks b.plain.tape b.plain.output)
      (records-kept.machine b.plain.machine s.machine)
      (records-kept.extras b.extras s.extras)

  paused-words : {k : ℕ} {c : Called Snapshot} {s : Snapshot} → c ≡ paused_after k s → (plain_left c).answer ≡ paused_words k
  unfolding answer_record callee_of
  paused-words e = ap (λ (c : Called Snapshot). (plain_left c).answer) e

  run_holds : NonInterferenceInRecords program budget (after_guarded_run (guarded_call program budget)) (λ k. after_run (plain_call program k))
  run_holds =
      record {
        agrees = run-agrees;
        transparent = λ b fit other.
            ap plain_left (h.transparent (guarded_handed b) fit (λ m. other (says-sink (called b).answer (called b).steps _ m refl).0));
        unfit = λ b s unfit e. run-unfit b s (h.unfit (guarded_handed b) unfit e);
        stops_early = λ b k says.
            let m = meets-after program budget (guarded_handed b) k says in
            let w = h.stops_early (guarded_handed b) k m in (
              w.0,
              paused-words w.1,
              ap (λ (answer : List ℕ). with_answer answer (plain_left (without_marks (called b)))) (sink-words (called b).answer (called b).steps k m.0 m.1)
                  ∙ ap (λ (c : Called Snapshot). with_answer (refusal_words 18 k) (plain_left c)) (sym w.1),
            );
        exact = λ b k. (
          λ says. (h.exact (guarded_handed b) k).0 (meets-after program budget (guarded_handed b) k says),
          λ reached.
              let m = (h.exact (guarded_handed b) k).1 reached in
              says-sink (called b).answer (called b).steps k m.0 m.1,
        );
        clean = λ b unmarked says. h.clean (guarded_handed b) unmarked (meets program budget (guarded_handed b) _ says);
      }

-- Checks: with budget 0 no call meets 18

module _ (program : Result (List Instruction)) (h : NonInterference program 0 (guarded_call program 0) (plain_call program)) where
  never : (g : GuardedSnapshot) → SaysSink (answer_record (guarded_call program 0 g).answer 0) → ⊥
  never g says = let l = (h.stops_early g _ (meets program 0 g 0 says, refl)).0 in omega arith

  check-unfit : (b : GuardedBuffers) → guarded_call program 0 (guarded_handed b) ≡ refused_call BadState (guarded_handed b)
      → after_guarded_check (guarded_call program 0) b ≡ with_guarded_answer (refusal_words 3 0) b
  unfolding answer_record callee_of refusal_meaning
  check-unfit b e = ap (λ (c : Called GuardedSnapshot). with_guarded_answer (answer_record c.answer 0) b) e

  check-holds : NonInterferenceInRecords program 0 (after_guarded_check (guarded_call program 0)) (λ k. after_check (plain_call program k))
  check-holds =
      record {
        agrees = λ b c al below-b below-c.
            record {
              answer = ap (λ (m : Meaning). answer_record m 0) (h.agrees (guarded_handed b) (guarded_handed c) al.read below-b below-c).answer;
              rest = record {
                sized = (
                  record { machine = al.sized.0.machine; extras = al.sized.0.extras },
                  record { machine = al.sized.1.machine; extras = al.sized.1.extras },
                );
                read = al.read;
              };
            };
        transparent = λ b fit other.
            ap (λ (c : Called Snapshot). with_answer (answer_record c.answer 0) b.plain)
            (h.transparent (guarded_handed b) fit (λ m. other (says-sink (guarded_call program 0 (guarded_handed b)).answer 0 0 m refl).0));
        unfit = λ b s unfit e. check-unfit b (h.unfit (guarded_handed b) unfit e);
        stops_early = λ b k says. absurd (never (guarded_handed b) says.0);
        exact = λ b k. (λ says. absurd (never (guarded_handed b) says.0), λ reached. absurd (let l = reached.0 in omega arith));
        clean = λ b unmarked says. never (guarded_handed b) says;
      }

-- each from demand 3 of the function that it calls
pub non-interfering-in-records : NonInterferingInRecords
unfolding plain_words plain_text guarded_words guarded_text guarded_budget_text
non-interfering-in-records =
    let h = non-interfering in
    record {
      run_words = λ words budget. run_holds (load_words words) budget (h.run_words words budget);
      step_words = λ words. run_holds (load_words words) 1 (non-interfering-in-place.lend_and_step_guarded words);
      run_text = λ text budget. run_holds (load_text text) budget (h.run_text text budget);
      run_budget_text = λ text. run_holds (job_program (load_budget_text text)) (job_budget (load_budget_text text)) (h.run_budget_text text);
      check_words = λ words. check-holds (load_words words) (h.check_words words);
      check_text = λ text. check-holds (load_text text) (h.check_text text);
      check_budget_text = λ text. check-holds (job_program (load_budget_text text)) (h.check_budget_text text);
    }
