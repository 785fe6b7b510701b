-- A call that paused, handed in again with a further budget, goes on as one call with both budgets would have.
use Prim.Native.Nat.{ℕ, ◌+◌, ◌≤◌, ◌<◌}
use mathlib.Core.Path.{◌≡◌, refl, sym, ap, ◌∙◌}
use mathlib.Core.Bool.{Bool, true, false}
use mathlib.Core.List.{List, []}
use native.Mathlib.Omega.{arith}
use lib.ListN.{length}
use borrow.Author.Tests.{ltb-true}
use Rattle.rules.specs.declared.Instruction.{Instruction}
use Rattle.rules.specs.declared.Refusal.TheVariants.{BadState}
use Rattle.rules.specs.declared.Answer.TheVariants.{Paused}
use Rattle.rules.specs.Numbers.{clock_end, choose}
use Rattle.rules.specs.Results.{Result, refuse, pass}
use Rattle.rules.specs.Memory.{numbers_of, moments_of}
use Rattle.rules.specs.Cells.{Cells, count, addresses, contents, number_cells, mark_cells}
use Rattle.rules.specs.Step.{Environment, State, RunEnd, overlay, run}
use Rattle.rules.specs.Guarded.{GuardedState, guarded_run}
use Rattle.rules.specs.Answers.{outcome, meaning}
use Rattle.rules.specs.Entry.{Snapshot, GuardedSnapshot, word_of_bits, plain_entry, guarded_entry, environment, state_of, guarded_state_of, snapshot_after, guarded_snapshot_after}
use Rattle.rules.specs.Calls.{plain_run_of, plain_answered, guarded_run_of, guarded_answered, refused_call, plain_call, guarded_call}
use Rattle.rules.specs.Relations.{BothRan}
use Rattle.rules.specs.Soundness.{Sound, GuardedSound}
use Rattle.rules.specs.Resumption.{resumed, guarded_resumed, Resumable, GuardedResumable}
use Rattle.rules.specs.SplitCalls.{after_steps, SplitCalls}
use Rattle.rules.proofs.Laws.CellLaws.{length-addresses, length-contents}
use Rattle.rules.proofs.Laws.OverlayLaws.{overlay-same, overlay-overlay, overlay-covers}
use Rattle.rules.proofs.Laws.EntryLaws.{all-at}
use Rattle.rules.proofs.Laws.AnswerLaws.{refusal-not-paused, paused-answer}
use Rattle.rules.proofs.Soundness.PlainSoundness.{run_sound}
use Rattle.rules.proofs.Soundness.GuardedSoundness.{guarded-run-sound}
use Rattle.rules.proofs.Laws.HeldLaws.{length_part}
use Rattle.rules.proofs.Soundness.EntrySoundness.{entry-sound, guarded-entry-sound}
use Rattle.rules.proofs.Resumption.Resuming.{resumable, guarded-resumable}
use Rattle.rules.proofs.Resumption.Growth.{Grown, run-grows, guarded-run-grows}
use Rattle.rules.proofs.Resumption.RunSplits.{joined, run-splits, run-goes-on, guarded-run-splits, guarded-run-goes-on}
use Rattle.rules.proofs.Resumption.WrittenBehind.{with_written, Behind, behind, GuardedBehind, guarded-behind, run-behind, guarded-run-behind}

-- What a second call leaves lies over all that the first one left

-- a buffer of the cells, where there are no fewer cells
covered : {A B : Type 0} (f : Cells A → List B) → ((c : Cells A) → length (f c) ≡ count c) → (c d : Cells A) (l : List B) → count c ≤ count d
    → overlay (f d) (overlay (f c) l) ≡ overlay (f d) l
covered f n c d l h = overlay-covers (f d) (f c) l (omega (arith, n c, n d))

snapshot-twice : (s : Snapshot) (t u : State number_cells) (v : List ℕ) → Grown t u → u.written ≡ overlay v t.written
    → snapshot_after (snapshot_after s t) (with_written u v) ≡ snapshot_after s u
snapshot-twice s t u v g h =
    λ i.
    record {
      machine = (snapshot_after s u).machine;
      addresses = covered addresses length-addresses t.cells u.cells s.addresses g.cells i;
      numbers = covered (λ c. numbers_of (contents c)) (length_part _) t.cells u.cells s.numbers g.cells i;
      moments = covered (λ c. moments_of (contents c)) (length_part _) t.cells u.cells s.moments g.cells i;
      tape = overlay-covers u.tape t.tape s.tape g.tape i;
      output = (overlay-overlay v t.written s.output ∙ ap (λ l. overlay l s.output) (sym h)) i;
    }

pub left-twice : (s : Snapshot) {t u x : State number_cells} → Grown t u → Behind t.written u x → snapshot_after s u ≡ snapshot_after (snapshot_after s t) x
left-twice s {t} g (behind {s = u} v h) = sym (snapshot-twice s t u v g h)

-- a state and the same as the next call sees it
pub resumed-behind : {e : Environment} (t : State number_cells) → Sound e t → Behind t.written t (resumed t)
resumed-behind t h = behind t.output (sym (overlay-same t.output t.written h.first))

-- The plain call

pub plain_passes : (program : List Instruction) (s : Snapshot) (n : ℕ) → plain_entry s ≡ true
    → plain_call (pass program) n s ≡ plain_answered s (plain_run_of program n s)
unfolding plain_call
plain_passes program s n h = ap (λ b. choose b (plain_answered s (plain_run_of program n s)) (refused_call BadState s)) h

module _ (program : List Instruction) (s : Snapshot) (ten : length s.machine.registers ≡ 10) (passes : plain_entry s ≡ true) (m n : ℕ) (paused : (plain_run_of program m s).answer ≡ Paused) where
  abbrev here : Environment
  here = environment program s

  abbrev first : RunEnd (State number_cells)
  first = plain_run_of program m s

  sound : Sound here first.state
  sound = run_sound here m (state_of s) (entry-sound program s ten passes)

  again : Resumable program s first.state
  again = resumable program s first.state passes sound

  clock : (state_of s).clk < clock_end
  unfolding plain_entry
  clock = ltb-true _ _ (all-at _ passes 0)

  enters : plain_entry (snapshot_after s first.state) ≡ true
  enters = again.entry (run-goes-on number_cells mark_cells here m (state_of s) clock paused)

  second : plain_run_of program n (snapshot_after s first.state) ≡ run number_cells here n (resumed first.state)
  second = λ i. run number_cells (again.environment i) n (again.state i)

  joined-answers : (r q : RunEnd (State number_cells)) → Grown first.state r.state → BothRan (Behind first.state.written) r q
      → plain_answered s (joined first r) ≡ after_steps first.steps (plain_answered (snapshot_after s first.state) q)
  joined-answers r q g b =
      λ i. record { answer = meaning (b.answer i); steps = first.steps + b.steps i; left = left-twice s g b.state i }

  plain-split : plain_answered s (plain_run_of program (m + n) s) ≡ after_steps first.steps (plain_call (pass program) n (snapshot_after s first.state))
  plain-split =
      ap (plain_answered s) (run-splits number_cells mark_cells here m n (state_of s) paused)
      ∙ joined-answers (run number_cells here n first.state) (run number_cells here n (resumed first.state)) (run-grows here n first.state sound)
      (run-behind first.state.written here n first.state (resumed first.state) (resumed-behind first.state sound))
      ∙ ap (λ r. after_steps first.steps (plain_answered (snapshot_after s first.state) r)) (sym second)
      ∙ ap (after_steps first.steps) (sym (plain_passes program (snapshot_after s first.state) n enters))

-- The guarded call

pub guarded-twice : (g : GuardedSnapshot) (q : GuardedState number_cells mark_cells) {r x : GuardedState number_cells mark_cells} → Grown q.plain r.plain → count q.marks.cells ≤ count r.marks.cells
    → GuardedBehind q.plain.written r x → guarded_snapshot_after g r ≡ guarded_snapshot_after (guarded_snapshot_after g q) x
guarded-twice g q h l (guarded-behind {u = u} b) =
    λ i.
    record {
      plain = left-twice g.plain h b i;
      marks = sym (covered contents length-contents q.marks.cells u.cells g.marks l) i;
      extras = record { registers = word_of_bits u.registers };
    }

pub guarded-passes : (program : List Instruction) (g : GuardedSnapshot) (n : ℕ) → guarded_entry g ≡ true
    → guarded_call (pass program) n g ≡ guarded_answered g (guarded_run_of program n g)
unfolding guarded_call
guarded-passes program g n h = ap (λ b. choose b (guarded_answered g (guarded_run_of program n g)) (refused_call BadState g)) h

-- as many marks as cells
pub mark-count : {e : Environment} {q : GuardedState number_cells mark_cells} → GuardedSound e q → count q.marks.cells ≡ count q.plain.cells
mark-count {q = q} h = sym (length-addresses q.marks.cells) ∙ ap length h.addresses ∙ length-addresses q.plain.cells

module _ (program : List Instruction) (g : GuardedSnapshot) (ten : length g.plain.machine.registers ≡ 10) (passes : guarded_entry g ≡ true) (m n : ℕ) (paused : (guarded_run_of program m g).answer ≡ Paused) where
  abbrev there : Environment
  there = environment program g.plain

  abbrev guarded-first : RunEnd (GuardedState number_cells mark_cells)
  guarded-first = guarded_run_of program m g

  guarded-sound : GuardedSound there guarded-first.state
  guarded-sound = guarded-run-sound there m (guarded_state_of g) (guarded-entry-sound program g ten passes)

  guarded-again : GuardedResumable program g guarded-first.state
  guarded-again = guarded-resumable program g guarded-first.state passes guarded-sound

  guarded-clock : (state_of g.plain).clk < clock_end
  unfolding guarded_entry plain_entry
  guarded-clock = ltb-true _ _ (all-at _ (all-at _ passes 0) 0)

  guarded-enters : guarded_entry (guarded_snapshot_after g guarded-first.state) ≡ true
  guarded-enters = guarded-again.entry (guarded-run-goes-on number_cells mark_cells there m (guarded_state_of g) guarded-clock paused)

  guarded-second : guarded_run_of program n (guarded_snapshot_after g guarded-first.state) ≡ guarded_run number_cells mark_cells there n (guarded_resumed guarded-first.state)
  guarded-second = λ i. guarded_run number_cells mark_cells (guarded-again.plain.environment i) n (guarded-again.state i)

  guarded-joined : (r q : RunEnd (GuardedState number_cells mark_cells)) → Grown guarded-first.state.plain r.state.plain
      → count guarded-first.state.marks.cells ≤ count r.state.marks.cells
      → BothRan (GuardedBehind guarded-first.state.plain.written) r q
      → guarded_answered g (joined guarded-first r) ≡ after_steps guarded-first.steps (guarded_answered (guarded_snapshot_after g guarded-first.state) q)
  guarded-joined r q h l b =
      λ i. record { answer = meaning (b.answer i); steps = guarded-first.steps + b.steps i; left = guarded-twice g guarded-first.state h l b.state i }

  guarded-grown : Grown guarded-first.state.plain (guarded_run number_cells mark_cells there n guarded-first.state).state.plain
  guarded-grown = guarded-run-grows there n guarded-first.state guarded-sound.plain

  marks-grown : count guarded-first.state.marks.cells ≤ count (guarded_run number_cells mark_cells there n guarded-first.state).state.marks.cells
  marks-grown =
      let a = guarded-grown.cells in
      omega (arith, mark-count guarded-sound, mark-count (guarded-run-sound there n guarded-first.state guarded-sound))

  guarded-split : guarded_answered g (guarded_run_of program (m + n) g)
      ≡ after_steps guarded-first.steps (guarded_call (pass program) n (guarded_snapshot_after g guarded-first.state))
  guarded-split =
      ap (guarded_answered g) (guarded-run-splits number_cells mark_cells there m n (guarded_state_of g) paused)
      ∙ guarded-joined (guarded_run number_cells mark_cells there n guarded-first.state) (guarded_run number_cells mark_cells there n (guarded_resumed guarded-first.state))
      guarded-grown
      marks-grown
      (guarded-run-behind guarded-first.state.plain.written there n guarded-first.state (guarded_resumed guarded-first.state)
      (guarded-behind (resumed-behind guarded-first.state.plain guarded-sound.plain)))
      ∙ ap (λ r. after_steps guarded-first.steps (guarded_answered (guarded_snapshot_after g guarded-first.state) r)) (sym guarded-second)
      ∙ ap (after_steps guarded-first.steps) (sym (guarded-passes program (guarded_snapshot_after g guarded-first.state) n guarded-enters))

-- Of any program as loaded: one that is refused, or a start that is, does not pause

pub split-calls : (program : Result (List Instruction)) → SplitCalls program
unfolding plain_call guarded_call
split-calls (refuse f) =
    record { plain = λ m n s ten h. absurd (refusal-not-paused f h); guarded = λ m n g ten h. absurd (refusal-not-paused f h) }
split-calls (pass program) =
    record { plain = λ m n s ten. plain-go m n s ten (plain_entry s) refl; guarded = λ m n g ten. guarded-go m n g ten (guarded_entry g) refl }
  where
    plain-go : (m n : ℕ) (s : Snapshot) → length s.machine.registers ≡ 10 → (b : Bool) → plain_entry s ≡ b
        → (choose b (plain_answered s (plain_run_of program m s)) (refused_call BadState s)).answer ≡ outcome 3 []
        → choose b (plain_answered s (plain_run_of program (m + n) s)) (refused_call BadState s)
        ≡ after_steps
        (choose b (plain_answered s (plain_run_of program m s)) (refused_call BadState s)).steps
        (plain_call (pass program) n (choose b (plain_answered s (plain_run_of program m s)) (refused_call BadState s)).left)
    plain-go m n s ten true k h = plain-split program s ten k m n (paused-answer (plain_run_of program m s).answer h)
    plain-go m n s ten false k h = absurd (refusal-not-paused BadState h)

    guarded-go : (m n : ℕ) (g : GuardedSnapshot) → length g.plain.machine.registers ≡ 10 → (b : Bool) → guarded_entry g ≡ b
        → (choose b (guarded_answered g (guarded_run_of program m g)) (refused_call BadState g)).answer ≡ outcome 3 []
        → choose b (guarded_answered g (guarded_run_of program (m + n) g)) (refused_call BadState g)
        ≡ after_steps
        (choose b (guarded_answered g (guarded_run_of program m g)) (refused_call BadState g)).steps
        (guarded_call (pass program) n (choose b (guarded_answered g (guarded_run_of program m g)) (refused_call BadState g)).left)
    guarded-go m n g ten true k h = guarded-split program g ten k m n (paused-answer (guarded_run_of program m g).answer h)
    guarded-go m n g ten false k h = absurd (refusal-not-paused BadState h)
