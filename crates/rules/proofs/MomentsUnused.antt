-- A run does not look at moments: two that differ in them alone stay so.
use Prim.Native.Nat.{ℕ, zero, suc, ◌-◌}
use mathlib.Core.Path.{◌≡◌, refl, sym, ap, subst, ◌∙◌}
use mathlib.Core.Bool.{true}
use mathlib.Core.List.{List, [], ◌∷◌, ◌++◌}
use native.Mathlib.Omega.{arith}
use lib.Dec.{eqb}
use lib.ListN.{length}
use Rattle.rules.specs.declared.Instruction.{Instruction}
use Rattle.rules.specs.declared.Held.{Held}
use Rattle.rules.specs.declared.Refusal.TheVariants.{NotInField, NotSmall, AssertFailed, RangeCheckFailed, CellAbsent, SpanPastRegion, TapeFault, StoreFault, ProphetStore, NoCapacity}
use Rattle.rules.specs.Numbers.{choose}
use Rattle.rules.specs.Results.{Result, pass, GuardedResult}
use Rattle.rules.specs.Memory.{Content, absent, present, held, numbers_of, moments_of, held_of}
use Rattle.rules.specs.Cells.{Cells, get, put, count, addresses, contents, zipped, number_cells, mark_cells}
use Rattle.rules.specs.Opcodes.{Class, addition, multiplication, equality, small, complement, move, assert, range_check, jump, conditional_jump, call, return, load, store, tape_load, tape_store, contract_call, end, uncovered, class_of}
use Rattle.rules.specs.Operands.{Operands}
use Rattle.rules.specs.Step.{Environment, State, Next, goes_on, calls, delegates, overlay, r9, next_pc, writes_register, writes_tape, content_value, read, read_below, read_many, read_span, store_many, operate, capacity, step, RunEnd, on_step, run}
use Rattle.rules.specs.Guarded.{MarkState, GuardedState, GuardedNext, guarded_rest, guarded_step, on_guarded_step, guarded_run}
use Rattle.rules.specs.Answers.{meaning}
use Rattle.rules.specs.Entry.{Snapshot, GuardedSnapshot, used_addresses, used_numbers, used_moments, word_of_bits, plain_entry, guarded_entry, environment, state_of, guarded_state_of, snapshot_after, guarded_snapshot_after}
use Rattle.rules.specs.Calls.{plain_call, guarded_call}
use Rattle.rules.specs.Moments.{with_moments, guarded_with_moments, MomentsDecideNothing}
use Rattle.rules.specs.Relations.{Both, both-refused, passed, BothGuarded, refused-alike, sink-alike, passed-alike, BothRan}
use Rattle.rules.proofs.Laws.HeldLaws.{mapped, mapped_content, addresses-mapped, contents-mapped, get-mapped, put-mapped, zipped-mapped, count-mapped}
use Rattle.rules.proofs.Laws.EntryLaws.{all-at}
use Rattle.rules.proofs.Laws.MarkLaws.{sinks-look, marks-look}
use Rattle.rules.proofs.Laws.Relational.{both-bind, both-bind-equal, both-require, both-after, both-after-equal, both-guard, both-finish}
use Rattle.rules.proofs.Soundness.EntrySoundness.{used-numbers}
use Rattle.rules.proofs.Resumption.CallSplits.{plain_passes, guarded-passes}

-- Memory: the same numbers at the same addresses

abbrev numbers_in : Cells Held → Cells ℕ
numbers_in c = mapped (λ h. h.number) c

abbrev SameNumbers : Cells Held → Cells Held → Type 0
SameNumbers c d = numbers_in c ≡ numbers_in d

abbrev SameNumber : Held → Held → Type 0
SameNumber h k = h.number ≡ k.number

content-both : (x y : Content Held) → mapped_content (λ h. h.number) x ≡ mapped_content (λ h. h.number) y
    → Both SameNumber (content_value number_cells x) (content_value number_cells y)
content-both absent absent e = both-refused
content-both absent (present k) e = let z : ◌≡◌ {A = ℕ} 0 1 = cc in absurd (omega arith)
content-both (present h) absent e = let z : ◌≡◌ {A = ℕ} 0 1 = cc in absurd (omega arith)
content-both (present h) (present k) e = let z : SameNumber h k = cc in passed z

cell-both : (c d : Cells Held) → SameNumbers c d → (a : ℕ) → Both SameNumber (read number_cells c a) (read number_cells d a)
cell-both c d e a = content-both (get c a) (get d a) (sym (get-mapped _ c a) ∙ ap (λ c. get c a) e ∙ get-mapped _ d a)

below_both : (c d : Cells Held) → SameNumbers c d → (r k : ℕ) → Both SameNumber (read_below number_cells c r k) (read_below number_cells d r k)
below_both c d e r k = both-require CellAbsent refl (cell-both c d e (r - k))

abbrev SameLists : List Held → List Held → Type 0
SameLists hs ks = numbers_of hs ≡ numbers_of ks

many-both : (c d : Cells Held) → SameNumbers c d → (a n : ℕ) → Both SameLists (read_many number_cells c a n) (read_many number_cells d a n)
unfolding read_many
many-both c d e a zero = passed refl
many-both c d e a (suc n) =
    both-bind _ _ (cell-both c d e a) λ h k x.
    both-bind _ _ (many-both c d e (suc a) n) λ hs ks y.
    passed (λ i. x i ∷ y i)

span-both : (c d : Cells Held) → SameNumbers c d → (a n : ℕ) → Both SameLists (read_span number_cells c a n) (read_span number_cells d a n)
unfolding read_span
span-both c d e a n = both-require SpanPastRegion refl (both-require CellAbsent refl (many-both c d e a n))

store_both : (moment : ℕ) (c d : Cells Held) → SameNumbers c d → (a : ℕ) (vs : List ℕ)
    → Both SameNumbers (store_many number_cells moment c a vs) (store_many number_cells moment d a vs)
unfolding store_many
store_both m c d e a [] = passed e
store_both m c d e a (v ∷ vs) =
    both-require StoreFault refl
    (both-require StoreFault refl
    (both-require ProphetStore refl
    (store_both m (put c a (held v m)) (put d a (held v m)) (put-mapped _ c a (held v m) ∙ ap (λ c. put c a v) e ∙ sym (put-mapped _ d a (held v m))) (suc a) vs)))

-- States

abbrev with_cells : State number_cells → Cells Held → State number_cells
with_cells s d =
    record { registers = s.registers; pc = s.pc; clk = s.clk; cells = d; tape = s.tape; output = s.output; written = s.written }

data Beside : State number_cells → State number_cells → Type 0 where
  beside : {s : State number_cells} (d : Cells Held) → SameNumbers s.cells d → Beside s (with_cells s d)

data NextBeside : Next number_cells → Next number_cells → Type 0 where
  next-beside : {n : Next number_cells} (d : Cells Held) → SameNumbers n.state.cells d
      → NextBeside n (record { state = with_cells n.state d; finish = n.finish })

module _ (e : Environment) (i : Instruction) (s : State number_cells) (d : Cells Held) (o : Operands) (h : SameNumbers s.cells d) where
  -- a register gets a number that was read, and pc may be one too
  register-beside : {pc pc' : ℕ} (r : ℕ) {v w : ℕ} → pc ≡ pc' → v ≡ w
      → Both NextBeside (pass (writes_register number_cells s pc r v)) (pass (writes_register number_cells (with_cells s d) pc' r w))
  register-beside {pc} r {v} {w} p q =
      subst (λ pc'. Both NextBeside (pass (writes_register number_cells s pc r v)) (pass (writes_register number_cells (with_cells s d) pc' r w))) p
      (subst (λ w. Both NextBeside (pass (writes_register number_cells s pc r v)) (pass (writes_register number_cells (with_cells s d) pc r w))) q
      (passed (next-beside d h)))

  -- tape and output get numbers that were read
  tape-beside : (f : List ℕ → State number_cells → Next number_cells) → ((vs : List ℕ) → NextBeside (f vs s) (f vs (with_cells s d)))
      → {vs ws : List ℕ} → vs ≡ ws → Both NextBeside (pass (f vs s)) (pass (f ws (with_cells s d)))
  tape-beside f g {vs} q = subst (λ ws. Both NextBeside (pass (f vs s)) (pass (f ws (with_cells s d)))) q (passed (g vs))

  operate-beside : (c : Class) → Both NextBeside (operate number_cells e c i s o) (operate number_cells e c i (with_cells s d) o)
  unfolding operate
  operate-beside addition = both-require NotInField refl (both-require NotInField refl (passed (next-beside d h)))
  operate-beside multiplication = both-require NotInField refl (both-require NotInField refl (passed (next-beside d h)))
  operate-beside (equality f) = passed (next-beside d h)
  operate-beside (small f) = both-require NotSmall refl (both-require NotSmall refl (passed (next-beside d h)))
  operate-beside complement = both-require NotInField refl (passed (next-beside d h))
  operate-beside move = passed (next-beside d h)
  operate-beside assert = both-require AssertFailed refl (passed (next-beside d h))
  operate-beside range_check = both-require RangeCheckFailed refl (passed (next-beside d h))
  operate-beside jump = passed (next-beside d h)
  operate-beside conditional_jump = both-require NotSmall refl (both-bind-equal _ _ refl λ b. passed (next-beside d h))
  operate-beside call = both-require StoreFault refl (both-bind _ _ (store_both _ _ _ h _ _) λ c k x. passed (next-beside k x))
  operate-beside return =
      both-bind _ _ (below_both s.cells d h (r9 number_cells s) 1) λ p q x.
      both-bind _ _ (below_both s.cells d h (r9 number_cells s) 2) λ r t y.
      register-beside 9 x y
  operate-beside load =
      both-require NotInField refl (both-require NotInField refl (both-bind _ _ (cell-both s.cells d h _) λ v w x. register-beside o.dst refl x))
  operate-beside store =
      both-require NotInField refl (both-require NotInField refl (both-bind _ _ (store_both _ _ _ h _ _) λ c k x. passed (next-beside k x)))
  operate-beside tape_load =
      both-require TapeFault refl (both-require StoreFault refl (both-bind _ _ (store_both _ _ _ h _ _) λ c k x. passed (next-beside k x)))
  operate-beside tape_store =
      both-bind _ _ (span-both s.cells d h _ _) λ hs ks x.
      tape-beside
      (λ vs s. let output = s.output ++ vs in writes_tape number_cells s (next_pc number_cells s i) (s.tape ++ vs) output (overlay output s.written) goes_on)
      (λ vs. next-beside d h)
      x
  operate-beside contract_call =
      both-bind _ _ (span-both s.cells d h _ 4) λ hs ks x.
      let delegate = eqb o.op1 1 in
      tape-beside
      (λ vs s.
      writes_tape number_cells s (next_pc number_cells s i) (s.tape ++ (e.storage ++ (vs ++ choose delegate e.storage vs))) [] s.written
      (choose delegate (delegates vs) (calls vs)))
      (λ vs. next-beside d h)
      x
  operate-beside end = passed (next-beside d h)
  operate-beside uncovered = both-refused

same_count : (c d : Cells Held) → SameNumbers c d → count c ≡ count d
same_count c d h = sym (count-mapped _ c) ∙ ap count h ∙ count-mapped _ d

capacity-beside : (e : Environment) {n m : Next number_cells} → NextBeside n m → Both NextBeside (capacity number_cells e n) (capacity number_cells e m)
capacity-beside e (next-beside {n} d h) =
    both-require NoCapacity (rw (same_count n.state.cells d h)) (passed (next-beside d h))

-- The plain step and run

step-beside : (e : Environment) {s t : State number_cells} → Beside s t → Both NextBeside (step number_cells e s) (step number_cells e t)
unfolding step
step-beside e (beside {s} d h) =
    both-bind-equal _ _ refl λ i.
    both-bind-equal _ _ refl λ o.
    both-bind _ _ (operate-beside e i s d o h (class_of i.opcode)) λ n m k.
    capacity-beside e k

on-step-beside : {s t : State number_cells} {x y : Result (Next number_cells)} (k : State number_cells → RunEnd (State number_cells))
    → Beside s t → Both NextBeside x y → ((s t : State number_cells) → Beside s t → BothRan Beside (k s) (k t))
    → BothRan Beside (on_step number_cells s x k) (on_step number_cells t y k)
on-step-beside k b both-refused g = record { answer = refl; steps = refl; state = b }
on-step-beside k b (passed (next-beside {n} d h)) g =
    let c : Beside n.state (with_cells n.state d) = beside d h in
    both-finish Beside {f = n.finish} {m = n.state.clk} _ _ k k refl refl c (g _ _ c)

run-beside : (e : Environment) (budget : ℕ) (s t : State number_cells) → Beside s t → BothRan Beside (run number_cells e budget s) (run number_cells e budget t)
unfolding run
run-beside e zero s t h = record { answer = refl; steps = refl; state = h }
run-beside e (suc budget) s t h = on-step-beside (run number_cells e budget) h (step-beside e h) (run-beside e budget)

-- The guarded step and run

data GuardedBeside : GuardedState number_cells mark_cells → GuardedState number_cells mark_cells → Type 0 where
  guarded-beside : {s t : State number_cells} {u : MarkState mark_cells} → Beside s t
      → GuardedBeside (record { plain = s; marks = u }) (record { plain = t; marks = u })

data GuardedNextBeside : GuardedNext number_cells mark_cells → GuardedNext number_cells mark_cells → Type 0 where
  guarded-next-beside : {n m : Next number_cells} {u : MarkState mark_cells} → NextBeside n m
      → GuardedNextBeside (record { next = n; marks = u }) (record { next = m; marks = u })

guarded-step-beside : (e : Environment) {q r : GuardedState number_cells mark_cells} → GuardedBeside q r
    → BothGuarded GuardedNextBeside (guarded_step number_cells mark_cells e q) (guarded_step number_cells mark_cells e r)
unfolding guarded_step guarded_rest
guarded-step-beside e (guarded-beside {u = u} (beside {s} d h)) =
    both-after-equal _ _ refl λ i.
    both-after-equal _ _ refl λ o.
    both-guard refl
    (both-after _ _ (operate-beside e i s d o h (class_of i.opcode)) λ n m k.
    both-guard (sinks-look u (class_of i.opcode) i s o (with_cells s d) refl refl)
    (both-after _ _ (capacity-beside e k) λ n m k.
    rw (← (marks-look u (class_of i.opcode) i s o (with_cells s d) refl refl)) (passed-alike (guarded-next-beside k))))

on-guarded-step-beside : {q r : GuardedState number_cells mark_cells} {x y : GuardedResult (GuardedNext number_cells mark_cells)}
    (k : GuardedState number_cells mark_cells → RunEnd (GuardedState number_cells mark_cells)) → GuardedBeside q r → BothGuarded GuardedNextBeside x y
    → ((q r : GuardedState number_cells mark_cells) → GuardedBeside q r → BothRan GuardedBeside (k q) (k r))
    → BothRan GuardedBeside (on_guarded_step number_cells mark_cells q x k) (on_guarded_step number_cells mark_cells r y k)
on-guarded-step-beside k b refused-alike g = record { answer = refl; steps = refl; state = b }
on-guarded-step-beside k b sink-alike g = record { answer = refl; steps = refl; state = b }
on-guarded-step-beside k b (passed-alike (guarded-next-beside {u = u} (next-beside {n} d h))) g =
    let c : GuardedBeside (record { plain = n.state; marks = u }) (record { plain = with_cells n.state d; marks = u }) = guarded-beside (beside d h) in
    both-finish GuardedBeside {f = n.finish} {m = n.state.clk} _ _ k k refl refl c (g _ _ c)

guarded-run-beside : (e : Environment) (budget : ℕ) (q r : GuardedState number_cells mark_cells) → GuardedBeside q r
    → BothRan GuardedBeside (guarded_run number_cells mark_cells e budget q) (guarded_run number_cells mark_cells e budget r)
unfolding guarded_run
guarded-run-beside e zero q r h = record { answer = refl; steps = refl; state = h }
guarded-run-beside e (suc budget) q r h =
    on-guarded-step-beside (guarded_run number_cells mark_cells e budget) h (guarded-step-beside e h) (guarded-run-beside e budget)

-- Calls

-- what is handed in stands for the same numbers at the same addresses
numbers-handed : (s : Snapshot) (ms : List ℕ) → plain_entry s ≡ true → plain_entry (with_moments s ms) ≡ true
    → SameNumbers (state_of s).cells (state_of (with_moments s ms)).cells
numbers-handed s ms h k =
    zipped-mapped _ (used_addresses s) (held_of (used_numbers s) (used_moments s))
    ∙ ap (zipped (used_addresses s)) (used-numbers s h ∙ sym (used-numbers (with_moments s ms) k))
    ∙ sym (zipped-mapped _ (used_addresses s) (held_of (used_numbers s) (used_moments (with_moments s ms))))

-- what states leave that differ in moments alone
left-beside : (s : Snapshot) (ms : List ℕ) {t u : State number_cells} → Beside t u
    → snapshot_after (with_moments s ms) u ≡ with_moments (snapshot_after s t) (snapshot_after (with_moments s ms) u).moments
left-beside s ms (beside {s = t} d h) =
    λ i.
    record {
      machine = record {
        registers = t.registers;
        pc = t.pc;
        clk = t.clk;
        psp = s.machine.psp;
        storage_addr = s.machine.storage_addr;
        cell_count = sym (same_count t.cells d h) i;
        tape_count = length t.tape;
        output_count = length t.output;
      };
      addresses = overlay (same-addresses i) s.addresses;
      numbers = overlay (same-contents i) s.numbers;
      moments = overlay (moments_of (contents d)) ms;
      tape = overlay t.tape s.tape;
      output = overlay t.written s.output;
    }
  where
    same-addresses : addresses d ≡ addresses t.cells
    same-addresses = sym (addresses-mapped _ d) ∙ ap addresses (sym h) ∙ addresses-mapped _ t.cells

    same-contents : numbers_of (contents d) ≡ numbers_of (contents t.cells)
    same-contents = sym (contents-mapped _ d) ∙ ap contents (sym h) ∙ contents-mapped _ t.cells

plain-decided : (program : List Instruction) (budget : ℕ) (s : Snapshot) (ms : List ℕ) → plain_entry s ≡ true → plain_entry (with_moments s ms) ≡ true
    → let c = plain_call (pass program) budget s in
    let d = plain_call (pass program) budget (with_moments s ms) in
    d ≡ record { answer = c.answer; steps = c.steps; left = with_moments c.left d.left.moments }
plain-decided program budget s ms h k =
    let b = run-beside (environment program s) budget (state_of s) (state_of (with_moments s ms)) (beside _ (numbers-handed s ms h k)) in
    rw (plain_passes program s budget h, plain_passes program (with_moments s ms) budget k)
    (λ i. record { answer = meaning (sym b.answer i); steps = sym b.steps i; left = left-beside s ms b.state i })

guarded-left : (g : GuardedSnapshot) (ms : List ℕ) {q r : GuardedState number_cells mark_cells} → GuardedBeside q r
    → guarded_snapshot_after (guarded_with_moments g ms) r
    ≡ guarded_with_moments (guarded_snapshot_after g q) (guarded_snapshot_after (guarded_with_moments g ms) r).plain.moments
guarded-left g ms (guarded-beside {u = u} b) =
    λ i.
    record {
      plain = left-beside g.plain ms b i;
      marks = overlay (contents u.cells) g.marks;
      extras = record { registers = word_of_bits u.registers };
    }

guarded-decided : (program : List Instruction) (budget : ℕ) (g : GuardedSnapshot) (ms : List ℕ) → guarded_entry g ≡ true
    → guarded_entry (guarded_with_moments g ms) ≡ true
    → let c = guarded_call (pass program) budget g in
    let d = guarded_call (pass program) budget (guarded_with_moments g ms) in
    d ≡ record { answer = c.answer; steps = c.steps; left = guarded_with_moments c.left d.left.plain.moments }
unfolding guarded_entry
guarded-decided program budget g ms h k =
    let same = beside _ (numbers-handed g.plain ms (all-at _ h 0) (all-at _ k 0)) in
    let b = guarded-run-beside (environment program g.plain) budget (guarded_state_of g) (guarded_state_of (guarded_with_moments g ms)) (guarded-beside same) in
    rw (guarded-passes program g budget h, guarded-passes program (guarded_with_moments g ms) budget k)
    (λ i. record { answer = meaning (sym b.answer i); steps = sym b.steps i; left = guarded-left g ms b.state i })

pub moments-decide-nothing : MomentsDecideNothing
moments-decide-nothing = record { plain_calls = plain-decided; guarded_calls = guarded-decided }
