-- Each cell has the moment of the last step that stored it.
use Prim.Native.Nat.{ℕ, zero, suc, ◌+◌, ◌-◌, ◌≤◌, ◌<◌}
use mathlib.Core.Path.{◌≡◌, refl, sym, ap, subst, ◌∙◌}
use mathlib.Core.Bool.{Bool, true, false}
use mathlib.Core.List.{List, [], ◌∷◌}
use native.Mathlib.Omega.{arith}
use lib.Dec.{ltb, leb, eqb}
use lib.ListN.{length, get_or}
use borrow.Author.Tests.{ltb-true, ltb-false, leb-true, leb-false, eqb-true, eqb-false}
use Rattle.rules.specs.declared.OlaOpcode.{OlaOpcode}
use Rattle.rules.specs.declared.OlaOpcode.TheVariants as O
use Rattle.rules.specs.declared.Instruction.{Instruction}
use Rattle.rules.specs.declared.Held.{Held}
use Rattle.rules.specs.Numbers.{clock_end}
use Rattle.rules.specs.Results.{Result, refuse, pass, GuardedResult, refuses, sink, passes}
use Rattle.rules.specs.Field.{field_add}
use Rattle.rules.specs.Memory.{Content, present, held}
use Rattle.rules.specs.Cells.{Cells, get, put, number_cells, mark_cells}
use Rattle.rules.specs.Opcodes.{class_of}
use Rattle.rules.specs.Operands.{Operands, operands}
use Rattle.rules.specs.Step.{Environment, State, Next, Finish, goes_on, ends, calls, delegates, RunEnd, on_clock, on_finish, r9, next_pc, tape_values, store_many, operate, step, on_step, run}
use Rattle.rules.specs.Guarded.{GuardedState, GuardedNext, guarded_step, on_guarded_step, guarded_run}
use Rattle.rules.specs.Entry.{Snapshot, GuardedSnapshot, plain_entry, guarded_entry, environment, state_of, guarded_state_of}
use Rattle.rules.specs.Calls.{plain_run_of, guarded_run_of, plain_call, guarded_call}
use Rattle.rules.specs.Moments.{Stores, call, mstore, tload, StepStores, stores, StepMoments, steps_from, StoresAfter, stores-after, Since, as-at-start, stored_last, SinceWhen, Moments}
use Rattle.rules.specs.SinkRules.{InstructionRead}
use Rattle.rules.proofs.Laws.ResultLaws.{pass-injective, bind-pass, require-pass, bind-step}
use Rattle.rules.proofs.Laws.CellLaws.{get-put-same, get-put-other}
use Rattle.rules.proofs.Laws.Passing.{Passing, passing-refused, passed, passing-require, passing-bind, passing-any, passing-at}
use Rattle.rules.proofs.EveryCall.Ticks.{step-ticks}
use Rattle.rules.proofs.NonInterference.GuardedBesidePlain.{Beside, passed as beside-passed, step-beside}
use Rattle.rules.proofs.Soundness.PlainSoundness.{run_sound}
use Rattle.rules.proofs.Soundness.GuardedSoundness.{guarded-run-sound}
use Rattle.rules.proofs.Soundness.EntrySoundness.{entry-sound, guarded-entry-sound}
use Rattle.rules.proofs.Resumption.Resuming.{resumable, guarded-resumable}
use Rattle.rules.proofs.Resumption.CallSplits.{plain_passes, guarded-passes}

-- A store of several cells

record StoredFrom (moment : ℕ) (c : Cells Held) (a : ℕ) (vs : List ℕ) (d : Cells Held) : Type 0 where
  inside : (k : ℕ) → k < length vs → get d (a + k) ≡ present (held (get_or vs k 0) moment)
  outside : (x : ℕ) → (a ≤ x → x < a + length vs → ⊥) → get d x ≡ get c x

stored-from : (moment : ℕ) (c : Cells Held) (a : ℕ) (vs : List ℕ) → Passing (StoredFrom moment c a vs) (store_many number_cells moment c a vs)
unfolding store_many
stored-from m c a [] = passed (record { inside = λ k l. absurd (omega arith); outside = λ x n. refl })
stored-from m c a (v ∷ vs) =
    passing-require _ λ x.
    passing-require _ λ y.
    passing-require _ λ z.
    weaken (stored-from m (put c a (held v m)) (suc a) vs)
  where
    one_more : {d : Cells Held} → StoredFrom m (put c a (held v m)) (suc a) vs d → StoredFrom m c a (v ∷ vs) d
    one_more {d} h = record { inside = within; outside = λ x n. h.outside x (λ l u. n (omega arith) (omega arith)) ∙ get-put-other c a (held v m) x (λ e. n (omega arith) (omega arith)) }
      where
        within : (k : ℕ) → k < length (v ∷ vs) → get d (a + k) ≡ present (held (get_or (v ∷ vs) k 0) m)
        within zero l =
            let z : a + 0 ≡ a = omega arith in
            ap (get d) z ∙ h.outside a (λ k u. omega arith) ∙ get-put-same c a (held v m)
        within (suc k) l = let z : a + suc k ≡ suc a + k = omega arith in ap (get d) z ∙ h.inside k (omega arith)

    weaken : {r : Result (Cells Held)} → Passing (StoredFrom m (put c a (held v m)) (suc a) vs) r → Passing (StoredFrom m c a (v ∷ vs)) r
    weaken passing-refused = passing-refused
    weaken (passed h) = passed (one_more h)

-- One step

module _ (e : Environment) (i : Instruction) (s : State number_cells) (o : Operands) where
  -- is an address stored?
  data Told (c : OlaOpcode) (a : ℕ) : Type 0 where
    some : (v : ℕ) → Stores i s o c a v → Told c a
    none : ((v : ℕ) → Stores i s o c a v → ⊥) → Told c a

  record Operated (c : OlaOpcode) (n : Next number_cells) : Type 0 where
    stored : (a v : ℕ) → Stores i s o c a v → get n.state.cells a ≡ present (held v s.clk)
    kept : (a : ℕ) → ((v : ℕ) → Stores i s o c a v → ⊥) → get n.state.cells a ≡ get s.cells a
    told : (a : ℕ) → Told c a

  abbrev Operates : OlaOpcode → Type 0
  Operates c = Passing (Operated c) (operate number_cells e (class_of c) i s o)

  quiet : {c : OlaOpcode} {n : Next number_cells} → ((a v : ℕ) → Stores i s o c a v → ⊥) → n.state.cells ≡ s.cells → Operated c n
  quiet none-stored same =
      record { stored = λ a v x. absurd (none-stored a v x); kept = λ a h. ap (λ c. get c a) same; told = λ a. none (none-stored a) }

  -- one cell
  single : {c : OlaOpcode} {n : Next number_cells} (a v : ℕ) → Stores i s o c a v → ((x w : ℕ) → Stores i s o c x w → (a ≡ x) × (v ≡ w))
      → StoredFrom s.clk s.cells a (v ∷ []) n.state.cells → Operated c n
  single {c} {n} a v x only h =
      record {
        stored = at-it;
        kept = λ y f. h.outside y (λ l u. f v (subst (λ z. Stores i s o c z v) (let q : a ≡ y = omega arith in q) x));
        told = λ y. tell y (eqb a y) refl;
      }
    where
      here : get n.state.cells a ≡ present (held v s.clk)
      here = let z : a ≡ a + 0 = omega arith in ap (get n.state.cells) z ∙ h.inside 0 (omega arith)

      at-it : (y w : ℕ) → Stores i s o c y w → get n.state.cells y ≡ present (held w s.clk)
      at-it y w z =
          subst (λ u. get n.state.cells y ≡ present (held u s.clk)) (only y w z).1
          (subst (λ u. get n.state.cells u ≡ present (held v s.clk)) (only y w z).0 here)

      tell : (y : ℕ) (b : Bool) → eqb a y ≡ b → Told c y
      tell y true q = some v (subst (λ z. Stores i s o c z v) (eqb-true a y q) x)
      tell y false q = none (λ w z. eqb-false a y q (only y w z).0)

  called : (x w : ℕ) → Stores i s o O.Call x w → (r9 number_cells s - 1 ≡ x) × (next_pc number_cells s i ≡ w)
  called x w call = (refl, refl)

  mstored : (x w : ℕ) → Stores i s o O.Mstore x w → (field_add o.op0 o.op1 ≡ x) × (get_or s.registers o.dst 0 ≡ w)
  mstored x w mstore = (refl, refl)

  -- the cells of TLOAD
  abbrev values : List ℕ
  values = tape_values o.op0 o.op1 s.tape

  tloaded : {n : Next number_cells} → StoredFrom s.clk s.cells o.dst values n.state.cells → Operated O.Tload n
  tloaded {n} h =
      record {
        stored = at_each;
        kept = λ a f. h.outside a (outside a f);
        told = λ a. tell a (leb o.dst a) refl (ltb a (o.dst + length values)) refl;
      }
    where
      at_each : (a v : ℕ) → Stores i s o O.Tload a v → get n.state.cells a ≡ present (held v s.clk)
      at_each a v (tload {k} l) = h.inside k l

      within : (a : ℕ) → o.dst ≤ a → a < o.dst + length values → Stores i s o O.Tload a (get_or values (a - o.dst) 0)
      within a l u =
          subst (λ x. Stores i s o O.Tload x (get_or values (a - o.dst) 0)) (let q : o.dst + (a - o.dst) ≡ a = omega arith in q)
          (tload {k = a - o.dst} (omega arith))

      outside : (a : ℕ) → ((v : ℕ) → Stores i s o O.Tload a v → ⊥) → o.dst ≤ a → a < o.dst + length values → ⊥
      outside a f l u = f (get_or values (a - o.dst) 0) (within a l u)

      lies : (a v : ℕ) → Stores i s o O.Tload a v → (o.dst ≤ a) × (a < o.dst + length values)
      lies a v (tload {k} l) = (omega arith, omega arith)

      tell : (a : ℕ) (b : Bool) → leb o.dst a ≡ b → (c : Bool) → ltb a (o.dst + length values) ≡ c → Told O.Tload a
      tell a true p true q = some _ (within a (leb-true o.dst a p) (ltb-true a (o.dst + length values) q))
      tell a true p false q = none (λ v x. let l = lies a v x in let m : o.dst + length values ≤ a = ltb-false a (o.dst + length values) q in omega arith)
      tell a false p c q = none (λ v x. let l = lies a v x in let m : a < o.dst = leb-false o.dst a p in omega arith)

  operated : (c : OlaOpcode) → Operates c
  unfolding operate class_of
  operated O.Add = passing-require _ λ a. passing-require _ λ b. passed (quiet (λ a v x. elim x [ ]) refl)
  operated O.Mul = passing-require _ λ a. passing-require _ λ b. passed (quiet (λ a v x. elim x [ ]) refl)
  operated O.Eq = passed (quiet (λ a v x. elim x [ ]) refl)
  operated O.Assert = passing-require _ λ a. passed (quiet (λ a v x. elim x [ ]) refl)
  operated O.Mov = passed (quiet (λ a v x. elim x [ ]) refl)
  operated O.Jmp = passed (quiet (λ a v x. elim x [ ]) refl)
  operated O.Cjmp = passing-require _ λ a. passing-any _ _ λ b. passed (quiet (λ a v x. elim x [ ]) refl)
  operated O.Call =
      passing-require _ λ a. passing-bind _ (stored-from _ _ _ _) λ c h. passed (single (r9 number_cells s - 1) (next_pc number_cells s i) call called h)
  operated O.Ret = passing-any _ _ λ pc. passing-any _ _ λ r. passed (quiet (λ a v x. elim x [ ]) refl)
  operated O.Mload = passing-require _ λ a. passing-require _ λ b. passing-any _ _ λ h. passed (quiet (λ a v x. elim x [ ]) refl)
  operated O.Mstore =
      passing-require _ λ a. passing-require _ λ b. passing-bind _ (stored-from _ _ _ _) λ c h.
      passed (single (field_add o.op0 o.op1) (get_or s.registers o.dst 0) mstore mstored h)
  operated O.End = passed (quiet (λ a v x. elim x [ ]) refl)
  operated O.Rc = passing-require _ λ a. passed (quiet (λ a v x. elim x [ ]) refl)
  operated O.And = passing-require _ λ a. passing-require _ λ b. passed (quiet (λ a v x. elim x [ ]) refl)
  operated O.Or = passing-require _ λ a. passing-require _ λ b. passed (quiet (λ a v x. elim x [ ]) refl)
  operated O.Xor = passing-require _ λ a. passing-require _ λ b. passed (quiet (λ a v x. elim x [ ]) refl)
  operated O.Not = passing-require _ λ a. passed (quiet (λ a v x. elim x [ ]) refl)
  operated O.Neq = passed (quiet (λ a v x. elim x [ ]) refl)
  operated O.Gte = passing-require _ λ a. passing-require _ λ b. passed (quiet (λ a v x. elim x [ ]) refl)
  operated O.Poseidon = passing-refused
  operated O.Sload = passing-refused
  operated O.Sstore = passing-refused
  operated O.Tload = passing-require _ λ a. passing-require _ λ b. passing-bind _ (stored-from _ _ _ _) λ c h. passed (tloaded h)
  operated O.Tstore = passing-any _ _ λ hs. passed (quiet (λ a v x. elim x [ ]) refl)
  operated O.Sccall = passing-any _ _ λ hs. passed (quiet (λ a v x. elim x [ ]) refl)
  operated O.Sigcheck = passing-refused
  operated O.Event = passing-refused

-- an accepted step, with its instruction and operands
record Stepped (e : Environment) (s : State number_cells) (n : Next number_cells) : Type 0 where
  instruction : Instruction
  operands : Operands
  read : InstructionRead e s instruction operands
  done : Operated e instruction s operands instruction.opcode n
  ticks : n.state.clk ≡ suc s.clk

step-done : (e : Environment) (s : State number_cells) (n : Next number_cells) → step number_cells e s ≡ pass n → Stepped e s n
unfolding step
step-done e s n h =
    let f = bind-pass _ _ h in
    let g = bind-pass _ _ f.2 in
    let k = bind-pass _ _ g.2 in
    let c = require-pass _ _ _ k.2 in
    record {
      instruction = f.0;
      operands = g.0;
      read = record { fetched = f.1; read = g.1 };
      done = passing-at (operated e f.0 s g.0 f.0.opcode) (k.1 ∙ c.1);
      ticks = passing-at (step-ticks e s) h;
    }

module _ {e : Environment} {s : State number_cells} {n : Next number_cells} (q : step number_cells e s ≡ pass n) (h : Stepped e s n) where
  -- what the step stores it stores by this instruction
  by-it : {m : Next number_cells} {a v : ℕ} → StepStores e s m a v → Stores h.instruction s h.operands h.instruction.opcode a v
  by-it {a = a} {v} (stores {i} {o} r p x) = go i (pass-injective (sym r.fetched ∙ h.read.fetched)) r.read x
    where
      Its : Type 0
      Its = Stores h.instruction s h.operands h.instruction.opcode a v

      go : (i : Instruction) → i ≡ h.instruction → operands e.psp s.registers (class_of i.opcode) i ≡ pass o → Stores i s o i.opcode a v → Its
      go i q =
          subst (λ i. operands e.psp s.registers (class_of i.opcode) i ≡ pass o → Stores i s o i.opcode a v → Its) (sym q)
          (λ z. subst (λ o. Stores h.instruction s o h.instruction.opcode a v) (pass-injective (sym z ∙ h.read.read)))

  step-moments : StepMoments e s n
  step-moments =
      record {
        stored = λ a v x. h.done.stored a v (by-it x);
        below = let t : n.state.clk ≡ suc s.clk = h.ticks in omega arith;
        kept = λ a f. h.done.kept a (λ v x. f v (stores h.read q x));
      }

  -- Several steps

  -- a step that follows the first one
  onward : {k a : ℕ} {w : Held} → StoresAfter e n.state k a w → StoresAfter e s (suc k) a w
  unfolding steps_from
  onward (stores-after p x) = stores-after (bind-step _ q ∙ p) x

  backward : {k a : ℕ} {w : Held} → StoresAfter e s (suc k) a w → StoresAfter e n.state k a w
  unfolding steps_from
  backward (stores-after p x) = stores-after (sym (bind-step _ q) ∙ p) x

  -- the first one itself
  itself : {a v : ℕ} → Stores h.instruction s h.operands h.instruction.opcode a v → StoresAfter e s 0 a (held v s.clk)
  unfolding steps_from
  itself x = stores-after refl (stores h.read q x)

  not_itself : {a : ℕ} {w : Held} → ((v : ℕ) → Stores h.instruction s h.operands h.instruction.opcode a v → ⊥) → StoresAfter e s 0 a w → ⊥
  unfolding steps_from
  not_itself {a} f (stores-after {n = m} {v = v} p x) = f v (by-it (subst (λ t. StepStores e t m a v) (sym (pass-injective p)) x))

  -- what an address has after one step and k more
  later : {k a : ℕ} {c : Content Held} → Since e n.state k a c → Since e s (suc k) a c
  later {k} {a} (as-at-start none-stored) = go (h.done.told a)
    where
      behind : (i : ℕ) (w : Held) → 0 < i → i < suc k → StoresAfter e s i a w → ⊥
      behind zero w l u x = absurd (omega arith)
      behind (suc i) w l u x = none-stored i w (omega arith) (backward x)

      go : Told e h.instruction s h.operands h.instruction.opcode a → Since e s (suc k) a (get n.state.cells a)
      go (some v x) = subst (Since e s (suc k) a) (sym (h.done.stored a v x)) (stored_last 0 (held v s.clk) (omega arith) (itself x) behind)
      go (none f) = subst (Since e s (suc k) a) (sym (h.done.kept a f)) (as-at-start nowhere)
        where
          nowhere : (j : ℕ) (w : Held) → j < suc k → StoresAfter e s j a w → ⊥
          nowhere zero w l x = not_itself f x
          nowhere (suc j) w l x = none-stored j w (omega arith) (backward x)
  later {k} {a} (stored_last j w l x rest) = stored_last (suc j) w (omega arith) (onward x) behind
    where
      behind : (i : ℕ) (v : Held) → suc j < i → i < suc k → StoresAfter e s i a v → ⊥
      behind zero v l u x = absurd (omega arith)
      behind (suc i) v l u x = rest i v (omega arith) (omega arith) (backward x)

since : (e : Environment) (k : ℕ) (s t : State number_cells) → steps_from e k s ≡ pass t → (a : ℕ) → Since e s k a (get t.cells a)
unfolding steps_from
since e zero s t p a = subst (λ t. Since e s 0 a (get t.cells a)) (pass-injective p) (as-at-start (λ j w l x. omega arith))
since e (suc k) s t p a =
    let b = bind-pass _ _ p in
    later b.1 (step-done e s b.0 b.1) (since e k b.0.state t b.2 a)

-- Runs

-- a run leaves the state after its steps
abbrev Left : Environment → State number_cells → ℕ → State number_cells → Type 0
Left e s k t = steps_from e k s ≡ pass t

module _ {S : Type 0} (plain : S → State number_cells) (e : Environment) where
  abbrev Runs : S → RunEnd S → Type 0
  Runs q r = Left e (plain q) r.steps (plain r.state)

  -- an accepted step, and the rest of the run
  module _ (q r : S) (n : Next number_cells) (p : step number_cells e (plain q) ≡ pass n) (d : n.state ≡ plain r) where
    one_more : (k : ℕ) {t : State number_cells} → Left e (plain r) k t → Left e (plain q) (suc k) t
    unfolding steps_from
    one_more k h = bind-step _ p ∙ ap (steps_from e k) d ∙ h

    last_one : Left e (plain q) 1 (plain r)
    unfolding steps_from
    last_one = one_more 0 refl

    on-clock : (b : Bool) (rest : RunEnd S) → Runs r rest → Runs q (on_clock b r rest)
    on-clock true rest h = one_more rest.steps h
    on-clock false rest h = last_one

    on-finish : (f : Finish) (clk : ℕ) (k : S → RunEnd S) → Runs r (k r) → Runs q (on_finish f clk r k)
    on-finish goes_on clk k h = on-clock (ltb clk clock_end) (k r) h
    on-finish ends clk k h = last_one
    on-finish (calls vs) clk k h = last_one
    on-finish (delegates vs) clk k h = last_one

run-leaves : (e : Environment) (budget : ℕ) (s : State number_cells) → Runs (λ s. s) e s (run number_cells e budget s)
unfolding run steps_from
run-leaves e zero s = refl
run-leaves e (suc budget) s = go (run-leaves e budget) (step number_cells e s) refl
  where
    go : ((t : State number_cells) → Runs (λ s. s) e t (run number_cells e budget t)) → (x : Result (Next number_cells)) → step number_cells e s ≡ x
        → Runs (λ s. s) e s (on_step number_cells s x (run number_cells e budget))
    go h (refuse f) p = refl
    go h (pass n) p = on-finish (λ s. s) e s n.state n p refl n.finish n.state.clk (run number_cells e budget) (h n.state)

-- an accepted guarded step is the plain step
guarded-accepts : (e : Environment) (q : GuardedState number_cells mark_cells) {n : GuardedNext number_cells mark_cells}
    → guarded_step number_cells mark_cells e q ≡ passes n → step number_cells e q.plain ≡ pass n.next
guarded-accepts e q h = go (subst (λ x. Beside number_cells mark_cells x (step number_cells e q.plain)) h (step-beside number_cells mark_cells e q))
  where
    go : {n : GuardedNext number_cells mark_cells} {y : Result (Next number_cells)} → Beside number_cells mark_cells (passes n) y → y ≡ pass n.next
    go beside-passed = refl

guarded-run-leaves : (e : Environment) (budget : ℕ) (q : GuardedState number_cells mark_cells)
    → Runs (λ q. q.plain) e q (guarded_run number_cells mark_cells e budget q)
unfolding guarded_run steps_from
guarded-run-leaves e zero q = refl
guarded-run-leaves e (suc budget) q = go (guarded-run-leaves e budget) (guarded_step number_cells mark_cells e q) refl
  where
    go : ((r : GuardedState number_cells mark_cells) → Runs (λ q. q.plain) e r (guarded_run number_cells mark_cells e budget r))
        → (x : GuardedResult (GuardedNext number_cells mark_cells)) → guarded_step number_cells mark_cells e q ≡ x
        → Runs (λ q. q.plain) e q (on_guarded_step number_cells mark_cells q x (guarded_run number_cells mark_cells e budget))
    go h (refuses f) p = refl
    go h sink p = refl
    go h (passes n) p =
        let left : GuardedState number_cells mark_cells = record { plain = n.next.state; marks = n.marks } in
        on-finish (λ q. q.plain) e q left n.next (guarded-accepts e q p) refl n.next.finish n.next.state.clk
        (guarded_run number_cells mark_cells e budget) (h left)

-- Calls

plain-since : (program : List Instruction) (budget : ℕ) (s : Snapshot) → length s.machine.registers ≡ 10 → plain_entry s ≡ true
    → SinceWhen program s (plain_call (pass program) budget s).steps (plain_call (pass program) budget s).left
plain-since program budget s ten enters =
    let here = environment program s in
    let r = plain_run_of program budget s in
    let again = resumable program s r.state enters (run_sound here budget (state_of s) (entry-sound program s ten enters)) in
    let gone = run-leaves here budget (state_of s) in
    subst (λ c. SinceWhen program s c.steps c.left) (sym (plain_passes program s budget enters))
    (record {
      end = r.state;
      accepted = gone;
      each = λ a. subst (λ t. Since here (state_of s) r.steps a (get t.cells a)) (sym again.state) (since here r.steps (state_of s) r.state gone a);
    })

guarded-since : (program : List Instruction) (budget : ℕ) (g : GuardedSnapshot) → length g.plain.machine.registers ≡ 10 → guarded_entry g ≡ true
    → SinceWhen program g.plain (guarded_call (pass program) budget g).steps (guarded_call (pass program) budget g).left.plain
guarded-since program budget g ten enters =
    let s = g.plain in
    let here = environment program s in
    let r = guarded_run_of program budget g in
    let again = guarded-resumable program g r.state enters (guarded-run-sound here budget (guarded_state_of g) (guarded-entry-sound program g ten enters)) in
    let gone = guarded-run-leaves here budget (guarded_state_of g) in
    subst (λ c. SinceWhen program s c.steps c.left.plain) (sym (guarded-passes program g budget enters))
    (record {
      end = r.state.plain;
      accepted = gone;
      each =
          λ a.
          subst (λ t. Since here (state_of s) r.steps a (get t.cells a)) (sym again.plain.state)
          (since here r.steps (state_of s) r.state.plain gone a);
    })

pub moments : Moments
moments =
    record {
      step = λ e s n h. step-moments h (step-done e s n h);
      guarded_step =
          λ e q n h.
          let p : step number_cells e q.plain ≡ pass n.next = guarded-accepts e q h in
          step-moments p (step-done e q.plain n.next p);
      plain_calls = plain-since;
      guarded_calls = guarded-since;
    }
