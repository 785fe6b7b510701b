-- Every guarded step by the rules: refused at a sink, refused otherwise, accepted, and its marks.
use Prim.Native.Nat.{ℕ}
use mathlib.Core.Path.{◌≡◌, refl, sym, ap, subst, ◌∙◌}
use mathlib.Core.Bool.{Bool}
use mathlib.Core.Logic.{◌↔◌}
use native.Mathlib.Omega.{arith}
use lib.ListN.{length, length-set}
use Rattle.rules.specs.declared.Instruction.{Instruction}
use Rattle.rules.specs.declared.Refusal.{Refusal}
use Rattle.rules.specs.Results.{Result, refuse, pass, GuardedResult, refuses, sink, passes}
use Rattle.rules.specs.Cells.{number_cells, mark_cells}
use Rattle.rules.specs.Opcodes.{Class, addition, multiplication, equality, small, complement, move, assert, range_check, jump, conditional_jump, call, return, load, store, tape_load, tape_store, contract_call, end, uncovered, class_of}
use Rattle.rules.specs.Operands.{Operands}
use Rattle.rules.specs.Step.{Environment, State, Finish, Next, step}
use Rattle.rules.specs.Guarded.{MarkState, marks_after, GuardedState, GuardedNext, guarded_rest, guarded_step}
use Rattle.rules.specs.LoadedRegisters.{AllInRange}
use Rattle.rules.specs.MarkRules.{Place, Marking, marking_of, MarkedAfter}
use Rattle.rules.specs.SinkRules.{InstructionRead, ReachesSink, AcceptedStep}
use Rattle.rules.specs.GuardedSteps.{Accepts, StepByRules, GuardedSteps}
use Rattle.rules.proofs.Laws.ResultLaws.{refuse-pass, pass-injective, after-passes, guard-passes}
use Rattle.rules.proofs.Laws.DecodedRegisters.{fetch-in-range}
use Rattle.rules.proofs.NonInterference.GuardedBesidePlain.{Beside, at-sink, beside-refused, passed, step-beside}
use Rattle.rules.proofs.MarksAndSinks.MarksFollow.{marks-exact}
use Rattle.rules.proofs.MarksAndSinks.SinksExact.{reached-stops, stop-reaches}

abbrev Guarded : Type 0
Guarded = GuardedState number_cells mark_cells

abbrev Stepping : Type 0
Stepping = GuardedResult (GuardedNext number_cells mark_cells)

-- the registers' marks stay ten
marks-length : (t : MarkState mark_cells) (c : Class) (i : Instruction) (s : State number_cells) (o : Operands)
    → length (marks_after number_cells mark_cells t c i s o).registers ≡ length t.registers
unfolding marks_after
marks-length t addition i s o = length-set t.registers o.dst _
marks-length t multiplication i s o = length-set t.registers o.dst _
marks-length t (equality f) i s o = length-set t.registers o.dst _
marks-length t (small f) i s o = length-set t.registers o.dst _
marks-length t complement i s o = length-set t.registers o.dst _
marks-length t move i s o = length-set t.registers o.dst _
marks-length t assert i s o = refl
marks-length t range_check i s o = refl
marks-length t jump i s o = refl
marks-length t conditional_jump i s o = refl
marks-length t call i s o = refl
marks-length t return i s o = length-set t.registers 9 _
marks-length t load i s o = length-set t.registers o.dst _
marks-length t store i s o = refl
marks-length t tape_load i s o = refl
marks-length t tape_store i s o = refl
marks-length t contract_call i s o = refl
marks-length t end i s o = refl
marks-length t uncovered i s o = refl

-- The three results of a guarded step are different

passes-injective : {A : Type 0} {a b : A} → passes a ≡ passes b → a ≡ b
passes-injective h = cc

sink-passes : {X : Type 0} {n : GuardedNext number_cells mark_cells} → ◌≡◌ {A = Stepping} sink (passes n) → X
sink-passes h = absurd (let z : ◌≡◌ {A = ℕ} 0 1 = cc in omega arith)

sink-refuses : {X : Type 0} {f : Refusal} → ◌≡◌ {A = Stepping} sink (refuses f) → X
sink-refuses h = absurd (let z : ◌≡◌ {A = ℕ} 0 1 = cc in omega arith)

refuses-passes : {X : Type 0} {f : Refusal} {n : GuardedNext number_cells mark_cells} → ◌≡◌ {A = Stepping} (refuses f) (passes n) → X
refuses-passes h = absurd (let z : ◌≡◌ {A = ℕ} 0 1 = cc in omega arith)

-- Beside the plain step

refused-plain : {x : Stepping} {y : Result (Next number_cells)} {f : Refusal} → Beside number_cells mark_cells x y → x ≡ refuses f → y ≡ refuse f
refused-plain at-sink h = sink-refuses h
refused-plain beside-refused h = cc
refused-plain passed h = refuses-passes (sym h)

plain-refused : {x : Stepping} {y : Result (Next number_cells)} {f : Refusal} → Beside number_cells mark_cells x y → (x ≡ sink → ⊥) → y ≡ refuse f → x ≡ refuses f
plain-refused at-sink n h = absurd (n refl)
plain-refused beside-refused n h = cc
plain-refused passed n h = refuse-pass (sym h)

passed-plain : {x : Stepping} {y : Result (Next number_cells)} {n : GuardedNext number_cells mark_cells} → Beside number_cells mark_cells x y → x ≡ passes n → y ≡ pass n.next
passed-plain at-sink h = sink-passes h
passed-plain beside-refused h = refuses-passes h
passed-plain passed h = ap (λ (m : GuardedNext number_cells mark_cells). pass m.next) (passes-injective h)

plain-passed : {x : Stepping} {y : Result (Next number_cells)} {n : Next number_cells} → Beside number_cells mark_cells x y → (x ≡ sink → ⊥) → y ≡ pass n
    → (t : MarkState mark_cells) × (x ≡ passes (record { next = n; marks = t }))
plain-passed at-sink n h = absurd (n refl)
plain-passed beside-refused n h = refuse-pass h
plain-passed (passed {n = m}) n h = (m.marks, ap (λ (z : Next number_cells). passes (record { next = z; marks = m.marks })) (pass-injective h))

-- An accepted guarded step: its instruction, its operands, its marks

record Stepped (e : Environment) (q : Guarded) (n : GuardedNext number_cells mark_cells) : Type 0 where
  instruction : Instruction
  operands : Operands
  fetched : InstructionRead e q.plain instruction operands
  marks : n.marks ≡ marks_after number_cells mark_cells q.marks (class_of instruction.opcode) instruction q.plain operands

stepped : (e : Environment) (q : Guarded) {n : GuardedNext number_cells mark_cells} → guarded_step number_cells mark_cells e q ≡ passes n → Stepped e q n
unfolding guarded_step guarded_rest
stepped e q {n} h =
    let x = after-passes _ _ h in
    let y = after-passes _ _ x.2 in
    let g = guard-passes _ _ y.2 in
    let z = after-passes _ _ g.1 in
    let k = guard-passes _ _ z.2 in
    let w = after-passes _ _ k.1 in
    record {
      instruction = x.0;
      operands = y.0;
      fetched = record { fetched = x.1; read = y.1 };
      marks = ap (λ (m : GuardedNext number_cells mark_cells). m.marks) (sym (passes-injective w.2));
    }

same-fetched : {e : Environment} {s : State number_cells} {i j : Instruction} {o u : Operands} → InstructionRead e s i o → InstructionRead e s j u → (i ≡ j) × (o ≡ u)
same-fetched {e} {s} {i} {j} {o} {u} f g =
    let a : i ≡ j = pass-injective (sym f.fetched ∙ g.fetched) in
    (a, pass-injective (sym f.read ∙ rw (← a) at g.read))

module _ (e : Environment) (in_range : AllInRange e.program) (q : Guarded) (ten : length q.marks.registers ≡ 10) where
  abbrev marking : Marking
  marking = marking_of q.marks

  beside : Beside number_cells mark_cells (guarded_step number_cells mark_cells e q) (step number_cells e q.plain)
  beside = step-beside number_cells mark_cells e q

  marks-left : {n : GuardedNext number_cells mark_cells} → guarded_step number_cells mark_cells e q ≡ passes n → {i : Instruction} {o : Operands}
      → InstructionRead e q.plain i o → n.marks ≡ marks_after number_cells mark_cells q.marks (class_of i.opcode) i q.plain o
  marks-left h f =
      let w = stepped e q h in
      let a = same-fetched w.fetched f in
      w.marks ∙ (λ j. marks_after number_cells mark_cells q.marks (class_of (a.0 j).opcode) (a.0 j) q.plain (a.1 j))

  marks-by-rules : (n : GuardedNext number_cells mark_cells) → guarded_step number_cells mark_cells e q ≡ passes n
      → {i : Instruction} {o : Operands} → InstructionRead e q.plain i o → (x : Place) (b : Bool)
      → MarkedAfter marking i q.plain o i.opcode x b ↔ (marking_of n.marks x ≡ b)
  marks-by-rules n h {i} {o} f x b =
      subst (λ (u : MarkState mark_cells). MarkedAfter marking i q.plain o i.opcode x b ↔ (marking_of u x ≡ b)) (sym (marks-left h f))
      (marks-exact q.marks i o e.psp q.plain.registers ten (fetch-in-range e.program q.plain.pc in_range f.fetched) q.plain f.read x b)

  ten-again : (n : GuardedNext number_cells mark_cells) → guarded_step number_cells mark_cells e q ≡ passes n → length n.marks.registers ≡ 10
  ten-again n h =
      let w = stepped e q h in
      ap (λ (t : MarkState mark_cells). length t.registers) w.marks ∙ (marks-length q.marks _ _ _ _ ∙ ten)

  not-at-sink : (ReachesSink e q.plain marking → ⊥) → guarded_step number_cells mark_cells e q ≡ sink → ⊥
  not-at-sink h k = h (stop-reaches e q k)

  module _ (f : Finish) (s : State number_cells) (t : Marking) where
    accepted-by-rules : Accepts e q f s t → AcceptedStep e q.plain marking f s t
    accepted-by-rules a =
        let w = stepped e q a.accepted in
        record {
          instruction = w.instruction;
          operands = w.operands;
          fetched = w.fetched;
          no_sink = λ u. sink-passes (sym (reached-stops e q u) ∙ a.accepted);
          next = passed-plain beside a.accepted;
          marks = λ x. (marks-by-rules _ a.accepted w.fetched x (t x)).1 (a.places x);
        }

    rules-accepted : AcceptedStep e q.plain marking f s t → Accepts e q f s t
    rules-accepted a =
        let n = plain-passed beside (not-at-sink a.no_sink) a.next in
        record { marks = n.0; accepted = n.1; places = λ x. (marks-by-rules _ n.1 a.fetched x (t x)).0 (a.marks x) }

  step-by-rules : StepByRules e q
  step-by-rules =
      record {
        sinks = (stop-reaches e q, reached-stops e q);
        refuses = λ f. (
          λ h. ((λ u. sink-refuses (sym (reached-stops e q u) ∙ h)), refused-plain beside h),
          λ h. plain-refused beside (not-at-sink h.0) h.1,
        );
        accepts = λ f s t. (accepted-by-rules f s t, rules-accepted f s t);
        marks = marks-by-rules;
        ten = ten-again;
      }

pub guarded-steps : GuardedSteps
guarded-steps = step-by-rules
