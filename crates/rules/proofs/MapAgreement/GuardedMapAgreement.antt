-- The guarded rules over the rising list of cells and over a plain map; and the theorem of specs/MapAgreement, plain and guarded.
use Prim.Native.Nat.{ℕ, zero, suc, ◌-◌}
use mathlib.Core.Path.{◌≡◌, refl, ap, subst}
use mathlib.Core.List.{List, [], ◌∷◌}
use Rattle.rules.specs.declared.Instruction.{Instruction}
use Rattle.rules.specs.declared.Held.{Held}
use Rattle.rules.specs.Results.{GuardedResult}
use Rattle.rules.specs.Cells.{put, Cells, number_cells, mark_cells}
use Rattle.rules.specs.PlainMap.{PlainMap, number_map, mark_map}
use Rattle.rules.specs.Opcodes.{Class, addition, multiplication, equality, small, complement, move, assert, range_check, jump, conditional_jump, call, return, load, store, tape_load, tape_store, contract_call, end, uncovered, class_of}
use Rattle.rules.specs.Operands.{Operands}
use Rattle.rules.specs.Step.{Environment, State, r9, RunEnd}
use Rattle.rules.specs.Guarded.{MarkState, content_mark, cell_mark, span_mark, read_sink, clean_many, marks_after, GuardedState, GuardedNext, guarded_rest, guarded_step, on_guarded_step, guarded_run}
use Rattle.rules.specs.Relations.{BothGuarded, refused-alike, sink-alike, passed-alike, BothRan}
use Rattle.rules.specs.MapAgreement.{with_map, map_guarded_state, SameMemory, SameMarks, SameGuardedState, SameGuardedNext, GuardedRising, MapAgreement}
use Rattle.rules.proofs.Laws.Relational.{both-after, both-after-equal, both-guard, both-finish}
use Rattle.rules.proofs.MapAgreement.PlainMapAgreement.{same_map, same-put, same-with, with-same, same-operate, same-capacity, same_step, same-run}

-- Marks of cells

same-mark : {c : Cells ℕ} {m : PlainMap ℕ} → SameMemory c m → (a : ℕ) → cell_mark mark_cells c a ≡ cell_mark mark_map m a
same-mark h a = ap (content_mark mark_cells) (h.same a)

same-span-mark : {c : Cells ℕ} {m : PlainMap ℕ} → SameMemory c m → (a n : ℕ) → span_mark mark_cells c a n ≡ span_mark mark_map m a n
unfolding span_mark
same-span-mark h a zero = refl
same-span-mark h a (suc n) = rw (same-mark h a, same-span-mark h (suc a) n)

same-clean : {c : Cells ℕ} {m : PlainMap ℕ} → SameMemory c m → (a : ℕ) (vs : List ℕ)
    → SameMemory (clean_many mark_cells c a vs) (clean_many mark_map m a vs)
unfolding clean_many
same-clean h a [] = h
same-clean {c = c} {m = m} h a (v ∷ vs) = same-clean {c = put c a 0} {m = mark_map.put m a 0} (same-put h a 0) (suc a) vs

-- marks with a plain map for their cells
abbrev marks_with : MarkState mark_cells → PlainMap ℕ → MarkState mark_map
marks_with t m = record { registers = t.registers; cells = m }

marks-with : {t : MarkState mark_cells} {u : MarkState mark_map} → SameMarks t u → marks_with t u.cells ≡ u
marks-with {u = u} h = λ i. record { registers = h.registers i; cells = u.cells }

-- The stages, over one state and one set of marks, each also with plain maps for its cells

module _ (i : Instruction) (s : State number_cells) (m : PlainMap Held) (o : Operands) (t : MarkState mark_cells) (n : PlainMap ℕ) (g : SameMemory t.cells n) where
  same-read-sink : (c : Class) → read_sink number_cells mark_cells t c i s o ≡ read_sink number_map mark_map (marks_with t n) c i (with_map s m) o
  unfolding read_sink
  same-read-sink addition = refl
  same-read-sink multiplication = refl
  same-read-sink (equality f) = refl
  same-read-sink (small f) = refl
  same-read-sink complement = refl
  same-read-sink move = refl
  same-read-sink assert = refl
  same-read-sink range_check = refl
  same-read-sink jump = refl
  same-read-sink conditional_jump = refl
  same-read-sink call = refl
  same-read-sink return = same-mark g (r9 number_cells s - 1)
  same-read-sink load = refl
  same-read-sink store = refl
  same-read-sink tape_load = refl
  same-read-sink tape_store = same-span-mark g o.op0 o.op1
  same-read-sink contract_call = same-span-mark g o.op0 4
  same-read-sink end = refl
  same-read-sink uncovered = refl

  same-marks-after : (c : Class) → SameMarks (marks_after number_cells mark_cells t c i s o) (marks_after number_map mark_map (marks_with t n) c i (with_map s m) o)
  unfolding marks_after
  same-marks-after addition = record { registers = refl; cells = g }
  same-marks-after multiplication = record { registers = refl; cells = g }
  same-marks-after (equality f) = record { registers = refl; cells = g }
  same-marks-after (small f) = record { registers = refl; cells = g }
  same-marks-after complement = record { registers = refl; cells = g }
  same-marks-after move = record { registers = refl; cells = g }
  same-marks-after assert = record { registers = refl; cells = g }
  same-marks-after range_check = record { registers = refl; cells = g }
  same-marks-after jump = record { registers = refl; cells = g }
  same-marks-after conditional_jump = record { registers = refl; cells = g }
  same-marks-after call = record { registers = refl; cells = same-put g _ _ }
  same-marks-after return = record { registers = rw (same-mark g (r9 number_cells s - 2)); cells = g }
  same-marks-after load = record { registers = rw (same-mark g); cells = g }
  same-marks-after store = record { registers = refl; cells = same-put g _ _ }
  same-marks-after tape_load = record { registers = refl; cells = same-clean g _ _ }
  same-marks-after tape_store = record { registers = refl; cells = g }
  same-marks-after contract_call = record { registers = refl; cells = g }
  same-marks-after end = record { registers = refl; cells = g }
  same-marks-after uncovered = record { registers = refl; cells = g }

-- Step and run

abbrev guarded_with : GuardedState number_cells mark_cells → PlainMap Held → PlainMap ℕ → GuardedState number_map mark_map
guarded_with q m n = record { plain = with_map q.plain m; marks = marks_with q.marks n }

same-guarded-with : (e : Environment) (q : GuardedState number_cells mark_cells) (m : PlainMap Held) (n : PlainMap ℕ) → SameMemory q.plain.cells m → SameMemory q.marks.cells n
    → BothGuarded SameGuardedNext (guarded_step number_cells mark_cells e q) (guarded_step number_map mark_map e (guarded_with q m n))
unfolding guarded_step guarded_rest
same-guarded-with e q m n h g =
    both-after-equal _ _ refl λ i.
    both-after-equal _ _ refl λ o.
    both-guard refl
    (both-after _ _ (same-operate e i q.plain m o h (class_of i.opcode)) λ x y k.
    both-guard (same-read-sink i q.plain m o q.marks n g (class_of i.opcode))
    (both-after _ _ (same-capacity e k) λ x y k.
    passed-alike (record { next = k; marks = same-marks-after i q.plain m o q.marks n g (class_of i.opcode) })))

pub same-guarded-step : (e : Environment) {q : GuardedState number_cells mark_cells} {r : GuardedState number_map mark_map} → SameGuardedState q r
    → BothGuarded SameGuardedNext (guarded_step number_cells mark_cells e q) (guarded_step number_map mark_map e r)
same-guarded-step e {q} {r} h =
    subst (λ r. BothGuarded SameGuardedNext (guarded_step number_cells mark_cells e q) (guarded_step number_map mark_map e r)) whole
    (same-guarded-with e q r.plain.cells r.marks.cells h.plain.cells h.marks.cells)
  where
    whole : guarded_with q r.plain.cells r.marks.cells ≡ r
    whole = λ i. record { plain = with-same h.plain i; marks = marks-with h.marks i }

-- the states that an accepted step leaves
left : {n : GuardedNext number_cells mark_cells} {m : GuardedNext number_map mark_map} → SameGuardedNext n m
    → SameGuardedState (record { plain = n.next.state; marks = n.marks }) (record { plain = m.next.state; marks = m.marks })
left a = record { plain = a.next.state; marks = a.marks }

same-on-step : {q : GuardedState number_cells mark_cells} {r : GuardedState number_map mark_map} {x : GuardedResult (GuardedNext number_cells mark_cells)} {y : GuardedResult (GuardedNext number_map mark_map)}
    (k : GuardedState number_cells mark_cells → RunEnd (GuardedState number_cells mark_cells)) (l : GuardedState number_map mark_map → RunEnd (GuardedState number_map mark_map))
    → SameGuardedState q r → BothGuarded SameGuardedNext x y
    → ((q : GuardedState number_cells mark_cells) (r : GuardedState number_map mark_map) → SameGuardedState q r → BothRan SameGuardedState (k q) (l r))
    → BothRan SameGuardedState (on_guarded_step number_cells mark_cells q x k) (on_guarded_step number_map mark_map r y l)
same-on-step k l h refused-alike g = record { answer = refl; steps = refl; state = h }
same-on-step k l h sink-alike g = record { answer = refl; steps = refl; state = h }
same-on-step k l h (passed-alike a) g =
    both-finish SameGuardedState _ _ k l a.next.finish a.next.state.clk (left a) (g _ _ (left a))

pub same-guarded-run : (e : Environment) (budget : ℕ) {q : GuardedState number_cells mark_cells} {r : GuardedState number_map mark_map} → SameGuardedState q r
    → BothRan SameGuardedState (guarded_run number_cells mark_cells e budget q) (guarded_run number_map mark_map e budget r)
unfolding guarded_run
same-guarded-run e zero h = record { answer = refl; steps = refl; state = h }
same-guarded-run e (suc budget) h = same-on-step _ _ h (same-guarded-step e h) (λ q r k. same-guarded-run e budget k)

-- steps and runs, plain and guarded
pub map-agreement : (e : Environment) → MapAgreement e
map-agreement e =
    record {
      step = λ s r. same_step e (same-with (same_map s.cells r));
      run = λ n s r. same-run e n (same-with (same_map s.cells r));
      guarded_step = λ q r. same-guarded-step e (start q r);
      guarded_run = λ n q r. same-guarded-run e n (start q r);
    }
  where
    start : (q : GuardedState number_cells mark_cells) → GuardedRising q → SameGuardedState q (map_guarded_state q)
    start q r =
        record {
          plain = same-with (same_map q.plain.cells r.plain);
          marks = record { registers = refl; cells = same_map q.marks.cells r.marks };
        }
