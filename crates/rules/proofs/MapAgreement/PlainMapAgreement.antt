-- The plain rules over the rising list of cells and over a plain map, stage by stage, step and run.
use Prim.Native.Nat.{ℕ, zero, suc, ◌-◌}
use mathlib.Core.Path.{◌≡◌, refl, ap, subst, ◌∙◌}
use mathlib.Core.List.{List, [], ◌∷◌}
use lib.Dec.{leb, eqb}
use Rattle.rules.specs.declared.Instruction.{Instruction}
use Rattle.rules.specs.declared.Held.{Held}
use Rattle.rules.specs.declared.Refusal.TheVariants.{NotInField, NotSmall, AssertFailed, RangeCheckFailed, CellAbsent, TapeFault, StoreFault, ProphetStore, NoCapacity}
use Rattle.rules.specs.Numbers.{choose}
use Rattle.rules.specs.Results.{Result, pass, require}
use Rattle.rules.specs.Memory.{present, held}
use Rattle.rules.specs.Cells.{Cells, put, Rising, number_cells}
use Rattle.rules.specs.PlainMap.{PlainMap, map_put, number_map}
use Rattle.rules.specs.Opcodes.{Class, addition, multiplication, equality, small, complement, move, assert, range_check, jump, conditional_jump, call, return, load, store, tape_load, tape_store, contract_call, end, uncovered, class_of}
use Rattle.rules.specs.Operands.{Operands}
use Rattle.rules.specs.Step.{Environment, State, Next, content_value, r9, read, read_below, read_many, read_span, store_many, operate, fits, capacity, step, RunEnd, on_step, run}
use Rattle.rules.specs.Relations.{Both, both-refused, passed, BothRan}
use Rattle.rules.specs.MapAgreement.{map_of, with_map, SameMemory, SameState, SameNext}
use Rattle.rules.proofs.Laws.CellLaws.{get-put, rising-put, count-put}
use Rattle.rules.proofs.Laws.Relational.{both-bind, both-bind-equal, both-require, both-finish}

-- Memory

pub same_map : {A : Type 0} (c : Cells A) → Rising c → SameMemory c (map_of c)
same_map c r = record { rising = r; same = λ a. refl; size = refl }

pub same-put : {A : Type 0} {c : Cells A} {m : PlainMap A} → SameMemory c m → (a : ℕ) (v : A) → SameMemory (put c a v) (map_put m a v)
same-put {c = c} h a v =
    record {
      rising = rising-put c a v h.rising;
      same = λ x. get-put c a v x ∙ ap (choose (eqb a x) (present v)) (h.same x);
      size = count-put 0 c a v h.rising ∙ (rw (h.same a, h.size));
    }

same_read : {c : Cells Held} {m : PlainMap Held} → SameMemory c m → (a : ℕ) → read number_cells c a ≡ read number_map m a
same_read h a = ap (content_value number_cells) (h.same a)

same-below : {c : Cells Held} {m : PlainMap Held} → SameMemory c m → (r k : ℕ) → read_below number_cells c r k ≡ read_below number_map m r k
same-below h r k = ap (require (leb k r) CellAbsent) (same_read h (r - k))

same-many : {c : Cells Held} {m : PlainMap Held} → SameMemory c m → (a n : ℕ) → read_many number_cells c a n ≡ read_many number_map m a n
unfolding read_many
same-many h a zero = refl
same-many h a (suc n) = rw (same_read h a, same-many h (suc a) n)

same_span : {c : Cells Held} {m : PlainMap Held} → SameMemory c m → (a n : ℕ) → read_span number_cells c a n ≡ read_span number_map m a n
unfolding read_span
same_span h a n = rw (same-many h a n)

same_store : {c : Cells Held} {m : PlainMap Held} → SameMemory c m → (moment a : ℕ) (vs : List ℕ)
    → Both SameMemory (store_many number_cells moment c a vs) (store_many number_map moment m a vs)
unfolding store_many
same_store h t a [] = passed h
same_store {c = c} {m = m} h t a (v ∷ vs) =
    both-require StoreFault refl
    (both-require StoreFault refl
    (both-require ProphetStore refl
    (same_store {c = put c a (held v t)} {m = number_map.put m a (held v t)} (same-put h a (held v t)) t (suc a) vs)))

-- A state and the same state over a map: what is no cell is one value

pub same-with : {s : State number_cells} {m : PlainMap Held} → SameMemory s.cells m → SameState s (with_map s m)
same-with h = record { registers = refl; pc = refl; clk = refl; cells = h; tape = refl; output = refl; written = refl }

pub with-same : {s : State number_cells} {t : State number_map} → SameState s t → with_map s t.cells ≡ t
with-same {s} {t} h =
    λ i.
    record {
      registers = h.registers i;
      pc = h.pc i;
      clk = h.clk i;
      cells = t.cells;
      tape = h.tape i;
      output = h.output i;
      written = h.written i;
    }

module _ (e : Environment) (i : Instruction) (s : State number_cells) (m : PlainMap Held) (o : Operands) (h : SameMemory s.cells m) where
  moved : {n : Next number_cells} {k : Next number_map} → SameState n.state k.state → n.finish ≡ k.finish → Both SameNext (pass n) (pass k)
  moved x y = passed (record { state = x; finish = y })

  pub same-operate : (c : Class) → Both SameNext (operate number_cells e c i s o) (operate number_map e c i (with_map s m) o)
  unfolding operate
  same-operate addition = both-require NotInField refl (both-require NotInField refl (moved (same-with h) refl))
  same-operate multiplication = both-require NotInField refl (both-require NotInField refl (moved (same-with h) refl))
  same-operate (equality f) = moved (same-with h) refl
  same-operate (small f) = both-require NotSmall refl (both-require NotSmall refl (moved (same-with h) refl))
  same-operate complement = both-require NotInField refl (moved (same-with h) refl)
  same-operate move = moved (same-with h) refl
  same-operate assert = both-require AssertFailed refl (moved (same-with h) refl)
  same-operate range_check = both-require RangeCheckFailed refl (moved (same-with h) refl)
  same-operate jump = moved (same-with h) refl
  same-operate conditional_jump = both-require NotSmall refl (both-bind-equal _ _ refl λ b. moved (same-with h) refl)
  same-operate call = both-require StoreFault refl (both-bind _ _ (same_store h _ _ _) λ c d k. moved (same-with k) refl)
  same-operate return =
      both-bind-equal _ _ (same-below h (r9 number_cells s) 1) λ pc.
      both-bind-equal _ _ (same-below h (r9 number_cells s) 2) λ r.
      moved (same-with h) refl
  same-operate load =
      both-require NotInField refl (both-require NotInField refl (both-bind-equal _ _ (same_read h _) λ v. moved (same-with h) refl))
  same-operate store =
      both-require NotInField refl
      (both-require NotInField refl
      (both-bind _ _ (same_store h _ _ _) λ c d k. moved (same-with k) refl))
  same-operate tape_load =
      both-require TapeFault refl
      (both-require StoreFault refl
      (both-bind _ _ (same_store h _ _ _) λ c d k. moved (same-with k) refl))
  same-operate tape_store = both-bind-equal _ _ (same_span h _ _) λ hs. moved (same-with h) refl
  same-operate contract_call = both-bind-equal _ _ (same_span h _ 4) λ hs. moved (same-with h) refl
  same-operate end = moved (same-with h) refl
  same-operate uncovered = both-refused

same-fits : (e : Environment) {s : State number_cells} {t : State number_map} → SameState s t → fits number_cells e s ≡ fits number_map e t
same-fits e {s} {t} h = rw (h.cells.size, h.tape, h.output)

pub same-capacity : (e : Environment) {n : Next number_cells} {k : Next number_map} → SameNext n k
    → Both SameNext (capacity number_cells e n) (capacity number_map e k)
same-capacity e h = both-require NoCapacity (same-fits e h.state) (passed h)

same-step-with : (e : Environment) (s : State number_cells) (m : PlainMap Held) → SameMemory s.cells m
    → Both SameNext (step number_cells e s) (step number_map e (with_map s m))
unfolding step
same-step-with e s m h =
    both-bind-equal _ _ refl λ i.
    both-bind-equal _ _ refl λ o.
    both-bind _ _ (same-operate e i s m o h (class_of i.opcode)) λ n k q.
    same-capacity e q

pub same_step : (e : Environment) {s : State number_cells} {t : State number_map} → SameState s t
    → Both SameNext (step number_cells e s) (step number_map e t)
same_step e {s} {t} h = subst (λ t. Both SameNext (step number_cells e s) (step number_map e t)) (with-same h) (same-step-with e s t.cells h.cells)

same-on-step : {s : State number_cells} {t : State number_map} {x : Result (Next number_cells)} {y : Result (Next number_map)}
    (k : State number_cells → RunEnd (State number_cells)) (l : State number_map → RunEnd (State number_map)) → SameState s t → Both SameNext x y
    → ((s : State number_cells) (t : State number_map) → SameState s t → BothRan SameState (k s) (l t))
    → BothRan SameState (on_step number_cells s x k) (on_step number_map t y l)
same-on-step k l h both-refused q = record { answer = refl; steps = refl; state = h }
same-on-step k l h (passed r) q = both-finish SameState _ _ k l r.finish r.state.clk r.state (q _ _ r.state)

pub same-run : (e : Environment) (budget : ℕ) {s : State number_cells} {t : State number_map} → SameState s t
    → BothRan SameState (run number_cells e budget s) (run number_map e budget t)
unfolding run
same-run e zero h = record { answer = refl; steps = refl; state = h }
same-run e (suc budget) h = same-on-step _ _ h (same_step e h) (λ s t q. same-run e budget q)
