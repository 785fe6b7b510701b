-- A step of which nothing is seen: its further read is not reached, and it is not accepted.
use mathlib.Core.Path.{◌≡◌, refl, sym, ap, subst}
use mathlib.Core.Bool.{Bool, true, false}
use lib.Dec.{leb}
use Rattle.rules.specs.declared.OlaOpcode.{OlaOpcode}
use Rattle.rules.specs.declared.Instruction.{Instruction}
use Rattle.rules.specs.declared.Refusal.{Refusal}
use Rattle.rules.specs.declared.Refusal.TheVariants.{UncoveredOpcode}
use Rattle.rules.specs.Results.{Result, refuse, pass, require, bind}
use Rattle.rules.specs.Opcodes.{class_of, is_covered}
use Rattle.rules.specs.Operands.{instruction_at, fetch, value_of, Operands, operands}
use Rattle.rules.specs.Cells.{number_cells}
use Rattle.rules.specs.Step.{Environment, State, Next, operate, step}
use Rattle.rules.proofs.Laws.ResultLaws.{refuse-pass}
use Rattle.operands.specs.Meanings.{Refuses}
use Rattle.operands.specs.Meanings as Meanings
use Rattle.sheets.specs.Traced.{reads_further}
use Rattle.sheets.specs.StepBeside.{meets_unread}

module _ (e : Environment) (s : State number_cells) where
  pub record Unseen : Type 0 where
    pub read : false ≡ meets_unread number_cells e s
    pub stops : (n : Next number_cells) → step number_cells e s ≡ pass n → ⊥

  -- it is not fetched
  pub unfetched : (f : Refusal) → fetch e.program s.pc ≡ refuse f → Unseen
  unfolding step bind
  unfetched f h = record { read = rw h; stops = λ n q. refuse-pass (rw h at q) }

  pub unstarted : (f : Refusal) → instruction_at e.program s.pc ≡ refuse f → Unseen
  unfolding fetch bind
  unstarted f h = unfetched f (rw h)

  module _ {i : Instruction} (h : instruction_at e.program s.pc ≡ pass i) where
    abbrev covered : Bool
    covered = is_covered (class_of i.opcode)

    pub fetch-at : fetch e.program s.pc ≡ require covered UncoveredOpcode (pass i)
    unfolding fetch bind
    fetch-at = rw h

    pub fetched : covered ≡ true → fetch e.program s.pc ≡ pass i
    unfolding require
    fetched k = rw k at fetch-at

    pub uncovered-unseen : covered ≡ false → Unseen
    unfolding require
    uncovered-unseen k = unfetched UncoveredOpcode (rw k at fetch-at)

    -- an operand is refused
    abbrev reading : Result Operands
    reading = operands e.psp s.registers (class_of i.opcode) i

    stops-reading : (f : Refusal) → reading ≡ refuse f → covered ≡ true → Unseen
    unfolding step bind
    stops-reading f r k = record { read = rw (fetched k, r); stops = λ n q. refuse-pass (rw (fetched k, r) at q) }

    further : i.opcode ≡ OlaOpcode.Cjmp → reads_further (class_of i.opcode) ≡ false
    unfolding class_of reads_further
    further c = ap (λ (o : OlaOpcode). reads_further (class_of o)) c

    no-goal : (f : Refusal) (o : Operands) (k : OlaOpcode) → k ≡ OlaOpcode.Cjmp → leb o.op0 1 ≡ true
        → value_of e.psp s.registers i.op1 ≡ refuse f
        → operate number_cells e (class_of k) i s o ≡ refuse f
    unfolding class_of operate require bind
    no-goal f o k c l v = subst (λ (k : OlaOpcode). operate number_cells e (class_of k) i s o ≡ refuse f) (sym c) (rw (l, v))

    stops-jump : (f : Refusal) (o : Operands) → i.opcode ≡ OlaOpcode.Cjmp → reading ≡ pass o → leb o.op0 1 ≡ true
        → value_of e.psp s.registers i.op1 ≡ refuse f → covered ≡ true → Unseen
    unfolding step bind
    stops-jump f o c r l v k =
        record {
          read = rw (fetched k, r, further c);
          stops = λ n q. refuse-pass (rw (fetched k, r, no-goal f o i.opcode c l v) at q);
        }

    by-cover : (b : Bool) → covered ≡ b → (covered ≡ true → Unseen) → Unseen
    by-cover true k u = u k
    by-cover false k u = uncovered-unseen k

    pub refused : (f : Refusal) → Refuses false e.psp s.registers i f → Unseen
    refused f (Meanings.read r) = by-cover covered refl (stops-reading f r)
    refused f (Meanings.goal o c t r l v) = by-cover covered refl (stops-jump f o c r l v)
