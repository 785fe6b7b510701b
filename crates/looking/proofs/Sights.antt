-- What is seen of the step from a snapshot: by its row, and by its operands at their slots.
use Rattle.std.specs.Prelude.{Some, Err}
use Prim.Native.Nat.{ℕ, ◌<◌}
use mathlib.Core.Path.{◌≡◌, refl, ap, subst, ◌∙◌}
use mathlib.Core.Bool.{Bool, true, false, ◌&&◌}
use mathlib.Core.List.{List}
use lib.Dec.{leb}
use lib.ListN.{length, get_or, take}
use Rattle.rules.specs.declared.OlaOpcode.{OlaOpcode}
use Rattle.rules.specs.declared.Instruction.{Instruction}
use Rattle.rules.specs.declared.Machine.{Machine}
use Rattle.rules.specs.declared.Refusal.{Refusal}
use Rattle.rules.specs.declared.Refusal.TheVariants.{NoInstruction}
use Rattle.rules.specs.Results.{Result, refuse, pass, bind}
use Rattle.rules.specs.Opcodes.{Class, addition, multiplication, equality, small, complement, move, assert, range_check, jump, conditional_jump, call, return, load, store, tape_load, tape_store, contract_call, end, uncovered, class_of, is_covered}
use Rattle.rules.specs.Operands.{wants_of, instruction_at, value_of, operand, Operands, operands}
use Rattle.rules.specs.Cells.{number_cells}
use Rattle.rules.specs.Step.{Environment, State, Next, r9, read_below, operate, capacity, step}
use Rattle.rules.specs.Entry.{Snapshot, environment, state_of}
use Rattle.rules.specs.Handed.{snapshot, no_marks}
use Rattle.rules.proofs.Laws.ResultLaws.{bind-pass, require-pass}
use Rattle.program.specs.declared.table.Row.{Row}
use Rattle.program.specs.Table.{Standing, Stands, computed_dst, program_of, frame_place, Describes, Says}
use Rattle.hardware.specs.Buffers.{Rising}
use Rattle.operands.specs.Meanings.{numbers_of, Prepared, Refuses, Computes}
use Rattle.effects.specs.Deciding.{AtRow}
use Rattle.interpreter.proofs.Preparing.{frame_here}
use Rattle.sheets.specs.Lines.{present_of, shown, line_words}
use Rattle.sheets.specs.Traced.{is_refused, number_of, reads_further, is_unread}
use Rattle.sheets.specs.StepBeside.{meets_unread, line_here}
use Rattle.looking.specs.declared.Sight.{Sight}
use Rattle.looking.specs.Looks.{no_sight, absent_below, sight_of, Looks}
use Rattle.looking.proofs.Below.{absent-read}
use Rattle.looking.proofs.Shown.{alike, evaluated, same_line, shown-below}
use Rattle.looking.proofs.Unseen.{Unseen, unstarted, fetched, uncovered-unseen, refused}

-- what is not covered reads nothing further
nothing-further : (c : Class) → is_covered c ≡ false → reads_further c ≡ false
unfolding reads_further
nothing-further addition h = refl
nothing-further multiplication h = refl
nothing-further (equality f) h = refl
nothing-further (small f) h = refl
nothing-further complement h = refl
nothing-further move h = refl
nothing-further assert h = refl
nothing-further range_check h = refl
nothing-further jump h = refl
nothing-further conditional_jump h = refl
nothing-further call h = h
nothing-further return h = refl
nothing-further load h = refl
nothing-further store h = refl
nothing-further tape_load h = refl
nothing-further tape_store h = refl
nothing-further contract_call h = refl
nothing-further end h = refl
nothing-further uncovered h = refl

-- The operands of the instruction at pc stand at their slots
module _ (e : Environment) (s : State number_cells) {i : Instruction} (h : instruction_at e.program s.pc ≡ pass i)
    (ws values : List ℕ) (s0 s1 s_dst : ℕ)
    (kept : take 10 values ≡ s.registers) (p : Prepared false e.psp values i s0 s1 s_dst) (d : Stands ws computed_dst i.dst s_dst) where
  abbrev k : OlaOpcode
  k = i.opcode

  abbrev c : Class
  c = class_of k

  abbrev o : Operands
  o = numbers_of (wants_of c) values s0 s1 s_dst

  reads : operands e.psp s.registers c i ≡ pass o
  reads = subst (λ (l : List ℕ). operands e.psp l c i ≡ pass o) kept p.reads

  -- CJMP's op1

  jumps : (k : OlaOpcode) → k ≡ OlaOpcode.Cjmp → {n : Next number_cells}
      → operate number_cells e (class_of k) i s (numbers_of (wants_of (class_of k)) values s0 s1 s_dst) ≡ pass n → leb (get_or values s0 0) 1 ≡ true
  unfolding class_of wants_of operate
  jumps k j {n} q =
      (require-pass (leb (get_or values s0 0) 1) _ _
      (subst (λ (k : OlaOpcode). operate number_cells e (class_of k) i s (numbers_of (wants_of (class_of k)) values s0 s1 s_dst) ≡ pass n) j q)).0

  abbrev later : ℕ
  later = number_of (value_of e.psp s.registers i.op1)

  goal : {n : Next number_cells} → operate number_cells e c i s o ≡ pass n → k ≡ OlaOpcode.Cjmp → later ≡ get_or values s1 0
  goal q j =
      ap number_of
      (subst (λ (l : List ℕ). value_of e.psp l i.op1 ≡ pass (get_or values s1 0)) kept (p.goal j refl (jumps k j q)))

  -- dst

  wanted : {n : Operands} → operands e.psp s.registers c i ≡ pass n
      → (a : ℕ) × (operand e.psp s.registers (wants_of c).dst i.dst ≡ pass a)
  unfolding operands
  wanted q =
      let a = bind-pass (operand e.psp s.registers (wants_of c).op0 i.op0) _ q in
      let b = bind-pass (operand e.psp s.registers (wants_of c).op1 i.op1) _ a.2 in
      let f = bind-pass (operand e.psp s.registers (wants_of c).dst i.dst) _ b.2 in
      (f.0, f.1)

  dst-below : shown (present_of c).dst s_dst < 10
  dst-below =
      shown-below e.psp s.registers ws (present_of c).dst (wants_of c).dst i.dst s_dst
      (alike values values s0 s1 s_dst 0 c).3 (wanted reads).1 d

  -- an accepted step's line
  module _ (covered : is_covered c ≡ true) (n : Next number_cells) (q : step number_cells e s ≡ pass n) where
    operates : (m : Next number_cells) × (operate number_cells e c i s o ≡ pass m)
    unfolding step bind
    operates =
        let f = bind-pass (operate number_cells e c i s o) (capacity number_cells e) (rw (fetched e s h covered, reads) at q) in
        (f.0, f.1)

    abbrev registers : List ℕ
    registers = n.state.registers

    abbrev dst : ℕ
    dst = shown (present_of c).dst s_dst

    line-shown : line_here number_cells e s n
        ≡ line_words s.clk s.pc s.registers (present_of c) (get_or values s0 0) (get_or values s1 0) (get_or registers dst 0)
    line-shown =
        let a = alike values registers s0 s1 s_dst later c in
        let g = evaluated k (get_or values s1 0) later (goal operates.1) in
        rw (fetched e s h covered, reads)
        (same_line s.clk s.pc s.registers (present_of c) _ _ _ _ _ _ a.0
        (a.1 ∙ ap (λ (x : ℕ). shown (present_of c).op1 x) g) a.2)

  unread-met : is_covered c ≡ true → is_unread number_cells c s ≡ meets_unread number_cells e s
  unread-met covered = rw (fetched e s h covered, reads)

  unread-not : is_covered c ≡ false → is_unread number_cells c s ≡ meets_unread number_cells e s
  unread-not covered = ap (λ (b : Bool). b && is_refused (read_below number_cells s.cells (r9 number_cells s) 2)) (nothing-further c covered)
      ∙ (uncovered-unseen e s h covered).read

  pub unread-here : (b : Bool) → is_covered c ≡ b → is_unread number_cells c s ≡ meets_unread number_cells e s
  unread-here true f = unread-met f
  unread-here false f = unread-not f

  pub line-here : (b : Bool) → is_covered c ≡ b → (n : Next number_cells) → step number_cells e s ≡ pass n
      → (shown (present_of c).dst s_dst < 10)
      × (line_here number_cells e s n
      ≡ line_words s.clk s.pc s.registers (present_of c) (get_or values s0 0) (get_or values s1 0)
      (get_or n.state.registers (shown (present_of c).dst s_dst) 0))
  line-here true f n q = (dst-below, line-shown f n q)
  line-here false f n q = absurd ((uncovered-unseen e s h f).stops n q)

-- From a snapshot
module _ (ws : List ℕ) (m : Machine) (xs ns ms tape output : List ℕ) where
  abbrev from : Snapshot
  from = snapshot m xs ns ms tape output

  abbrev e : Environment
  e = environment (program_of ws) from

  abbrev s : State number_cells
  s = state_of from

  unseen : Unseen e s → Looks (program_of ws) from no_sight
  unseen u = record { unread = u.read; line = λ n q. absurd (u.stops n q) }

  pub outside-looks : instruction_at (program_of ws) m.pc ≡ refuse NoInstruction → Looks (program_of ws) from no_sight
  outside-looks h = unseen (unstarted e s _ h)

  module _ (row : Row) (says : Says ws m.pc row (instruction_at (program_of ws) m.pc)) (values : List ℕ) where
    pub refused-looks : Standing m.psp ws values → take 10 values ≡ m.registers → (place : ℕ) (some : frame_place row.frame ≡ Some place) (f : Refusal) (values' : List ℕ)
        → Computes ws place row.op0 false values (Err f) values' → Looks (program_of ws) from no_sight
    refused-looks st kept place some f values' c =
        let h = frame_here ws m.pc row says place some in
        let d : Describes ws m.pc row h.instruction = subst (Says ws m.pc row) h.starts says in
        unseen (refused e s h.starts f
        (subst (λ (l : List ℕ). Refuses false m.psp l h.instruction f) kept (c.leaves m.psp row.op1 row.dst h.instruction st h.is d.op0 d.op1 d.dst)))

    module _ (rising : Rising m.cell_count xs) (level : length ns ≡ length xs) (moment_level : length ms ≡ length xs)
        (ready : AtRow (record { guarded = false; extras = no_marks }) m.psp ws row values m.pc) (kept : take 10 values ≡ m.registers) where
      abbrev seen : Sight
      seen = sight_of row (absent_below (take m.cell_count xs) (get_or m.registers 9 0)) values

      seen_at : (x : Result Instruction) → instruction_at (program_of ws) m.pc ≡ x → Says ws m.pc row x → Looks (program_of ws) from seen
      seen_at (refuse g) h (n, z) = rw z (unseen (unstarted e s g h))
      seen_at (pass i) h d =
          let q = ready.prepared i h in
          let a = absent-read m.cell_count xs rising (get_or m.registers 9 0) ns ms level moment_level in
          rw d.opcode
          (record {
            unread = ap (λ (b : Bool). reads_further (class_of i.opcode) && b) a
                ∙ unread-here e s h ws values row.op0 row.op1 row.dst kept q d.dst (is_covered (class_of i.opcode)) refl;
            line = line-here e s h ws values row.op0 row.op1 row.dst kept q d.dst (is_covered (class_of i.opcode)) refl;
          })

      pub seen-looks : Looks (program_of ws) from seen
      seen-looks = seen_at (instruction_at (program_of ws) m.pc) refl says
