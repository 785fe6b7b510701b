-- The theorem: what stands in the sheet after a traced call.
use Prim.Native.Nat.{ℕ, ◌*◌, ◌<◌, ◌≤◌}
use native.Mathlib.Nat.{zero-add}
use mathlib.Core.Path.{◌≡◌, refl, sym, ap, subst, ◌∙◌}
use mathlib.Core.Bool.{Bool, true, false}
use mathlib.Core.List.{List, [], ◌∷◌}
use native.Mathlib.Omega.{arith}
use lib.ListN.{length, get_or, take, drop, length-append}
use lib.Seq.{take_at, drop_at}
use Rattle.rules.specs.declared.Instruction.{Instruction}
use Rattle.rules.specs.declared.Refusal.{Refusal}
use Rattle.rules.specs.declared.Refusal.TheVariants.{BadState}
use Rattle.rules.specs.Results.{Result, refuse, pass}
use Rattle.rules.specs.Frames.{load_words}
use Rattle.rules.specs.Text.{load_text, load_budget_text}
use Rattle.rules.specs.Cells.{number_cells}
use Rattle.rules.specs.Opcodes.{class_of}
use Rattle.rules.specs.Operands as Plain
use Rattle.rules.specs.Operands.{fetch, Operands, operands}
use Rattle.rules.specs.Step.{Environment, Next, overlay, step}
use Rattle.rules.specs.Entry.{plain_entry, environment, snapshot_after}
use Rattle.rules.specs.Calls.{Called, refused_call, job_budget, job_program}
use Rattle.rules.proofs.Laws.ResultLaws.{bind-pass}
use Rattle.rules.proofs.Laws.OverlayLaws.{length-overlay, take-overlay}
use Rattle.sheets.specs.declared.Present.{Present}
use Rattle.sheets.specs.Lines.{line_text, lines_text, line_words, line_bytes}
use Rattle.sheets.specs.Traced.{passes, line_of, TracedState, TracedNext, traced_step}
use Rattle.sheets.specs.StepBeside.{words_of, line_here}
use Rattle.sheets.specs.TracedCalls.{TracedSnapshot, traced_state_of, traced_run_of, traced_answered, traced_call, traced_words, traced_text, traced_budget_text}
use Rattle.sheets.specs.SameRun.{after_lines}
use Rattle.sheets.specs.SheetLines.{LineAfter, SheetAfter, SheetLines}
use Rattle.sheets.proofs.StepViews.{view, view-passed, passes-too}
use Rattle.sheets.proofs.RunsBeside.{lined}
use Rattle.sheets.proofs.RunLines.{LineIn, run-lines}
use Rattle.sheets.proofs.LineTexts.{line_reads, Sixteen, lines-length, line-at}
use Rattle.sheets.proofs.SameRunHolds.{here, sheet, sound, both-steps, step_after, traced-passes, traced-unfit}

-- The words of a line

module _ (clk pc : ℕ) (registers : List ℕ) (ten : length registers ≡ 10) (w : Present) (op0 op1 dst : ℕ) where
  sixteen-words : length (line_words clk pc registers w op0 op1 dst) ≡ 16
  unfolding line_words
  sixteen-words = rw length-append (omega arith)

  first-words : take 12 (line_words clk pc registers w op0 op1 dst) ≡ clk ∷ (pc ∷ registers)
  unfolding line_words
  first-words = ap (λ l. clk ∷ (pc ∷ l)) (take_at registers _ 10 ten)

-- The line of an accepted step

record LineOf (e : Environment) (q : TracedState number_cells) (n : Next number_cells) (l : List ℕ) : Type 0 where
  instruction : Instruction
  operands : Operands
  fetched : fetch e.program q.plain.pc ≡ pass instruction
  read : Plain.operands e.psp q.plain.registers (class_of instruction.opcode) instruction ≡ pass operands
  words : l ≡ line_of number_cells e (class_of instruction.opcode) instruction q.plain operands n

module _ (e : Environment) (sheet : ℕ) (q : TracedState number_cells) where
  by-stages : (n : Next number_cells) → step number_cells e q.plain ≡ pass n → LineOf e q n (line_here number_cells e q.plain n)
  unfolding step
  by-stages n h =
      let f = bind-pass (fetch e.program q.plain.pc) _ h in
      let i = f.0 in
      let o = bind-pass (operands e.psp q.plain.registers (class_of i.opcode) i) _ f.2 in
      record {
        instruction = i;
        operands = o.0;
        fetched = f.1;
        read = o.1;
        words = ap (λ r. words_of r λ i. words_of
            (operands e.psp q.plain.registers (class_of i.opcode) i) λ o. line_of number_cells e (class_of i.opcode) i
            q.plain o n) f.1
            ∙ ap (λ r. words_of r λ o. line_of number_cells e (class_of i.opcode) i q.plain o n) o.1;
      }

  line-of : (m : TracedNext number_cells) → traced_step number_cells e sheet q ≡ passes m → LineOf e q m.next m.line
  line-of m h =
      let v = view-passed e sheet m (view e sheet q) h in
      subst (LineOf e q m.next) v.1 (by-stages m.next v.0)

-- A sheet with lines laid over it

module _ (t : TracedSnapshot) (lines : List (List ℕ)) (sixteen : Sixteen lines) where
  abbrev over : List ℕ
  over = overlay (lines_text lines) t.sheet

  over-long : line_bytes * length lines ≤ length t.sheet → length over ≡ length t.sheet
  over-long h = length-overlay (lines_text lines) t.sheet (subst (λ n. n ≤ length t.sheet) (sym (lines-length lines sixteen)) h)

  over-written : take (line_bytes * length lines) over ≡ lines_text lines
  over-written = take-overlay (lines_text lines) t.sheet (line_bytes * length lines) (lines-length lines sixteen)

  over-behind : drop (line_bytes * length lines) over ≡ drop (line_bytes * length lines) t.sheet
  over-behind =
      drop_at (lines_text lines) (drop (length (lines_text lines)) t.sheet) (line_bytes * length lines) (lines-length lines sixteen)
      ∙ ap (λ n. drop n t.sheet) (lines-length lines sixteen)

  over-at : (j : ℕ) → j < length lines → take line_bytes (drop (line_bytes * j) over) ≡ line_text (get_or lines j [])
  over-at = line-at lines sixteen (drop (length (lines_text lines)) t.sheet)

none_over : (ls : List (List ℕ)) (sheet : List ℕ) → length ls ≡ 0 → overlay (lines_text ls) sheet ≡ sheet
unfolding lines_text
none_over [] sheet h = refl
none_over (l ∷ ls) sheet h = absurd (omega arith)

-- from the lines of a call
sheet-after : {program : Result (List Instruction)} (t : TracedSnapshot) (c : Called TracedSnapshot) (lines : List (List ℕ))
    → c.left.sheet ≡ overlay (lines_text lines) t.sheet
    → length lines ≡ c.steps
    → line_bytes * c.steps ≤ length t.sheet
    → ((j : ℕ) → j < c.steps → LineAfter program t j (get_or lines j []))
    → SheetAfter program t c
sheet-after {program} t c lines e n fits each =
    let sixteen : Sixteen lines = λ j h. (each j (subst (λ n. j < n) n h)).sixteen in
    record {
      lines = lines;
      count = n;
      each = each;
      text = λ j h. line_reads (get_or lines j []) (each j h).sixteen;
      fits = fits;
      long = ap length e ∙ over-long t lines sixteen (subst (λ n. line_bytes * n ≤ length t.sheet) (sym n) fits);
      line_at = λ j h. ap (λ l. take line_bytes (drop (line_bytes * j) l)) e ∙ over-at t lines sixteen j (subst (λ n. j < n) (sym n) h);
      written = ap (take (line_bytes * c.steps)) e
          ∙ subst (λ n. take (line_bytes * n) (over t lines sixteen) ≡ lines_text lines) n (over-written t lines sixteen);
      behind = ap (drop (line_bytes * c.steps)) e
          ∙ subst (λ n. drop (line_bytes * n) (over t lines sixteen) ≡ drop (line_bytes * n) t.sheet) n (over-behind t lines sixteen);
      without_step = λ z. e ∙ none_over lines t.sheet (n ∙ z);
    }

-- Refused at entry

no_byte : (n : ℕ) → line_bytes * 0 ≤ n
unfolding line_bytes
no_byte n = omega arith

entry-sheet : {program : Result (List Instruction)} (f : Refusal) (t : TracedSnapshot) → SheetAfter program t (refused_call f t)
unfolding lines_text
entry-sheet f t = sheet-after t (refused_call f t) [] refl refl (no_byte _) (λ j h. absurd (omega arith))

-- A loaded program, from a start that passes entry

module _ (program : List Instruction) (t : TracedSnapshot) (ten : length t.plain.machine.registers ≡ 10)
    (enters : plain_entry t.plain ≡ true) where
  abbrev e : Environment
  e = here program t ten enters

  line_after : (j : ℕ) {l : List ℕ} → LineIn e (length t.sheet) (traced_state_of t) j l → LineAfter (pass program) t j l
  line_after j {l} h =
      let u = h.state in
      let p = h.paused in
      let left = snapshot_after t.plain u in
      let a : traced_step number_cells e (length t.sheet) (lined j u) ≡ passes (record { next = h.next; line = l }) =
      ap (λ k. traced_step number_cells e (length t.sheet) (lined k u)) (sym (zero-add j)) ∙ h.accepted
      in
      let m = passes-too e (length t.sheet) (record { next = h.next; line = l }) (both-steps program t ten enters p) a in
      let k = line-of (environment program left) (length t.sheet) (after_lines j left) (record { next = m.next; line = l })
      m.passed in
      let long = (sound program t ten enters p).ten in
      record {
        next = m.next;
        accepted = step_after program t ten enters p m.passed;
        sixteen = ap length k.words ∙ sixteen-words u.clk u.pc u.registers long _ _ _ _;
        before = ap (take 12) k.words ∙ first-words u.clk u.pc u.registers long _ _ _ _;
        instruction = k.instruction;
        operands = k.operands;
        fetched = k.fetched;
        read = k.read;
        words = k.words;
      }

  entered-sheet : (n : ℕ) → SheetAfter (pass program) t (traced_call (pass program) n t)
  entered-sheet n =
      let h = run-lines e (length t.sheet) n (traced_state_of t) in
      subst (SheetAfter (pass program) t) (sym (traced-passes program t ten enters n))
      (sheet-after t (traced_answered t (traced_run_of program n t)) h.lines
      (ap (λ ls. overlay (lines_text ls) t.sheet) h.added)
      h.count
      (subst (λ n. line_bytes * n ≤ length t.sheet) (zero-add _) (h.fits (no_byte _)))
      (λ j k. line_after j (h.each j k)))

-- Of any program as loaded

pub call-sheet : (program : Result (List Instruction)) (budget : ℕ) (t : TracedSnapshot) → length t.plain.machine.registers ≡ 10
    → SheetAfter program t (traced_call program budget t)
unfolding traced_call
call-sheet (refuse f) budget t ten = entry-sheet f t
call-sheet (pass program) budget t ten = go (plain_entry t.plain) refl
  where
    go : (b : Bool) → plain_entry t.plain ≡ b → SheetAfter (pass program) t (traced_call (pass program) budget t)
    go true h = entered-sheet program t ten h budget
    go false h = subst (SheetAfter (pass program) t) (sym (traced-unfit program t h budget)) (entry-sheet BadState t)

pub sheet-lines : SheetLines
unfolding traced_words traced_text traced_budget_text
sheet-lines =
    record {
      of_words = λ words. call-sheet (load_words words);
      of_text = λ text. call-sheet (load_text text);
      of_budget_text = λ text. call-sheet (job_program (load_budget_text text)) (job_budget (load_budget_text text));
      of_budget_text_program = λ text. call-sheet (job_program (load_budget_text text));
    }
