-- What the traced step's ends are to the rules' run of one step: without a step, as the plain step, and with a line.
use Prim.Native.Nat.{ℕ, suc, ◌+◌, ◌*◌, ◌-◌, ◌≤◌, ◌<◌}
use mathlib.Core.Path.{◌≡◌, refl, sym, ap, ◌∙◌}
use mathlib.Core.Bool.{true, false}
use mathlib.Core.List.{List, [], ◌∷◌, ◌++◌, append-nil}
use native.Mathlib.Omega.{arith}
use lib.ListN.{length, get_or}
use borrow.Author.Tests.{lt-ltb, le-ltb}
use Rattle.rules.specs.declared.Answer.{Answer}
use Rattle.rules.specs.declared.Instruction.{Instruction}
use Rattle.rules.specs.declared.Ran.{Ran}
use Rattle.rules.specs.Cells.{number_cells}
use Rattle.rules.specs.Step.{State}
use Rattle.rules.specs.Entry.{Snapshot, plain_entry, environment, state_of}
use Rattle.rules.specs.Calls.{plain_run_of}
use Rattle.rules.specs.Handed.{snapshot, no_marks}
use Rattle.rules.proofs.EveryCall.Restored.{restored}
use Rattle.hexadecimal.specs.Writing.{overlay_at}
use Rattle.hexadecimal.proofs.Buffers.{overlay-nil}
use Rattle.sheets.specs.Lines.{line_words, line_text, lines_text, line_bytes, is_short}
use Rattle.sheets.specs.StepBeside.{line_here}
use Rattle.sheets.specs.TracedEnds.{TracedEnd, end_of}
use Rattle.sheet_lines.proofs.LineLaws.{line-length, words-length}
use Rattle.looking.specs.declared.Sight.{Sight}
use Rattle.looking.specs.Looks.{Looks}
use Rattle.traced.specs.Steps.{PlainStep, TracedStep}
use Rattle.traced.proofs.Tracing as Tracing

-- the test of the sheet's length
module _ (sheet at lines : ℕ) (h : at ≡ line_bytes * lines) (fits : at ≤ sheet) where
  pub is-short : sheet - at < 257 → is_short sheet lines ≡ true
  unfolding line_bytes
  is-short l = lt-ltb sheet (257 * suc lines) (omega (arith, h, fits, l))

  pub is-long : 257 ≤ sheet - at → is_short sheet lines ≡ false
  unfolding line_bytes
  is-long l = le-ltb sheet (257 * suc lines) (omega (arith, h, fits, l))

-- nothing written
written_none : (sheet : List ℕ) (at : ℕ) → sheet ≡ overlay_at sheet at (lines_text [])
unfolding lines_text
written_none sheet at = sym (overlay-nil sheet at)

module _ (program : List Instruction) (s : Snapshot) (ls : List (List ℕ)) (at : ℕ) (sheet : List ℕ) (within : at ≤ length sheet) where
  abbrev e : TracedEnd
  e = end_of program (length sheet) 1 s ls

  pub no_step : plain_entry s ≡ true → (r : Ran) (a : Answer) → r ≡ record { answer = a; steps = 0; machine = s.machine; extras = no_marks }
      → e ≡ Tracing.refused_with program (length sheet) s ls a
      → TracedStep e ls at sheet r (snapshot r.machine s.addresses s.numbers s.moments s.tape s.output) sheet
  unfolding lines_text line_bytes
  no_step fit r a h g =
      record {
        answer = ap (λ (x : Ran). x.answer) h ∙ sym (ap (λ (x : TracedEnd). x.answer) g);
        steps = ap (λ (x : Ran). x.steps) h ∙ sym (ap (λ (x : TracedEnd). x.steps) g);
        most = rw (ap (λ (x : Ran). x.steps) h) (omega arith);
        left = ap (λ (x : Ran). snapshot x.machine s.addresses s.numbers s.moments s.tape s.output) h ∙ sym (restored s fit) ∙ sym (ap (λ (x : TracedEnd). x.left) g);
        extras = ap (λ (x : Ran). x.extras) h;
        added = [];
        lines = ap (λ (x : TracedEnd). x.lines) g ∙ sym (append-nil ls);
        count = sym (ap (λ (x : Ran). x.steps) h);
        bytes = rw (ap (λ (x : Ran). x.steps) h) refl;
        fits = omega (arith, within);
        written = written_none sheet at;
      }

  module _ (r : Ran) (t : Snapshot) (h : PlainStep program s r t) where
    pub refused-step : r.steps ≡ 0 → e ≡ Tracing.ends_with s ls (plain_run_of program 1 s) → TracedStep e ls at sheet r t sheet
    unfolding lines_text line_bytes
    refused-step z g =
        record {
          answer = h.answered.answer ∙ sym (ap (λ (x : TracedEnd). x.answer) g);
          steps = h.answered.steps ∙ sym (ap (λ (x : TracedEnd). x.steps) g);
          most = omega (arith, z);
          left = h.left ∙ sym (ap (λ (x : TracedEnd). x.left) g);
          extras = h.extras;
          added = [];
          lines = ap (λ (x : TracedEnd). x.lines) g ∙ sym (append-nil ls);
          count = sym z;
          bytes = rw z refl;
          fits = omega (arith, within);
          written = written_none sheet at;
        }

    -- with its line
    pub lined-step : (line sheet' : List ℕ) → at + 257 ≤ length sheet → length line ≡ 16 → sheet' ≡ overlay_at sheet at (line_text line) → r.steps ≡ 1
        → e ≡ Tracing.ends_with s (ls ++ (line ∷ [])) (plain_run_of program 1 s) → TracedStep e ls at sheet r t sheet'
    unfolding lines_text line_bytes
    lined-step line sheet' room k w o g =
        let n : length (line_text line ++ []) ≡ 257 = ap length (append-nil (line_text line)) ∙ line-length line ∙ omega (arith, k) in
        record {
          answer = h.answered.answer ∙ sym (ap (λ (x : TracedEnd). x.answer) g);
          steps = h.answered.steps ∙ sym (ap (λ (x : TracedEnd). x.steps) g);
          most = omega (arith, o);
          left = h.left ∙ sym (ap (λ (x : TracedEnd). x.left) g);
          extras = h.extras;
          added = line ∷ [];
          lines = ap (λ (x : TracedEnd). x.lines) g;
          count = sym o;
          bytes = rw o n;
          fits = omega (arith, n, room);
          written = w ∙ ap (overlay_at sheet at) (sym (append-nil (line_text line)));
        }

    -- the line that the code makes is the rules'
    pub finished : (look : Sight) → Looks program s look → look.unread ≡ false → is_short (length sheet) (length ls) ≡ false → (r.steps ≡ 0 → ⊥)
        → length s.machine.registers ≡ 10 → at + 257 ≤ length sheet → (line sheet' : List ℕ)
        → line ≡ line_words s.machine.clk s.machine.pc s.machine.registers look.present look.op0 look.op1 (get_or t.machine.registers look.dst 0)
        → sheet' ≡ overlay_at sheet at (line_text line) → TracedStep e ls at sheet r t sheet'
    finished look k u l n ten room line sheet' w o =
        let z = h.answered.steps in
        let d = Tracing.at-line program (length sheet) s ls (sym k.unread ∙ u) l (λ y. n (z ∙ y)) in
        let g : t.machine.registers ≡ d.next.state.registers = ap (λ (x : Snapshot). x.machine.registers) h.left ∙ ap (λ (x : State number_cells). x.registers) d.state in
        let v : line ≡ line_here number_cells (environment program s) (state_of s) d.next = w ∙ (λ i. line_words s.machine.clk s.machine.pc s.machine.registers look.present look.op0 look.op1 (get_or (g i) look.dst 0)) ∙ sym (k.line d.next d.accepted).1 in
        lined-step line sheet' room (ap length w ∙ words-length _ _ _ look.present _ _ _ ten) o (z ∙ d.counted)
        (d.end ∙ (λ i. Tracing.ends_with s (ls ++ (sym v i ∷ [])) (plain_run_of program 1 s)))
