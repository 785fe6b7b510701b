-- Reading a line of one to four words: its words decide, and how many the first of them asks for.
use Rattle.std.specs.Prelude.{Option, Some, None}
use mathlib.Core.Path.{◌≡◌, refl, sym, ap, ◌∙◌}
use mathlib.Core.Bool.{Bool, true, false}
use mathlib.Core.List.{List, [], ◌∷◌}
use Prim.Native.Nat.{ℕ, suc, ◌*◌, ◌/◌, ◌%◌, ◌≤◌}
use native.Mathlib.Nat.{add-zero}
use native.Mathlib.Omega.{arith}
use lib.Dec.{eqb}
use lib.ListN.{length, get_or, drop}
use lib.Seq.{get_or-take, get_or-drop}
use borrow.Author.Tests.{eq-eqb, ne_eqb, le-leb}
use Rattle.rules.specs.declared.Instruction.{Instruction}
use Rattle.rules.specs.Numbers.{choose}
use Rattle.rules.specs.Frames.{first_word_fits, value_count, frame_fits, frame_of, exact_frame_of, instruction_of}
use Rattle.rules.specs.Text.{ended, joined_words, frame_of_words, frame_of_line}
use Rattle.frames.proofs.Cases.{cases}
use Rattle.program_text.specs.TextLines.{part, ReadsWords, FrameRead}
use Rattle.program_text.proofs.Framing.{joined_length}

-- words whose first one does not fit
unfit : (ws : List ℕ) → first_word_fits (get_or ws 0 0) ≡ false → frame_fits ws ≡ false
unfit [] e = refl
unfit (w ∷ ws) e = rw e

exact-unfit : (ws : List ℕ) → first_word_fits (get_or ws 0 0) ≡ false → exact_frame_of ws ≡ None
unfolding exact_frame_of frame_of
exact-unfit ws e = rw (unfit ws e) (same (eqb (length ws) (suc (value_count (get_or ws 0 0)))))
  where
    same : (b : Bool) → ◌≡◌ {A = Option Instruction} (choose b None None) None
    same true = refl
    same false = refl

module _ (l : List ℕ) (count : ℕ) (size : length l ≡ 16 * count) where
  line-words : frame_of_line (ended l) ≡ frame_of_words (joined_words count l)
  unfolding frame_of_line
  line-words =
      let m : length l % 16 ≡ 0 = omega arith in
      let d : length l / 16 ≡ count = omega arith in
      rw (eq-eqb (length l % 16) 0 m, d)

  pub line-broken : joined_words count l ≡ None → frame_of_line (ended l) ≡ None
  line-broken e = line-words ∙ ap frame_of_words e

  -- r is how many words the first one asks for, 0 where it does not fit
  module _ (least : 1 ≤ count) (ws : List ℕ) (joined : joined_words count l ≡ Some ws) (r : ℕ)
      (asked : r ≡ choose (first_word_fits (get_or ws 0 0)) (suc (value_count (get_or ws 0 0))) 0) where
    pub line_other : (r ≡ count → ⊥) → frame_of_line (ended l) ≡ None
    unfolding exact_frame_of
    line_other n =
        line-words
        ∙ ap frame_of_words joined
        ∙ cases (first_word_fits (get_or ws 0 0))
        (λ t.
        let a : r ≡ suc (value_count (get_or ws 0 0)) = rw t at asked in
        let d = joined_length count l ws joined in
        rw (ne_eqb (length ws) (suc (value_count (get_or ws 0 0))) (λ e. n (omega arith))))
        (λ t. exact-unfit ws t)

    pub record LineHolds : Type 0 where
      pub frame : frame_of_line (ended l) ≡ Some (instruction_of ws)
      pub fits : frame_fits ws ≡ true
      pub words : count ≡ suc (value_count (get_or ws 0 0))

    pub line-holds : r ≡ count → LineHolds
    unfolding exact_frame_of frame_of
    line-holds e =
        cases (first_word_fits (get_or ws 0 0))
        (λ t.
        let a : r ≡ suc (value_count (get_or ws 0 0)) = rw t at asked in
        let d = joined_length count l ws joined in
        let x : length ws ≡ suc (value_count (get_or ws 0 0)) = omega arith in
        let f = fit_of ws x t in
        record {
          frame = line-words ∙ ap frame_of_words joined ∙ rw (eq-eqb (length ws) (suc (value_count (get_or ws 0 0))) x, f);
          fits = f;
          words = omega arith;
        })
        (λ t. let a : r ≡ 0 = rw t at asked in absurd (omega arith))
      where
        fit_of : (vs : List ℕ) → length vs ≡ suc (value_count (get_or vs 0 0)) → first_word_fits (get_or vs 0 0) ≡ true → frame_fits vs ≡ true
        fit_of [] d f = absurd (omega arith)
        fit_of (v ∷ vs) d f = rw (f, le-leb (value_count v) (length vs) (omega arith))

-- The same of a line whose words were read into a buffer

module _ (l before after : List ℕ) (used count : ℕ) (size : length l ≡ 16 * count) (least : 1 ≤ count) where
  pub read-broken : ReadsWords l count used before after None → frame_of_line (ended l) ≡ None
  read-broken r = line-broken l count size r

  module _ (r : ReadsWords l count used before after (Some tt)) (asks : ℕ)
      (asked : asks ≡ choose (first_word_fits (get_or after used 0)) (suc (value_count (get_or after used 0))) 0) where
    first : get_or after used 0 ≡ get_or (part used count after) 0 0
    first = sym (get_or-take count (drop used after) 0 0 (omega arith) ∙ get_or-drop used after 0 0 ∙ ap (λ (i : ℕ). get_or after i 0) (add-zero used))

    asked-first : asks ≡ choose (first_word_fits (get_or (part used count after) 0 0)) (suc (value_count (get_or (part used count after) 0 0))) 0
    asked-first = asked ∙ ap (λ (w : ℕ). choose (first_word_fits w) (suc (value_count w)) 0) first

    pub read-other : (asks ≡ count → ⊥) → frame_of_line (ended l) ≡ None
    read-other = line_other l count size least (part used count after) r.0 asks asked-first

    pub read_whole : asks ≡ count → FrameRead l used before after count
    read_whole e =
        let h = line-holds l count size least (part used count after) r.0 asks asked-first e in
        record {
          frame = h.frame;
          fits = h.fits;
          words = h.words;
          whole = joined_length count l (part used count after) r.0;
          long = size;
          kept = r.1;
          size = r.2;
        }
