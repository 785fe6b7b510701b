-- Where the line of a frame ends: at a line feed that only whole words stand before, so that its digits say that there is none among them.
use Rattle.std.specs.Prelude.{Option, Some, None}
use mathlib.Core.Path.{◌≡◌, refl, sym, ap, ◌∙◌, subst}
use mathlib.Core.List.{List, [], ◌∷◌, ◌++◌}
use Prim.Native.Nat.{ℕ, zero, suc, ◌+◌, ◌*◌, ◌/◌, ◌%◌, ◌≤◌, ◌<◌}
use native.Mathlib.Nat.{not-suc-le-zero, le_of_suc-le-suc}
use native.Mathlib.Omega.{arith}
use lib.Dec.{eqb, ltb}
use lib.ListN.{length, take, drop, get_or, take-append-drop}
use lib.Seq.{length-take-le}
use borrow.Author.Tests.{eq-eqb, ne_eqb, eqb-true, ltb-true, ltb-false}
use Rattle.rules.specs.declared.Instruction.{Instruction}
use Rattle.rules.specs.Frames.{value_count, exact_frame_of}
use Rattle.rules.specs.Hexadecimal.{digit_of, on_digit, digits_of, word_of}
use Rattle.rules.specs.Text.{ended, unended, line_feed, cons_word, joined_words, frame_of_words, frame_of_line, lines_of}
use Rattle.frames.proofs.Cases.{cases}
use Rattle.program.proofs.Frames.{value-count-le}
use Rattle.program_text.specs.TextLines.{line_length, WordsBefore, FindsWords, FrameRead, FrameHere, MalformedHere, ReadsLine, ReadsFrame}
use Rattle.program_text.proofs.Breaking.{length-le, lines_next, lines-last}
use Rattle.program_text.proofs.Framing.{joined-take, joined_length}

-- A line's length and its line feed

feed-there : (t : List ℕ) → line_length t < length t → get_or t (line_length t) 0 ≡ line_feed
feed-there [] h = absurd (not-suc-le-zero h)
feed-there (c ∷ cs) h =
    cases (eqb c line_feed)
    (λ e. rw e (eqb-true c line_feed e))
    (λ e. let h' : suc (line_length cs) < suc (length cs) = rw e at h in rw e (feed-there cs (le_of_suc-le-suc h')))

before-feed : (t : List ℕ) (m : ℕ) → m < length t → get_or t m 0 ≡ line_feed → line_length t ≤ m
before-feed [] m h e = absurd (not-suc-le-zero h)
before-feed (c ∷ cs) zero h e = rw (eq-eqb c line_feed e) (omega arith)
before-feed (c ∷ cs) (suc m) h e =
    let l = before-feed cs m (le_of_suc-le-suc h) e in
    cases (eqb c line_feed) (λ f. rw f (omega arith)) (λ f. rw f (omega arith))

-- No line feed among digits

digit-other : (c d : ℕ) → digit_of c ≡ Some d → c ≡ line_feed → ⊥
unfolding digit_of
digit-other c d e f = let g : ◌≡◌ {A = Option ℕ} None (Some d) = rw f at e in let z : ◌≡◌ {A = ℕ} 0 1 = cc in omega arith

digits-pass : (cs rest : List ℕ) (n v : ℕ) → digits_of n cs ≡ Some v → line_length (cs ++ rest) ≡ length cs + line_length rest
unfolding digits_of
digits-pass [] rest n v e = omega arith
digits-pass (c ∷ cs) rest n v e = go (λ m. digits-pass cs rest m v) (digit_of c) refl e
  where
    go : ((m : ℕ) → digits_of m cs ≡ Some v → line_length (cs ++ rest) ≡ length cs + line_length rest) → (w : Option ℕ) → digit_of c ≡ w
        → on_digit w (λ d. digits_of (n * 16 + d) cs) ≡ Some v → line_length ((c ∷ cs) ++ rest) ≡ suc (length cs) + line_length rest
    go ih None f e = let z : ◌≡◌ {A = ℕ} 0 1 = cc in absurd (omega arith)
    go ih (Some d) f e = rw (ne_eqb c line_feed (digit-other c d f)) (omega (arith, ih (n * 16 + d) e))

word-pass : (t : List ℕ) (v : ℕ) → word_of (take 16 t) ≡ Some v → line_length t ≡ 16 + line_length (drop 16 t)
unfolding word_of
word-pass t v e =
    cases (eqb (length (take 16 t)) 16)
    (λ b.
    let n = eqb-true (length (take 16 t)) 16 b in
    let d : digits_of 0 (take 16 t) ≡ Some v = rw b at e in
    ap line_length (sym (take-append-drop 16 t)) ∙ digits-pass (take 16 t) (drop 16 t) 0 v d ∙ ap (λ (k : ℕ). k + line_length (drop 16 t)) n)
    (λ b. let f : ◌≡◌ {A = Option ℕ} None (Some v) = rw b at e in let z : ◌≡◌ {A = ℕ} 0 1 = cc in absurd (omega arith))

words-pass : (n : ℕ) (t ws : List ℕ) → joined_words n t ≡ Some ws → 16 * n ≤ line_length t
unfolding joined_words
words-pass zero t ws e = omega arith
words-pass (suc n) t ws e = go (words-pass n (drop 16 t)) (word_of (take 16 t)) (joined_words n (drop 16 t)) refl refl e
  where
    go : ((vs : List ℕ) → joined_words n (drop 16 t) ≡ Some vs → 16 * n ≤ line_length (drop 16 t)) → (w : Option ℕ) (r : Option (List ℕ))
        → word_of (take 16 t) ≡ w → joined_words n (drop 16 t) ≡ r → cons_word w r ≡ Some ws → 16 * suc n ≤ line_length t
    go ih None r f g e = let z : ◌≡◌ {A = ℕ} 0 1 = cc in absurd (omega arith)
    go ih (Some v) None f g e = let z : ◌≡◌ {A = ℕ} 0 1 = cc in absurd (omega arith)
    go ih (Some v) (Some vs) f g e = omega (arith, ih vs g, word-pass t v f)

-- A frame's line: whole words, one to four

record FrameLine (l : List ℕ) : Type 0 where
  pub n : ℕ
  pub least : 1 ≤ n
  pub most : n ≤ 4
  pub whole : length l ≡ 16 * n
  pub ws : List ℕ
  pub joined : joined_words n l ≡ Some ws

malformed-not : {A : Type 0} (i : Instruction) → ◌≡◌ {A = Option Instruction} None (Some i) → A
malformed-not i e = let z : ◌≡◌ {A = ℕ} 0 1 = cc in absurd (omega arith)

exact-length : (ws : List ℕ) (i : Instruction) → exact_frame_of ws ≡ Some i → length ws ≡ suc (value_count (get_or ws 0 0))
unfolding exact_frame_of
exact-length ws i e =
    cases (eqb (length ws) (suc (value_count (get_or ws 0 0))))
    (λ t. eqb-true (length ws) (suc (value_count (get_or ws 0 0))) t)
    (λ t. malformed-not i (rw t at e))

frame-line : (l : List ℕ) (i : Instruction) → frame_of_line (ended l) ≡ Some i → FrameLine l
unfolding frame_of_line
frame-line l i e =
    cases (eqb (length l % 16) 0)
    (λ t.
    let m = eqb-true (length l % 16) 0 t in
    let f : frame_of_words (joined_words (length l / 16) l) ≡ Some i = rw t at e in
    go m (joined_words (length l / 16) l) refl f)
    (λ t. malformed-not i (rw t at e))
  where
    go : length l % 16 ≡ 0 → (o : Option (List ℕ)) → joined_words (length l / 16) l ≡ o → frame_of_words o ≡ Some i → FrameLine l
    go m None j f = malformed-not i f
    go m (Some ws) j f =
        let d = joined_length (length l / 16) l ws j in
        let x = exact-length ws i f in
        let v = value-count-le (get_or ws 0 0) in
        record { n = length l / 16; least = omega arith; most = omega arith; whole = omega arith; ws = ws; joined = j }

-- The first line of a text

pub frame_here : {text before after : List ℕ} {n used count : ℕ} → WordsBefore text n → FrameRead (take (16 * n) text) used before after count
    → FrameHere text used before after count
frame_here {text} {before} {after} {n} {used} {count} w r =
    let inside = w.inside in
    let size = length-take-le (16 * n) text (omega arith) in
    let long = r.long in
    let m : n ≡ count = omega arith in
    let l = frame-line (take (16 * n) text) _ r.frame in
    let whole = l.whole in
    let joined = sym (joined-take l.n (16 * n) text (omega arith)) ∙ l.joined in
    let there = words-pass l.n text l.ws joined in
    let here = before-feed text (16 * n) inside w.feed in
    record {
      ends = omega arith;
      inside = omega arith;
      read = subst (λ (k : ℕ). FrameRead (take (16 * k) text) used before after count) m r;
    }

-- what stands before the first line feed is a frame's where the words before a feed are
abbrev frame_to : List ℕ → ℕ → Option Instruction
frame_to text e = frame_of_line (ended (take e text))

module _ (text : List ℕ) (h : line_length text < length text) (i : Instruction) (g : frame_to text (line_length text) ≡ Some i) where
  first-line : FrameLine (take (line_length text) text)
  first-line = frame-line (take (line_length text) text) i g

  feed-behind : (k : ℕ) → line_length text ≡ 16 * k → get_or text (16 * k) 0 ≡ line_feed
  feed-behind k e = subst (λ (m : ℕ). get_or text m 0 ≡ line_feed) e (feed-there text h)

  nothing-found : FindsWords text None → ⊥
  nothing-found none =
      let size = length-take-le (line_length text) text (omega arith) in
      let whole = first-line.whole in
      none first-line.n first-line.least first-line.most (omega arith) (feed-behind first-line.n (omega arith))

  found-there : {n : ℕ} → WordsBefore text n → frame_to text (16 * n) ≡ Some i
  found-there {n} w =
      let size = length-take-le (line_length text) text (omega arith) in
      let whole = first-line.whole in
      let least = first-line.least in
      let here = before-feed text (16 * n) w.inside w.feed in
      let e : line_length text ≡ 16 * n =
      cases (ltb first-line.n n)
      (λ t. absurd (w.first first-line.n least (ltb-true first-line.n n t) (feed-behind first-line.n (omega arith))))
      (λ t. let f = ltb-false first-line.n n t in omega arith)
      in
      ap (frame_to text) (sym e) ∙ g

malformed-line : (text : List ℕ) → 0 < length text → ((i : Instruction) → line_length text < length text → frame_to text (line_length text) ≡ Some i → ⊥) → MalformedHere text
unfolding frame_of_line
malformed-line text h never =
    cases (ltb (line_length text) (length text))
    (λ t.
    let i = ltb-true (line_length text) (length text) t in
    record {
      line = ended (take (line_length text) text);
      rest = lines_of (drop (line_length text + 1) text);
      lines = lines_next text i;
      malformed = only (λ j g. never j i g) (frame_to text (line_length text)) refl;
    })
    (λ t.
    let g = ltb-false (line_length text) (length text) t in
    let l = length-le text in
    record { line = unended; rest = []; lines = lines-last text h (omega arith); malformed = refl })
  where
    only : ((i : Instruction) → frame_to text (line_length text) ≡ Some i → ⊥) → (x : Option Instruction) → frame_to text (line_length text) ≡ x → frame_to text (line_length text) ≡ None
    only never None g = g
    only never (Some i) g = absurd (never i g)

pub malformed-unfound : (text : List ℕ) → 0 < length text → FindsWords text None → MalformedHere text
malformed-unfound text h none = malformed-line text h (λ i l g. nothing-found text l i g none)

pub frame-or-malformed : {text : List ℕ} {n : ℕ} (before after : List ℕ) (used : ℕ) → 0 < length text → WordsBefore text n → (r : Option ℕ)
    → ReadsLine (take (16 * n) text) used before after r → ReadsFrame text used before after r
frame-or-malformed {text} before after used h w (Some count) q = frame_here w q
frame-or-malformed {text} before after used h w None q = malformed-line text h (λ i l g. malformed-not i (sym q ∙ found-there text l i g w))

pub line-here : {text before after : List ℕ} {used count : ℕ} → FrameHere text used before after count
    → lines_of text ≡ ended (take (16 * count) text) ∷ lines_of (drop (16 * count + 1) text)
line-here {text} {before} {after} {used} {count} h =
    let inside = h.inside in
    let e = h.ends in
    lines_next text (omega arith) ∙ ap (λ (k : ℕ). ended (take k text) ∷ lines_of (drop (k + 1) text)) e
