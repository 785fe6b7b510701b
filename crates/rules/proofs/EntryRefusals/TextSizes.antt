-- How long a text is that is read: its lines have at most 64 digits, and there are at most 512.
use Rattle.std.specs.Prelude.{Option, Some, None}
use Prim.Native.Nat.{ℕ, zero, suc, ◌+◌, ◌*◌, ◌/◌, ◌%◌, ◌≤◌}
use mathlib.Core.Path.{◌≡◌, refl, sym, ap, ◌∙◌}
use mathlib.Core.Bool.{Bool, true, false, ◌||◌}
use mathlib.Core.List.{List, [], ◌∷◌, ◌++◌, map}
use native.Mathlib.Omega.{arith}
use lib.Dec.{leb, eqb}
use lib.ListN.{length, get_or, take, drop, length-append, length-map}
use borrow.Author.Tests.{leb-true, eqb-true, not-true}
use Rattle.rules.specs.declared.Instruction.{Instruction}
use Rattle.rules.specs.Numbers.{frame_limit, choose}
use Rattle.rules.specs.Results.{pass}
use Rattle.rules.specs.Hexadecimal.{digits_of, word_of}
use Rattle.rules.specs.Frames.{takes_value, kind0, kind1, kind_dst, value_count, frame_of, exact_frame_of, is_malformed, any_of, count_fits, load_frames}
use Rattle.rules.specs.Text.{Line, ended, unended, line_feed, lines_after, lines_of, cons_word, joined_words, frame_of_words, frame_of_line, load_text, Job, budget_of, is_not_hex, load_job, load_budget_text}
use Rattle.rules.proofs.Laws.BoolLaws.{false-true, and_right, or_left, or_right, bit-one}
use Rattle.rules.proofs.Laws.ResultLaws.{refuse-pass, require-pass}

-- A line

three-values : (w : ℕ) → value_count w ≤ 3
three-values w =
    let a = bit-one (takes_value (kind0 w)) in
    let b = bit-one (takes_value (kind1 w)) in
    let d = bit-one (takes_value (kind_dst w)) in
    omega arith

four-words : (ws : List ℕ) → is_malformed (exact_frame_of ws) ≡ false → length ws ≤ 4
unfolding exact_frame_of
four-words ws h = go (eqb (length ws) (suc (value_count (get_or ws 0 0)))) refl h
  where
    go : (t : Bool) → eqb (length ws) (suc (value_count (get_or ws 0 0))) ≡ t → is_malformed (choose t (frame_of ws) None) ≡ false → length ws ≤ 4
    go true e h =
        let l = eqb-true (length ws) (suc (value_count (get_or ws 0 0))) e in
        let v = three-values (get_or ws 0 0) in
        omega arith
    go false e h = absurd (false-true (sym h))

-- n words are read as n words
joined_length : (n : ℕ) (l ws : List ℕ) → joined_words n l ≡ Some ws → length ws ≡ n
unfolding joined_words
joined_length zero l ws e = let z : [] ≡ ws = cc in ap length (sym z)
joined_length (suc n) l ws e = go (word_of (take 16 l)) (joined_words n (drop 16 l)) (joined_length n (drop 16 l)) e
  where
    go : (w : Option ℕ) (r : Option (List ℕ)) → ((us : List ℕ) → r ≡ Some us → length us ≡ n) → cons_word w r ≡ Some ws → length ws ≡ suc n
    go None r h e = absurd (let z : ◌≡◌ {A = ℕ} 0 1 = cc in omega arith)
    go (Some w) None h e = absurd (let z : ◌≡◌ {A = ℕ} 0 1 = cc in omega arith)
    go (Some w) (Some us) h e = let z : w ∷ us ≡ ws = cc in ap length (sym z) ∙ ap suc (h us refl)

line-short : (l : List ℕ) → is_malformed (frame_of_line (ended l)) ≡ false → length l ≤ 64
unfolding frame_of_line
line-short l h = go (eqb (length l % 16) 0) refl h
  where
    words : (r : Option (List ℕ)) → joined_words (length l / 16) l ≡ r → is_malformed (frame_of_words r) ≡ false → length l / 16 ≤ 4
    words None e h = absurd (false-true (sym h))
    words (Some ws) e h = let n = joined_length (length l / 16) l ws e in let f = four-words ws h in omega arith

    go : (t : Bool) → eqb (length l % 16) 0 ≡ t → is_malformed (choose t (frame_of_words (joined_words (length l / 16) l)) None) ≡ false → length l ≤ 64
    go true e h = let m = eqb-true (length l % 16) 0 e in let q = words (joined_words (length l / 16) l) refl h in omega arith
    go false e h = absurd (false-true (sym h))

-- All lines

abbrev some_malformed : List Line → Bool
some_malformed ls = any_of (map is_malformed (map frame_of_line ls))

-- a line feed ends a line, whatever stands before
pub lines_step : (l : List ℕ) (c : ℕ) (cs : List ℕ) → lines_after l (c ∷ cs) ≡ choose (eqb c line_feed) (ended l ∷ lines_after [] cs) (lines_after (l ++ (c ∷ [])) cs)
unfolding lines_after
lines_step [] c cs = refl
lines_step (d ∷ l) c cs = refl

lines-short : (l cs : List ℕ) → some_malformed (lines_after l cs) ≡ false → length l + length cs ≤ length (lines_after l cs) * 65
unfolding lines_after frame_of_line
lines-short [] [] h = omega arith
lines-short (d ∷ l) [] h = absurd (false-true (sym h))
lines-short l (c ∷ cs) h = rw (lines_step l c cs) (go (eqb c line_feed) (lines-short [] cs) (lines-short (l ++ (c ∷ [])) cs) (rw (lines_step l c cs) at h))
  where
    go : (t : Bool) → (some_malformed (lines_after [] cs) ≡ false → 0 + length cs ≤ length (lines_after [] cs) * 65)
        → (some_malformed (lines_after (l ++ (c ∷ [])) cs) ≡ false → length (l ++ (c ∷ [])) + length cs ≤ length (lines_after (l ++ (c ∷ [])) cs) * 65)
        → some_malformed (choose t (ended l ∷ lines_after [] cs) (lines_after (l ++ (c ∷ [])) cs)) ≡ false
        → length l + length (c ∷ cs) ≤ length (choose t (ended l ∷ lines_after [] cs) (lines_after (l ++ (c ∷ [])) cs)) * 65
    go true next on h =
        let first = line-short l (or_left (is_malformed (frame_of_line (ended l))) (some_malformed (lines_after [] cs)) h) in
        let rest = next (or_right (is_malformed (frame_of_line (ended l))) (some_malformed (lines_after [] cs)) h) in
        omega arith
    go false next on h = let k = on h in let n = length-append l (c ∷ []) in omega arith

frames-at-most : (ls : List Line) → count_fits (map frame_of_line ls) ≡ true → length ls ≤ 512
unfolding count_fits frame_limit
frames-at-most ls h =
    let n = length-map ls frame_of_line in
    let l = leb-true (length (map frame_of_line ls)) frame_limit (and_right (leb 1 (length (map frame_of_line ls))) (leb (length (map frame_of_line ls)) frame_limit) h) in
    omega arith

pub program-short : (text : List ℕ) (program : List Instruction) → load_text text ≡ pass program → length text ≤ 512 * 65
unfolding load_text load_frames
program-short text program e =
    let counted = require-pass _ _ _ (require-pass _ _ _ e).1 in
    let formed = require-pass _ _ _ counted.1 in
    let n = frames-at-most (lines_of text) counted.0 in
    let l = lines-short [] text (not-true (some_malformed (lines_of text)) formed.0) in
    omega arith

-- The budget line

budget-short : (l : List ℕ) → is_not_hex (budget_of (ended l)) ≡ false → length l ≡ 16
unfolding budget_of word_of
budget-short l h = go (eqb (length l) 16) refl h
  where
    go : (t : Bool) → eqb (length l) 16 ≡ t → is_not_hex (choose t (digits_of 0 l) None) ≡ false → length l ≡ 16
    go true e h = eqb-true (length l) 16 e
    go false e h = absurd (false-true (sym h))

after-budget : (l cs : List ℕ) (b : Line) (ls : List Line) → lines_after l cs ≡ b ∷ ls → is_not_hex (budget_of b) ≡ false → some_malformed ls ≡ false
    → length l + length cs ≤ 17 + length ls * 65
unfolding lines_after budget_of
after-budget [] [] b ls e h k = absurd (let z : ◌≡◌ {A = ℕ} 0 1 = cc in omega arith)
after-budget (d ∷ l) [] b ls e h k = let z : b ≡ unended = cc in absurd (false-true (sym h ∙ ap (λ b. is_not_hex (budget_of b)) z))
after-budget l (c ∷ cs) b ls e h k = go (eqb c line_feed) (after-budget (l ++ (c ∷ [])) cs b ls) (rw (lines_step l c cs) at e)
  where
    go : (t : Bool)
        → (lines_after (l ++ (c ∷ [])) cs ≡ b ∷ ls → is_not_hex (budget_of b) ≡ false → some_malformed ls ≡ false → length (l ++ (c ∷ [])) + length cs ≤ 17 + length ls * 65)
        → choose t (ended l ∷ lines_after [] cs) (lines_after (l ++ (c ∷ [])) cs) ≡ b ∷ ls → length l + length (c ∷ cs) ≤ 17 + length ls * 65
    go true on e =
        let first : b ≡ ended l = cc in
        let rest : ls ≡ lines_after [] cs = cc in
        let n = budget-short l (sym (ap (λ b. is_not_hex (budget_of b)) first) ∙ h) in
        let m = lines-short [] cs (sym (ap some_malformed rest) ∙ k) in
        let q = ap length rest in
        omega arith
    go false on e = let m = on e h k in let n = length-append l (c ∷ []) in omega arith

pub job-short : (text : List ℕ) (job : Job) → load_budget_text text ≡ pass job → length text ≤ 17 + 512 * 65
unfolding load_budget_text load_job
job-short text job e = go (lines_of text) refl (require-pass _ _ _ e).1
  where
    go : (ls : List Line) → lines_of text ≡ ls → load_job ls ≡ pass job → length text ≤ 17 + 512 * 65
    go [] f e = refuse-pass e
    go (b ∷ ls) f e =
        let counted = require-pass _ _ _ e in
        let formed = require-pass _ _ _ counted.1 in
        let n = frames-at-most ls counted.0 in
        let None = not-true (is_not_hex (budget_of b) || some_malformed ls) formed.0 in
        let l = after-budget [] text b ls f (or_left (is_not_hex (budget_of b)) (some_malformed ls) None) (or_right (is_not_hex (budget_of b)) (some_malformed ls) None) in
        omega arith
