-- Breaking a text into lines: the first line ends at the first line feed, or with the text.
use mathlib.Core.Path.{◌≡◌, refl, sym, ap, ◌∙◌}
use mathlib.Core.List.{List, [], ◌∷◌, ◌++◌, append-nil, append_assoc}
use Prim.Native.Nat.{ℕ, zero, suc, ◌+◌, ◌≤◌, ◌<◌}
use native.Mathlib.Nat.{not-suc-le-zero, le_of_suc-le-suc}
use native.Mathlib.Omega.{arith}
use lib.Dec.{eqb, ltb}
use native.Mathlib.Numerals.{add-one}
use lib.ListN.{length, take, drop}
use borrow.Author.Tests.{ne_eqb, lt-ltb, le-ltb, ltb-true, ltb-false}
use Rattle.std.specs.Prelude.{not, Option, Some, None, nat_eq}
use Rattle.std.specs.List.{position, position_or_len}
use Rattle.rules.specs.Text.{ended, unended, line_feed, lines_after, lines_of}
use Rattle.rules.proofs.EntryRefusals.TextSizes.{lines_step}
use Rattle.frames.proofs.Cases.{cases}
use Rattle.program_text.specs.TextLines.{line_length}

-- the first line feed's position, as std has it; where there is none, the text's length
length-position : (t : List ℕ) → position_or_len (λ c. nat_eq c line_feed) t ≡ line_length t
length-position [] = refl
length-position (c ∷ cs) = let ih = length-position cs in cases (eqb c line_feed) (λ e. rw e) (λ e. rw e (omega arith))

-- the first line feed ends the line
ends : (l t : List ℕ) → line_length t < length t → lines_after l t ≡ ended (l ++ take (line_length t) t) ∷ lines_after [] (drop (suc (line_length t)) t)
ends l [] h = absurd (not-suc-le-zero h)
ends l (c ∷ cs) h =
    cases (eqb c line_feed)
    (λ e. lines_step l c cs ∙ rw (e, append-nil))
    (λ e.
    let h' : suc (line_length cs) < suc (length cs) = rw e at h in
    lines_step l c cs ∙ rw e (ends (l ++ (c ∷ [])) cs (le_of_suc-le-suc h') ∙ rw append_assoc))

-- and where there is none, the rest is not ended
runs-out : (d : ℕ) (l t : List ℕ) → line_length t ≡ length t → lines_after (d ∷ l) t ≡ unended ∷ []
unfolding lines_after
runs-out d l [] e = refl
runs-out d l (c ∷ cs) e =
    cases (eqb c line_feed)
    (λ f. let e' : zero ≡ suc (length cs) = rw f at e in absurd (omega arith))
    (λ f. let e' : suc (line_length cs) ≡ suc (length cs) = rw f at e in rw f (runs-out d (l ++ (c ∷ [])) cs (omega arith)))

runs-out-first : (t : List ℕ) → 0 < length t → line_length t ≡ length t → lines_after [] t ≡ unended ∷ []
unfolding lines_after
runs-out-first [] p e = absurd (not-suc-le-zero p)
runs-out-first (c ∷ cs) p e =
    cases (eqb c line_feed)
    (λ f. let e' : zero ≡ suc (length cs) = rw f at e in absurd (omega arith))
    (λ f. let e' : suc (line_length cs) ≡ suc (length cs) = rw f at e in rw f (runs-out c [] cs (omega arith)))

pub length-le : (t : List ℕ) → line_length t ≤ length t
length-le [] = omega arith
length-le (c ∷ cs) = cases (eqb c line_feed) (λ e. rw e (omega arith)) (λ e. let h = length-le cs in rw e (omega arith))

-- The lines of a text

pub lines_none : (t : List ℕ) → length t ≡ 0 → lines_of t ≡ []
unfolding lines_after
lines_none [] e = refl
lines_none (c ∷ cs) e = let z : suc (length cs) ≡ zero = e in absurd (omega arith)

pub lines_next : (t : List ℕ) → line_length t < length t → lines_of t ≡ ended (take (line_length t) t) ∷ lines_of (drop (line_length t + 1) t)
lines_next t h = rw add-one (ends [] t h)

pub lines-last : (t : List ℕ) → 0 < length t → line_length t ≡ length t → lines_of t ≡ unended ∷ []
lines-last = runs-out-first

-- where characters are left there is a line
pub lines-some : (t : List ℕ) → 0 < length t → 1 ≤ length (lines_of t)
lines-some t p =
    let l = length-le t in
    cases (ltb (line_length t) (length t))
    (λ e. rw (ends [] t (ltb-true (line_length t) (length t) e)) (omega arith))
    (λ e. let g = ltb-false (line_length t) (length t) e in let q : line_length t ≡ length t = omega arith in rw (runs-out-first t p q) (omega arith))

-- the lines that are left
pub last-line : (t : List ℕ) → line_length t ≡ length t → length (lines_of t) ≤ 1
last-line t e =
    cases (ltb 0 (length t))
    (λ p. rw (lines-last t (ltb-true 0 (length t) p) e) (omega arith))
    (λ p. let g = ltb-false 0 (length t) p in rw (lines_none t (omega arith)) (omega arith))

-- behind so many lines: is there one more?
pub rest-more : (t : List ℕ) (limit n : ℕ) → n ≡ limit + length (lines_of t) → not (nat_eq (length t) 0) ≡ ltb limit n
rest-more [] limit n e = let z = ap length (lines_none [] refl) in sym (le-ltb limit n (omega arith))
rest-more (c ∷ cs) limit n e =
    let s = lines-some (c ∷ cs) (omega arith) in
    rw (ne_eqb (suc (length cs)) 0 (λ q. omega arith)) (sym (lt-ltb limit n (omega arith)))

-- what the first line feed's place, or that there is none, says of the first line
abbrev EndsAt : List ℕ → Option ℕ → Type 0
EndsAt text (Some n) = (n ≡ line_length text) × (n < length text)
EndsAt text None = line_length text ≡ length text

pub ends-at : (t : List ℕ) (r : Option ℕ) → r ≡ position (λ c. nat_eq c line_feed) t → EndsAt t r
ends-at t r f =
    let l = length-le t in
    let e = length-position t in
    rw f (cases (ltb (line_length t) (length t))
    (λ p. rw (e, p) (refl, ltb-true (line_length t) (length t) p))
    (λ p. let g = ltb-false (line_length t) (length t) p in rw (e, p) (omega arith)))
