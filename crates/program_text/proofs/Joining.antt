-- Joined words: one more word read, and what stands in the buffer.
use Rattle.std.specs.Prelude.{Option, Some, None}
use Rattle.std.specs.Simd.{first_chunks}
use mathlib.Core.Path.{◌≡◌, refl, sym, ap, ◌∙◌}
use mathlib.Core.List.{List, [], ◌∷◌, ◌++◌, append-nil, append_assoc}
use Prim.Native.Nat.{ℕ, zero, suc, ◌+◌, ◌*◌, ◌-◌, ◌≤◌, ◌<◌}
use native.Mathlib.Nat.{not-suc-le-zero, le_of_suc-le-suc}
use native.Mathlib.Numerals.{add-one}
use native.Mathlib.Omega.{arith}
use lib.ListN.{length, take, drop, set, get_or, length-drop, length-set}
use lib.Seq.{drop-drop, take-set-le, drop-set-add, take-suc-set}
use Rattle.rules.specs.Numbers.{word_limit}
use Rattle.rules.specs.Hexadecimal.{word_of}
use Rattle.rules.specs.Text.{cons_word, joined_words}
use Rattle.program_text.specs.TextLines.{part}

-- words before what joined words give
abbrev pub after : List ℕ → Option (List ℕ) → Option (List ℕ)
after vs None = None
after vs (Some ws) = Some (vs ++ ws)

after-cons : (vs : List ℕ) (v : ℕ) (r : Option (List ℕ)) → after vs (cons_word (Some v) r) ≡ after (vs ++ (v ∷ [])) r
after-cons vs v None = refl
after-cons vs v (Some ws) = ap Some (sym (append_assoc vs (v ∷ []) ws))

after-nil : (r : Option (List ℕ)) → r ≡ after [] r
after-nil None = refl
after-nil (Some ws) = refl

-- what is known after i of the words: those are in the buffer behind the ones in use
pub record Joined (t : List ℕ) (count used : ℕ) (before words : List ℕ) (i : ℕ) : Type 0 where
  pub within : i ≤ count
  pub size : length words ≡ word_limit
  pub kept : take used words ≡ take used before
  pub joined : joined_words count t ≡ after (part used i words) (joined_words (count - i) (drop (16 * i) t))

pub joined-none : (t : List ℕ) (count used : ℕ) (words : List ℕ) → length words ≡ word_limit → Joined t count used words words 0
joined-none t count used words s =
    let e : count - 0 ≡ count = omega arith in
    record { within = omega arith; size = s; kept = refl; joined = rw e (after-nil (joined_words count t)) }

-- the next word, of those that are left
next-is : (t : List ℕ) (left less i : ℕ) (v : Option ℕ) → left ≡ less + 1 → 16 * i + 16 ≡ 16 * (i + 1) → word_of (take 16 (drop (16 * i) t)) ≡ v
    → joined_words left (drop (16 * i) t) ≡ cons_word v (joined_words less (drop (16 * (i + 1)) t))
unfolding joined_words
next-is t left less i v e m w = rw (e, add-one less, drop-drop 16 (16 * i) t, m, w)

pub joined-next : {t before words : List ℕ} {count used i : ℕ} (v : ℕ) → Joined t count used before words i → i < count → used + count ≤ word_limit
    → word_of (take 16 (drop (16 * i) t)) ≡ Some v
    → Joined t count used before (set words (used + i) v) (i + 1)
joined-next {t} {before} {words} {count} {used} {i} v j h fits e =
    let s = j.size in
    let d = length-drop used words in
    let one : part used (i + 1) (set words (used + i) v) ≡ part used i words ++ (v ∷ []) =
    rw (add-one i, drop-set-add used words i v) (take-suc-set (drop used words) i v (omega arith))
    in
    record {
      within = omega arith;
      size = length-set words (used + i) v ∙ s;
      kept = take-set-le used words (used + i) v (omega arith) ∙ j.kept;
      joined =
          j.joined
          ∙ ap (after (part used i words)) (next-is t (count - i) (count - (i + 1)) i (Some v) (omega arith) (omega arith) e)
          ∙ after-cons (part used i words) v (joined_words (count - (i + 1)) (drop (16 * (i + 1)) t))
          ∙ ap (λ (vs : List ℕ). after vs (joined_words (count - (i + 1)) (drop (16 * (i + 1)) t))) (sym one);
    }

pub joined-other : {t before words : List ℕ} {count used i : ℕ} → Joined t count used before words i → i < count → word_of (take 16 (drop (16 * i) t)) ≡ None → joined_words count t ≡ None
joined-other {t} {before} {words} {count} {used} {i} j h e =
    j.joined ∙ ap (after (part used i words)) (next-is t (count - i) (count - (i + 1)) i None (omega arith) (omega arith) e)

pub joined-all : {t before words : List ℕ} {count used i : ℕ} → Joined t count used before words i → count ≤ i → joined_words count t ≡ Some (part used count words)
unfolding joined_words
joined-all {t} {before} {words} {count} {used} {i} j h =
    let w = j.within in
    let z : count - i ≡ 0 = omega arith in
    let n : i ≡ count = omega arith in
    j.joined ∙ rw (z, append-nil, n)

-- sixteen characters of a text, as `as_chunks` has them
pub chunk : (n i : ℕ) (t : List ℕ) → i < n → get_or (first_chunks 16 n t) i [] ≡ take 16 (drop (16 * i) t)
chunk zero i t h = absurd (not-suc-le-zero h)
chunk (suc n) zero t h = refl
chunk (suc n) (suc i) t h =
    let e : 16 + 16 * i ≡ 16 * suc i = omega arith in
    chunk n i (drop 16 t) (le_of_suc-le-suc h) ∙ ap (take 16) (drop-drop (16 * i) 16 t ∙ ap (λ (k : ℕ). drop k t) e)
