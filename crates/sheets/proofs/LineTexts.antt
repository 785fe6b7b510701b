-- The text of lines: how long it is, that it is digits and a line feed, that its digits read back, and where each line stands.
use Prim.Native.Nat.{ℕ, zero, suc, ◌+◌, ◌*◌, ◌-◌, ◌/◌, ◌%◌, ◌<◌}
use native.Mathlib.Nat.{mod-lt}
use mathlib.Core.Path.{◌≡◌, refl, ap, subst, ◌∙◌}
use mathlib.Core.Bool.{Bool, true, false}
use mathlib.Core.List.{List, [], ◌∷◌, ◌++◌, append_assoc}
use native.Mathlib.Omega.{arith}
use lib.Dec.{ltb}
use lib.ListN.{length, get_or, take, drop, length-append, get_or-append}
use lib.Seq.{take_at, get_or_at, drop-append-add, get_or-append-add}
use borrow.Author.Tests.{ltb-true, ltb-false, le-leb, lt-leb}
use Rattle.rules.specs.Numbers.{word_end, choose}
use Rattle.rules.specs.Hexadecimal.{word_of, digit_char, low_digits, digits16}
use Rattle.rules.specs.Text.{line_feed}
use Rattle.hexadecimal.proofs.Words.{low-length, word_read}
use Rattle.sheets.specs.Lines.{line_text, lines_text, line_bytes}
use Rattle.sheets.specs.SheetLines.{is_digit, LineReads}

-- A digit

digit-is : (d : ℕ) → d < 16 → is_digit (digit_char d) ≡ true
digit-is d h = go (ltb d 10) refl
  where
    go : (b : Bool) → ltb d 10 ≡ b → is_digit (choose b (d + 48) (d + 87)) ≡ true
    go true l =
        let k = ltb-true d 10 l in
        simp (le-leb 48 (d + 48) (omega arith), le-leb (d + 48) 57 (omega arith))
    go false l =
        let k = ltb-false d 10 l in
        simp (
          lt-leb (d + 87) 57 (omega arith),
          le-leb 48 (d + 87) (omega arith),
          le-leb 97 (d + 87) (omega arith),
          le-leb (d + 87) 102 (omega arith),
        )

-- each character is a digit
low-digits : (n v i : ℕ) → i < n → is_digit (get_or (low_digits n v) i 0) ≡ true
unfolding low_digits
low-digits zero v i h = absurd (omega arith)
low-digits (suc n) v i h = go (low-digits n (v / 16) i) (ltb i n) refl
  where
    go : (i < n → is_digit (get_or (low_digits n (v / 16)) i 0) ≡ true) → (b : Bool) → ltb i n ≡ b
        → is_digit (get_or (low_digits n (v / 16) ++ (digit_char (v % 16) ∷ [])) i 0) ≡ true
    go ih true l =
        let k = ltb-true i n l in
        ap is_digit (get_or-append (low_digits n (v / 16)) (digit_char (v % 16) ∷ []) 0 i (omega (arith, low-length n (v / 16)))) ∙ ih k
    go ih false l =
        let k = ltb-false i n l in
        ap is_digit (get_or_at (low_digits n (v / 16)) (digit_char (v % 16)) [] 0 i (low-length n (v / 16) ∙ omega arith)) ∙ digit-is (v % 16)
        (mod-lt v (omega arith))

-- One line

pub line-length : (l : List ℕ) → length (line_text l) ≡ 16 * length l + 1
unfolding line_text
line-length [] = refl
line-length (w ∷ ws) = length-append (digits16 w) (line_text ws) ∙ omega (arith, low-length 16 w, line-length ws)

-- what follows the first word's digits
from_second : (w : ℕ) (cs : List ℕ) (n : ℕ) → drop (16 + n) (digits16 w ++ cs) ≡ drop n cs
from_second w cs n = subst (λ k. drop (k + n) (digits16 w ++ cs) ≡ drop n cs) (low-length 16 w) (drop-append-add (digits16 w) cs n)

at_second : (w : ℕ) (cs : List ℕ) (n : ℕ) → get_or (digits16 w ++ cs) (16 + n) 0 ≡ get_or cs n 0
at_second w cs n = subst (λ k. get_or (digits16 w ++ cs) (k + n) 0 ≡ get_or cs n 0) (low-length 16 w) (get_or-append-add (digits16 w) cs n 0)

line-digits : (l : List ℕ) (i : ℕ) → i < 16 * length l → is_digit (get_or (line_text l) i 0) ≡ true
unfolding line_text
line-digits [] i h = absurd (omega arith)
line-digits (w ∷ ws) i h = go (line-digits ws) (ltb i 16) refl
  where
    go : ((i : ℕ) → i < 16 * length ws → is_digit (get_or (line_text ws) i 0) ≡ true) → (b : Bool) → ltb i 16 ≡ b
        → is_digit (get_or (digits16 w ++ line_text ws) i 0) ≡ true
    go ih true l =
        let k = ltb-true i 16 l in
        ap is_digit (get_or-append (digits16 w) (line_text ws) 0 i (omega (arith, low-length 16 w))) ∙ low-digits 16 w i k
    go ih false l =
        let k = ltb-false i 16 l in
        ap (λ i. is_digit (get_or (digits16 w ++ line_text ws) i 0)) (omega arith)
        ∙ ap is_digit (at_second w (line_text ws) (i - 16))
        ∙ ih (i - 16) (omega arith)

line_word : (l : List ℕ) (i : ℕ) → i < length l → take 16 (drop (16 * i) (line_text l)) ≡ digits16 (get_or l i 0)
unfolding line_text
line_word [] i h = absurd (omega arith)
line_word (w ∷ ws) zero h = take_at (digits16 w) (line_text ws) 16 (low-length 16 w)
line_word (w ∷ ws) (suc i) h =
    let e : 16 * suc i ≡ 16 + 16 * i = omega arith in
    ap (λ n. take 16 (drop n (digits16 w ++ line_text ws))) e ∙ ap (take 16) (from_second w (line_text ws) (16 * i)) ∙ line_word ws i
    (omega arith)

line-end : (l : List ℕ) → get_or (line_text l) (16 * length l) 0 ≡ line_feed
unfolding line_text
line-end [] = refl
line-end (w ∷ ws) = ap (λ n. get_or (digits16 w ++ line_text ws) n 0) (omega arith) ∙ at_second w (line_text ws) (16 * length ws) ∙ line-end ws

pub line_reads : (l : List ℕ) → length l ≡ 16 → LineReads l
unfolding line_bytes word_end
line_reads l h =
    record {
      bytes = line-length l ∙ omega arith;
      digits = λ i k. line-digits l i (omega arith);
      reads = λ i k b. ap word_of (line_word l i (omega arith)) ∙ word_read (get_or l i 0) b;
      ends = ap (λ n. get_or (line_text l) n 0) (omega arith) ∙ line-end l;
    }

-- Lines of 16 words each

abbrev pub Sixteen : List (List ℕ) → Type 0
Sixteen ls = (j : ℕ) → j < length ls → length (get_or ls j []) ≡ 16

one-length : (l : List ℕ) → length l ≡ 16 → length (line_text l) ≡ line_bytes
one-length l h = (line_reads l h).bytes

pub lines-length : (ls : List (List ℕ)) → Sixteen ls → length (lines_text ls) ≡ line_bytes * length ls
unfolding lines_text line_bytes
lines-length [] h = refl
lines-length (l ∷ ls) h =
    length-append (line_text l) (lines_text ls)
    ∙ omega (arith, one-length l (h 0 (omega arith)), lines-length ls (λ j k. h (suc j) (omega arith)))

-- where line j stands
pub line-at : (ls : List (List ℕ)) → Sixteen ls → (behind : List ℕ) (j : ℕ) → j < length ls
    → take line_bytes (drop (line_bytes * j) (lines_text ls ++ behind)) ≡ line_text (get_or ls j [])
unfolding lines_text line_bytes
line-at [] h behind j k = absurd (omega arith)
line-at (l ∷ ls) h behind zero k =
    ap (take 257) (append_assoc (line_text l) (lines_text ls) behind) ∙ take_at (line_text l) (lines_text ls ++ behind) 257
    (one-length l (h 0 (omega arith)))
line-at (l ∷ ls) h behind (suc j) k =
    let e : 257 * suc j ≡ length (line_text l) + 257 * j = omega (arith, one-length l (h 0 (omega arith))) in
    ap (λ cs. take 257 (drop (257 * suc j) cs)) (append_assoc (line_text l) (lines_text ls) behind)
    ∙ ap (λ n. take 257 (drop n (line_text l ++ (lines_text ls ++ behind)))) e
    ∙ ap (take 257) (drop-append-add (line_text l) (lines_text ls ++ behind) (257 * j))
    ∙ line-at ls (λ i b. h (suc i) (omega arith)) behind j (omega arith)
