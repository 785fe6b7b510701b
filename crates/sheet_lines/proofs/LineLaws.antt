-- How many words and characters a line has, lines after others, and a sheet with one more text laid over it.
use mathlib.Core.Path.{◌≡◌, refl, sym, ap₂, ◌∙◌}
use mathlib.Core.List.{List, [], ◌∷◌, ◌++◌, append_assoc}
use Prim.Native.Nat.{ℕ, suc, ◌+◌, ◌*◌}
use native.Mathlib.Omega.{arith}
use lib.ListN.{length, take, drop, length-append}
use lib.Seq.{take_at, drop-drop, drop-append-add}
use Rattle.rules.specs.Hexadecimal.{digits16}
use Rattle.rules.specs.Step.{overlay}
use Rattle.hexadecimal.specs.Writing.{overlay_at}
use Rattle.hexadecimal.proofs.Words.{low-length}
use Rattle.sheets.specs.declared.Present.{Present}
use Rattle.sheets.specs.Lines.{line_words, line_text, lines_text}

pub line-length : (ws : List ℕ) → length (line_text ws) ≡ suc (16 * length ws)
unfolding line_text
line-length [] = refl
line-length (w ∷ ws) = length-append (digits16 w) (line_text ws) ∙ omega (arith, low-length 16 w, line-length ws)

pub words-length : (clk pc : ℕ) (registers : List ℕ) (w : Present) (op0 op1 dst : ℕ) → length registers ≡ 10
    → length (line_words clk pc registers w op0 op1 dst) ≡ 16
unfolding line_words
words-length clk pc registers w op0 op1 dst h = simp length-append (omega arith)

pub lines-append : (ls others : List (List ℕ)) → lines_text (ls ++ others) ≡ lines_text ls ++ lines_text others
unfolding lines_text
lines-append [] others = refl
lines-append (l ∷ ls) others = rw (lines-append ls others, append_assoc)

pub overlay-more : (sheet xs ys : List ℕ) → overlay_at (overlay xs sheet) (length xs) ys ≡ overlay (xs ++ ys) sheet
unfolding overlay_at
overlay-more sheet xs ys =
    let rest = drop (length xs) sheet in
    let t : take (length xs) (xs ++ rest) ≡ xs = take_at xs rest (length xs) refl in
    let d : drop (length xs + length ys) (xs ++ rest) ≡ drop (length (xs ++ ys)) sheet =
    drop-append-add xs rest (length ys) ∙ drop-drop (length ys) (length xs) sheet ∙ simp length-append in
    ap₂ (λ (x y : List ℕ). x ++ (ys ++ y)) t d ∙ sym (append_assoc xs ys (drop (length (xs ++ ys)) sheet))
