-- The words of a line one by one: as code lists them, and as it writes them.
use Rattle.std.specs.Prelude.{Option}
use mathlib.Core.Path.{◌≡◌, sym, ap, ap₂, ◌∙◌}
use mathlib.Core.List.{List, [], ◌∷◌, ◌++◌}
use Prim.Native.Nat.{ℕ, zero, suc, ◌+◌, ◌<◌, ◌≤◌}
use native.Mathlib.Numerals.{add-one}
use native.Mathlib.Omega.{arith}
use lib.ListN.{length, get_or, drop, set, drop_of_length-le}
use lib.Seq.{drop-cons}
use borrow.Author.Tests.{le-leb}
use Rattle.rules.specs.Hexadecimal.{digits16}
use Rattle.rules.specs.Text.{line_feed}
use Rattle.hexadecimal.specs.Writing.{overlay_at, Writes}
use Rattle.hexadecimal.proofs.Buffers.{overlay-nil, overlay-length, overlay-append, overlay-snoc}
use Rattle.hexadecimal.proofs.Words.{low-length}
use Rattle.sheets.specs.declared.Present.{Present}
use Rattle.sheets.specs.Lines.{presence_word, shown, line_words, line_text}

-- n words from a place on, and then others
abbrev listed : ℕ → ℕ → List ℕ → List ℕ → List ℕ
listed at zero xs others = others
listed at (suc n) xs others = get_or xs at 0 ∷ listed (suc at) n xs others

listed-all : (at n : ℕ) (xs others : List ℕ) → length xs ≡ at + n → listed at n xs others ≡ drop at xs ++ others
listed-all at zero xs others h = let k : length xs ≤ at = omega arith in rw (drop_of_length-le xs k)
listed-all at (suc n) xs others h =
    rw (drop-cons xs at 0 (omega arith)) (ap (λ (l : List ℕ). get_or xs at 0 ∷ l) (listed-all (suc at) n xs others (omega arith)))

pub words-listed : (clk pc : ℕ) (registers : List ℕ) (w : Present) (op0 op1 dst : ℕ) {a b d last : ℕ} → length registers ≡ 10
    → a ≡ shown w.op0 op0 → b ≡ shown w.op1 op1 → d ≡ shown w.dst dst → last ≡ presence_word w
    → clk ∷ (pc ∷ listed 0 10 registers (a ∷ b ∷ d ∷ last ∷ [])) ≡ line_words clk pc registers w op0 op1 dst
unfolding line_words
words-listed clk pc registers w op0 op1 dst {a} {b} {d} {last} h e f g k =
    ap (λ (ws : List ℕ). clk ∷ (pc ∷ ws)) (listed-all 0 10 registers (a ∷ b ∷ d ∷ last ∷ []) h ∙ cc)

-- the words from i on
module _ (ws : List ℕ) (i : ℕ) where
  next_word : i < length ws → line_text (drop i ws) ≡ digits16 (get_or ws i 0) ++ line_text (drop (i + 1) ws)
  unfolding line_text
  next_word h = rw (drop-cons ws i 0 h, add-one i)

  no_word : length ws ≤ i → line_text (drop i ws) ≡ line_feed ∷ []
  unfolding line_text
  no_word h = rw (drop_of_length-le ws h)

  module _ (b : List ℕ) (next : ℕ) where
    abbrev digits : List ℕ
    digits = digits16 (get_or ws i 0)

    -- a word's digits are written, and the others are to come
    module _ (more : i < length ws) (fits : next + 16 ≤ length b) {r : Option ℕ} {after : List ℕ} (w : Writes digits b next r after) where
      end : next + 16 ≡ next + length digits
      end = omega (arith, low-length 16 (get_or ws i 0))

      overlaid : after ≡ overlay_at b next digits
      overlaid = rw (le-leb (next + length digits) (length b) (omega (arith, end))) at w.written

      pub word-length : length after ≡ length b
      word-length = ap length overlaid ∙ overlay-length b next digits (omega (arith, end))

      pub word-put : overlay_at after (next + 16) (line_text (drop (i + 1) ws)) ≡ overlay_at b next (line_text (drop i ws))
      word-put =
          let others = line_text (drop (i + 1) ws) in
          ap₂ (λ (l : List ℕ) (k : ℕ). overlay_at l k others) overlaid end
          ∙ overlay-append b next digits others (omega (arith, end)) ∙ ap (overlay_at b next) (sym (next_word more))

    -- no word is left: the line feed
    pub feed-put : length ws ≤ i → next < length b → set b next line_feed ≡ overlay_at b next (line_text (drop i ws))
    feed-put h fits =
        let e : next + 0 ≡ next = omega arith in
        ap (λ (k : ℕ). set b k line_feed) (sym e) ∙ sym (overlay-nil (set b (next + 0) line_feed) next)
        ∙ overlay-snoc b next [] line_feed (omega arith) ∙ ap (overlay_at b next) (sym (no_word h))
