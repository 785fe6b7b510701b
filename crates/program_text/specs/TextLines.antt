-- What reading a line does.
use Rattle.std.specs.Prelude.{◌≡◌, true, List, [], ◌∷◌, ℕ, suc, ◌*◌, ◌≤◌, ◌<◌, eqb, length, take, drop, get_or, Option, Some, None}
use Rattle.rules.specs.Numbers.{word_limit, choose}
use Rattle.rules.specs.Frames.{value_count, frame_fits, instruction_of}
use Rattle.rules.specs.Text.{line_feed, ended, lines_of, joined_words, frame_of_line}
use Rattle.rules.specs.Text as Text

-- the characters before the first line feed
abbrev pub line_length : List ℕ → ℕ
line_length [] = 0
line_length (c ∷ cs) = choose (eqb c line_feed) 0 (suc (line_length cs))

-- so many characters are one to four words
pub record WholeWords (characters : ℕ) : Type 0 where
  pub words : ℕ
  pub least : 1 ≤ words
  pub most : words ≤ 4
  pub digits : characters ≡ 16 * words

-- a line feed stands behind so many words, and none behind fewer
pub record WordsBefore (text : List ℕ) (n : ℕ) : Type 0 where
  pub least : 1 ≤ n
  pub most : n ≤ 4
  pub inside : 16 * n < length text
  pub feed : get_or text (16 * n) 0 ≡ line_feed
  pub first : (k : ℕ) → 1 ≤ k → k < n → get_or text (16 * k) 0 ≡ line_feed → ⊥

-- how many words the line of a frame would have: one to four before the first such line feed
abbrev pub FindsWords : List ℕ → Option ℕ → Type 0
FindsWords text (Some n) = WordsBefore text n
FindsWords text None = (k : ℕ) → 1 ≤ k → k ≤ 4 → 16 * k < length text → get_or text (16 * k) 0 ≡ line_feed → ⊥

-- the words that a part of a buffer holds
abbrev pub part : ℕ → ℕ → List ℕ → List ℕ
part from count ws = take count (drop from ws)

-- joined words are read into a buffer behind those in use, or some character is no digit
abbrev pub ReadsWords : List ℕ → ℕ → ℕ → List ℕ → List ℕ → Option (Unit {0}) → Type 0
ReadsWords l count used before after (Some _) =
    (joined_words count l ≡ Some (part used count after)) × (take used after ≡ take used before) × (length after ≡ word_limit)
ReadsWords l count used before after None = joined_words count l ≡ None

-- a line's words are those of a well formed frame, behind those in use
pub record FrameRead (l : List ℕ) (used : ℕ) (before after : List ℕ) (count : ℕ) : Type 0 where
  pub frame : frame_of_line (ended l) ≡ Some (instruction_of (part used count after))
  pub fits : frame_fits (part used count after) ≡ true
  pub words : count ≡ suc (value_count (get_or (part used count after) 0 0))
  pub whole : length (part used count after) ≡ count
  pub long : length l ≡ 16 * count
  pub kept : take used after ≡ take used before
  pub size : length after ≡ word_limit

abbrev pub ReadsLine : List ℕ → ℕ → List ℕ → List ℕ → Option ℕ → Type 0
ReadsLine l used before after (Some count) = FrameRead l used before after count
ReadsLine l used before after None = frame_of_line (ended l) ≡ None

-- The first line is ended and a frame's, or malformed

pub record FrameHere (text : List ℕ) (used : ℕ) (before after : List ℕ) (count : ℕ) : Type 0 where
  pub ends : line_length text ≡ 16 * count
  pub inside : 16 * count < length text
  pub read : FrameRead (take (16 * count) text) used before after count

pub record MalformedHere (text : List ℕ) : Type 0 where
  pub line : Text.Line
  pub rest : List Text.Line
  pub lines : lines_of text ≡ line ∷ rest
  pub malformed : frame_of_line line ≡ None

abbrev pub ReadsFrame : List ℕ → ℕ → List ℕ → List ℕ → Option ℕ → Type 0
ReadsFrame text used before after (Some count) = FrameHere text used before after count
ReadsFrame text used before after None = MalformedHere text
