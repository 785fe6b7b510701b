-- Programs as text: a frame a line. Document 01, 'Frames', and `solve`'s budget line.
use Rattle.std.specs.Prelude.{ℕ, zero, suc, ◌/◌, ◌%◌, Bool, true, false, not, List, [], ◌∷◌, ◌++◌, map, leb, eqb, length, take, drop, Option, Some, None}
use Rattle.rules.specs.declared.Instruction.{Instruction}
use Rattle.rules.specs.declared.Refusal.TheVariants.{BadLength, MalformedFrame}
use Rattle.rules.specs.Numbers.{text_limit, choose}
use Rattle.rules.specs.Results.{Result, refuse, pass, require}
use Rattle.rules.specs.Hexadecimal.{word_of}
use Rattle.rules.specs.Frames.{is_malformed, any_of, earliest_malformed, count_fits, instructions, exact_frame_of, load_frames}

-- a line ended by a line feed; or the rest of a text that lacks one
pub data Line : Type 0 where
  ended : List ℕ → Line
  unended : Line

abbrev pub line_feed : ℕ
line_feed = 10

-- the lines of a text, after the first characters of its first line
unfoldable pub lines_after : List ℕ → List ℕ → List Line
lines_after [] [] = []
lines_after (c ∷ l) [] = unended ∷ []
lines_after l (c ∷ cs) = choose (eqb c line_feed) (ended l ∷ lines_after [] cs) (lines_after (l ++ (c ∷ [])) cs)

abbrev pub lines_of : List ℕ → List Line
lines_of text = lines_after [] text

-- n joined words, 16 digits each
abbrev pub cons_word : Option ℕ → Option (List ℕ) → Option (List ℕ)
cons_word None r = None
cons_word (Some w) None = None
cons_word (Some w) (Some ws) = Some (w ∷ ws)

unfoldable pub joined_words : ℕ → List ℕ → Option (List ℕ)
joined_words zero l = Some []
joined_words (suc n) l = cons_word (word_of (take 16 l)) (joined_words n (drop 16 l))

abbrev pub frame_of_words : Option (List ℕ) → Option Instruction
frame_of_words None = None
frame_of_words (Some ws) = exact_frame_of ws

-- the frame of a line: 16 digits for each word that its first word asks for, and nothing else
unfoldable pub frame_of_line : Line → Option Instruction
frame_of_line unended = None
frame_of_line (ended l) = choose (eqb (length l % 16) 0) (frame_of_words (joined_words (length l / 16) l)) None

unfoldable pub load_text : List ℕ → Result (List Instruction)
load_text text = require (leb (length text) text_limit) BadLength (load_frames (map frame_of_line (lines_of text)))

-- Text with a budget line before the frames

pub record Job : Type 0 where
  pub budget : ℕ
  pub program : List Instruction

unfoldable pub budget_of : Line → Option ℕ
budget_of unended = None
budget_of (ended l) = word_of l

abbrev pub is_not_hex : Option ℕ → Bool
is_not_hex None = true
is_not_hex (Some w) = false

abbrev pub word_value : Option ℕ → ℕ
word_value None = 0
word_value (Some w) = w

-- the budget line is number 0, and is not counted among the frames
unfoldable pub load_job : List Line → Result Job
load_job [] = refuse BadLength
load_job (b ∷ lines) =
    let fs = map frame_of_line lines in
    let bad = is_not_hex (budget_of b) ∷ map is_malformed fs in
    require (count_fits fs) BadLength
    (require (not (any_of bad)) (MalformedFrame (earliest_malformed 0 bad))
    (pass (record { budget = word_value (budget_of b); program = instructions fs })))

unfoldable pub load_budget_text : List ℕ → Result Job
load_budget_text text = require (leb (length text) text_limit) BadLength (load_job (lines_of text))
