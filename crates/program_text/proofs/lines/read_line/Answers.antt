-- `program_text::lines::read_line` meets its contract: each return says why the line is malformed, or that its words are a frame's.
use Rattle.std.proofs.Common.{◌≡◌, ◌*◌, ◌/◌, ◌≤◌, length, arith}
use Rattle.program_text.proofs.Reading.{read-broken, read-other, read_whole}
use Rattle.program_text.proofs.lines.read_line.Goals as goal
use Rattle.program_text.proofs.lines.read_line.Goals.{Start}

-- the line is of one to four words
module _ (c : Start) where
  words-whole : length c.args.line.now ≡ 16 * (length c.args.line.now / 16)
  words-whole = omega (arith, c.requires.whole_words.digits)

  words-least : 1 ≤ length c.args.line.now / 16
  words-least = omega (arith, c.requires.whole_words.digits, c.requires.whole_words.least)

pub returns-in_err-read_words : goal.returns-in_err-read_words
returns-in_err-read_words c =
    let s = (goal.at.returns-in_err-read_words c).Start in
    rw c.from_residual.ensures (read-broken c.args.line.now c.args.words.now c.args.words.now c.args.used _ (words-whole s) (words-least s) c.in_err-read_words.ensures)

pub returns-then-frame_length-count : goal.returns-then-frame_length-count
returns-then-frame_length-count c =
    let s = (goal.at.returns-then-frame_length-count c).Start in
    read-other c.args.line.now c.args.words.now c.read_words.new.words c.args.used _ (words-whole s) (words-least s)
    c.in_ok-read_words.ensures c.frame_length.result c.frame_length.ensures (λ e. omega arith)

pub returns : goal.returns
returns c =
    let s = (goal.at.returns c).Start in
    read_whole c.args.line.now c.args.words.now c.read_words.new.words c.args.used _ (words-whole s) (words-least s)
    c.in_ok-read_words.ensures c.frame_length.result c.frame_length.ensures (omega arith)
