-- `program_text::lines::read_frame` meets its contract: `frame_words` says where the line would end, and `read_line` whether what stands before
-- is a frame.
use Rattle.program_text.proofs.Ending.{malformed-unfound, frame-or-malformed}
use Rattle.program_text.proofs.lines.read_frame.Goals as goal

pub returns-in_err-count : goal.returns-in_err-count
returns-in_err-count c = rw c.from_residual.ensures (malformed-unfound c.args.text.now c.requires.some_text c.in_err-count.ensures)

pub returns : goal.returns
returns c = frame-or-malformed c.args.words.now c.read_line.new.words c.args.used c.requires.some_text c.in_ok-count.ensures c.read_line.result c.read_line.ensures
