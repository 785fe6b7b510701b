-- `report::lines::FirstLine::length` meets its contract: a first line has at most 128 characters.
use Rattle.report.proofs.Lengths.{first-line-length}
use Rattle.report.proofs.lines.FirstLine.length.Goals as goal

pub put-requires : goal.put-requires
put-requires c = let l = c.args.self in first-line-length l.label l.steps l.pc l.clk
