-- `hardware::cells::read_four` meets its contract: what is read one by one is that part of the buffer.
use Rattle.hardware.proofs.PartLaws.{four-part}
use Rattle.hardware.proofs.cells.read_four.Goals as goal

pub returns : goal.returns
returns c = four-part c.args.at c.args.numbers.now c.requires
