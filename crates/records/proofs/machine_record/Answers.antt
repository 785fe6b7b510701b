-- `records::machine_record` meets its contract: the words are listed in the definition's order.
use Rattle.records.specs.Records.{machine_record}
use Rattle.records.proofs.RecordLaws.{record-listed}
use borrow.Author.Rules.{rules}
use Rattle.records.proofs.machine_record.Goals as goal

pub returns : goal.returns
unfolding machine_record
returns c = record-listed c.args.machine (search rules) (search rules)
