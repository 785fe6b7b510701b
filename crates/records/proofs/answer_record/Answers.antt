-- `records::answer_record` meets its contract: a case for each kind of label.
use Rattle.records.proofs.RecordLaws.{labelled}
use Rattle.records.proofs.answer_record.Goals as goal

pub returns-in-Outcome : goal.returns-in-Outcome
returns-in-Outcome c = labelled _ c.from.ensures c.in-Outcome.is c.callee_of.ensures

pub returns-in-Refusal : goal.returns-in-Refusal
returns-in-Refusal c = labelled _ c.from.ensures c.in-Refusal.is c.callee_of.ensures

pub returns-in-Malformed : goal.returns-in-Malformed
returns-in-Malformed c = labelled _ c.from.ensures c.in-Malformed.is c.callee_of.ensures
