-- `ola::plain_calls::ola_check_text` meets its contract: the machine is read from its record, and the answer's record is written. Written
-- out, so that an edit of the contract is refused by the difference itself.
use Rattle.ola.proofs.plain_calls.ola_check_text.Goals as goal

pub returns : goal.returns
returns c = rw (c.answer_record.ensures, c.check_text-given.ensures, c.machine_of.ensures)
