-- `eight_digits::packed` meets its contract: the word's bytes are those that it was made of.
use Rattle.std.proofs.lemmas.Nat.{be_bytes_8}
use Rattle.std.proofs.Math.Nat.{div-one}
use Rattle.eight_digits.proofs.packed.Goals as goal

pub returns : goal.returns
returns c = rw div-one (be_bytes_8 c.args.text.now c.from_be_bytes.result c.told-text c.fits-text c.from_be_bytes.ensures)
