-- `effects::tape::bound_of` meets its contract: numbers joined bit by bit exceed each of them.
use mathlib.Core.Path.{◌≡◌}
use lib.Bits.{bit_or}
use borrow.Author.Rules.{rules}
use Rattle.std.specs.Prelude.{fold}
use Rattle.std.proofs.iter.runs.Made.{chains}
use Rattle.effects.proofs.StoreTests.{bound-joined}
use Rattle.effects.proofs.tape.bound_of.Goals as goal

pub returns : goal.returns
returns c =
    let e : c.fold.result ≡ fold bit_or 0 c.args.values.now = search (rules, chains) in
    rw e (bound-joined c.args.values.now 0).1
