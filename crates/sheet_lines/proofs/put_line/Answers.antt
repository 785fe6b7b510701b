-- `sheet_lines::put_line` meets its contract. The loop's invariant: what is left of the line, laid over the sheet as it stands, gives what the
-- whole line laid over the sheet at entry gives.
use Rattle.std.proofs.Common.{refl, ◌∙◌, ◌+◌, ◌≤◌, length, arith}
use Rattle.sheet_lines.proofs.WordByWord.{word-length, word-put, feed-put}
use Rattle.sheet_lines.proofs.put_line.Goals as goal

pub loop-word-init : goal.loop-word-init
loop-word-init c = (omega arith, refl)

pub loop-word-preserved : goal.loop-word-preserved
loop-word-preserved c =
    let l = c.loop-word in
    let ws = c.args.words.now in
    let fits : l.next + 16 ≤ length l.sheet = omega arith in
    let p = c.put_16.ensures in
    let n = word-length ws l.word-index l.sheet l.next c.loop-word-test.true fits p in
    (omega (arith, n), word-put ws l.word-index l.sheet l.next c.loop-word-test.true fits p ∙ l.invariant.1)

pub bounds-sheet-next : goal.bounds-sheet-next
bounds-sheet-next c = omega arith

pub returns : goal.returns
returns c =
    let l = c.loop-word in
    feed-put c.args.words.now l.word-index l.sheet l.next c.loop-word-test.false (omega arith) ∙ l.invariant.1
