-- What is left of the line, laid over the sheet as it stands, gives what the whole line laid over the sheet at entry gives.
use Rattle.std.proofs.Common.{◌≡◌, suc, ◌+◌, ◌*◌, ◌-◌, ◌≤◌, length, drop}
use Rattle.hexadecimal.specs.Writing.{overlay_at}
use Rattle.sheets.specs.Lines.{line_text}
use Rattle.sheet_lines.proofs.put_line.Given as goal

abbrev pub invariant-loop-word : goal.invariant-loop-word
invariant-loop-word l =
    (l.next + suc (16 * (length l.words - l.word-index)) ≤ length l.sheet)
    × (overlay_at l.sheet l.next (line_text (drop l.word-index l.words)) ≡ overlay_at l.initial.sheet l.at (line_text l.words))
