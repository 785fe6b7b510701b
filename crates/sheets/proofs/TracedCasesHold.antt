-- The tables of traced cases hold of the definitions, by computation.
use mathlib.Core.Path.{refl}
use Rattle.rules.specs.Hexadecimal.{low_digits}
use Rattle.rules.proofs.Cases.Unfolding.{calling}
use Rattle.sheets.specs.Lines.{present_of, line_words, line_text, lines_text, line_bytes}
use Rattle.sheets.specs.Traced.{after, unread_where, short_where, reads_further, traced_step, traced_run}
use Rattle.sheets.specs.TracedCalls.{traced_call, traced_words}
use Rattle.sheets.specs.TracedCases.{words_in, opcode_lines, OpcodeLinesHold, second_line, SecondLineHolds, short_sheets, ShortSheetsHold, left_by19, LeftBy19Holds, further_reads, FurtherReadsHold, kept_moments, KeptMomentsHold, LineTextHolds}

-- what a traced call that is written out unfolds
unfoldable tracing : Unit {0}
unfolding calling low_digits present_of line_words line_text lines_text line_bytes after unread_where short_where reads_further traced_step
    traced_run traced_call traced_words
tracing = tt

pub opcode_lines_hold : OpcodeLinesHold
unfolding tracing words_in opcode_lines
opcode_lines_hold = refl

pub second_line_holds : SecondLineHolds
unfolding tracing words_in second_line
second_line_holds = refl

pub short_sheets_hold : ShortSheetsHold
unfolding tracing words_in short_sheets
short_sheets_hold = refl

pub left_by19_holds : LeftBy19Holds
unfolding tracing words_in left_by19
left_by19_holds = refl

pub further_reads_hold : FurtherReadsHold
unfolding tracing words_in further_reads
further_reads_hold = refl

pub kept_moments_hold : KeptMomentsHold
unfolding tracing words_in kept_moments
kept_moments_hold = refl

pub line_text_holds : LineTextHolds
unfolding tracing
line_text_holds = refl
