-- What a theorem about a call that is written out unfolds, under a few names: with them on its line the theorem is `refl`.
use lib.Count.{ones_in, count_trailing_zeros}
use Rattle.rules.specs.Numbers.{p, stack_end, heap_end, small_end, word_end, clock_end, frame_limit, text_limit, cell_limit, value_limit}
use Rattle.rules.specs.Results.{require, bind, after, guard}
use Rattle.rules.specs.Hexadecimal.{digit_of, digits_of, word_of, low_digits, digit_count, shortest_hex}
use Rattle.rules.specs.Frames.{opcodes, selector_fits, register_of, first_word_fits, operand_of, instruction_of, frame_of, exact_frame_of, frames_after, earliest_malformed, count_fits, load_frames, load_words}
use Rattle.rules.specs.Text.{lines_after, joined_words, frame_of_line, load_text, budget_of, load_job, load_budget_text}
use Rattle.rules.specs.Opcodes.{class_of}
use Rattle.rules.specs.Operands.{binary_length, instruction_at, fetch, wants_of, value_of, operand, operands}
use Rattle.rules.specs.Step.{read_many, read_span, store_many, operate, step, run}
use Rattle.rules.specs.Guarded.{sinks_of, operand_sink, span_mark, read_sink, clean_many, marks_after, guarded_rest, guarded_step, guarded_run}
use Rattle.rules.specs.Answers.{meaning, refusal_meaning}
use Rattle.rules.specs.Entry.{all, plain_entry, marked_numbers_below, marks_entry, guarded_entry}
use Rattle.rules.specs.Calls.{plain_call, guarded_call, plain_words, plain_text, plain_budget_text, guarded_words, guarded_text, guarded_budget_text}
use Rattle.rules.specs.Solve.{solve, kilosteps, decimal, value_lines, carried_fields, printed, solve_start}
use Rattle.rules.specs.Encoding.{frame, bytes}

unfoldable pub numbers : Unit {0}
unfolding ones_in count_trailing_zeros p stack_end heap_end small_end word_end clock_end frame_limit text_limit cell_limit value_limit
numbers = tt

unfoldable pub reading : Unit {0}
unfolding digit_of digits_of word_of opcodes selector_fits register_of first_word_fits operand_of instruction_of frame_of exact_frame_of frames_after earliest_malformed count_fits load_frames load_words lines_after joined_words frame_of_line load_text budget_of load_job load_budget_text frame bytes
reading = tt

unfoldable pub stepping : Unit {0}
unfolding require bind after guard class_of binary_length instruction_at fetch wants_of value_of operand operands read_many read_span store_many operate step run sinks_of operand_sink span_mark read_sink clean_many marks_after guarded_rest guarded_step guarded_run
stepping = tt

unfoldable pub calling : Unit {0}
unfolding numbers reading stepping meaning refusal_meaning all plain_entry marked_numbers_below marks_entry guarded_entry plain_call guarded_call plain_words plain_text plain_budget_text guarded_words guarded_text guarded_budget_text
calling = tt

unfoldable pub printing : Unit {0}
unfolding calling low_digits digit_count shortest_hex kilosteps decimal value_lines carried_fields printed solve_start solve
printing = tt
