-- The tables of cases hold of the definitions, by computation.
use mathlib.Core.Path.{refl}
use Rattle.rules.specs.Solve.{kilosteps}
use Rattle.rules.specs.Cases.{starred, StarredHold, others, OthersHold, KilostepsHold, listing, listing_prints, ListingHolds, listing_frames, listing_words, FramesHold}
use Rattle.rules.specs.RefusalOrder.{end_lines, zero_lines, entry_order, EntryOrderHolds, operand_order, OperandOrderHolds, operation_order, OperationOrderHolds, reading_order, ReadingOrderHolds}
use Rattle.rules.specs.StoreOrder.{tape_order, TapeOrderHolds, store_order, StoreOrderHolds, clock_order, ClockOrderHolds}
use Rattle.rules.specs.SinkOrder.{operands_before_sinks, OperandsBeforeSinksHold, sinks_before_rest, SinksBeforeRestHold, read_sinks, ReadSinksHold, sink_at_clock, SinkAtClockHolds}
use Rattle.rules.specs.EntryRefusals.{word_refusals, WordRefusalsHold, TextRefusalsHold, state_refusals, mark_refusals, StateRefusalsHold}
use Rattle.rules.specs.StepRefusals.{operand_refusals, OperandRefusalsHold, memory_refusals, MemoryRefusalsHold, outcomes, OutcomesHold}
use Rattle.rules.specs.StepCases.{
  results,
  lengths,
  ResultsHold,
  moments,
  MomentsHold,
  mark_results,
  last_marks,
  MarkResultsHold,
  zero_products,
  zero_factors,
  ZeroProductsHold,
  listing_without_end,
  PrintsHold,
}
use Rattle.rules.proofs.Cases.Unfolding.{calling, printing}
use Rattle.rules.proofs.Cases.LongTexts.{malformed-and-512, malformed-and-511, malformed-510-malformed, budget-and-512, budget-and-513}

-- Document 01's cases: Cases.antt

-- the starred cases, as one table
pub starred_hold : StarredHold
unfolding calling starred
starred_hold = refl

-- the other cases, but for the listing and kilosteps
pub others_hold : OthersHold
unfolding calling others
others_hold = refl

pub kilosteps_hold : KilostepsHold
unfolding kilosteps
kilosteps_hold = refl

-- what `solve` prints of the listing
pub listing_holds : ListingHolds
unfolding printing listing listing_prints
listing_holds = refl

-- the frames of the tables are in document 01's layout: those of its listing
pub frames_hold : FramesHold
unfolding calling listing_frames listing_words
frames_hold = refl

-- The order of the refusals: RefusalOrder.antt, StoreOrder.antt, SinkOrder.antt

pub entry_order_holds : EntryOrderHolds
unfolding calling end_lines zero_lines entry_order
entry_order_holds = (refl, refl, refl, malformed-and-512, malformed-and-511, refl, refl, refl)

pub operand_order_holds : OperandOrderHolds
unfolding calling operand_order
operand_order_holds = refl

pub operation_order_holds : OperationOrderHolds
unfolding calling operation_order
operation_order_holds = refl

pub reading_order_holds : ReadingOrderHolds
unfolding calling reading_order
reading_order_holds = refl

pub tape_order_holds : TapeOrderHolds
unfolding calling tape_order
tape_order_holds = refl

pub store_order_holds : StoreOrderHolds
unfolding calling store_order
store_order_holds = refl

pub clock_order_holds : ClockOrderHolds
unfolding calling clock_order
clock_order_holds = refl

pub operands_before_sinks_hold : OperandsBeforeSinksHold
unfolding calling operands_before_sinks
operands_before_sinks_hold = refl

pub sinks_before_rest_hold : SinksBeforeRestHold
unfolding calling sinks_before_rest
sinks_before_rest_hold = refl

pub read_sinks_hold : ReadSinksHold
unfolding calling read_sinks
read_sinks_hold = refl

pub sink_at_clock_holds : SinkAtClockHolds
unfolding calling sink_at_clock
sink_at_clock_holds = refl

-- Each condition of each refusal: EntryRefusals.antt, StepRefusals.antt

-- bare words
pub word_refusals_hold : WordRefusalsHold
unfolding calling word_refusals
word_refusals_hold = (refl, refl, refl, refl)

-- texts
pub text_refusals_hold : TextRefusalsHold
unfolding calling end_lines
text_refusals_hold =
    (refl, refl, refl, refl, refl, refl, refl, refl, refl, refl, refl, refl, refl, refl, malformed-510-malformed, refl, refl, refl, refl, refl, refl, refl, refl, budget-and-512, budget-and-513)

pub state_refusals_hold : StateRefusalsHold
unfolding calling state_refusals mark_refusals
state_refusals_hold = (refl, refl)

pub operand_refusals_hold : OperandRefusalsHold
unfolding calling operand_refusals
operand_refusals_hold = refl

pub memory_refusals_hold : MemoryRefusalsHold
unfolding calling memory_refusals
memory_refusals_hold = refl

pub outcomes_hold : OutcomesHold
unfolding calling outcomes
outcomes_hold = refl

-- What each opcode gives, and what `solve` prints of refusals: StepCases.antt

-- what each opcode gives, and how far it moves pc
pub results_hold : ResultsHold
unfolding calling results lengths
results_hold = (refl, refl)

-- when the cells got their numbers
pub moments_hold : MomentsHold
unfolding calling moments
moments_hold = refl

pub mark_results_hold : MarkResultsHold
unfolding calling mark_results last_marks
mark_results_hold = (refl, refl)

-- blanking with zero
pub zero_products_hold : ZeroProductsHold
unfolding calling zero_products zero_factors
zero_products_hold = (refl, refl)

pub prints_hold : PrintsHold
unfolding printing end_lines listing_without_end
prints_hold = (refl, refl, refl, refl, refl, refl, refl)
