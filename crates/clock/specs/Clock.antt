-- How many steps the clock allows, and the answer after them.
use Rattle.std.specs.Prelude.{ℕ, ◌-◌, ltb}
use Rattle.rules.specs.declared.Answer.{Answer}
use Rattle.rules.specs.declared.Answer.TheVariants.{Paused, Refused}
use Rattle.rules.specs.declared.Refusal.TheVariants.{ClockEnd}
use Rattle.rules.specs.Numbers.{clock_end, choose}

-- what is left of the clock; at its end and beyond, one step more is made
abbrev pub left_of : ℕ → ℕ
left_of clk = choose (ltb clk clock_end) (clock_end - clk) 1

-- the most steps that a run makes: its budget, or what is left of the clock, whichever is less
abbrev pub limit_of : ℕ → ℕ → ℕ
limit_of budget clk = choose (ltb budget (left_of clk)) budget (left_of clk)

-- the answer of a run that made as many steps as it may, a paused run or refusal 17; clk is the clock after them
abbrev pub end_answer : ℕ → Answer
end_answer clk = choose (ltb clk clock_end) Paused (Refused ClockEnd)
