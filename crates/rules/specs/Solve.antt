-- Kilosteps, and what `solve` prints. Document 01, 'Cases'; document 02, #104.
use Rattle.std.specs.Prelude.{ℕ, ◌+◌, ◌/◌, ◌%◌, Bool, List, [], ◌∷◌, ◌++◌, ltb, leb, replicate}
use Rattle.rules.specs.Numbers.{default_psp, cell_limit, value_limit, choose}
use Rattle.rules.specs.Hexadecimal.{shortest_hex}
use Rattle.rules.specs.Text.{line_feed}
use Rattle.rules.specs.Answers.{Meaning, outcome, refusal}
use Rattle.rules.specs.Entry.{Snapshot, used_output}
use Rattle.rules.specs.Calls.{Called, plain_budget_text}

-- clk / 1000, to nearest, half to even (#104)
unfoldable pub kilosteps : ℕ → ℕ
kilosteps clk =
    let q = clk / 1000 in
    let r = clk % 1000 in
    choose (ltb r 500) q (choose (ltb 500 r) (q + 1) (q + q % 2))

-- 'e' and ' '
abbrev letter_e : ℕ
letter_e = 101

abbrev space : ℕ
space = 32

-- a number below 100 in decimal
unfoldable pub decimal : ℕ → List ℕ
decimal n = choose (ltb n 10) ((n + 48) ∷ []) ((n / 10 + 48) ∷ ((n % 10 + 48) ∷ []))

abbrev pub spaced : ℕ → List ℕ
spaced n = space ∷ shortest_hex n

unfoldable pub value_lines : List ℕ → List ℕ
value_lines [] = []
value_lines (v ∷ vs) = (shortest_hex v ++ (line_feed ∷ [])) ++ value_lines vs

-- steps, pc, clk, kilosteps
abbrev pub state_fields : Called Snapshot → List ℕ
state_fields c =
    spaced c.steps ++ (spaced c.left.machine.pc ++ (spaced c.left.machine.clk ++ spaced (kilosteps c.left.machine.clk)))

abbrev pub zero_fields : List ℕ
zero_fields = spaced 0 ++ (spaced 0 ++ (spaced 0 ++ spaced 0))

-- the frame that refusal 2 carries
unfoldable pub carried_fields : List ℕ → List ℕ
carried_fields [] = []
carried_fields (v ∷ vs) = spaced v ++ carried_fields vs

-- refusals 1, 2 and 3 are found at entry
abbrev pub is_entry_refusal : ℕ → Bool
is_entry_refusal n = leb n 3

abbrev answer_lines : Meaning → Called Snapshot → List ℕ
answer_lines (outcome n vs) c =
    (letter_e ∷ shortest_hex n) ++ (state_fields c ++ (line_feed ∷ value_lines (used_output c.left)))
answer_lines (refusal n vs) c =
    choose (is_entry_refusal n)
    (decimal n ++ (zero_fields ++ (carried_fields vs ++ (line_feed ∷ []))))
    (decimal n ++ (state_fields c ++ (line_feed ∷ value_lines (used_output c.left))))

-- what `solve` prints of a call
unfoldable pub printed : Called Snapshot → List ℕ
printed c = answer_lines c.answer c

-- where `solve` starts: all zero, nothing used, the default PSP, every buffer at its greatest length
unfoldable pub solve_start : Snapshot
solve_start =
    record {
      machine = record {
        registers = replicate 10 0;
        pc = 0;
        clk = 0;
        psp = default_psp;
        storage_addr = replicate 4 0;
        cell_count = 0;
        tape_count = 0;
        output_count = 0;
      };
      addresses = replicate cell_limit 0;
      numbers = replicate cell_limit 0;
      moments = replicate cell_limit 0;
      tape = replicate value_limit 0;
      output = replicate value_limit 0;
    }

-- the whole program: its input, and what it writes
unfoldable pub solve : List ℕ → List ℕ
solve input = printed (plain_budget_text input solve_start)
