-- The lines of `solve` fit: their lengths, by what an answer carries and how long an output is.
use Prim.Native.Nat.{ℕ, zero, suc, ◌+◌, ◌*◌, ◌/◌, ◌%◌, ◌≤◌, ◌<◌}
use mathlib.Core.Path.{◌≡◌, refl, ◌∙◌}
use mathlib.Core.Bool.{Bool, true, false}
use mathlib.Core.List.{List, [], ◌∷◌, ◌++◌}
use native.Mathlib.Omega.{arith}
use lib.Dec.{ltb}
use lib.ListN.{length, length-append, length-take}
use borrow.Author.Tests.{lt-ltb}
use Rattle.rules.specs.declared.Instruction.{Instruction}
use Rattle.rules.specs.declared.Refusal.{Refusal}
use Rattle.rules.specs.declared.Refusal.TheVariants as R
use Rattle.rules.specs.declared.Answer.{Answer}
use Rattle.rules.specs.declared.Answer.TheVariants as A
use Rattle.rules.specs.Numbers.{value_limit, choose}
use Rattle.rules.specs.Results.{Result, refuse, pass}
use Rattle.rules.specs.Hexadecimal.{low_digits, digit_count, shortest_hex}
use Rattle.rules.specs.Answers.{Meaning, outcome, refusal, refusal_meaning, meaning}
use Rattle.rules.specs.Step.{overlay}
use Rattle.rules.specs.Entry.{Snapshot, used_output, plain_entry, environment}
use Rattle.rules.specs.Calls.{refused_call, job_program, job_budget, plain_run_of, plain_answered, plain_call, plain_budget_text}
use Rattle.rules.specs.Text.{line_feed, load_budget_text}
use Rattle.rules.specs.Solve.{kilosteps, decimal, spaced, value_lines, zero_fields, carried_fields, is_entry_refusal, printed, solve_start, solve}
use Rattle.rules.specs.SolveFits.{SolveFits}
use Rattle.rules.proofs.Soundness.PlainSoundness.{run_sound}
use Rattle.rules.proofs.Soundness.EntrySoundness.{used-short, entry-sound}

-- Numbers

length-low-digits : (n v : ℕ) → length (low_digits n v) ≡ n
unfolding low_digits
length-low-digits zero v = refl
length-low-digits (suc n) v = let h = length-low-digits n (v / 16) in length-append (low_digits n (v / 16)) _ ∙ omega arith

digits-at-most : (n v : ℕ) → digit_count n v ≤ suc n
unfolding digit_count
digits-at-most zero v = omega arith
digits-at-most (suc n) v = go (ltb v 16) (digits-at-most n (v / 16))
  where
    go : (t : Bool) → digit_count n (v / 16) ≤ suc n → choose t 1 (suc (digit_count n (v / 16))) ≤ suc (suc n)
    go true h = omega arith
    go false h = omega arith

hex-short : (v : ℕ) → length (shortest_hex v) ≤ 16
unfolding shortest_hex
hex-short v = let l = length-low-digits (digit_count 15 v) v in let d = digits-at-most 15 v in omega arith

one-digit : (v : ℕ) → v < 16 → length (shortest_hex v) ≡ 1
unfolding shortest_hex digit_count
one-digit v h = rw (lt-ltb v 16 h) (length-low-digits 1 v)

decimal-short : (n : ℕ) → length (decimal n) ≤ 2
unfolding decimal
decimal-short n = go (ltb n 10)
  where
    go : (t : Bool) → length (choose t ((n + 48) ∷ []) ((n / 10 + 48) ∷ ((n % 10 + 48) ∷ []))) ≤ 2
    go true = omega arith
    go false = omega arith

-- Lines

within : (a b : List ℕ) {m n : ℕ} → length a ≤ m → length b ≤ n → length (a ++ b) ≤ m + n
within a b h k = let l = length-append a b in omega arith

spaced-short : (n : ℕ) → length (spaced n) ≤ 17
spaced-short n = let h = hex-short n in omega arith

fields-short : (a b c d : ℕ) → length (spaced a ++ (spaced b ++ (spaced c ++ spaced d))) ≤ 68
fields-short a b c d =
    within (spaced a) (spaced b ++ (spaced c ++ spaced d)) (spaced-short a)
    (within (spaced b) (spaced c ++ spaced d) (spaced-short b)
    (within (spaced c) (spaced d) (spaced-short c) (spaced-short d)))

carried-short : (vs : List ℕ) → length (carried_fields vs) ≤ length vs * 17
unfolding carried_fields
carried-short [] = omega arith
carried-short (v ∷ vs) = let h = within (spaced v) (carried_fields vs) (spaced-short v) (carried-short vs) in omega arith

values-short : (vs : List ℕ) → length (value_lines vs) ≤ length vs * 17
unfolding value_lines
values-short [] = omega arith
values-short (v ∷ vs) =
    let line = within (shortest_hex v) (line_feed ∷ []) {n = 1} (hex-short v) (omega arith) in
    let h = within (shortest_hex v ++ (line_feed ∷ [])) (value_lines vs) line (values-short vs) in
    omega arith

-- What an answer carries: an outcome's number has one digit, a refusal carries one number at most

abbrev Short : Meaning → Type 0
Short (outcome n vs) = n < 16
Short (refusal n vs) = length vs ≤ 1

refusal-short : (f : Refusal) → Short (refusal_meaning f)
unfolding refusal_meaning
refusal-short R.BadLength = omega arith
refusal-short (R.MalformedFrame n) = omega arith
refusal-short R.BadState = omega arith
refusal-short R.NoInstruction = omega arith
refusal-short R.UncoveredOpcode = omega arith
refusal-short R.BadOperand = omega arith
refusal-short R.NotInField = omega arith
refusal-short R.NotSmall = omega arith
refusal-short R.AssertFailed = omega arith
refusal-short R.RangeCheckFailed = omega arith
refusal-short R.CellAbsent = omega arith
refusal-short R.SpanPastRegion = omega arith
refusal-short R.TapeFault = omega arith
refusal-short R.StoreFault = omega arith
refusal-short R.ProphetStore = omega arith
refusal-short R.NoCapacity = omega arith
refusal-short R.ClockEnd = omega arith

answer-short : (a : Answer) → Short (meaning a)
unfolding meaning
answer-short A.Ended = omega arith
answer-short (A.Calling a b c d) = omega arith
answer-short (A.DelegateCalling a b c d) = omega arith
answer-short A.Paused = omega arith
answer-short (A.Refused f) = refusal-short f
answer-short A.MarkedSink = omega arith
answer-short A.ShortBuffer = omega arith

printed-short : (answer : Meaning) (steps : ℕ) (left : Snapshot) → Short answer → length (used_output left) ≤ 4096
    → length (printed (record { answer = answer; steps = steps; left = left })) ≤ 71 + 4096 * 17
unfolding printed
printed-short answer steps left s h = go answer s
  where
    fields : List ℕ
    fields = spaced steps ++ (spaced left.machine.pc ++ (spaced left.machine.clk ++ spaced (kilosteps left.machine.clk)))

    values : List ℕ
    values = line_feed ∷ value_lines (used_output left)

    rest : length (fields ++ values) ≤ 69 + 4096 * 17
    rest =
        let l = values-short (used_output left) in
        within fields values {n = 1 + 4096 * 17} (fields-short steps left.machine.pc left.machine.clk (kilosteps left.machine.clk)) (omega arith)

    go : (m : Meaning) → Short m → length (printed (record { answer = m; steps = steps; left = left })) ≤ 71 + 4096 * 17
    go (outcome n vs) s = let d = one-digit n s in within (101 ∷ shortest_hex n) (fields ++ values) {m = 2} (omega arith) rest
    go (refusal n vs) s = on (is_entry_refusal n)
      where
        entry : length (decimal n ++ (zero_fields ++ (carried_fields vs ++ (line_feed ∷ [])))) ≤ 71 + 4096 * 17
        entry =
            let carried = carried-short vs in
            let line = within (carried_fields vs) (line_feed ∷ []) {m = 17} {n = 1} (omega arith) (omega arith) in
            let tail = within zero_fields (carried_fields vs ++ (line_feed ∷ [])) (fields-short 0 0 0 0) line in
            let all = within (decimal n) (zero_fields ++ (carried_fields vs ++ (line_feed ∷ []))) (decimal-short n) tail in
            omega arith

        on : (t : Bool) → length (choose t (decimal n ++ (zero_fields ++ (carried_fields vs ++ (line_feed ∷ [])))) (decimal n ++ (fields ++ values))) ≤ 71 + 4096 * 17
        on true = entry
        on false = within (decimal n) (fields ++ values) (decimal-short n) rest

-- The output of a call

called-short : (loaded : Result (List Instruction)) (budget : ℕ) (s : Snapshot) → Short (plain_call loaded budget s).answer
unfolding plain_call
called-short (refuse f) budget s = refusal-short f
called-short (pass program) budget s = go (plain_entry s)
  where
    go : (t : Bool) → Short (choose t (plain_answered s (plain_run_of program budget s)) (refused_call R.BadState s)).answer
    go true = answer-short (plain_run_of program budget s).answer
    go false = refusal-short R.BadState

-- a call leaves no more output than was lent or handed in
output-short : (loaded : Result (List Instruction)) (budget : ℕ) (s : Snapshot) → length s.machine.registers ≡ 10
    → length (used_output (plain_call loaded budget s).left) ≤ length s.output
unfolding plain_call
output-short (refuse f) budget s ten = used-short s.machine.output_count s.output
output-short (pass program) budget s ten = go (plain_entry s) refl
  where
    go : (t : Bool) → plain_entry s ≡ t
        → length (used_output (choose t (plain_answered s (plain_run_of program budget s)) (refused_call R.BadState s)).left) ≤ length s.output
    go true e =
        let r = (plain_run_of program budget s).state in
        let sound = run_sound (environment program s) budget _ (entry-sound program s ten e) in
        let fits = sound.output_fits in
        let l = length-take (length r.output) (overlay r.written s.output) in
        omega arith
    go false e = used-short s.machine.output_count s.output

start-ten : length solve_start.machine.registers ≡ 10
unfolding solve_start
start-ten = refl

start-output : length solve_start.output ≡ 4096
unfolding solve_start value_limit
start-output = refl

pub solve-fits : SolveFits
unfolding solve plain_budget_text
solve-fits input =
    let job = load_budget_text input in
    let c = plain_call (job_program job) (job_budget job) solve_start in
    let l = output-short (job_program job) (job_budget job) solve_start start-ten in
    printed-short c.answer c.steps c.left (called-short (job_program job) (job_budget job) solve_start) (omega (arith, start-output))
