-- The words of a record one by one, as code lists them, are the record.
use Prim.Native.Nat.{ℕ, zero, suc, ◌+◌, ◌≤◌}
use mathlib.Core.Path.{◌≡◌, refl, sym, ap, ap₂, ◌∙◌}
use mathlib.Core.List.{List, [], ◌∷◌}
use native.Mathlib.Omega.{arith}
use lib.ListN.{length, get_or, take, drop}
use lib.Seq.{drop-cons, take_all}
use Rattle.rules.specs.declared.Machine.{Machine}
use Rattle.rules.specs.declared.Refusal.{Refusal}
use Rattle.rules.specs.declared.Refusal.TheVariants as R
use Rattle.rules.specs.Answers.{Meaning, refusal_meaning}
use Rattle.report.specs.declared.label.Label.{Label}
use Rattle.report.specs.declared.label.Label.TheVariants as L
use Rattle.report.specs.ReportLines.{Labels, outcome-label, refusal-label, frame-label}
use Rattle.records.specs.Records.{machine_of, machine_record, marks_of, marks_record, RecordsKept, callee_of, answer_record}

-- n words from a place on
abbrev listed : ℕ → ℕ → List ℕ → List ℕ
listed at zero xs = []
listed at (suc n) xs = get_or xs at 0 ∷ listed (suc at) n xs

listed-part : (at n : ℕ) (xs : List ℕ) → at + n ≤ length xs → listed at n xs ≡ take n (drop at xs)
listed-part at zero xs h = refl
listed-part at (suc n) xs h = rw (drop-cons xs at 0 (omega arith)) (ap (λ (l : List ℕ). get_or xs at 0 ∷ l) (listed-part (suc at) n xs (omega arith)))

listed-all : (n : ℕ) (xs : List ℕ) → length xs ≡ n → listed 0 n xs ≡ xs
listed-all n xs h = listed-part 0 n xs (omega arith) ∙ take_all n xs (omega arith)

-- a machine with other arrays
abbrev with_arrays : Machine → List ℕ → List ℕ → Machine
with_arrays m registers storage =
    record {
      registers = registers;
      pc = m.pc;
      clk = m.clk;
      psp = m.psp;
      storage_addr = storage;
      cell_count = m.cell_count;
      tape_count = m.tape_count;
      output_count = m.output_count;
    }

pub machine-listed : (r : List ℕ) → length r ≡ 20 → with_arrays (machine_of r) (listed 0 10 r) (listed 13 4 r) ≡ machine_of r
unfolding machine_of
machine-listed r h = ap₂ (with_arrays (machine_of r)) (listed-part 0 10 r (omega arith)) (listed-part 13 4 r (omega arith))

arrays-listed : (m : Machine) → length m.registers ≡ 10 → length m.storage_addr ≡ 4
    → with_arrays m (listed 0 10 m.registers) (listed 0 4 m.storage_addr) ≡ m
arrays-listed m h k = ap₂ (with_arrays m) (listed-all 10 m.registers h) (listed-all 4 m.storage_addr k)

pub record-listed : (m : Machine) → length m.registers ≡ 10 → length m.storage_addr ≡ 4
    → machine_record (with_arrays m (listed 0 10 m.registers) (listed 0 4 m.storage_addr)) ≡ machine_record m
record-listed m h k = ap machine_record (arrays-listed m h k)

machine-kept : (r : List ℕ) → length r ≡ 20 → machine_record (machine_of r) ≡ r
unfolding machine_of machine_record
machine-kept r h = sym (ap machine_record (machine-listed r h)) ∙ listed-all 20 r h

extras-kept : (r : List ℕ) → length r ≡ 1 → marks_record (marks_of r) ≡ r
unfolding marks_of marks_record
extras-kept r h = listed-all 1 r h

pub records-kept : RecordsKept
records-kept = record { machine = machine-kept; extras = extras-kept }

pub machine-read : (m : Machine) → length m.registers ≡ 10 → length m.storage_addr ≡ 4 → machine_of (machine_record m) ≡ m
unfolding machine_of machine_record
machine-read m h k = sym (ap (λ (m : Machine). machine_of (machine_record m)) (arrays-listed m h k)) ∙ arrays-listed m h k

-- no refusal has a callee
pub no_callee : (f : Refusal) → callee_of (refusal_meaning f) ≡ 0 ∷ 0 ∷ 0 ∷ 0 ∷ []
unfolding callee_of refusal_meaning
no_callee R.BadLength = refl
no_callee (R.MalformedFrame n) = refl
no_callee R.BadState = refl
no_callee R.NoInstruction = refl
no_callee R.UncoveredOpcode = refl
no_callee R.BadOperand = refl
no_callee R.NotInField = refl
no_callee R.NotSmall = refl
no_callee R.AssertFailed = refl
no_callee R.RangeCheckFailed = refl
no_callee R.CellAbsent = refl
no_callee R.SpanPastRegion = refl
no_callee R.TapeFault = refl
no_callee R.StoreFault = refl
no_callee R.ProphetStore = refl
no_callee R.NoCapacity = refl
no_callee R.ClockEnd = refl

-- the record by an answer's label and callee
abbrev record_of : Label → ℕ → List ℕ → List ℕ
record_of (L.Outcome n) steps callee = 0 ∷ n ∷ steps ∷ 0 ∷ listed 0 4 callee
record_of (L.Refusal n) steps callee = 1 ∷ n ∷ steps ∷ 0 ∷ 0 ∷ 0 ∷ 0 ∷ 0 ∷ []
record_of (L.Malformed n) steps callee = 1 ∷ 2 ∷ steps ∷ n ∷ 0 ∷ 0 ∷ 0 ∷ 0 ∷ []

record-of-label : (steps : ℕ) {m : Meaning} {label : Label} → Labels m label → record_of label steps (callee_of m) ≡ answer_record m steps
unfolding callee_of answer_record
record-of-label steps outcome-label = refl
record-of-label steps refusal-label = refl
record-of-label steps frame-label = refl

pub labelled : (steps : ℕ) {m : Meaning} {label known : Label} {callee : List ℕ} → Labels m label → label ≡ known → callee ≡ callee_of m
    → record_of known steps callee ≡ answer_record m steps
labelled steps h e k = ap₂ (λ (l : Label) (vs : List ℕ). record_of l steps vs) (sym e) k ∙ record-of-label steps h
