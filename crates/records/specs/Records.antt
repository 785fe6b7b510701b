-- The records for C: a machine as 20 words, a guarded run's extras as 1, an answer as 8.
use Rattle.std.specs.Prelude.{ℕ, ◌≡◌, List, [], ◌∷◌, ◌++◌, length, get_or, take, drop}
use Rattle.rules.specs.declared.Answer.{Answer}
use Rattle.rules.specs.declared.Machine.{Machine}
use Rattle.rules.specs.declared.Marks.{Marks}
use Rattle.rules.specs.Answers.{Meaning, outcome, refusal, meaning}

-- the machine that a record holds
unfoldable pub machine_of : List ℕ → Machine
machine_of r =
    record {
      registers = take 10 r;
      pc = get_or r 10 0;
      clk = get_or r 11 0;
      psp = get_or r 12 0;
      storage_addr = take 4 (drop 13 r);
      cell_count = get_or r 17 0;
      tape_count = get_or r 18 0;
      output_count = get_or r 19 0;
    }

-- the record of a machine: the same words in the same places
unfoldable pub machine_record : Machine → List ℕ
machine_record m =
    m.registers
    ++ ((m.pc ∷ m.clk ∷ m.psp ∷ [])
    ++ (m.storage_addr
    ++ (m.cell_count ∷ m.tape_count ∷ m.output_count ∷ [])))

-- the extras that a record holds, and the record of extras: a word whose bit r is the mark of register r
unfoldable pub marks_of : List ℕ → Marks
marks_of r = record { registers = get_or r 0 0 }

unfoldable pub marks_record : Marks → List ℕ
marks_record m = m.registers ∷ []

-- so a call that leaves the machine and the extras as they were, as one refused at entry does, leaves their records as they were
pub record RecordsKept : Type 0 where
  pub machine : (r : List ℕ) → length r ≡ 20 → machine_record (machine_of r) ≡ r
  pub extras : (r : List ℕ) → length r ≡ 1 → marks_record (marks_of r) ≡ r

-- the four words of the callee that an outcome carries; 0 where there is none
unfoldable pub callee_of : Meaning → List ℕ
callee_of (outcome n vs) = get_or vs 0 0 ∷ get_or vs 1 0 ∷ get_or vs 2 0 ∷ get_or vs 3 0 ∷ []
callee_of (refusal n vs) = 0 ∷ 0 ∷ 0 ∷ 0 ∷ []

-- the record of an answer and its steps: 0 or 1, the number, the steps, a refusal's value or 0, the callee
unfoldable pub answer_record : Meaning → ℕ → List ℕ
answer_record (outcome n vs) steps = 0 ∷ n ∷ steps ∷ 0 ∷ callee_of (outcome n vs)
answer_record (refusal n vs) steps = 1 ∷ n ∷ steps ∷ get_or vs 0 0 ∷ callee_of (refusal n vs)

-- Nothing is lost in a record. A machine and extras are read as they were written; by its type a machine has ten registers and four words of
-- storage address. An answer, with all that it carries, and its steps have a record that no others have.
pub record RecordsRead : Type 0 where
  pub machine : (m : Machine) → length m.registers ≡ 10 → length m.storage_addr ≡ 4 → machine_of (machine_record m) ≡ m
  pub extras : (m : Marks) → marks_of (marks_record m) ≡ m
  pub answer : (a b : Answer) (j k : ℕ) → answer_record (meaning a) j ≡ answer_record (meaning b) k → (a ≡ b) × (j ≡ k)
