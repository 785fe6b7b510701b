-- Where a value goes among the used elements of a buffer.
use Rattle.std.specs.Prelude.{ℕ, zero, suc, List, [], ◌∷◌, ◌++◌, length, take, drop, replicate}
use Rattle.rules.specs.Step.{overlay}

-- v put in at a place; those from there on move up by one
abbrev pub insert_at : ℕ → ℕ → List ℕ → List ℕ
insert_at zero v l = v ∷ l
insert_at (suc i) v [] = v ∷ []
insert_at (suc i) v (x ∷ l) = x ∷ insert_at i v l

-- values in the place of those from a place on
abbrev pub overwritten : ℕ → List ℕ → List ℕ → List ℕ
overwritten i vs l = take i l ++ overlay vs (drop i l)

-- as many of one value
abbrev pub filled : ℕ → List ℕ → List ℕ
filled v l = replicate (length l) v

-- n addresses without gaps
abbrev pub consecutive : ℕ → ℕ → List ℕ
consecutive a zero = []
consecutive a (suc n) = a ∷ consecutive (suc a) n

-- values in the place of those from one place to another
abbrev pub spliced : ℕ → ℕ → List ℕ → List ℕ → List ℕ
spliced low high vs l = take low l ++ (vs ++ drop high l)

-- of the first n elements those from one place on, moved to another; all others stay
abbrev pub moved : ℕ → ℕ → ℕ → List ℕ → List ℕ
moved n from to l = overwritten to (drop from (take n l)) l
