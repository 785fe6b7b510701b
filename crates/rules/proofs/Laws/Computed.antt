-- A test that is computed at each number below a bound, and what it shows of each of them.
use mathlib.Core.Path.{◌∙◌, subst, sym}
use mathlib.Core.Bool.{Bool, true, false}
use Prim.Native.Nat.{ℕ, zero, suc, ◌+◌, ◌<◌}
use native.Mathlib.Nat.{add-zero, zero-add, add-suc, suc-add, le_of_suc-le-suc, not-suc-le-zero}
use lib.Dec.{T}

abbrev pub both : Bool → Bool → Bool
both true b = b
both false b = false

pub both_left : (a b : Bool) → T (both a b) → T a
both_left true b t = tt
both_left false b t = t

pub both_right : (a b : Bool) → T (both a b) → T b
both_right true b t = t
both_right false b t = absurd t

-- the test passes at i and at the n - 1 numbers after it
abbrev pub every : (ℕ → Bool) → ℕ → ℕ → Bool
every f i zero = true
every f i (suc n) = both (f i) (every f (suc i) n)

from : (f : ℕ → Bool) (i n : ℕ) → T (every f i n) → (k : ℕ) → k < n → T (f (i + k))
from f i zero t k h = absurd (not-suc-le-zero h)
from f i (suc n) t zero h = subst (λ (m : ℕ). T (f m)) (sym (add-zero i)) (both_left (f i) (every f (suc i) n) t)
from f i (suc n) t (suc k) h =
    subst (λ (m : ℕ). T (f m)) (suc-add i k ∙ sym (add-suc i k))
    (from f (suc i) n (both_right (f i) (every f (suc i) n) t) k (le_of_suc-le-suc h))

pub at : (f : ℕ → Bool) (n : ℕ) → T (every f 0 n) → (k : ℕ) → k < n → T (f k)
at f n t k h = subst (λ (m : ℕ). T (f m)) (zero-add k) (from f 0 n t k h)
