-- Joined words at the start of a text.
use Rattle.std.specs.Prelude.{Option, Some, None}
use mathlib.Core.Path.{◌≡◌, refl, sym, ap, ◌∙◌}
use mathlib.Core.List.{List, [], ◌∷◌}
use Prim.Native.Nat.{ℕ, zero, suc, ◌+◌, ◌*◌, ◌-◌, ◌≤◌}
use native.Mathlib.Nat.{zero-add, suc-add}
use native.Mathlib.Omega.{arith}
use lib.ListN.{length, take, drop}
use lib.Seq.{take-take, take-nil}
use Rattle.rules.specs.Hexadecimal.{word_of}
use Rattle.rules.specs.Text.{cons_word, joined_words}

-- Joined words

never : (ws : List ℕ) → None ≡ Some ws → ⊥
never ws e = let z : ◌≡◌ {A = ℕ} 0 1 = cc in omega arith

cons-length : (h : Option ℕ) (r : Option (List ℕ)) (n : ℕ) → ((vs : List ℕ) → r ≡ Some vs → length vs ≡ n) → (ws : List ℕ) → cons_word h r ≡ Some ws → length ws ≡ suc n
cons-length None r n k ws e = absurd (never ws e)
cons-length (Some v) None n k ws e = absurd (never ws e)
cons-length (Some v) (Some vs) n k ws e = let f : v ∷ vs ≡ ws = cc in ap length (sym f) ∙ ap suc (k vs refl)

pub joined_length : (n : ℕ) (l ws : List ℕ) → joined_words n l ≡ Some ws → length ws ≡ n
unfolding joined_words
joined_length zero l ws e = let f : [] ≡ ws = cc in ap length (sym f)
joined_length (suc n) l ws e = cons-length (word_of (take 16 l)) (joined_words n (drop 16 l)) n (joined_length n (drop 16 l)) ws e

-- of a longer text only the digits of the words matter
drop-take : (a b : ℕ) (t : List ℕ) → drop a (take (a + b) t) ≡ take b (drop a t)
drop-take zero b t = rw (zero-add b)
drop-take (suc a) b [] = rw (take-nil (suc a + b), take-nil b)
drop-take (suc a) b (x ∷ t) = rw (suc-add a b) (drop-take a b t)

pub joined-take : (n m : ℕ) (t : List ℕ) → 16 * n ≤ m → joined_words n (take m t) ≡ joined_words n t
unfolding joined_words
joined-take zero m t h = refl
joined-take (suc n) m t h =
    let e : m ≡ 16 + (m - 16) = omega arith in
    rw (take-take 16 m t (omega arith))
    (ap (cons_word (word_of (take 16 t)))
    (ap (λ (k : ℕ). joined_words n (drop 16 (take k t))) e
    ∙ ap (joined_words n) (drop-take 16 (m - 16) t)
    ∙ joined-take n (m - 16) (drop 16 t) (omega arith)))
