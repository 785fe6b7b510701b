-- How results that stand side by side go through the stages of a step and the steps of a run.
use Prim.Native.Nat.{ℕ, suc}
use mathlib.Core.Path.{◌≡◌, refl, ap, subst}
use mathlib.Core.Bool.{Bool, true, false}
use lib.Dec.{ltb}
use Rattle.rules.specs.declared.Refusal.{Refusal}
use Rattle.rules.specs.Numbers.{clock_end}
use Rattle.rules.specs.Results.{Result, refuse, pass, require, bind, GuardedResult, after, guard}
use Rattle.rules.specs.Step.{Finish, goes_on, ends, calls, delegates, RunEnd, on_clock, on_finish}
use Rattle.rules.specs.Relations.{Both, both-refused, passed, BothGuarded, refused-alike, sink-alike, BothRan}

-- Results

pub both-same : {A : Type 0} {R : A → A → Type 0} → ((a : A) → R a a) → (r : Result A) → Both R r r
both-same h (refuse f) = both-refused
both-same h (pass a) = passed (h a)

pub both_equal : {A : Type 0} {r q : Result A} → r ≡ q → Both (λ a b. a ≡ b) r q
both_equal {r = r} e = subst (Both (λ a b. a ≡ b) r) e (both-same (λ a. refl) r)

pub both-bind : {A B C D : Type 0} {R : A → B → Type 0} {S : C → D → Type 0} {r : Result A} {q : Result B} (f : A → Result C) (g : B → Result D)
    → Both R r q → ((a : A) (b : B) → R a b → Both S (f a) (g b)) → Both S (bind r f) (bind q g)
unfolding bind
both-bind f g both-refused h = both-refused
both-bind f g (passed {a} {b} x) h = h a b x

-- after equal results the rest has one value to go on with
pub both-bind-equal : {A C D : Type 0} {S : C → D → Type 0} {r q : Result A} (f : A → Result C) (g : A → Result D)
    → r ≡ q → ((a : A) → Both S (f a) (g a)) → Both S (bind r f) (bind q g)
unfolding bind
both-bind-equal {S = S} {r = r} f g e h = subst (λ q. Both S (bind r f) (bind q g)) e (go r)
  where
    go : (r : Result _) → Both S (bind r f) (bind r g)
    go (refuse x) = both-refused
    go (pass a) = h a

-- one test, equal on both sides, before related results
pub both-require : {A B : Type 0} {R : A → B → Type 0} {b c : Bool} (f : Refusal) {r : Result A} {q : Result B} → b ≡ c → Both R r q
    → Both R (require b f r) (require c f q)
unfolding require
both-require {R = R} {b = b} f {r} {q} e h = subst (λ c. Both R (require b f r) (require c f q)) e (go b)
  where
    go : (b : Bool) → Both R (require b f r) (require b f q)
    go true = h
    go false = both-refused

-- Guarded steps

pub both-after : {A B C D : Type 0} {R : A → B → Type 0} {S : C → D → Type 0} {r : Result A} {q : Result B} (f : A → GuardedResult C)
    (g : B → GuardedResult D) → Both R r q → ((a : A) (b : B) → R a b → BothGuarded S (f a) (g b)) → BothGuarded S (after r f) (after q g)
unfolding after
both-after f g both-refused h = refused-alike
both-after f g (passed {a} {b} x) h = h a b x

pub both-after-equal : {A C D : Type 0} {S : C → D → Type 0} {r q : Result A} (f : A → GuardedResult C) (g : A → GuardedResult D)
    → r ≡ q → ((a : A) → BothGuarded S (f a) (g a)) → BothGuarded S (after r f) (after q g)
unfolding after
both-after-equal {S = S} {r = r} f g e h = subst (λ q. BothGuarded S (after r f) (after q g)) e (go r)
  where
    go : (r : Result _) → BothGuarded S (after r f) (after r g)
    go (refuse x) = refused-alike
    go (pass a) = h a

pub both-guard : {A B : Type 0} {R : A → B → Type 0} {b c : Bool} {r : GuardedResult A} {q : GuardedResult B} → b ≡ c → BothGuarded R r q
    → BothGuarded R (guard b r) (guard c q)
unfolding guard
both-guard {R = R} {b = b} {r = r} {q = q} e h = subst (λ c. BothGuarded R (guard b r) (guard c q)) e (go b)
  where
    go : (b : Bool) → BothGuarded R (guard b r) (guard b q)
    go true = sink-alike
    go false = h

-- Runs: what follows an accepted step that leaves related states, the same clk and the same way to leave the run

module _ {S T : Type 0} (R : S → T → Type 0) where
  both-clock : (b : Bool) (s : S) (t : T) (r : RunEnd S) (q : RunEnd T) → R s t → BothRan R r q → BothRan R (on_clock b s r) (on_clock b t q)
  both-clock true s t r q h k = record { answer = k.answer; steps = ap suc k.steps; state = k.state }
  both-clock false s t r q h k = record { answer = refl; steps = refl; state = h }

  pub both-finish : {f g : Finish} {m n : ℕ} (s : S) (t : T) (k : S → RunEnd S) (l : T → RunEnd T) → f ≡ g → m ≡ n → R s t → BothRan R (k s) (l t)
      → BothRan R (on_finish f m s k) (on_finish g n t l)
  both-finish {f} {g} {m} {n} s t k l d e h r =
      subst (λ g. BothRan R (on_finish f m s k) (on_finish g n t l)) d
      (subst (λ n. BothRan R (on_finish f m s k) (on_finish f n t l)) e (go f))
    where
      go : (f : Finish) → BothRan R (on_finish f m s k) (on_finish f m t l)
      go goes_on = both-clock (ltb m clock_end) s t (k s) (l t) h r
      go ends = record { answer = refl; steps = refl; state = h }
      go (calls vs) = record { answer = refl; steps = refl; state = h }
      go (delegates vs) = record { answer = refl; steps = refl; state = h }
