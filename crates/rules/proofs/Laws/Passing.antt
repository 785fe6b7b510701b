-- A property of what passes: through the stages of a step, and along a run.
use Prim.Native.Nat.{ℕ}
use mathlib.Core.Path.{◌≡◌, refl, subst}
use mathlib.Core.Bool.{Bool, true, false}
use lib.Dec.{ltb}
use Rattle.rules.specs.declared.Refusal.{Refusal}
use Rattle.rules.specs.Numbers.{clock_end}
use Rattle.rules.specs.Results.{Result, refuse, pass, require, bind, GuardedResult, refuses, sink, passes, after, guard}
use Rattle.rules.specs.Step.{Finish, goes_on, ends, calls, delegates, RunEnd, on_clock, on_finish}

pub data Passing {A : Type 0} (P : A → Type 0) : Result A → Type 0 where
  passing-refused : {f : Refusal} → Passing P (refuse f)
  passed : {a : A} → P a → Passing P (pass a)

pub passing-require : {A : Type 0} {P : A → Type 0} {b : Bool} (f : Refusal) {r : Result A} → (b ≡ true → Passing P r) → Passing P (require b f r)
unfolding require
passing-require {P = P} {b} f {r} h = go b h
  where
    go : (b : Bool) → (b ≡ true → Passing P r) → Passing P (require b f r)
    go true h = h refl
    go false h = passing-refused

pub passing-bind : {A B : Type 0} {Q : A → Type 0} {P : B → Type 0} {r : Result A} (k : A → Result B) → Passing Q r
    → ((a : A) → Q a → Passing P (k a)) → Passing P (bind r k)
unfolding bind
passing-bind k passing-refused h = passing-refused
passing-bind k (passed {a} q) h = h a q

-- whatever passes first
pub passing-any : {A B : Type 0} {P : B → Type 0} (r : Result A) (k : A → Result B) → ((a : A) → Passing P (k a)) → Passing P (bind r k)
unfolding bind
passing-any {P = P} r k h = go r
  where
    go : (r : Result _) → Passing P (bind r k)
    go (refuse f) = passing-refused
    go (pass a) = h a

pub passing-both : {A : Type 0} {P Q : A → Type 0} {r : Result A} → Passing P r → Passing Q r → Passing (λ a. P a × Q a) r
passing-both passing-refused k = passing-refused
passing-both (passed h) (passed k) = passed (h, k)

pub passing-at : {A : Type 0} {P : A → Type 0} {r : Result A} {a : A} → Passing P r → r ≡ pass a → P a
passing-at {P = P} {r} {a} h e = go (subst (Passing P) e h)
  where
    go : {a : _} → Passing P (pass a) → P a
    go (passed q) = q

-- of a guarded step, which may also stop at a sink
pub data PassingGuarded {A : Type 0} (P : A → Type 0) : GuardedResult A → Type 0 where
  refused-guarded : {f : Refusal} → PassingGuarded P (refuses f)
  sink-guarded : PassingGuarded P sink
  passed-guarded : {a : A} → P a → PassingGuarded P (passes a)

pub passing-after : {A B : Type 0} {Q : A → Type 0} {P : B → Type 0} {r : Result A} (k : A → GuardedResult B) → Passing Q r
    → ((a : A) → Q a → PassingGuarded P (k a)) → PassingGuarded P (after r k)
unfolding after
passing-after k passing-refused h = refused-guarded
passing-after k (passed {a} q) h = h a q

pub passing-after-any : {A B : Type 0} {P : B → Type 0} (r : Result A) (k : A → GuardedResult B) → ((a : A) → PassingGuarded P (k a))
    → PassingGuarded P (after r k)
unfolding after
passing-after-any (refuse f) k h = refused-guarded
passing-after-any (pass a) k h = h a

pub passing-guard : {A : Type 0} {P : A → Type 0} (b : Bool) {r : GuardedResult A} → PassingGuarded P r → PassingGuarded P (guard b r)
unfolding guard
passing-guard true h = sink-guarded
passing-guard false h = h

pub passing-guarded-at : {A : Type 0} {P : A → Type 0} {r : GuardedResult A} {a : A} → PassingGuarded P r → r ≡ passes a → P a
passing-guarded-at {P = P} h e = go (subst (PassingGuarded P) e h)
  where
    go : {a : _} → PassingGuarded P (passes a) → P a
    go (passed-guarded q) = q

-- a property of the state that an accepted step leaves, and of what the rest of the run leaves, holds of the whole run's end
module _ {S : Type 0} (P : S → Type 0) where
  clock-keeps : (b : Bool) (s : S) (r : RunEnd S) → P s → P r.state → P (on_clock b s r).state
  clock-keeps true s r h k = k
  clock-keeps false s r h k = h

  pub finish-keeps : (f : Finish) (clk : ℕ) (s : S) (k : S → RunEnd S) → P s → P (k s).state → P (on_finish f clk s k).state
  finish-keeps goes_on clk s k h q = clock-keeps (ltb clk clock_end) s (k s) h q
  finish-keeps ends clk s k h q = h
  finish-keeps (calls vs) clk s k h q = h
  finish-keeps (delegates vs) clk s k h q = h
