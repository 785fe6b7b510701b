-- What it says of the stages that a whole result passes, or stops at a sink; and back.
use Prim.Native.Nat.{ℕ}
use mathlib.Core.Path.{◌≡◌, refl}
use mathlib.Core.Bool.{Bool, true, false}
use native.Mathlib.Omega.{arith}
use Rattle.rules.specs.declared.Refusal.{Refusal}
use Rattle.rules.specs.Results.{Result, refuse, pass, require, bind, GuardedResult, sink, passes, after, guard}

pub refuse-pass : {A X : Type 0} {f : Refusal} {a : A} → refuse f ≡ pass a → X
refuse-pass h = absurd (let z : ◌≡◌ {A = ℕ} 0 1 = cc in omega arith)

pub pass-injective : {A : Type 0} {a b : A} → pass a ≡ pass b → a ≡ b
pass-injective h = cc

pub require-pass : {A : Type 0} (b : Bool) (f : Refusal) (r : Result A) {a : A} → require b f r ≡ pass a → (b ≡ true) × (r ≡ pass a)
unfolding require
require-pass true f r h = (refl, h)
require-pass false f r h = refuse-pass h

pub bind-pass : {A B : Type 0} (r : Result A) (k : A → Result B) {b : B} → bind r k ≡ pass b → (a : A) × (r ≡ pass a) × (k a ≡ pass b)
unfolding bind
bind-pass (refuse f) k h = refuse-pass h
bind-pass (pass a) k h = (a, refl, h)

pub pass-require : {A : Type 0} {b : Bool} (f : Refusal) {r : Result A} {a : A} → b ≡ true → r ≡ pass a → require b f r ≡ pass a
unfolding require
pass-require f e h = rw e h

pub pass-bind : {A B : Type 0} {r : Result A} {a : A} (k : A → Result B) {b : B} → r ≡ pass a → k a ≡ pass b → bind r k ≡ pass b
unfolding bind
pass-bind k e h = rw e h

pub bind-step : {A B : Type 0} {r : Result A} {a : A} (k : A → Result B) → r ≡ pass a → bind r k ≡ k a
unfolding bind
bind-step k e = rw e

pub after-step : {A B : Type 0} {r : Result A} {a : A} (k : A → GuardedResult B) → r ≡ pass a → after r k ≡ k a
unfolding after
after-step k e = rw e

pub after-sink : {A B : Type 0} (r : Result A) (k : A → GuardedResult B) → after r k ≡ sink → (a : A) × (r ≡ pass a) × (k a ≡ sink)
unfolding after
after-sink (refuse f) k h = absurd (let z : ◌≡◌ {A = ℕ} 0 1 = cc in omega arith)
after-sink (pass a) k h = (a, refl, h)

pub after-passes : {A B : Type 0} (r : Result A) (k : A → GuardedResult B) {b : B} → after r k ≡ passes b → (a : A) × (r ≡ pass a) × (k a ≡ passes b)
unfolding after
after-passes (refuse f) k h = absurd (let z : ◌≡◌ {A = ℕ} 0 1 = cc in omega arith)
after-passes (pass a) k h = (a, refl, h)

-- a guard stops at its own sink, or the rest does
pub guard-sink : {A X : Type 0} (b : Bool) (r : GuardedResult A) → guard b r ≡ sink → (b ≡ true → X) → (b ≡ false → r ≡ sink → X) → X
unfolding guard
guard-sink true r h f g = f refl
guard-sink false r h f g = g refl h

pub sink-guard : {A : Type 0} (b : Bool) (r : GuardedResult A) → (b ≡ false → r ≡ sink) → guard b r ≡ sink
unfolding guard
sink-guard true r h = refl
sink-guard false r h = h refl

pub guard-passes : {A : Type 0} (b : Bool) (r : GuardedResult A) {a : A} → guard b r ≡ passes a → (b ≡ false) × (r ≡ passes a)
unfolding guard
guard-passes true r h = absurd (let z : ◌≡◌ {A = ℕ} 0 1 = cc in omega arith)
guard-passes false r h = (refl, h)
