-- A property of what a stage refuses with: through the stages of a step.
use mathlib.Core.Path.{◌≡◌, subst}
use mathlib.Core.Bool.{Bool, true, false}
use Rattle.rules.specs.declared.Refusal.{Refusal}
use Rattle.rules.specs.Numbers.{choose}
use Rattle.rules.specs.Results.{Result, refuse, pass, require, bind, GuardedResult, refuses, sink, passes, after, guard}

pub data Refusing (P : Refusal → Type 0) {A : Type 0} : Result A → Type 0 where
  refusing-refused : {f : Refusal} → P f → Refusing P (refuse f)
  passed : {a : A} → Refusing P (pass a)

-- of a guarded step, which may also stop at a sink
pub data RefusingGuarded (P : Refusal → Type 0) {A : Type 0} : GuardedResult A → Type 0 where
  refused-guarded : {f : Refusal} → P f → RefusingGuarded P (refuses f)
  sink-guarded : RefusingGuarded P sink
  passed-guarded : {a : A} → RefusingGuarded P (passes a)

module _ {P : Refusal → Type 0} {A : Type 0} where
  pub refusing-require : (b : Bool) (f : Refusal) {r : Result A} → P f → Refusing P r → Refusing P (require b f r)
  unfolding require
  refusing-require true f p h = h
  refusing-require false f p h = refusing-refused p

  pub refusing-choose : {r q : Result A} (b : Bool) → Refusing P r → Refusing P q → Refusing P (choose b r q)
  refusing-choose true h k = h
  refusing-choose false h k = k

  pub refusing-bind : {B : Type 0} {r : Result B} (k : B → Result A) → Refusing P r → ((b : B) → Refusing P (k b)) → Refusing P (bind r k)
  unfolding bind
  refusing-bind k (refusing-refused p) h = refusing-refused p
  refusing-bind k (passed {a}) h = h a

  pub refusing-after : {B : Type 0} {r : Result B} (k : B → GuardedResult A) → Refusing P r → ((b : B) → RefusingGuarded P (k b))
      → RefusingGuarded P (after r k)
  unfolding after
  refusing-after k (refusing-refused p) h = refused-guarded p
  refusing-after k (passed {a}) h = h a

  pub refusing-guard : {r : GuardedResult A} (b : Bool) → RefusingGuarded P r → RefusingGuarded P (guard b r)
  unfolding guard
  refusing-guard true h = sink-guarded
  refusing-guard false h = h

-- what is refused has the property
pub refusing-at : {P : Refusal → Type 0} {A : Type 0} {x : Result A} {f : Refusal} → Refusing P x → x ≡ refuse f → P f
refusing-at {P} {A} h e = go (subst (Refusing P) e h)
  where
    go : {f : Refusal} → Refusing P {A = A} (refuse f) → P f
    go (refusing-refused p) = p

pub refusing-guarded-at : {P : Refusal → Type 0} {A : Type 0} {x : GuardedResult A} {f : Refusal} → RefusingGuarded P x → x ≡ refuses f → P f
refusing-guarded-at {P} {A} h e = go (subst (RefusingGuarded P) e h)
  where
    go : {f : Refusal} → RefusingGuarded P {A = A} (refuses f) → P f
    go (refused-guarded p) = p
