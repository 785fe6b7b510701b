-- Cells after a store, of one value or of many: how many they are, that their addresses rise, and that marks and numbers keep one
-- list of addresses; and the rules' store of many, whose refusals do not depend on the cells.
use Prim.Native.Nat.{ℕ, zero, suc, ◌+◌, ◌≤◌, ◌<◌}
use mathlib.Core.Path.{◌≡◌, refl, sym, ap, subst, ◌∙◌}
use mathlib.Core.Bool.{Bool, true, false}
use mathlib.Core.List.{List, [], ◌∷◌}
use native.Mathlib.Omega.{arith}
use lib.Dec.{ltb, leb, eqb}
use lib.ListN.{length}
use borrow.Author.Tests.{lt-ltb, le-leb, ltb-true, ltb-false, eqb-true, eqb-false}
use Rattle.rules.specs.declared.Refusal.TheVariants.{StoreFault, ProphetStore}
use Rattle.rules.specs.declared.Held.{Held}
use Rattle.rules.specs.Numbers.{p, heap_end, choose}
use Rattle.rules.specs.Results.{pass}
use Rattle.rules.specs.Memory.{held}
use Rattle.rules.specs.Cells.{Cells, none, cell, put, count, addresses, contents, number_cells, mark_cells, Rising}
use Rattle.rules.specs.PlainMap.{is_present}
use Rattle.rules.specs.Step.{is_storable, store_many}
use Rattle.rules.specs.Guarded.{clean_many}
use Rattle.rules.specs.Entry.{rising_from, every}
use Rattle.rules.proofs.Laws.BoolLaws.{and_left, and_right, and-true}
use Rattle.rules.proofs.Laws.ResultLaws.{pass-injective, require-pass, pass-require}
use Rattle.rules.proofs.Laws.CellLaws.{get-put-other, count-put, zipped-again, zipped-rising, rising-put as map-rising-put}
use Rattle.hardware.specs.Buffers.{has, missing, put_many}
use Rattle.hardware.proofs.RankLaws.{rising-rest}
use Rattle.hardware.proofs.SpanLaws.{present-has}

-- Rising addresses

rising_from-put : {A : Type 0} (n : ℕ) (c : Cells A) (a : ℕ) (v : A) → n ≤ a → a < heap_end → rising_from n (addresses c) ≡ true
    → rising_from n (addresses (put c a v)) ≡ true
rising_from-put n none a v h k r = rw (le-leb n a h, lt-ltb a heap_end k)
rising_from-put {A} n (cell b w c) a v h k r = go (λ m. rising_from-put (suc b) c a v m k (rising-rest n b (addresses c) r)) (ltb a b) refl (eqb a b) refl
  where
    go : (suc b ≤ a → rising_from (suc b) (addresses (put c a v)) ≡ true) → (t : Bool) → ltb a b ≡ t → (u : Bool) → eqb a b ≡ u
        → rising_from n (addresses (choose t (cell a v (cell b w c)) (choose u (cell a v c) (cell b w (put c a v))))) ≡ true
    go i true e u f =
        let l : a < b = ltb-true a b e in
        rw (le-leb n a h, lt-ltb a heap_end k, le-leb (suc a) b (omega arith)) (and_right (leb n b) _ r)
    go i false e true f = let q : b ≡ a = sym (eqb-true a b f) in rw (← q) r
    go i false e false f =
        let l : b ≤ a = ltb-false a b e in
        let m : a ≡ b → ⊥ = eqb-false a b f in
        and-true (and_left (leb n b) _ r) (and-true (and_left (ltb b heap_end) _ (and_right (leb n b) _ r)) (i (omega arith)))

pub rising-put : {A : Type 0} (c : Cells A) (a : ℕ) (v : A) → a < heap_end → rising_from 0 (addresses c) ≡ true
    → rising_from 0 (addresses (put c a v)) ≡ true
rising-put c a v h r = rising_from-put 0 c a v (omega arith) h r

pub rising-put_many : (moment : ℕ) (c : Cells Held) (a : ℕ) (vs : List ℕ) → (0 < length vs → a + length vs ≤ heap_end)
    → rising_from 0 (addresses c) ≡ true → rising_from 0 (addresses (put_many moment c a vs)) ≡ true
rising-put_many moment c a [] h r = r
rising-put_many moment c a (v ∷ vs) h r =
    let k : a + suc (length vs) ≤ heap_end = h (omega arith) in
    rising-put_many moment (put c a (held v moment)) (suc a) vs (λ l. omega arith) (rising-put c a (held v moment) (omega arith) r)

-- Marks beside numbers

pub addresses-put : {A B : Type 0} (t : Cells A) (c : Cells B) (a : ℕ) (x : A) (y : B) → addresses t ≡ addresses c
    → addresses (put t a x) ≡ addresses (put c a y)
addresses-put none none a x y e = refl
addresses-put none (cell b w c) a x y e = absurd (let z : ◌≡◌ {A = ℕ} 0 1 = cc in omega arith)
addresses-put (cell d u t) none a x y e = absurd (let z : ◌≡◌ {A = ℕ} 0 1 = cc in omega arith)
addresses-put {A} {B} (cell d u t) (cell b w c) a x y e =
    let q : d ≡ b = cc in
    let i : addresses t ≡ addresses c = cc in
    rw q (go i (addresses-put t c a x y i) (ltb a b) (eqb a b))
  where
    go : addresses t ≡ addresses c → addresses (put t a x) ≡ addresses (put c a y) → (s r : Bool)
        → addresses (choose s (cell a x (cell b u t)) (choose r (cell a x t) (cell b u (put t a x))))
        ≡ addresses (choose s (cell a y (cell b w c)) (choose r (cell a y c) (cell b w (put c a y))))
    go i h true r = ap (λ l. a ∷ b ∷ l) i
    go i h false true = ap (λ l. a ∷ l) i
    go i h false false = ap (λ l. b ∷ l) h

pub addresses-clean_many : (moment : ℕ) (t : Cells ℕ) (c : Cells Held) (a : ℕ) (vs : List ℕ) → addresses t ≡ addresses c
    → addresses (clean_many mark_cells t a vs) ≡ addresses (put_many moment c a vs)
unfolding clean_many
addresses-clean_many moment t c a [] e = e
addresses-clean_many moment t c a (v ∷ vs) e =
    addresses-clean_many moment (put t a 0) (put c a (held v moment)) (suc a) vs (addresses-put t c a 0 (held v moment) e)

-- How many cells there are

pub has-put-other : {A : Type 0} (c : Cells A) (a : ℕ) (v : A) (x : ℕ) → (a ≡ x → ⊥) → has (addresses (put c a v)) x ≡ has (addresses c) x
has-put-other c a v x n = sym (present-has (put c a v) x) ∙ ap is_present (get-put-other c a v x n) ∙ present-has c x

-- a store changes nothing behind its address
pub missing-put : {A : Type 0} (c : Cells A) (a : ℕ) (v : A) (b n : ℕ) → a < b → missing (addresses (put c a v)) b n ≡ missing (addresses c) b n
missing-put c a v b zero h = refl
missing-put c a v b (suc n) h = rw (has-put-other c a v b (λ e. omega arith), missing-put c a v (suc b) n (omega arith))

rises : {A : Type 0} (c : Cells A) → rising_from 0 (addresses c) ≡ true → Rising c
rises c r = subst Rising (zipped-again c) (zipped-rising (addresses c) (contents c) r)

count-one : {A : Type 0} (c : Cells A) (a : ℕ) (v : A) → Rising c → count (put c a v) ≡ count c + missing (addresses c) a 1
count-one c a v r = rw (count-put 0 c a v r, present-has c a) (go (has (addresses c) a))
  where
    go : (t : Bool) → choose t (count c) (suc (count c)) ≡ count c + choose t 0 1
    go true = omega arith
    go false = omega arith

count-many : (moment : ℕ) (c : Cells Held) (a : ℕ) (vs : List ℕ) → Rising c
    → count (put_many moment c a vs) ≡ count c + missing (addresses c) a (length vs)
count-many moment c a [] r = omega arith
count-many moment c a (v ∷ vs) r =
    let d = put c a (held v moment) in
    let i : count (put_many moment d (suc a) vs) ≡ count d + missing (addresses c) (suc a) (length vs) =
    rw (missing-put c a (held v moment) (suc a) (length vs) (omega arith)) at (count-many moment d (suc a) vs (map-rising-put c a (held v moment) r))
    in
    go d (has (addresses c) a) i (count-one c a (held v moment) r)
  where
    go : (d : Cells Held) (t : Bool) → count (put_many moment d (suc a) vs) ≡ count d + missing (addresses c) (suc a) (length vs)
        → count d ≡ count c + choose t 0 1
        → count (put_many moment d (suc a) vs) ≡ count c + choose t (missing (addresses c) (suc a) (length vs)) (suc (missing (addresses c) (suc a) (length vs)))
    go d true i h = omega arith
    go d false i h = omega arith

pub count-put-missing : {A : Type 0} (c : Cells A) (a : ℕ) (v : A) → rising_from 0 (addresses c) ≡ true → count (put c a v) ≡ count c + missing (addresses c) a 1
count-put-missing c a v r = count-one c a v (rises c r)

pub count-put_many : (moment : ℕ) (c : Cells Held) (a : ℕ) (vs : List ℕ) → rising_from 0 (addresses c) ≡ true
    → count (put_many moment c a vs) ≡ count c + missing (addresses c) a (length vs)
count-put_many moment c a vs r = count-many moment c a vs (rises c r)

-- The rules' store of many

below-p : (a : ℕ) → a < heap_end → a < p
unfolding heap_end p
below-p a h = omega arith

pub stored : (moment : ℕ) (c : Cells Held) (a : ℕ) (vs : List ℕ) {d : Cells Held} → store_many number_cells moment c a vs ≡ pass d → d ≡ put_many moment c a vs
unfolding store_many
stored moment c a [] e = sym (pass-injective e)
stored moment c a (v ∷ vs) e =
    stored moment (put c a (held v moment)) (suc a) vs (require-pass (ltb a heap_end) ProphetStore _ (require-pass (ltb a p) StoreFault _ (require-pass (is_storable v) StoreFault _ e).1).1).1

-- what it says of the tests
pub stored-within : (moment : ℕ) (c : Cells Held) (a : ℕ) (vs : List ℕ) {d : Cells Held} → store_many number_cells moment c a vs ≡ pass d → 0 < length vs → a + length vs ≤ heap_end
unfolding store_many
stored-within moment c a [] e h = absurd (omega arith)
stored-within moment c a (v ∷ vs) e h =
    let q = require-pass (ltb a heap_end) ProphetStore _ (require-pass (ltb a p) StoreFault _ (require-pass (is_storable v) StoreFault _ e).1).1 in
    let k : a < heap_end = ltb-true a heap_end q.0 in
    go k vs (stored-within moment (put c a (held v moment)) (suc a) vs q.1)
  where
    go : a < heap_end → (vs : List ℕ) → (0 < length vs → suc a + length vs ≤ heap_end) → a + suc (length vs) ≤ heap_end
    go k [] i = omega arith
    go k (w ∷ ws) i = let j : suc a + suc (length ws) ≤ heap_end = i (omega arith) in omega arith

pub stores : (moment : ℕ) (c : Cells Held) (a : ℕ) (vs : List ℕ) → every is_storable vs ≡ true → (0 < length vs → a + length vs ≤ heap_end)
    → store_many number_cells moment c a vs ≡ pass (put_many moment c a vs)
unfolding store_many
stores moment c a [] s h = refl
stores moment c a (v ∷ vs) s h =
    let k : a + suc (length vs) ≤ heap_end = h (omega arith) in
    pass-require StoreFault (and_left (is_storable v) _ s)
    (pass-require StoreFault (lt-ltb a p (below-p a (omega arith)))
    (pass-require ProphetStore (lt-ltb a heap_end (omega arith)) (stores moment (put c a (held v moment)) (suc a) vs (and_right (is_storable v) _ s) (λ l. omega arith))))
