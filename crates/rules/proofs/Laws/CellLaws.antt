-- The laws of the rising list as a map, over any content of a cell.
use Prim.Native.Nat.{ℕ, suc, ◌≤◌, ◌<◌}
use mathlib.Core.Path.{◌≡◌, refl, sym, ap, subst, ◌∙◌}
use mathlib.Core.Bool.{Bool, true, false}
use mathlib.Core.List.{List, [], ◌∷◌}
use native.Mathlib.Omega.{arith}
use lib.Dec.{ltb, leb, eqb}
use lib.ListN.{length}
use borrow.Author.Tests.{ltb-true, ltb-false, leb-true, eqb-true, eqb-false, eq-eqb, ne_eqb}
use Rattle.rules.specs.Numbers.{heap_end, choose}
use Rattle.rules.specs.Memory.{absent, present}
use Rattle.rules.specs.Cells.{Cells, none, cell, get, put, count, addresses, contents, zipped, RisingFrom, Rising}
use Rattle.rules.specs.PlainMap.{is_present}
use Rattle.rules.specs.Entry.{rising_from}
use Rattle.rules.proofs.Laws.BoolLaws.{and_left, and_right}

module _ {A : Type 0} where
  pub get-put-same : (c : Cells A) (a : ℕ) (v : A) → get (put c a v) a ≡ present v
  get-put-same none a v = rw (eq-eqb a a refl)
  get-put-same (cell b w c) a v = go (get-put-same c a v) (ltb a b) (eqb a b) refl
    where
      go : get (put c a v) a ≡ present v → (t u : Bool) → eqb a b ≡ u
          → get (choose t (cell a v (cell b w c)) (choose u (cell a v c) (cell b w (put c a v)))) a ≡ present v
      go h true u f = rw (eq-eqb a a refl)
      go h false true f = rw (eq-eqb a a refl)
      go h false false f = rw (ne_eqb b a (λ q. eqb-false a b f (sym q))) h

  pub get-put-other : (c : Cells A) (a : ℕ) (v : A) (x : ℕ) → (a ≡ x → ⊥) → get (put c a v) x ≡ get c x
  get-put-other none a v x n = rw (ne_eqb a x n)
  get-put-other (cell b w c) a v x n = go (get-put-other c a v x n) (ltb a b) (eqb a b) refl
    where
      go : get (put c a v) x ≡ get c x → (t u : Bool) → eqb a b ≡ u
          → get (choose t (cell a v (cell b w c)) (choose u (cell a v c) (cell b w (put c a v)))) x ≡ get (cell b w c) x
      go h true u f = rw (ne_eqb a x n)
      go h false true f = rw (ne_eqb a x n, ne_eqb b x (λ q. n (eqb-true a b f ∙ q)))
      go h false false f = ap (choose (eqb b x) (present w)) h

  -- both at once
  pub get-put : (c : Cells A) (a : ℕ) (v : A) (x : ℕ) → get (put c a v) x ≡ choose (eqb a x) (present v) (get c x)
  get-put c a v x = go (eqb a x) refl
    where
      go : (t : Bool) → eqb a x ≡ t → get (put c a v) x ≡ choose t (present v) (get c x)
      go true e = subst (λ y. get (put c a v) y ≡ present v) (eqb-true a x e) (get-put-same c a v)
      go false e = get-put-other c a v x (eqb-false a x e)

  pub get-below : (n : ℕ) (c : Cells A) (a : ℕ) → RisingFrom n c → a < n → get c a ≡ absent
  get-below n none a r h = refl
  get-below n (cell b w c) a r h = rw (ne_eqb b a (λ q. omega arith)) (get-below (suc b) c a r.1 (omega arith))

  pub rising_from-put : (n : ℕ) (c : Cells A) (a : ℕ) (v : A) → RisingFrom n c → n ≤ a → RisingFrom n (put c a v)
  rising_from-put n none a v r h = (h, tt)
  rising_from-put n (cell b w c) a v r h = go (λ k. rising_from-put (suc b) c a v r.1 k) (ltb a b) refl (eqb a b) refl
    where
      go : (suc b ≤ a → RisingFrom (suc b) (put c a v)) → (t : Bool) → ltb a b ≡ t → (u : Bool) → eqb a b ≡ u
          → RisingFrom n (choose t (cell a v (cell b w c)) (choose u (cell a v c) (cell b w (put c a v))))
      go k true e u f = (h, (ltb-true a b e, r.1))
      go k false e true f = (h, subst (λ (m : ℕ). RisingFrom (suc m) c) (sym (eqb-true a b f)) r.1)
      go k false e false f = (r.0, k (let l : b ≤ a = ltb-false a b e in let m : a ≡ b → ⊥ = eqb-false a b f in omega arith))

  pub rising-put : (c : Cells A) (a : ℕ) (v : A) → Rising c → Rising (put c a v)
  rising-put c a v r = rising_from-put 0 c a v r (omega arith)

  -- an address that was absent takes one cell, one that was present none
  pub count-put : (n : ℕ) (c : Cells A) (a : ℕ) (v : A) → RisingFrom n c
      → count (put c a v) ≡ choose (is_present (get c a)) (count c) (suc (count c))
  count-put n none a v r = refl
  count-put n (cell b w c) a v r = go (count-put (suc b) c a v r.1) (ltb a b) refl (eqb a b) refl
    where
      go : count (put c a v) ≡ choose (is_present (get c a)) (count c) (suc (count c)) → (t : Bool) → ltb a b ≡ t → (u : Bool) → eqb a b ≡ u
          → count (choose t (cell a v (cell b w c)) (choose u (cell a v c) (cell b w (put c a v))))
          ≡ choose (is_present (get (cell b w c) a)) (count (cell b w c)) (suc (count (cell b w c)))
      go h true e u f =
          let l : a < b = ltb-true a b e in
          rw (ne_eqb b a (λ q. omega arith), get-below (suc b) c a r.1 (omega arith))
      go h false e true f = rw (eq-eqb b a (sym (eqb-true a b f)))
      go h false e false f = rw (ne_eqb b a (λ q. eqb-false a b f (sym q)), h) (last (is_present (get c a)))
        where
          last : (t : Bool) → suc (choose t (count c) (suc (count c))) ≡ choose t (suc (count c)) (suc (suc (count c)))
          last true = refl
          last false = refl

  present-injective : (v w : A) → present v ≡ present w → v ≡ w
  present-injective v w e = cc

  pub absent-present : (v : A) → absent ≡ present v → ⊥
  absent-present v e = let z : ◌≡◌ {A = ℕ} 0 1 = cc in omega arith

  -- what lies behind the first cell does not have its address
  pub other-address : (b : ℕ) (c : Cells A) (a : ℕ) (v : A) → RisingFrom (suc b) c → get c a ≡ present v → eqb b a ≡ false
  other-address b c a v r e =
      ne_eqb b a (λ q. let l : a < suc b = omega arith in absent-present v (sym (get-below (suc b) c a r l) ∙ e))

  pub get-behind : (b : ℕ) (w : A) (c : Cells A) (a : ℕ) (v : A) → RisingFrom (suc b) c → get c a ≡ present v → get (cell b w c) a ≡ present v
  get-behind b w c a v r e = rw (other-address b c a v r e) e

  -- two rising lists that hold the same at every address are one
  pub extensional : (n : ℕ) (c d : Cells A) → RisingFrom n c → RisingFrom n d → ((a : ℕ) → get c a ≡ get d a) → c ≡ d
  extensional n none none r q e = refl
  extensional n none (cell b w d) r q e = absurd (absent-present w (rw (eq-eqb b b refl) at (e b)))
  extensional n (cell a v c) none r q e = absurd (absent-present v (sym (rw (eq-eqb a a refl) at (e a))))
  extensional n (cell a v c) (cell b w d) r q e = go (λ k l. extensional (suc a) c d r.1 k l) (ltb a b) refl (ltb b a) refl
    where
      at_a : get (cell a v c) a ≡ present v
      at_a = rw (eq-eqb a a refl)

      at_b : get (cell b w d) b ≡ present w
      at_b = rw (eq-eqb b b refl)

      go : (RisingFrom (suc a) d → ((x : ℕ) → get c x ≡ get d x) → c ≡ d) → (t : Bool) → ltb a b ≡ t → (u : Bool) → ltb b a ≡ u
          → cell a v c ≡ cell b w d
      go k true f u g =
          let l : a < b = ltb-true a b f in
          absurd (absent-present v (sym (get-below b (cell b w d) a (omega arith, q.1) l) ∙ sym (e a) ∙ at_a))
      go k false f true g =
          let l : b < a = ltb-true b a g in
          absurd (absent-present w (sym (get-below a (cell a v c) b (omega arith, r.1) l) ∙ e b ∙ at_b))
      go k false f false g = both
        where
          same : a ≡ b
          same = let l : b ≤ a = ltb-false a b f in let m : a ≤ b = ltb-false b a g in omega arith

          low : RisingFrom (suc a) d
          low = subst (λ (m : ℕ). RisingFrom (suc m) d) (sym same) q.1

          tail : (x : ℕ) (t : Bool) → eqb a x ≡ t → get c x ≡ get d x
          tail x true h =
              let l : x < suc a = let y : a ≡ x = eqb-true a x h in omega arith in
              get-below (suc a) c x r.1 l ∙ sym (get-below (suc a) d x low l)
          tail x false h =
              let y : a ≡ x → ⊥ = eqb-false a x h in
              rw (h, ne_eqb b x (λ z. y (same ∙ z))) at (e x)

          values : v ≡ w
          values = present-injective v w (sym at_a ∙ e a ∙ ap (get (cell b w d)) same ∙ at_b)

          both : cell a v c ≡ cell b w d
          both = let z : c ≡ d = k low (λ x. tail x (eqb a x) refl) in let y : a ≡ b = same in let u : v ≡ w = values in cc

  -- The buffers' lists

  pub length-addresses : (c : Cells A) → length (addresses c) ≡ count c
  length-addresses none = refl
  length-addresses (cell a v c) = ap suc (length-addresses c)

  pub length-contents : (c : Cells A) → length (contents c) ≡ count c
  length-contents none = refl
  length-contents (cell a v c) = ap suc (length-contents c)

  -- whether a list rises is a matter of its addresses
  pub rising-addresses : {B : Type 0} (n : ℕ) (c : Cells A) (d : Cells B) → addresses c ≡ addresses d → RisingFrom n d → RisingFrom n c
  rising-addresses n none none e r = tt
  rising-addresses n none (cell b w d) e r = tt
  rising-addresses n (cell a v c) none e r = absurd (let z : ◌≡◌ {A = ℕ} 0 1 = cc in omega arith)
  rising-addresses n (cell a v c) (cell b w d) e r =
      let x : b ≡ a = cc in
      let y : addresses c ≡ addresses d = cc in
      (subst (λ m. n ≤ m) x r.0, rising-addresses (suc a) c d y (subst (λ m. RisingFrom (suc m) d) x r.1))

  pub zipped-again : (c : Cells A) → zipped (addresses c) (contents c) ≡ c
  zipped-again none = refl
  zipped-again (cell a v c) = ap (cell a v) (zipped-again c)

  pub addresses-zipped : (l : List ℕ) (vs : List A) → length l ≤ length vs → addresses (zipped l vs) ≡ l
  addresses-zipped [] vs h = refl
  addresses-zipped (a ∷ l) [] h = absurd (omega arith)
  addresses-zipped (a ∷ l) (v ∷ vs) h = ap (◌∷◌ a) (addresses-zipped l vs (omega arith))

  pub contents-zipped : (l : List ℕ) (vs : List A) → length l ≡ length vs → contents (zipped l vs) ≡ vs
  contents-zipped [] [] h = refl
  contents-zipped [] (v ∷ vs) h = absurd (omega arith)
  contents-zipped (a ∷ l) [] h = absurd (omega arith)
  contents-zipped (a ∷ l) (v ∷ vs) h = ap (◌∷◌ v) (contents-zipped l vs (omega arith))

  pub count-zipped : (l : List ℕ) (vs : List A) → count (zipped l vs) ≤ length l
  count-zipped [] vs = omega arith
  count-zipped (a ∷ l) [] = omega arith
  count-zipped (a ∷ l) (v ∷ vs) = let h : count (zipped l vs) ≤ length l = count-zipped l vs in omega arith

  pub zipped-rising_from : (n : ℕ) (l : List ℕ) (vs : List A) → rising_from n l ≡ true → RisingFrom n (zipped l vs)
  zipped-rising_from n [] vs t = tt
  zipped-rising_from n (a ∷ l) [] t = tt
  zipped-rising_from n (a ∷ l) (v ∷ vs) t =
      (leb-true n a (and_left (leb n a) _ t), zipped-rising_from (suc a) l vs (and_right (ltb a heap_end) _ (and_right (leb n a) _ t)))

  pub zipped-rising : (l : List ℕ) (vs : List A) → rising_from 0 l ≡ true → Rising (zipped l vs)
  zipped-rising l vs t = zipped-rising_from 0 l vs t
