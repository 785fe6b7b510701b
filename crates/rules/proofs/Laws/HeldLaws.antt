-- Numbers and moments: two lists beside each other and one of both; and cells with one part of what they hold.
use Prim.Native.Nat.{ℕ, zero, suc, ◌≤◌, ◌<◌}
use mathlib.Core.Path.{◌≡◌, refl, ap, ◌∙◌}
use mathlib.Core.Bool.{Bool, true, false}
use mathlib.Core.List.{List, [], ◌∷◌, map}
use native.Mathlib.Omega.{arith}
use lib.Dec.{ltb, eqb}
use lib.ListN.{length, get_or, take}
use Rattle.rules.specs.declared.Held.{Held}
use Rattle.rules.specs.Numbers.{choose}
use Rattle.rules.specs.Memory.{Content, absent, present, held, numbers_of, moments_of, held_of}
use Rattle.rules.specs.Cells.{Cells, none, cell, get, put, count, addresses, contents, zipped}
use Rattle.rules.proofs.Laws.CellLaws.{length-contents}

pub length-map : {A B : Type 0} (f : A → B) (l : List A) → length (map f l) ≡ length l
length-map f [] = refl
length-map f (x ∷ l) = ap suc (length-map f l)

pub take-map : {A B : Type 0} (f : A → B) (n : ℕ) (l : List A) → take n (map f l) ≡ map f (take n l)
take-map f zero l = refl
take-map f (suc n) [] = refl
take-map f (suc n) (x ∷ l) = ap (◌∷◌ (f x)) (take-map f n l)

-- one part of what cells hold: as many as there are cells
pub length_part : {A B : Type 0} (f : A → B) (c : Cells A) → length (map f (contents c)) ≡ count c
length_part f c = length-map f (contents c) ∙ length-contents c

-- Two lists beside each other

pub numbers-held : (ns ms : List ℕ) → length ns ≤ length ms → numbers_of (held_of ns ms) ≡ ns
numbers-held [] ms h = refl
numbers-held (n ∷ ns) [] h = absurd (omega arith)
numbers-held (n ∷ ns) (m ∷ ms) h = ap (◌∷◌ n) (numbers-held ns ms (omega arith))

pub moments-held : (ns ms : List ℕ) → length ms ≤ length ns → moments_of (held_of ns ms) ≡ ms
moments-held [] [] h = refl
moments-held [] (m ∷ ms) h = absurd (omega arith)
moments-held (n ∷ ns) [] h = refl
moments-held (n ∷ ns) (m ∷ ms) h = ap (◌∷◌ m) (moments-held ns ms (omega arith))

pub length-held : (ns ms : List ℕ) → length ns ≤ length ms → length (held_of ns ms) ≡ length ns
length-held [] ms h = refl
length-held (n ∷ ns) [] h = absurd (omega arith)
length-held (n ∷ ns) (m ∷ ms) h = ap suc (length-held ns ms (omega arith))

pub held-again : (hs : List Held) → held_of (numbers_of hs) (moments_of hs) ≡ hs
held-again [] = refl
held-again (h ∷ hs) = ap (◌∷◌ h) (held-again hs)

pub get_or-held : (ns ms : List ℕ) (i : ℕ) → i < length ns → i < length ms
    → get_or (held_of ns ms) i (held 0 0) ≡ held (get_or ns i 0) (get_or ms i 0)
get_or-held [] ms i h k = absurd (omega arith)
get_or-held (n ∷ ns) [] i h k = absurd (omega arith)
get_or-held (n ∷ ns) (m ∷ ms) zero h k = refl
get_or-held (n ∷ ns) (m ∷ ms) (suc i) h k = get_or-held ns ms i (omega arith) (omega arith)

-- Cells with one part of what they hold

module _ {A B : Type 0} (f : A → B) where
  abbrev pub mapped : Cells A → Cells B
  mapped none = none
  mapped (cell a v c) = cell a (f v) (mapped c)

  abbrev pub mapped_content : Content A → Content B
  mapped_content absent = absent
  mapped_content (present v) = present (f v)

  pub addresses-mapped : (c : Cells A) → addresses (mapped c) ≡ addresses c
  addresses-mapped none = refl
  addresses-mapped (cell a v c) = ap (◌∷◌ a) (addresses-mapped c)

  pub contents-mapped : (c : Cells A) → contents (mapped c) ≡ map f (contents c)
  contents-mapped none = refl
  contents-mapped (cell a v c) = ap (◌∷◌ (f v)) (contents-mapped c)

  pub count-mapped : (c : Cells A) → count (mapped c) ≡ count c
  count-mapped none = refl
  count-mapped (cell a v c) = ap suc (count-mapped c)

  pub get-mapped : (c : Cells A) (a : ℕ) → get (mapped c) a ≡ mapped_content (get c a)
  get-mapped none a = refl
  get-mapped (cell b w c) a = go (get-mapped c a) (eqb b a)
    where
      go : get (mapped c) a ≡ mapped_content (get c a) → (t : Bool)
          → choose t (present (f w)) (get (mapped c) a) ≡ mapped_content (choose t (present w) (get c a))
      go h true = refl
      go h false = h

  pub put-mapped : (c : Cells A) (a : ℕ) (v : A) → mapped (put c a v) ≡ put (mapped c) a (f v)
  put-mapped none a v = refl
  put-mapped (cell b w c) a v = go (put-mapped c a v) (ltb a b) (eqb a b)
    where
      go : mapped (put c a v) ≡ put (mapped c) a (f v) → (t u : Bool)
          → mapped (choose t (cell a v (cell b w c)) (choose u (cell a v c) (cell b w (put c a v))))
          ≡ choose t (cell a (f v) (cell b (f w) (mapped c))) (choose u (cell a (f v) (mapped c)) (cell b (f w) (put (mapped c) a (f v))))
      go h true u = refl
      go h false true = refl
      go h false false = ap (cell b (f w)) h

  pub zipped-mapped : (l : List ℕ) (vs : List A) → mapped (zipped l vs) ≡ zipped l (map f vs)
  zipped-mapped [] vs = refl
  zipped-mapped (a ∷ l) [] = refl
  zipped-mapped (a ∷ l) (v ∷ vs) = ap (cell a (f v)) (zipped-mapped l vs)
