-- Two states that differ in marked numbers alone, and what reading, storing and operands make of them.
use Prim.Native.Nat.{ℕ, zero, suc, ◌-◌, ◌%◌, ◌<◌, ◌≤◌}
use mathlib.Core.Path.{◌≡◌, refl, sym, ap, subst, ◌∙◌}
use mathlib.Core.Bool.{Bool, true, false, not, ◌&&◌, ◌||◌}
use mathlib.Core.List.{List, [], ◌∷◌}
use native.Mathlib.Omega.{arith}
use native.Mathlib.Nat.{mod-lt}
use lib.Dec.{ltb, eqb, lit<}
use lib.ListN.{length, get_or, set}
use borrow.Author.Tests.{lt-ltb, le-leb, eqb-true}
use Rattle.rules.specs.declared.Held.{Held}
use Rattle.rules.specs.declared.OlaOperand.{OlaOperand}
use Rattle.rules.specs.declared.OlaOperand.TheVariants.{Absent, Immediate, Register, RegisterWithOffset, RegisterWithFactor, Psp, Pc}
use Rattle.rules.specs.declared.Refusal.TheVariants.{NotInField, CellAbsent, StoreFault, ProphetStore, SpanPastRegion}
use Rattle.rules.specs.Numbers.{p, choose, bit}
use Rattle.rules.specs.Results.{pass, bind}
use Rattle.rules.specs.Field.{is_element, field_add, field_mul}
use Rattle.rules.specs.Memory.{held, Content, absent, present}
use Rattle.rules.specs.Cells.{Cells, none, cell, get, put, count, number_cells, mark_cells}
use Rattle.rules.specs.Operands.{Want, ignored, lacking, value, later, register, target, in_field, value_of, target_of, absence, operand}
use Rattle.rules.specs.Step.{State, Next, is_storable, content_value, read_below, read_many, read_span, store_many, store_one}
use Rattle.rules.specs.Guarded.{register_mark, operand_mark, is_unmarked_zero, product_mark, MarkState, content_mark, cell_mark, span_mark, clean_many}
use Rattle.rules.specs.Relations.{Both, both-refused, passed}
use Rattle.rules.proofs.Laws.Relational.{both-same, both-bind, both-require}
use Rattle.rules.proofs.Laws.BoolLaws.{false-true, or_left, or_right, and-with-false, or-equal}
use Rattle.rules.proofs.Laws.ProductLaws.{zero_left, zero_right, factor-mark}

-- two numbers under one mark: equal, or where it is marked each below p
pub data Related : Bool → ℕ → ℕ → Type 0 where
  equal : {v w : ℕ} → v ≡ w → Related false v w
  hidden : {v w : ℕ} → v < p → w < p → Related true v w

-- what two cells hold under one mark: the moments are equal, marked or not
pub record HeldRelated (b : Bool) (v w : Held) : Type 0 where
  pub number : Related b v.number w.number
  pub moment : v.moment ≡ w.moment

-- registers, and cells, under their marks
pub data RegistersRelated : List Bool → List ℕ → List ℕ → Type 0 where
  nil : RegistersRelated [] [] []
  cons : {b : Bool} {v w : ℕ} {l : List Bool} {r s : List ℕ} → Related b v w → RegistersRelated l r s
      → RegistersRelated (b ∷ l) (v ∷ r) (w ∷ s)

pub data CellsRelated : Cells ℕ → Cells Held → Cells Held → Type 0 where
  nil : CellsRelated none none none
  cons : {a t : ℕ} {v w : Held} {k : Cells ℕ} {c d : Cells Held} → HeldRelated (eqb t 1) v w → CellsRelated k c d
      → CellsRelated (cell a t k) (cell a v c) (cell a w d)

pub record StatesRelated (t : MarkState mark_cells) (s u : State number_cells) : Type 0 where
  pub registers : RegistersRelated t.registers s.registers u.registers
  pub pc : s.pc ≡ u.pc
  pub clk : s.clk ≡ u.clk
  pub cells : CellsRelated t.cells s.cells u.cells
  pub tape : s.tape ≡ u.tape
  pub output : s.output ≡ u.output
  pub written : s.written ≡ u.written
  pub within : length s.output ≤ length s.written
  pub ten : length t.registers ≡ 10

pub record NextRelated (t : MarkState mark_cells) (a b : Next number_cells) : Type 0 where
  pub state : StatesRelated t a.state b.state
  pub finish : a.finish ≡ b.finish

-- the field

pub p-positive : 0 < p
unfolding p
p-positive = lit< tt

pub one_below : 1 < p
unfolding p
one_below = lit< tt

pub mod_below : (n : ℕ) → n % p < p
mod_below n = mod-lt n p-positive

-- numbers

pub related-element : {b : Bool} {v w : ℕ} → Related b v w → is_element v ≡ is_element w
related-element (hidden {v} {w} h k) = lt-ltb v p h ∙ sym (lt-ltb w p k)
related-element (equal h) = ap is_element h

pub related-storable : {b : Bool} {v w : ℕ} → Related b v w → is_storable v ≡ is_storable w
related-storable (hidden {v} {w} h k) = le-leb v p (omega arith) ∙ sym (le-leb w p (omega arith))
related-storable (equal h) = ap is_storable h

pub related-bit : {b : Bool} {v w : ℕ} → Related b v w → Related (eqb (bit b) 1) v w
related-bit (hidden h k) = hidden h k
related-bit (equal h) = equal h

-- what is unmarked is equal
pub unmarked : {b : Bool} {v w : ℕ} → b ≡ false → Related b v w → v ≡ w
unmarked e (equal h) = h
unmarked e (hidden h k) = absurd (false-true (sym e))

pub equally : {b : Bool} {v w : ℕ} → b ≡ false → v ≡ w → Related b v w
equally {b} {v} {w} e h = subst (λ c. Related c v w) (sym e) (equal h)

unmarked-held : {b : Bool} {v w : Held} → b ≡ false → HeldRelated b v w → v ≡ w
unmarked-held e h = λ i. record { number = unmarked e h.number i; moment = h.moment i }

-- a result that is always below p, under the marks of two operands, and of one
pub related-both : {a b : Bool} {v w x y : ℕ} (f : ℕ → ℕ → ℕ) → ((x y : ℕ) → f x y < p) → Related a v w → Related b x y
    → Related (a || b) (f v x) (f w y)
related-both f l (hidden h k) r = hidden (l _ _) (l _ _)
related-both f l (equal h) (hidden c k) = hidden (l _ _) (l _ _)
related-both {v = v} {w} {x} {y} f l (equal h) (equal k) = equal (let a : v ≡ w = h in let b : x ≡ y = k in let c : f v x ≡ f w y = cc in c)

pub related-one : {b : Bool} {v w : ℕ} (f : ℕ → ℕ) → ((x : ℕ) → f x < p) → Related b v w → Related b (f v) (f w)
related-one f l (hidden h k) = hidden (l _) (l _)
related-one f l (equal h) = equal (ap f h)

-- a product: only unmarked numbers say whether it is blanked, and then it is 0 in both
unmarked-zero-alike : {m : Bool} {v w : ℕ} → Related m v w → is_unmarked_zero m v ≡ is_unmarked_zero m w
unmarked-zero-alike (hidden h k) = refl
unmarked-zero-alike (equal h) = ap (λ n. eqb n 0) h

pub product-mark-alike : {m n : Bool} {v w x y : ℕ} → Related m v w → Related n x y → product_mark m v n x ≡ product_mark m w n y
product-mark-alike {m} {n} g h = ap (λ b. not b && (m || n)) (or-equal (unmarked-zero-alike g) (unmarked-zero-alike h))

pub related-product : {m n : Bool} {v w x y : ℕ} → Related m v w → Related n x y
    → Related (product_mark m v n x) (field_mul v x) (field_mul w y)
related-product (hidden h k) (hidden c d) = hidden (mod_below _) (mod_below _)
related-product {v = v} {w} {x} {y} (hidden h k) (equal e) = go (eqb x 0) refl
  where
    go : (z : Bool) → eqb x 0 ≡ z → Related (not z && true) (field_mul v x) (field_mul w y)
    go true t = let u : x ≡ 0 = eqb-true x 0 t in equal (zero_right v u ∙ sym (zero_right w (sym e ∙ u)))
    go false t = hidden (mod_below _) (mod_below _)
related-product {v = v} {w} {x} {y} (equal e) (hidden h k) = go (eqb v 0) refl
  where
    go : (z : Bool) → eqb v 0 ≡ z → Related (not (z || false) && true) (field_mul v x) (field_mul w y)
    go true t = let u : v ≡ 0 = eqb-true v 0 t in equal (zero_left x u ∙ sym (zero_left y (sym e ∙ u)))
    go false t = hidden (mod_below _) (mod_below _)
related-product {v = v} {w} {x} {y} (equal e) (equal f) =
    let a : v ≡ w = e in
    let b : x ≡ y = f in
    equally (and-with-false (not (eqb v 0 || eqb x 0))) (let c : field_mul v x ≡ field_mul w y = cc in c)

-- registers

pub registers-get : {l : List Bool} {r s : List ℕ} → RegistersRelated l r s → (i : ℕ) → Related (register_mark l i) (get_or r i 0) (get_or s i 0)
registers-get nil i = equal refl
registers-get (cons h t) zero = h
registers-get (cons h t) (suc i) = registers-get t i

pub registers-set : {l : List Bool} {r s : List ℕ} → RegistersRelated l r s → (i : ℕ) (b : Bool) {v w : ℕ} → Related b v w
    → RegistersRelated (set l i b) (set r i v) (set s i w)
registers-set nil i b h = nil
registers-set (cons x t) zero b h = cons h t
registers-set (cons x t) (suc i) b h = cons x (registers-set t i b h)

-- cells

data ContentsRelated : Content ℕ → Content Held → Content Held → Type 0 where
  no-content : ContentsRelated absent absent absent
  a-content : {t : ℕ} {v w : Held} → HeldRelated (eqb t 1) v w → ContentsRelated (present t) (present v) (present w)

cells-get : {k : Cells ℕ} {c d : Cells Held} → CellsRelated k c d → (a : ℕ) → ContentsRelated (get k a) (get c a) (get d a)
cells-get nil a = no-content
cells-get (cons {a = b} {t} {v} {w} {k} {c} {d} h r) a = go (cells-get r a) (eqb b a)
  where
    go : ContentsRelated (get k a) (get c a) (get d a) → (b : Bool)
        → ContentsRelated (choose b (present t) (get k a)) (choose b (present v) (get c a)) (choose b (present w) (get d a))
    go s true = a-content h
    go s false = s

cells-put : {k : Cells ℕ} {c d : Cells Held} → CellsRelated k c d → (a t : ℕ) {v w : Held} → HeldRelated (eqb t 1) v w
    → CellsRelated (put k a t) (put c a v) (put d a w)
cells-put nil a t h = cons h nil
cells-put (cons {a = b} {t = n} {v = x} {w = y} {k} {c} {d} g r) a t {v} {w} h = go (cells-put r a t h) (ltb a b) (eqb a b)
  where
    go : CellsRelated (put k a t) (put c a v) (put d a w) → (f u : Bool)
        → CellsRelated
        (choose f (cell a t (cell b n k)) (choose u (cell a t k) (cell b n (put k a t))))
        (choose f (cell a v (cell b x c)) (choose u (cell a v c) (cell b x (put c a v))))
        (choose f (cell a w (cell b y d)) (choose u (cell a w d) (cell b y (put d a w))))
    go s true u = cons h (cons g r)
    go s false true = cons h r
    go s false false = cons g s

pub cells_count : {k : Cells ℕ} {c d : Cells Held} → CellsRelated k c d → count c ≡ count d
cells_count nil = refl
cells_count (cons h t) = ap suc (cells_count t)

-- reading

content-read : {k : Content ℕ} {c d : Content Held} → ContentsRelated k c d
    → Both (HeldRelated (content_mark mark_cells k)) (content_value number_cells c) (content_value number_cells d)
content-read no-content = both-refused
content-read (a-content h) = passed h

pub cell-read : {k : Cells ℕ} {c d : Cells Held} → CellsRelated k c d → (a : ℕ)
    → Both (HeldRelated (cell_mark mark_cells k a)) (content_value number_cells (get c a)) (content_value number_cells (get d a))
cell-read h a = content-read (cells-get h a)

pub below-read : {k : Cells ℕ} {c d : Cells Held} → CellsRelated k c d → (r n : ℕ)
    → Both (HeldRelated (cell_mark mark_cells k (r - n))) (read_below number_cells c r n) (read_below number_cells d r n)
below-read h r n = both-require CellAbsent refl (cell-read h (r - n))

many_read : {k : Cells ℕ} {c d : Cells Held} → CellsRelated k c d → (a n : ℕ)
    → Both (λ u v. span_mark mark_cells k a n ≡ false → u ≡ v) (read_many number_cells c a n) (read_many number_cells d a n)
unfolding read_many span_mark
many_read h a zero = passed (λ t. refl)
many_read {k} h a (suc n) =
    both-bind _ _ (cell-read h a) λ v w r.
    both-bind _ _ (many_read h (suc a) n) λ vs ws q.
    passed
    (λ t.
    let e : v ≡ w = unmarked-held (or_left (cell_mark mark_cells k a) _ t) r in
    let f : vs ≡ ws = q (or_right (cell_mark mark_cells k a) _ t) in
    cc)

pub span-read : {k : Cells ℕ} {c d : Cells Held} → CellsRelated k c d → (a n : ℕ)
    → Both (λ u v. span_mark mark_cells k a n ≡ false → u ≡ v) (read_span number_cells c a n) (read_span number_cells d a n)
unfolding read_span
span-read h a n = both-require SpanPastRegion refl (both-require CellAbsent refl (many_read h a n))

-- storing

pub one-stored : {k : Cells ℕ} {c d : Cells Held} → CellsRelated k c d → {m n : ℕ} → m ≡ n → (a : ℕ) (b : Bool) {v w : ℕ} → Related b v w
    → Both (CellsRelated (put k a (bit b))) (store_one number_cells m c a v) (store_one number_cells n d a w)
unfolding store_many
one-stored h e a b r =
    both-require StoreFault (related-storable r)
    (both-require StoreFault refl
    (both-require ProphetStore refl (passed (cells-put h a (bit b) (record { number = related-bit r; moment = e })))))

pub many-stored : {k : Cells ℕ} {c d : Cells Held} → CellsRelated k c d → {m n : ℕ} → m ≡ n → (a : ℕ) (vs : List ℕ)
    → Both (CellsRelated (clean_many mark_cells k a vs)) (store_many number_cells m c a vs) (store_many number_cells n d a vs)
unfolding store_many clean_many
many-stored h e a [] = passed h
many-stored {k = k} {c = c} {d = d} h {m = m} {n = n} e a (v ∷ vs) =
    both-require StoreFault refl
    (both-require StoreFault refl
    (both-require ProphetStore refl (many-stored {k = put k a 0} {c = put c a (held v m)} {d = put d a (held v n)} (cells-put h a 0 (record { number = equal refl; moment = e })) e (suc a) vs)))

-- operands

-- the mark of what was read through an operand
abbrev pub read_mark : List Bool → Want → OlaOperand → Bool
read_mark l ignored o = false
read_mark l lacking o = false
read_mark l value o = operand_mark l o
read_mark l later o = false
read_mark l register o = operand_mark l o
read_mark l target o = false

field-operand : {b c : Bool} {v w : ℕ} (f : ℕ → ℕ → ℕ) (u : ℕ) → Related b v w → Related c (f v u) (f w u)
    → Both (Related c) (in_field f v u) (in_field f w u)
field-operand f u h r = both-require NotInField (related-element h) (both-require NotInField refl (passed r))

pub value-operand : (psp : ℕ) {l : List Bool} {r s : List ℕ} → RegistersRelated l r s → (o : OlaOperand)
    → Both (Related (operand_mark l o)) (value_of psp r o) (value_of psp s o)
unfolding value_of
value-operand psp h Absent = both-refused
value-operand psp h (Immediate w) = passed (equal refl)
value-operand psp h (Register i) = passed (registers-get h i)
value-operand psp h (RegisterWithOffset i w) =
    let g = registers-get h i in
    field-operand field_add w g (related-one (λ n. field_add n w) (λ n. mod_below _) g)
value-operand psp {l} {r} {s} h (RegisterWithFactor i w) =
    let g = registers-get h i in
    let v = get_or r i 0 in
    field-operand field_mul w g
    (subst (λ b. Related b (field_mul v w) (field_mul (get_or s i 0) w)) (factor-mark (register_mark l i) v w) (related-product g (equal refl)))
value-operand psp h Psp = passed (equal refl)
value-operand psp h Pc = both-refused

register-operand : {l : List Bool} {r s : List ℕ} → RegistersRelated l r s → (o : OlaOperand)
    → Both (Related (operand_mark l o)) (bind (target_of o) (λ i. pass (get_or r i 0))) (bind (target_of o) (λ i. pass (get_or s i 0)))
unfolding bind
register-operand h Absent = both-refused
register-operand h (Immediate w) = both-refused
register-operand h (Register i) = passed (registers-get h i)
register-operand h (RegisterWithOffset i w) = both-refused
register-operand h (RegisterWithFactor i w) = both-refused
register-operand h Psp = both-refused
register-operand h Pc = both-refused

pub operand_read : (psp : ℕ) {l : List Bool} {r s : List ℕ} → RegistersRelated l r s → (w : Want) (o : OlaOperand)
    → Both (Related (read_mark l w o)) (operand psp r w o) (operand psp s w o)
unfolding operand
operand_read psp h ignored o = passed (equal refl)
operand_read psp h lacking o = both-same (λ n. equal refl) (absence o)
operand_read psp h value o = value-operand psp h o
operand_read psp h later o = passed (equal refl)
operand_read psp h register o = register-operand h o
operand_read psp h target o = both-same (λ n. equal refl) (target_of o)
