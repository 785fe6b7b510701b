-- Cells in buffers.
use Rattle.std.specs.Prelude.{ℕ, zero, suc, ◌-◌, ◌≤◌, ◌≡◌, Bool, true, false, ◌&&◌, ◌||◌, List, [], ◌∷◌, ltb, eqb, length, take, Option, Some, None, Result, Ok, Err}
use Rattle.std.specs.List.{list_any}
use Rattle.rules.specs.declared.Held.{Held}
use Rattle.rules.specs.Numbers.{choose}
use Rattle.rules.specs.Memory.{Content, absent, present, held, numbers_of, moments_of, held_of}
use Rattle.rules.specs.Cells as Cells
use Rattle.rules.specs.Cells.{Cells, zipped, get, put, count, mark_cells}
use Rattle.rules.specs.Step.{overlay}
use Rattle.rules.specs.Guarded.{cell_mark}
use Rattle.rules.specs.Entry.{rising_from}
use Rattle.hardware.specs.declared.cells.Cell.{Cell}

-- Among rising addresses

-- how many lie below an address
abbrev pub rank : List ℕ → ℕ → ℕ
rank [] a = zero
rank (b ∷ l) a = choose (ltb b a) (suc (rank l a)) zero

-- the place of the last that is at most an address; 0 where none is
abbrev pub last_at_most : List ℕ → ℕ → ℕ
last_at_most l a = rank l (suc a) - 1

-- is an address one of them?
abbrev pub has : List ℕ → ℕ → Bool
has [] a = false
has (b ∷ l) a = eqb b a || has l a

-- where it is, or where it would go
abbrev pub found_of : List ℕ → ℕ → Result ℕ ℕ
found_of l a = choose (has l a) (Ok (rank l a)) (Err (rank l a))

-- are all n from a on among them?
abbrev pub has_all : List ℕ → ℕ → ℕ → Bool
has_all l a zero = true
has_all l a (suc n) = has l a && has_all l (suc a) n

-- where the first of a span's cells is
abbrev pub span_of : List ℕ → ℕ → ℕ → Option ℕ
span_of l a n = choose (has_all l a n) (Some (rank l a)) None

-- how many of the n from a on are not among them
abbrev pub missing : List ℕ → ℕ → ℕ → ℕ
missing l a zero = zero
missing l a (suc n) = choose (has l a) (missing l (suc a) n) (suc (missing l (suc a) n))

-- Cells

-- the first n elements of three buffers, as cells: addresses, numbers and moments
abbrev pub cells_of : ℕ → List ℕ → List ℕ → List ℕ → Cells Held
cells_of n xs ns ms = zipped (take n xs) (held_of (take n ns) (take n ms))

-- their marks
abbrev pub mark_cells_of : ℕ → List ℕ → List ℕ → Cells ℕ
mark_cells_of n xs ts = zipped (take n xs) (take n ts)

abbrev pub content_cell : Content Held → Bool → Option Cell
content_cell absent t = None
content_cell (present h) t = Some (record { number = h.number; moment = h.moment; marked = t })

-- a cell, and in a guarded run its mark
abbrev pub cell_of : Bool → Cells Held → Cells ℕ → ℕ → Option Cell
cell_of guarded c t a = content_cell (get c a) (guarded && cell_mark mark_cells t a)

-- the cells with values from an address on, which all have one moment
abbrev pub put_many : ℕ → Cells Held → ℕ → List ℕ → Cells Held
put_many moment c a [] = c
put_many moment c a (v ∷ vs) = put_many moment (put c a (held v moment)) (suc a) vs

-- is one of the marks set?
abbrev pub any_mark : List ℕ → Bool
any_mark ts = list_any (λ t. eqb t 1) ts

-- the first n addresses of a buffer rise within stack and heap
pub record Rising (n : ℕ) (xs : List ℕ) : Type 0 where
  pub within : n ≤ length xs
  pub rises : rising_from 0 (take n xs) ≡ true

-- the buffers of cells, of which the first n are used, have one length; the marks' buffer counts only in a guarded run
pub record Ordered (guarded : Bool) (n : ℕ) (xs ns ms ts : List ℕ) : Type 0 where
  pub addresses : Rising n xs
  pub level : length ns ≡ length xs
  pub moment_level : length ms ≡ length xs
  pub mark_level : guarded ≡ true → length ts ≡ length xs

-- the buffers afterwards hold the cells c, r in number, and in a guarded run the marks t; behind them stands what stood there
pub record Holding (guarded : Bool) (c : Cells Held) (t : Cells ℕ) (r : ℕ) (xs ns ms ts xs' ns' ms' ts' : List ℕ) : Type 0 where
  pub used : r ≡ count c
  pub addresses : xs' ≡ overlay (Cells.addresses c) xs
  pub numbers : ns' ≡ overlay (numbers_of (Cells.contents c)) ns
  pub moments : ms' ≡ overlay (moments_of (Cells.contents c)) ms
  pub marks : ts' ≡ choose guarded (overlay (Cells.contents t) ts) ts
