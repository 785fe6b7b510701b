-- CALL's further cell, by what is found among the addresses.
use Prim.Native.Nat.{ℕ, ◌-◌}
use mathlib.Core.Path.{◌≡◌, refl}
use mathlib.Core.Bool.{Bool, true, false, not, ◌||◌}
use mathlib.Core.List.{List}
use lib.ListN.{length, take}
use borrow.Author.Tests.{le-leb, lt-leb, ltb-true, ltb-false}
use lib.Dec.{ltb}
use Rattle.rules.specs.Results.{require}
use Rattle.rules.specs.Cells.{number_cells}
use Rattle.rules.specs.Step.{read_below}
use Rattle.hardware.specs.Buffers.{rank, has, cells_of, Rising}
use Rattle.hardware.proofs.BufferLaws.{get-found, get_absent}
use Rattle.sheets.specs.Traced.{is_refused}
use Rattle.looking.specs.Looks.{absent_below}

module _ (n : ℕ) (xs : List ℕ) (o : Rising n xs) (r : ℕ) (ns ms : List ℕ)
    (level : length ns ≡ length xs) (moment_level : length ms ≡ length xs) where
  pub absent-read : absent_below (take n xs) r ≡ is_refused (read_below number_cells (cells_of n xs ns ms) r 2)
  unfolding require
  absent-read = go (ltb r 2) refl (has (take n xs) (r - 2)) refl
    where
      go : (b : Bool) → ltb r 2 ≡ b → (t : Bool) → has (take n xs) (r - 2) ≡ t
          → (b || not t) ≡ is_refused (read_below number_cells (cells_of n xs ns ms) r 2)
      go true b t h = rw (lt-leb 2 r (ltb-true r 2 b))
      go false b true h =
          rw (le-leb 2 r (ltb-false r 2 b), get-found n xs ns ms o level moment_level (r - 2) (rank (take n xs) (r - 2)) (rw h))
      go false b false h =
          rw (le-leb 2 r (ltb-false r 2 b), get_absent n xs ns ms o level moment_level (r - 2) (rank (take n xs) (r - 2)) (rw h))
