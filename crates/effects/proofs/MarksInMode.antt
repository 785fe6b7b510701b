-- In a plain run no register is marked: the registers' marks are 0, whether or not the mode is looked at.
use mathlib.Core.Path.{◌≡◌, refl, ap}
use mathlib.Core.Bool.{Bool, true, false, ◌&&◌}
use Prim.Native.Nat.{ℕ}
use Rattle.frames.specs.RegisterSets.{is_any}

pub in-mode : (guarded : Bool) (w set : ℕ) → (guarded ≡ false → w ≡ 0) → is_any w set ≡ (guarded && is_any w set)
in-mode true w set h = refl
in-mode false w set h = ap (λ (v : ℕ). is_any v set) (h refl)
