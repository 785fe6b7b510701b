-- What was written at a buffer's start is its first bytes.
use Rattle.std.specs.Prelude.{Option, Some, None}
use Prim.Native.Nat.{ℕ, ◌+◌, ◌≤◌}
use mathlib.Core.Path.{◌≡◌, refl, sym, ap, ◌∙◌}
use mathlib.Core.Bool.{Bool, true, false}
use mathlib.Core.List.{List, ◌++◌}
use native.Mathlib.Omega.{arith}
use lib.ListN.{length, take, drop}
use Rattle.std.proofs.Math.Seq.{take-append_seam}
use Rattle.std.proofs.lemmas.List.{length-append}
use Rattle.hexadecimal.specs.Writing.{fits, overlay_at, Writes}

abbrev next : Option ℕ → ℕ
next (Some n) = n
next None = 0

pub record Written (cs after : List ℕ) (end : ℕ) : Type 0 where
  pub within : end ≤ length after
  pub first : take end after ≡ cs

pub written : (cs b after : List ℕ) (r : Option ℕ) (end : ℕ) → r ≡ Some end → Writes cs b 0 r after → Written cs after end
unfolding overlay_at
written cs b after r end q w = go (fits b 0 cs) refl
  where
    go : (t : Bool) → fits b 0 cs ≡ t → Written cs after end
    go true e =
        let n : end ≡ 0 + length cs = sym (ap next q) ∙ ap next (rw e at w.answer) in
        let k : end ≡ length cs = omega arith in
        let rest = drop (0 + length cs) b in
        let a : after ≡ cs ++ rest = rw e at w.written in
        let l : length after ≡ length cs + length rest = rw a (length-append cs rest) in
        record {
          within = omega arith;
          first = rw k (rw a (take-append_seam cs rest));
        }
    go false e = let f = rw e at w.answer in let z : ◌≡◌ {A = ℕ} 0 1 = cc in absurd (omega arith)
