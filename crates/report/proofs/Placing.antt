-- Characters placed in a buffer: none, one, those of a writer that looks for space, and the rest of a text of which some stand already.
use Rattle.std.specs.Prelude.{Option, Some, None}
use mathlib.Core.Path.{◌≡◌, refl, sym, ap, ◌∙◌, subst}
use mathlib.Core.List.{List, [], ◌∷◌, ◌++◌}
use Prim.Native.Nat.{ℕ, ◌+◌, ◌<◌, ◌≤◌}
use native.Mathlib.Omega.{arith}
use lib.ListN.{length, set, length-append}
use borrow.Author.Tests.{le-leb}
use Rattle.hexadecimal.specs.Writing.{Writes}
use Rattle.hexadecimal.proofs.Buffers.{overlay-nil, overlay-snoc, overlay-append, overlay-length}
use Rattle.report.specs.Placing.{Placed}

module _ (b : List ℕ) (at : ℕ) where
  pub placed-none : Placed [] b at at b
  placed-none = record { ends = omega arith; written = sym (overlay-nil b at) }

  pub placed_one : (c : ℕ) → at < length b → Placed (c ∷ []) b at (at + 1) (set b at c)
  placed_one c h =
      let e : at + 0 ≡ at = omega arith in
      record {
        ends = refl;
        written = ap (λ (k : ℕ). set b k c) (sym e) ∙ sym (overlay-nil (set b (at + 0) c) at) ∙ overlay-snoc b at [] c (omega arith);
      }

pub ruleset placing = (placed-none, placed_one)

pub placed-as : {xs ys b after : List ℕ} {at next : ℕ} → xs ≡ ys → Placed ys b at next after → Placed xs b at next after
placed-as {b = b} {after = after} {at = at} {next = next} e = subst (λ (cs : List ℕ). Placed cs b at next after) (sym e)

pub writes_as : {xs ys b after : List ℕ} {at : ℕ} {r : Option ℕ} → xs ≡ ys → Writes ys b at r after → Writes xs b at r after
writes_as {b = b} {after = after} {at = at} {r = r} e = subst (λ (cs : List ℕ). Writes cs b at r after) (sym e)

module _ {cs b after : List ℕ} {at : ℕ} (fits : at + length cs ≤ length b) where
  pub placed-length : {next : ℕ} → Placed cs b at next after → length after ≡ length b
  placed-length p = ap length p.written ∙ overlay-length b at cs fits

  pub placed-writes : {next : ℕ} → Placed cs b at next after → Writes cs b at (Some next) after
  placed-writes p =
      let e = le-leb (at + length cs) (length b) fits in
      record { answer = rw e (ap Some p.ends); written = rw e p.written }

  module _ {r : Option ℕ} (w : Writes cs b at r after) where
    answered : r ≡ Some (at + length cs)
    answered = rw (le-leb (at + length cs) (length b) fits) at w.answer

    pub placed-written : (next : ℕ) → r ≡ Some next → Placed cs b at next after
    placed-written next e =
        let a = answered in
        record { ends = cc; written = rw (le-leb (at + length cs) (length b) fits) at w.written }

    pub never-full : r ≡ None → ⊥
    never-full e = let a = answered in let z : ◌≡◌ {A = ℕ} 0 1 = cc in omega arith

-- where `rest` is placed next, all of cs is
pub record Rest (cs entry : List ℕ) (from : ℕ) (rest b : List ℕ) (at : ℕ) : Type 0 where
  pub fits : at + length rest ≤ length b
  pub whole : {end : ℕ} {after : List ℕ} → Placed rest b at end after → Placed cs entry from end after

pub rest_all : {cs b : List ℕ} {at : ℕ} → at + length cs ≤ length b → Rest cs b at cs b at
rest_all fits = record { fits = fits; whole = λ p. p }

module _ {cs entry : List ℕ} {from : ℕ} (xs ys : List ℕ) {b : List ℕ} {at : ℕ} (r : Rest cs entry from (xs ++ ys) b at) where
  pub first_fits : at + length xs ≤ length b
  first_fits = omega (arith, r.fits, length-append xs ys)

  pub rest-after : {next : ℕ} {after : List ℕ} → Placed xs b at next after → Rest cs entry from ys after next
  rest-after {next} {after} p =
      let n = placed-length first_fits p in
      record { fits = omega (arith, r.fits, p.ends, n, length-append xs ys); whole = λ q. r.whole (more q) }
    where
      more : {end : ℕ} {last : List ℕ} → Placed ys after next end last → Placed (xs ++ ys) b at end last
      more q =
          record {
            ends = omega (arith, p.ends, q.ends, length-append xs ys);
            written = q.written ∙ cc (p.ends, p.written) ∙ overlay-append b at xs ys first_fits;
          }
