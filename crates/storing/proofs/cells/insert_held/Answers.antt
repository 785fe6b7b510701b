-- `storing::cells::insert_held` meets its contract. The loop's invariant: in each buffer the elements from i on are moved up by one.
use Prim.Native.Nat.{ℕ, ◌+◌, ◌-◌, ◌≤◌, ◌<◌}
use mathlib.Core.Path.{◌≡◌, ap, ◌∙◌}
use mathlib.Core.List.{List}
use native.Mathlib.Omega.{arith}
use lib.ListN.{length, get_or, set, take}
use Rattle.rules.specs.Step.{overlay}
use Rattle.hardware.specs.Places.{insert_at, moved}
use Rattle.storing.proofs.InsertLaws.{moved-next, moved-set}
use Rattle.storing.proofs.cells.insert_held.Goals as goal

-- one element more moves up
next : (n i : ℕ) (l₀ l : List ℕ) → 0 < i → i ≤ n → n < length l₀ → l ≡ moved n i (i + 1) l₀ → set l (i - 1 + 1) (get_or l (i - 1) 0) ≡ moved n (i - 1) (i - 1 + 1) l₀
next n i l₀ l p h k e =
    ap (λ (z : List ℕ). set z (i - 1 + 1) (get_or z (i - 1) 0)) e ∙ moved-next n 1 i (i - 1) l₀ (omega arith) h (omega arith)

-- at last the element itself
placed : (n i at v : ℕ) (l₀ l : List ℕ) → i ≡ at → at ≤ n → n < length l₀ → l ≡ moved n i (i + 1) l₀ → set l at v ≡ overlay (insert_at at v (take n l₀)) l₀
placed n i at v l₀ l q h k e =
    ap (λ (z : List ℕ). set z at v) (e ∙ ap (λ (i : ℕ). moved n i (i + 1) l₀) q) ∙ moved-set n at v l₀ h k

pub loop-i-preserved : goal.loop-i-preserved
loop-i-preserved c =
    let s = c.args in
    let l = c.loop-i in (
      omega arith,
      next s.count l.i s.numbers.now _ (omega arith) (omega arith) (omega arith) l.invariant.1,
      next s.count l.i s.moments.now _ (omega arith) (omega arith) (omega arith) l.invariant.2,
    )

pub returns-clause-numbers_after : goal.returns-clause-numbers_after
returns-clause-numbers_after c =
    let s = c.args in
    placed s.count c.loop-i.i s.at s.held.number s.numbers.now _ (omega arith) (omega arith) (omega arith) c.loop-i.invariant.1

pub returns-clause-moments_after : goal.returns-clause-moments_after
returns-clause-moments_after c =
    let s = c.args in
    placed s.count c.loop-i.i s.at s.held.moment s.moments.now _ (omega arith) (omega arith) (omega arith) c.loop-i.invariant.2
