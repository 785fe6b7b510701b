-- `print_answer` keeps within its buffer and prints the lines, which were written there; and they always fit.
use Rattle.std.proofs.Common.{◌≡◌, ℕ, Option, Some, None, IsSome, OnOk, refl, rules}
use mathlib.Core.Path.{subst}
use Rattle.std.specs.Io.KnownBytes.{Appends}
use Rattle.executor.proofs.Solving.{lines_fit}
use Rattle.solve.proofs.Written.{written}
use Rattle.solve.proofs.print_answer.Goals as goal

pub unwrap-end-requires : goal.unwrap-end-requires
unwrap-end-requires g c = some _ (λ q. lines_fit _ _ _ _ c.solve.ensures q (search rules))
  where
    some : (r : Option ℕ) → (r ≡ None → ⊥) → IsSome r
    some (Some n) h = refl
    some None h = absurd (h refl)

pub slice_bounds-lines-end : goal.slice_bounds-lines-end
slice_bounds-lines-end g c = (written _ _ _ _ _ c.unwrap-end.ensures c.solve.ensures).within

pub returns : goal.returns
returns g c =
    subst
    (λ lines. OnOk c.write_all.result (Appends (g.W.Write.contents c.args.out.now) (g.W.Write.contents c.write_all.new.self) lines))
    (written _ _ _ _ _ c.unwrap-end.ensures c.solve.ensures).first
    c.write_all.ensures.bytes
