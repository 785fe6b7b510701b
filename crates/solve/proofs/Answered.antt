-- The lines of what was read are those of the whole input: it was read to its end, or is too long for a text, and refused whatever stands in it.
use Rattle.std.proofs.Common.{Result, Ok, Err, MatchResult, OnOk, ◌≡◌, ℕ, ◌+◌, ◌<◌, ◌≤◌, List, ◌++◌, None, Some, IfSome, length, take, refl, sym, ap, subst, ◌∙◌, arith, append-nil, length-append, length-take-le}
use mathlib.Core.Logic.{⊎_elim}
use Rattle.std.proofs.Math.Nat.{eq-or-lt_of_le}
use Rattle.std.proofs.lemmas.Bool.{lt-leb}
use Rattle.std.specs.declared.option.Option.{Option}
use Rattle.std.specs.Result.{IsErrAnd}
use Rattle.std.specs.Io.KnownBytes.{Appends, Consumes, IsAtEnd}
use Rattle.rules.specs.Numbers.{text_limit}
use Rattle.rules.specs.Results.{require}
use Rattle.rules.specs.Text.{load_budget_text}
use Rattle.rules.specs.Calls.{plain_budget_text}
use Rattle.rules.specs.Solve.{solve}

too-long : (xs ys : List ℕ) → 65536 < length xs → 65536 < length ys → solve xs ≡ solve ys
unfolding solve plain_budget_text load_budget_text text_limit require
too-long xs ys p q = rw (lt-leb (length xs) 65536 p) (rw (lt-leb (length ys) 65536 q) refl)

same-lines : (xs rest buffer : List ℕ) (n : ℕ) → length buffer ≡ 65537 → n ≤ length buffer → xs ≡ take n buffer ++ rest
    → (n < length buffer → IsAtEnd (Some rest)) → solve (take n buffer) ≡ solve xs
same-lines xs rest buffer n size within q ends =
    ⊎_elim
    (λ full.
    let one : length (take n buffer) ≡ n = length-take-le n buffer within in
    let all : length xs ≡ length (take n buffer) + length rest = ap length q ∙ length-append (take n buffer) rest in
    too-long (take n buffer) xs (omega arith) (omega arith))
    (λ short. ap solve (sym (q ∙ ap (λ r. take n buffer ++ r) (ends short) ∙ append-nil (take n buffer))))
    (eq-or-lt_of_le within)

pub answered : (a b o p : Option (List ℕ)) (buffer : List ℕ) (n : ℕ) → length buffer ≡ 65537 → n ≤ length buffer → Consumes a b (take n buffer)
    → (n < length buffer → IsAtEnd b) → Appends o p (solve (take n buffer)) → IfSome a (λ xs. Appends o p (solve xs))
answered None b o p buffer n size within read ends prints = tt
answered (Some xs) None o p buffer n size within read ends prints = absurd read
answered (Some xs) (Some rest) o p buffer n size within read ends prints =
    subst (Appends o p) (same-lines xs rest buffer n size within read ends) prints

-- an Ok that `map_err` hands on
pub mapped-ok : {A E F : Type 0} (P : E → F → Type 0) (r : Result A E) (q : Result A F) (x : A) → MatchResult r (λ y. q ≡ Ok y) (λ e. IsErrAnd q (P e)) → q ≡ Ok x → r ≡ Ok x
mapped-ok P (Ok y) q x m e = let p : y ≡ x = cc in ap Ok p
mapped-ok P (Err d) q x m e = absurd (subst (λ r. IsErrAnd r (P d)) e m)

no_ok : {A F : Type 0} (Y : Type 0) (Q : F → Type 0) (q : Result A F) → IsErrAnd q Q → OnOk q Y
no_ok Y Q (Ok x) m = absurd m
no_ok Y Q (Err b) m = tt

pub mapped_on_ok : {A E F : Type 0} {X Y : Type 0} (P : E → F → Type 0) (r : Result A E) (q : Result A F) → MatchResult r (λ y. q ≡ Ok y) (λ e. IsErrAnd q (P e)) → (X → Y) → OnOk r X → OnOk q Y
mapped_on_ok P (Ok y) q m f h = rw m (f h)
mapped_on_ok {Y = Y} P (Err d) q m f h = no_ok Y (P d) q m
