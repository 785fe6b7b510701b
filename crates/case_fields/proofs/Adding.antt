-- What a text is when more bytes are added: the first bytes of both together, as many as it has places.
use Rattle.std.proofs.Common.{◌≡◌, ℕ, ◌+◌, ◌-◌, ◌≤◌, List, ◌++◌, length, take, replicate, min, sym, ap, ◌∙◌, arith}
use Rattle.std.proofs.lemmas.List.{length-take-le, length-replicate, take_min, take-replicate}
use Rattle.std.proofs.lemmas.Slice.{take-put_mid}
use Rattle.std.proofs.Math.Seq.{take-append-add}
use borrow.Rule.Slice.PartMut.{put_mid}

seam : (size n : ℕ) (front more : List ℕ) → length front ≡ n → n ≤ size → take size (front ++ more) ≡ front ++ take (size - n) more
seam size n front more l h =
    let e : length front + (size - n) ≡ size = omega arith in
    sym (ap (λ m. take m (front ++ more)) e) ∙ take-append-add front more (size - n)

pub added : (size n k count : ℕ) (bytes new more : List ℕ) → n ≤ size → length bytes ≡ size → count ≡ length new
    → new ≡ take (size - n) more → take (n + count) (put_mid n k bytes new) ≡ take size (take n bytes ++ more)
added size n k count bytes new more h l c e =
    take-put_mid n k bytes new (n + count) (omega arith) (omega arith)
    ∙ ap (λ ys. take n bytes ++ ys) e
    ∙ sym (seam size n (take n bytes) more (length-take-le n bytes (omega arith)) h)

-- the first bytes of more, as many as fit
pub fitting : (count free : ℕ) (more : List ℕ) → count ≡ min (length more) free → take count more ≡ take free more
fitting count free more e = let m : count ≡ min free (length more) = omega arith in ap (λ k. take k more) m ∙ take_min free more

-- the same, where more is one byte again and again
pub fitting_copies : (count free most byte : ℕ) → count ≡ min most free → replicate count byte ≡ take free (replicate most byte)
fitting_copies count free most byte e =
    sym (take-replicate count most byte (omega arith)) ∙ fitting count free (replicate most byte) (rw length-replicate e)
