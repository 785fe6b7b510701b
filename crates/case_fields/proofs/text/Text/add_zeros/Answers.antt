-- `case_fields::text::Text::add_zeros` fills what places are left.
use Rattle.std.proofs.Common.{◌≡◌, length, replicate, sym, ◌∙◌, arith}
use Rattle.std.proofs.lemmas.Grind.{common_steps}
use Rattle.case_fields.proofs.Adding.{added, fitting_copies}
use Rattle.case_fields.proofs.text.Text.add_zeros.Goals as goal

pub returns : goal.returns
returns c =
    let count : length c.fill.new.self ≡ c.min-count.result = grind (arith, common_steps) in
    let e : c.fill.new.self ≡ replicate c.min-count.result 48 =
    rw (← count) (rw c.fill.ensures.len (c.fill.ensures.after (λ y h. h))) in
    rw (← c.self.view_is) (added _ _ _ _ _ _ _ c.self.invariant c.self.told (sym count) (e ∙ fitting_copies _ _ _ 48 c.min-count.ensures))
