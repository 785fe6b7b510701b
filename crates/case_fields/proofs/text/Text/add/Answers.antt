-- `case_fields::text::Text::add` fills what places are left.
use Rattle.std.proofs.Common.{◌≡◌, take, ◌∙◌, arith, rules}
use Rattle.std.proofs.lemmas.Grind.{common_steps}
use Rattle.case_fields.proofs.Adding.{added, fitting}
use Rattle.case_fields.proofs.text.Text.add.Goals as goal

pub returns : goal.returns
returns c =
    let e : c.copy_from_slice.new.self ≡ take c.min-count.result c.args.more.now = search rules in
    rw (← c.self.view_is) (added _ _ _ _ _ _ _ c.self.invariant c.self.told (grind (arith, common_steps)) (e ∙ fitting _ _ _ c.min-count.ensures))
