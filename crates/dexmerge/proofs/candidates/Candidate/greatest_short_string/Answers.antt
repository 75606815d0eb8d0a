use Rattle.dexmerge.proofs.Common.{◌∙◌, Some, sym, ap, subst, IsGreatest, NumberedMembers, members_short_strings}
use Rattle.dexmerge.proofs.FarTexts.{none_named}
use Rattle.dexmerge.proofs.Counting.{image_decides}
use Rattle.dexmerge.proofs.candidates.Candidate.greatest_short_string.Goals as goal

pub returns-in_err-greatest : goal.returns-in_err-greatest
returns-in_err-greatest c = rw c.from_residual.ensures (λ cap.
    none_named c.args.self.now.remap.now c.args.self.now.class.now c.requires cap (ap members_short_strings (sym c.members.ensures) ∙ c.in_err-greatest.ensures))

pub returns : goal.returns
returns c =
    let g = c.in_ok-greatest.greatest in
    image_decides c.args.self.now.remap.now c.args.self.now.class.now c.requires g c.image.result c.keeps_order.ensures (subst (λ (y : NumberedMembers). IsGreatest (members_short_strings y) (Some g)) c.members.ensures c.in_ok-greatest.ensures) (sym c.image.ensures)
