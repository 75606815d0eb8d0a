use Rattle.dexval.proofs.Common.{◌∙◌, sym, values_of}
use Rattle.dexval.proofs.Unmoved.{values_stay}
use Rattle.dexval.proofs.same.are_images.Goals as goal

pub returns : goal.returns
returns c = let stays = values_stay (values_of c.args.images.now) in ((λ t. sym (c.are_same.ensures.0 t ∙ stays)), (λ e. c.are_same.ensures.1 (sym e ∙ sym stays)))
