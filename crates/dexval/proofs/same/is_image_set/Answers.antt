use Rattle.dexval.proofs.Common.{◌∙◌, sym, set_of}
use Rattle.dexval.proofs.Unmoved.{set_stays}
use Rattle.dexval.proofs.same.is_image_set.Goals as goal

pub returns : goal.returns
returns c = let stays = set_stays (set_of c.args.image.now) in ((λ t. sym (c.is_same_set.ensures.0 t ∙ stays)), (λ e. c.is_same_set.ensures.1 (sym e ∙ sym stays)))
