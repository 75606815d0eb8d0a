use Rattle.dexmembers.proofs.Images.{members_images}
use Rattle.dexmembers.proofs.Placed.{members_placed, code_cut}
use Rattle.dexmembers.proofs.laws.members_cut_law.Goals as goal

pub returns : goal.returns
returns c = λ r x down fit remapped.
    let narrow = c.narrow_law.ensures.cut r down in
    let images = members_images r (λ item h. (c.code_images_law.ensures r item).1 h) x remapped in
    let codes = code_cut r x (λ item h fits. c.code_cut_law.ensures r item down fits ((c.code_images_law.ensures r item).0 h)) images fit in
    members_placed r narrow (λ s h. c.narrow_law.ensures.set r s narrow h) (λ xs h. c.narrow_law.ensures.values r xs narrow h) x images codes
