use Rattle.dexmembers.proofs.Images.{members_images}
use Rattle.dexmembers.proofs.Placed.{members_placed, codes_joined, fit_narrow}
use Rattle.dexmembers.proofs.laws.members_joined_law.Goals as goal

pub returns : goal.returns
returns c = λ r x greatest order fit is short remapped.
    let narrow = fit_narrow r fit in
    let images = members_images r (λ item h. (c.code_images_law.ensures r item).1 h) x remapped in
    let codes = codes_joined r (λ item g at short_too h. c.code_joined_law.ensures r item g order fit at short_too ((c.code_images_law.ensures r item).0 h)) x greatest order images is short in
    members_placed r narrow (λ s h. c.narrow_law.ensures.set r s narrow h) (λ xs h. c.narrow_law.ensures.values r xs narrow h) x images codes
