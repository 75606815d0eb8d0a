use Rattle.dexval.proofs.Common.{◌≡◌, rules, true, set_of, renumbered_set, IsRemappedSet, SetHasPlaces}
use Rattle.std.proofs.lemmas.Result.{IfOk-weaker}
use Rattle.dexval.proofs.set.AnnotationSet.remapped_copy.Goals as goal

pub returns : goal.returns
returns c =
    let r = c.args.remap.now in
    let s = set_of c.args.self.now in
    let fits : c.fits.result ≡ true = search rules in
    let places : SetHasPlaces r s = c.fits.ensures.0 fits in
    IfOk-weaker c.renumbered_copy.result (λ copy. set_of copy ≡ renumbered_set r s) (λ copy. IsRemappedSet r s (set_of copy)) (λ copy is. ((λ all. is), (λ none. absurd (none places)))) c.renumbered_copy.ensures
