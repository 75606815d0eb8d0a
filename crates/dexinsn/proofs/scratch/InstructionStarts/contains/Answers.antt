use Rattle.dexinsn.proofs.Common.{◌≡◌, pos, false, get_or, to_z, of_z, w64, ap, ◌∙◌, subst, arith, ◌↔◌, true, ints}
use Rattle.dexinsn.specs.internal.{HasPlace}
use Rattle.dexinsn.proofs.StoredRead.{test_in}
use Rattle.dexinsn.proofs.scratch.InstructionStarts.contains.Goals as goal

pub returns : goal.returns
returns c =
    let place : to_z w64 (of_z w64 c.from.result) ≡ pos c.args.address = omega (arith, ints, c.from.ensures, c.ranges.address) in
    test_in c.self.inside.words.now c.args.address c.has_place.result (subst (λ z. (c.has_place.result ≡ true) ↔ HasPlace c.self.inside.words.now z) place c.has_place.ensures) ∙ ap (λ v. get_or v c.args.address false) c.self.view_is
