use Rattle.std.proofs.Common.{◌<◌, All, IfSome, length, map, subst, sym}
use Rattle.dexpool.specs.Packed.{image_in}
use Rattle.dexlayout.proofs.RunNumbers.{others_hold}
use Rattle.dexlayout.proofs.use_numbers.UseOffsets.next.Goals as goal

pub invariant_of-self : goal.invariant_of-self
invariant_of-self c =
    subst (λ ns. All (λ n. IfSome n (λ i. i < length c.self.inside.written.now)) (map image_in ns)) (sym c.next.ensures.others)
    (others_hold (λ n. IfSome n (λ i. i < length c.self.inside.written.now)) image_in c.self.inside.numbers c.self.invariant)
