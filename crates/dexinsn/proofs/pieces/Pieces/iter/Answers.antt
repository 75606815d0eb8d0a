use Rattle.dexinsn.proofs.Common.{ap, ◌∙◌}
use Rattle.dexinsn.specs.{units_in}
use Rattle.dexinsn.specs.Listing.{listed, listing}
use Rattle.dexinsn.proofs.Listings.{listing_start, listing_whole}
use Rattle.dexinsn.proofs.pieces.Pieces.iter.Goals as goal

pub invariant_of-result : goal.invariant_of-result
invariant_of-result c = rw c.deref.ensures.value (listing_start (units_in c.self.inside.bytes.now) c.self.inside.indices.items c.self.invariant)

pub returns : goal.returns
returns c =
    let us = units_in c.self.inside.bytes.now in
    ap (listing us 0) c.deref.ensures.value ∙ listing_whole us c.self.inside.indices.items ∙ ap (λ v. listed 0 v.pieces) c.self.view_is
