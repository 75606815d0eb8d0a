use Rattle.dexinsn.proofs.Common.{sym, subst, All}
use Rattle.dexinsn.specs.{units_in, HasPlace}
use Rattle.dexinsn.proofs.Lined.{indexed_for, places_for, places_back_for}
use Rattle.dexinsn.proofs.pieces.Pieces.fits.Goals as goal

pub have_places-requires : goal.have_places-requires
have_places-requires c = indexed_for (units_in c.self.inside.bytes.now) c.of_bytes-units.result c.self.inside.indices.items c.deref.result.now c.self.invariant c.of_bytes-units.ensures c.deref.ensures.value

pub returns : goal.returns
returns c = (
  λ yes. subst (λ v. All (HasPlace c.args.remap.now) v.pieces) c.self.view_is
      (places_back_for c.args.remap.now (units_in c.self.inside.bytes.now) c.of_bytes-units.result c.self.inside.indices.items c.deref.result.now c.self.invariant c.of_bytes-units.ensures c.deref.ensures.value (c.have_places.ensures.0 yes)),
  λ all. c.have_places.ensures.1
      (places_for c.args.remap.now (units_in c.self.inside.bytes.now) c.of_bytes-units.result c.self.inside.indices.items c.deref.result.now c.self.invariant c.of_bytes-units.ensures c.deref.ensures.value
      (subst (λ v. All (HasPlace c.args.remap.now) v.pieces) (sym c.self.view_is) all)),
)
