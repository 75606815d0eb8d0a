use Rattle.dexinsn.proofs.Common.{subst, FitPlaces}
use Rattle.dexinsn.specs.{units_in}
use Rattle.dexinsn.proofs.Fits.{stored_fit}
use Rattle.dexinsn.proofs.pieces.Pieces.numbers_fit.Goals as goal

pub returns : goal.returns
returns c = subst (λ v. FitPlaces v.pieces) c.self.view_is (stored_fit (units_in c.self.inside.bytes.now) c.self.inside.indices.items c.self.invariant)
