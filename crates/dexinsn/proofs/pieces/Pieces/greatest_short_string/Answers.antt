use Rattle.dexinsn.proofs.Common.{subst, IsGreatest, short_strings}
use Rattle.dexinsn.specs.{units_in}
use Rattle.dexinsn.proofs.Fits.{greatest_for}
use Rattle.dexinsn.proofs.Lined.{indexed_for}
use Rattle.dexinsn.proofs.pieces.Pieces.greatest_short_string.Goals as goal

pub greatest_short_string-requires : goal.greatest_short_string-requires
greatest_short_string-requires c = indexed_for (units_in c.self.inside.bytes.now) c.of_bytes-units.result c.self.inside.indices.items c.deref.result.now c.self.invariant c.of_bytes-units.ensures c.deref.ensures.value

pub returns : goal.returns
returns c =
    subst (λ v. IsGreatest (short_strings v.pieces) c.greatest_short_string.result) c.self.view_is
    (greatest_for (units_in c.self.inside.bytes.now) c.of_bytes-units.result c.self.inside.indices.items c.deref.result.now c.greatest_short_string.result c.self.invariant c.of_bytes-units.ensures c.deref.ensures.value c.greatest_short_string.ensures)
