use Rattle.dexinsn.proofs.Common.{◌≡◌, ◌*◌, length, ap, sym, ◌∙◌, arith, numbered_bytes}
use Rattle.dexinsn.specs.{units_in}
use Rattle.dexinsn.proofs.PutUnits.{stored_length}
use Rattle.dexinsn.proofs.pieces.Pieces.units.Goals as goal

pub returns : goal.returns
returns c =
    let n : length (numbered_bytes c.args.self.now.pieces) ≡ 2 * length (units_in c.self.inside.bytes.now) =
    ap (λ v. length (numbered_bytes v.pieces)) (sym c.self.view_is) ∙ stored_length (units_in c.self.inside.bytes.now) c.self.inside.indices.items c.self.invariant in
    omega (arith, n, c.len.ensures.len ∙ ap length c.of_bytes.ensures)
