use Rattle.dexinsn.proofs.Common.{◌≡◌, length, ap, sym, ◌∙◌, arith, common_steps, uses_of}
use Rattle.dexinsn.specs.{units_in}
use Rattle.dexinsn.proofs.Lined.{count_for}
use Rattle.dexinsn.proofs.pieces.Pieces.symbol_count.Goals as goal

pub returns : goal.returns
returns c =
    let n : length (uses_of c.args.self.now.pieces) ≡ length c.self.inside.indices.items =
    ap (λ v. length (uses_of v.pieces)) (sym c.self.view_is) ∙ count_for (units_in c.self.inside.bytes.now) c.self.inside.indices.items c.self.invariant in
    grind (arith, common_steps)
