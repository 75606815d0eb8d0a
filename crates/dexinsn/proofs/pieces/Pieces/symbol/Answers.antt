use Rattle.dexinsn.proofs.Common.{◌≡◌, ◌<◌, get_or, length, ap, sym, ◌∙◌, subst, arith, common_steps, uses_of}
use Rattle.dexinsn.specs.{units_in}
use Rattle.dexinsn.proofs.Lined.{count_for, symbol_for, indexed_at}
use Rattle.dexinsn.proofs.pieces.Pieces.symbol.Goals as goal

pub index-index-requires : goal.index-index-requires
index-index-requires c =
    let n : length (uses_of c.args.self.now.pieces) ≡ length c.self.inside.indices.items =
    ap (λ v. length (uses_of v.pieces)) (sym c.self.view_is) ∙ count_for (units_in c.self.inside.bytes.now) c.self.inside.indices.items c.self.invariant in
    grind (arith, common_steps)

pub index_kind_at-kind-requires : goal.index_kind_at-kind-requires
index_kind_at-kind-requires c =
    let n : length (uses_of c.args.self.now.pieces) ≡ length c.self.inside.indices.items =
    ap (λ v. length (uses_of v.pieces)) (sym c.self.view_is) ∙ count_for (units_in c.self.inside.bytes.now) c.self.inside.indices.items c.self.invariant in
    subst (λ us. c.index-index.result.now.unit < length us) (sym c.of_bytes-units.ensures) (omega (arith, (indexed_at (units_in c.self.inside.bytes.now) c.self.inside.indices.items c.args.i c.index-index.result.now c.self.invariant (omega (arith, n, c.requires)) c.index-index.ensures).within))

pub returns : goal.returns
returns c = λ d.
    let n : length (uses_of c.args.self.now.pieces) ≡ length c.self.inside.indices.items =
    ap (λ v. length (uses_of v.pieces)) (sym c.self.view_is) ∙ count_for (units_in c.self.inside.bytes.now) c.self.inside.indices.items c.self.invariant in
    ap (λ v. get_or (uses_of v.pieces) c.args.i d) (sym c.self.view_is)
    ∙ symbol_for (units_in c.self.inside.bytes.now) c.self.inside.indices.items c.args.i c.index-index.result.now d c.self.invariant (omega (arith, n, c.requires)) c.index-index.ensures
    ∙ ap (λ k. record { kind = k; number = c.index-index.result.now.number }) (sym (rw c.of_bytes-units.ensures at c.index_kind_at-kind.ensures))
