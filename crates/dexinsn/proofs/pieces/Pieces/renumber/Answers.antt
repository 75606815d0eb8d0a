use Rattle.dexinsn.proofs.Common.{List, sym, ◌∙◌, ap, subst, All, NumberedPiece, renumbered, HasPlaceAt, IsIndexed}
use Rattle.dexinsn.specs.{units_in, HasPlace}
use Rattle.dexinsn.proofs.Lined.{stored_indexed, stored_places, renumber_all}
use Rattle.dexinsn.proofs.pieces.Pieces.renumber.Goals as goal

pub renumber_indices-requires-clause-indexed : goal.renumber_indices-requires-clause-indexed
renumber_indices-requires-clause-indexed c =
    subst (λ us. All (IsIndexed us) c.self.inside.indices.items) (sym c.of_bytes-units.ensures) (stored_indexed (units_in c.self.inside.bytes.now) c.self.inside.indices.items c.self.invariant)

pub renumber_indices-requires-clause-places : goal.renumber_indices-requires-clause-places
renumber_indices-requires-clause-places c =
    subst (λ us. All (HasPlaceAt c.args.remap.now us) c.self.inside.indices.items) (sym c.of_bytes-units.ensures)
    (stored_places c.args.remap.now (units_in c.self.inside.bytes.now) c.self.inside.indices.items c.self.invariant (subst (λ v. All (HasPlace c.args.remap.now) v.pieces) (sym c.self.view_is) c.requires))

pub invariant_of-self : goal.invariant_of-self
invariant_of-self c =
    (renumber_all c.args.remap.now (units_in c.self.inside.bytes.now) c.of_bytes-units.result c.self.inside.indices.items c.renumber_indices.new.indices.items c.self.invariant c.of_bytes-units.ensures
    (subst (λ v. All (HasPlace c.args.remap.now) v.pieces) (sym c.self.view_is) c.requires) c.renumber_indices.ensures).0

pub returns : goal.returns
returns c =
    ap (λ (ps : List NumberedPiece). record { registers = c.self.inside.registers; ins = c.self.inside.ins; outs = c.self.inside.outs; pieces = ps })
    (renumber_all c.args.remap.now (units_in c.self.inside.bytes.now) c.of_bytes-units.result c.self.inside.indices.items c.renumber_indices.new.indices.items c.self.invariant c.of_bytes-units.ensures
    (subst (λ v. All (HasPlace c.args.remap.now) v.pieces) (sym c.self.view_is) c.requires) c.renumber_indices.ensures).1
    ∙ ap (renumbered c.args.remap.now) c.self.view_is
