use Rattle.dexinsn.proofs.Common.{◌≡◌, ◌<◌, Bool, cond, length, slice_index, ap, sym, ◌∙◌, arith, flat_map, list_any, numbered_bytes, blank_units, covers}
use Rattle.dexinsn.specs.{units_in}
use Rattle.dexinsn.proofs.BlankUnits.{blank_unit}
use Rattle.dexinsn.proofs.PutUnits.{stored_length}
use Rattle.dexinsn.proofs.pieces.Pieces.unit.Goals as goal

pub at-requires : goal.at-requires
at-requires c =
    omega (arith, ap (λ v. length (numbered_bytes v.pieces)) (sym c.self.view_is) ∙ stored_length (units_in c.self.inside.bytes.now) c.self.inside.indices.items c.self.invariant, ap length c.of_bytes-units.ensures, c.requires)

pub returns-then-is_of_index : goal.returns-then-is_of_index
returns-then-is_of_index c =
    let us = units_in c.self.inside.bytes.now in
    let lt : c.args.i < length us = omega (arith, ap (λ v. length (numbered_bytes v.pieces)) (sym c.self.view_is) ∙ stored_length us c.self.inside.indices.items c.self.invariant, c.requires) in
    let said : c.is_of_index.result ≡ list_any (covers us c.args.i) c.self.inside.indices.items = rw (c.of_bytes-units.ensures, c.deref.ensures.value) at c.is_of_index.ensures in
    sym (ap (λ v. slice_index (flat_map blank_units v.pieces) c.args.i) (sym c.self.view_is) ∙ blank_unit us c.self.inside.indices.items c.args.i c.self.invariant lt ∙ ap (λ (b : Bool). cond b 0 (slice_index us c.args.i)) (sym said ∙ c.if-is_of_index.true))

pub returns-else-is_of_index : goal.returns-else-is_of_index
returns-else-is_of_index c =
    let us = units_in c.self.inside.bytes.now in
    let lt : c.args.i < length us = omega (arith, ap (λ v. length (numbered_bytes v.pieces)) (sym c.self.view_is) ∙ stored_length us c.self.inside.indices.items c.self.invariant, c.requires) in
    let said : c.is_of_index.result ≡ list_any (covers us c.args.i) c.self.inside.indices.items = rw (c.of_bytes-units.ensures, c.deref.ensures.value) at c.is_of_index.ensures in
    rw c.of_bytes-units.ensures at c.at.ensures.is
    ∙ sym (ap (λ v. slice_index (flat_map blank_units v.pieces) c.args.i) (sym c.self.view_is) ∙ blank_unit us c.self.inside.indices.items c.args.i c.self.invariant lt ∙ ap (λ (b : Bool). cond b 0 (slice_index us c.args.i)) (sym said ∙ c.if-is_of_index.false))
