use Rattle.dexinsn.proofs.Common.{ap, sym, subst, ◌∙◌, flat_map, ushort, numbered_bytes, AreStored, spelled_from}
use Rattle.dexinsn.specs.{units_in}
use Rattle.dexinsn.proofs.PutUnits.{stored_bytes}
use Rattle.dexinsn.proofs.put.PiecesEncode.encode.Goals as goal

pub encode_numbered-requires : goal.encode_numbered-requires
encode_numbered-requires g c = subst (AreStored (units_in c.self.inside.bytes.now)) (sym c.deref.ensures.value) c.self.invariant

pub returns : goal.returns
returns g c =
    let us = units_in c.self.inside.bytes.now in
    subst (λ bs. g.O.Output.gives bs c.args.out.now c.encode_numbered.new.out) (ap (λ is. flat_map ushort (spelled_from us 0 is)) c.deref.ensures.value ∙ sym (stored_bytes us c.self.inside.indices.items c.self.invariant) ∙ ap (λ v. numbered_bytes v.pieces) c.self.view_is) c.encode_numbered.ensures
