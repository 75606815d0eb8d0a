use Rattle.dexcanon.proofs.Common.{refl, ap, subst, ◌∙◌, EncodedItems}
use Rattle.dexcanon.proofs.Rows.{next_part}
use Rattle.dexcanon.proofs.files.encode_body.Goals as goal

pub returns : goal.returns
returns g c =
    let map = subst (λ bs. g.O.Output.gives bs c.encode_data.new.out c.bytes-2.new.self) (c.bytes.ensures ∙ ap (λ (m : EncodedItems). m.bytes) c.map.ensures ∙ c.requires.laid.map_is.bytes_are) c.bytes-2.ensures in
    next_part g.O.Output.gives g.met.O.Output.both refl c.encode_tables.ensures (next_part g.O.Output.gives g.met.O.Output.both refl c.encode_data.ensures map)
