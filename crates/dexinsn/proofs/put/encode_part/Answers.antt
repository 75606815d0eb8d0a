use Rattle.dexinsn.proofs.Common.{sym, subst, ◌∙◌}
use Rattle.dexinsn.proofs.PutUnits.{part_bytes}
use Rattle.dexinsn.proofs.put.encode_part.Goals as goal

pub returns : goal.returns
returns g c =
    subst (λ bs. g.O.Output.gives bs c.args.out.now c.bytes.new.self)
    (c.unit_bytes.ensures ∙ sym (part_bytes c.args.bytes.now c.args.from c.args.to c.requires.order c.requires.within (λ i. (c.type_inv.bytes i).fits)))
    c.bytes.ensures
