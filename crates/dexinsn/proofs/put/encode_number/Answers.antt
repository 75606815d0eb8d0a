use Rattle.dexinsn.proofs.Common.{ap, sym, subst, ◌∙◌, flat_map, ushort, index_units}
use Rattle.dexinsn.proofs.PutUnits.{halves, one_half}
use Rattle.dexinsn.proofs.put.encode_number.Goals as goal

pub returns-then-is_wide : goal.returns-then-is_wide
returns-then-is_wide g c = subst (λ bs. g.O.Output.gives bs c.args.out.now c.u32.new.self) (halves c.args.number ∙ ap (λ w. flat_map ushort (index_units w c.args.number)) (sym c.if-is_wide.true)) c.u32.ensures

pub returns-else-is_wide : goal.returns-else-is_wide
returns-else-is_wide g c = subst (λ bs. g.O.Output.gives bs c.args.out.now c.u16.new.self) (one_half c.args.number ∙ ap (λ w. flat_map ushort (index_units w c.args.number)) (sym c.if-is_wide.false)) c.u16.ensures
