use Rattle.dexcanon.proofs.Common.{[], sym, subst, arith, length-map, ranks_are_numbers}
use Rattle.dexcanon.proofs.Rows.{type_row, type_row_at}
use Rattle.dexcanon.proofs.WholeFile.{texts_few}
use Rattle.dexcanon.proofs.tables.TypeIdsItemList.encode_item.Goals as goal

pub descriptor-row-requires : goal.descriptor-row-requires
descriptor-row-requires g c = omega (arith, c.requires.within, length-map c.args.contents.now.numbering.now.types (type_row c.args.contents.now.numbering.now))

pub overflow_cast-row : goal.overflow_cast-row
overflow_cast-row g c = omega (arith, (c.descriptor-row.ensures []).within, texts_few c.args.contents.now.numbering.now c.args.contents.now.classes.now c.requires.ready.writable)

pub returns : goal.returns
returns g c =
    let m = c.args.contents.now.numbering.now in
    subst (λ bs. g.O.Output.gives bs c.args.out.now c.u32.new.self) (sym (type_row_at m c.args.i c.descriptor-row.result [] (ranks_are_numbers m c.requires.ready.writable.numbering.rising) (omega (arith, c.requires.within, length-map m.types (type_row m))) (c.descriptor-row.ensures []))) c.u32.ensures
