use Rattle.dexcanon.proofs.Common.{sym, subst, arith, length-map, field_row_bytes, ranks_are_numbers}
use Rattle.dexcanon.proofs.Rows.{field_row_at, no_field}
use Rattle.dexcanon.proofs.tables.FieldIdsItemList.encode_item.Goals as goal

pub field-field-requires : goal.field-field-requires
field-field-requires g c = omega (arith, c.requires.within, length-map c.args.contents.now.numbering.now.fields (field_row_bytes c.args.contents.now.numbering.now))

pub encode_member-requires-clause-class_fits : goal.encode_member-requires-clause-class_fits
encode_member-requires-clause-class_fits g c = omega (arith, (c.field-field.ensures no_field).class_is.within, c.requires.ready.writable.types_few)

pub encode_member-requires-clause-type_fits : goal.encode_member-requires-clause-type_fits
encode_member-requires-clause-type_fits g c = omega (arith, (c.field-field.ensures no_field).type_is.within, c.requires.ready.writable.types_few)

pub returns : goal.returns
returns g c =
    let m = c.args.contents.now.numbering.now in
    let row = c.field-field.result.now in
    subst (λ bs. g.O.Output.gives bs c.args.out.now c.encode_member.new.out) (sym (field_row_at m c.args.i row no_field (ranks_are_numbers m c.requires.ready.writable.numbering.rising) (omega (arith, c.requires.within, length-map m.fields (field_row_bytes m))) (c.field-field.ensures no_field))) c.encode_member.ensures
