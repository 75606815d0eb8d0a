use Rattle.dexcanon.proofs.Common.{◌<◌, length, sym, subst, arith, length-map, method_row_bytes, ranks_are_numbers}
use Rattle.dexcanon.proofs.Rows.{method_row_at, no_method}
use Rattle.dexcanon.proofs.tables.MethodIdsItemList.encode_item.Goals as goal

pub method-method-requires : goal.method-method-requires
method-method-requires g c = omega (arith, c.requires.within, length-map c.args.contents.now.numbering.now.methods (method_row_bytes c.args.contents.now.numbering.now))

pub encode_member-requires-clause-class_fits : goal.encode_member-requires-clause-class_fits
encode_member-requires-clause-class_fits g c = omega (arith, (c.method-method.ensures no_method).class_is.within, c.requires.ready.writable.types_few)

pub encode_member-requires-clause-type_fits : goal.encode_member-requires-clause-type_fits
encode_member-requires-clause-type_fits g c = omega (arith, (c.method-method.ensures no_method).proto_is.within, c.requires.ready.writable.protos_few)

pub returns : goal.returns
returns g c =
    let m = c.args.contents.now.numbering.now in
    let lt : c.args.i < length m.methods = omega (arith, c.requires.within, length-map m.methods (method_row_bytes m)) in
    subst (λ bs. g.O.Output.gives bs c.args.out.now c.encode_member.new.out) (sym (method_row_at m c.args.i c.method-method.result.now no_method (ranks_are_numbers m c.requires.ready.writable.numbering.rising) lt (c.method-method.ensures no_method))) c.encode_member.ensures
