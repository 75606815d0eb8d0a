use Rattle.dexcanon.proofs.Common.{[], ap, sym, subst, ◌∙◌, get_or-map, string_data}
use Rattle.dexcanon.proofs.tables.StringDataItemsItemList.encode_item.Goals as goal

pub returns : goal.returns
returns g c =
    subst (λ bs. g.O.Output.gives bs c.args.out.now c.encode.new.out) (sym (get_or-map string_data c.args.contents.now.numbering.now.texts c.args.i c.string.result.now [] c.string.ensures.within ∙ ap string_data (c.string.ensures.is c.string.result.now))) c.encode.ensures
