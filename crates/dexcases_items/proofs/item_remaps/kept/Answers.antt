use Rattle.dexcases_items.specs.Items.{item_uses}
use Rattle.dexcases_items.proofs.Marking.{as_many}
use Rattle.dexcases_items.proofs.item_remaps.kept.Goals as goal

pub keep-requires : goal.keep-requires
keep-requires c = as_many c.args.numbering.now (item_uses c.args.item.now) c.in-Ok.marks c.mark.new.marks c.in-Ok.ensures.marks c.mark.ensures
