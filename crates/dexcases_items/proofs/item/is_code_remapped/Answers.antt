use Rattle.dexcases_items.proofs.item.is_code_remapped.Goals as goal

pub renumber-requires : goal.renumber-requires
renumber-requires c = c.code_cut_law.ensures c.args.remap.now c.args.code.now c.requires.down c.numbers_fit.ensures c.requires.remapped
