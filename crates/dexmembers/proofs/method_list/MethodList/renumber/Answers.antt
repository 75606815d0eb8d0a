use Rattle.dexmembers.proofs.Common.{◌∙◌, map, renumbered_item}
use Rattle.dexmembers.specs.{code_places, held_in}
use Rattle.dexmembers.specs.HeldCodes.{codes_in}
use Rattle.dexmembers.proofs.MethodLists.{codes_mapped, numbers_mapped, list_remapped, codes_replaced, methods_replaced}
use Rattle.dexmembers.proofs.method_list.MethodList.renumber.Goals as goal

pub renumber_all-requires : goal.renumber_all-requires
renumber_all-requires c = let x = c.args.self.now in numbers_mapped c.args.remap.now (codes_in x.code_items) x.methods.items c.requires.mapped

pub renumber-requires-clause-places : goal.renumber-requires-clause-places
renumber-requires-clause-places c = let x = c.args.self.now in codes_mapped c.args.remap.now (codes_in x.code_items) x.methods.items c.requires.placed c.requires.mapped

pub returns-clause-renumbered : goal.returns-clause-renumbered
returns-clause-renumbered c = let x = c.args.self.now in (λ i. map (held_in (c.renumber.ensures i)) (c.renumber_all.ensures i)) ∙ list_remapped c.args.remap.now (codes_in x.code_items) x.methods.items

pub returns-clause-placed : goal.returns-clause-placed
returns-clause-placed c =
    let x = c.args.self.now in
    let r = c.args.remap.now in
    let codes = codes_in x.code_items in
    rw (c.renumber.ensures, c.renumber_all.ensures) (methods_replaced r (map (renumbered_item r) codes) x.methods.items (codes_replaced (renumbered_item r) codes (code_places x.methods.items) c.requires.placed))
