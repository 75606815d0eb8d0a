use Rattle.dexmembers.proofs.Common.{◌∙◌, ap, map}
use Rattle.dexmembers.specs.{stripped_code, code_places, held_in}
use Rattle.dexmembers.specs.HeldCodes.{codes_in}
use Rattle.dexmembers.proofs.MethodLists.{list_stripped, codes_replaced}
use Rattle.dexmembers.proofs.method_list.MethodList.drop_debug.Goals as goal

pub returns-clause-stripped : goal.returns-clause-stripped
returns-clause-stripped c = let x = c.args.self.now in ap (λ codes. map (held_in codes) x.methods.items) c.drop_debug.ensures ∙ list_stripped (codes_in x.code_items) x.methods.items

pub returns-clause-placed : goal.returns-clause-placed
returns-clause-placed c = λ placed. let x = c.args.self.now in rw c.drop_debug.ensures (codes_replaced stripped_code (codes_in x.code_items) (code_places x.methods.items) placed)
