use Rattle.dexmembers.specs.HeldCodes.{codes_in}
use Rattle.dexmembers.proofs.MethodLists.{codes_mapped}
use Rattle.dexmembers.proofs.method_list.MethodList.code_images.Goals as goal

pub images-requires : goal.images-requires
images-requires c = let x = c.args.self.now in codes_mapped c.args.remapped.now (codes_in x.code_items) x.methods.items c.requires.placed c.requires.mapped
