use Rattle.dexlayout.proofs.Common.{arith}
use Rattle.dexspec.proofs.size.SizeItems.{offsets_bytes-size}
use Rattle.dexlayout.proofs.items.Items.put_offsets.Goals as goal

pub put-requires-clause-formed : goal.put-requires-clause-formed
put-requires-clause-formed c = omega (arith, c.requires, offsets_bytes-size c.args.offsets.now)

pub put-requires-clause-most : goal.put-requires-clause-most
put-requires-clause-most c = omega (arith, offsets_bytes-size c.args.offsets.now)
