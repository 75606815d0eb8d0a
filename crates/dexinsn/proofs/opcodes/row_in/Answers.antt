use Rattle.dexinsn.proofs.Table.{row_is}
use Rattle.dexinsn.proofs.opcodes.row_in.Goals as goal

pub returns : goal.returns
returns c = row_is c.args.rows.now _ c.requires c.args.op c.ranges.op.fits
