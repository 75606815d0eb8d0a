use Rattle.std.proofs.Common.{arith}
use Rattle.dexlisting.proofs.Shown.{bytes_counted}
use Rattle.dexlisting.proofs.Blanks.{blanks_counted}
use Rattle.dexlisting.proofs.units.are_few.Goals as goal

pub returns : goal.returns
returns c = omega (arith, c.units-count.ensures, c.units-count.type_inv, bytes_counted c.args.pieces.now.pieces, blanks_counted c.args.pieces.now.pieces)
