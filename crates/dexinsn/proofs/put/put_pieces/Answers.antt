use Rattle.dexinsn.proofs.Common.{arith}
use Rattle.dexinsn.proofs.Meanings.{bytes_put}
use Rattle.dexinsn.proofs.PutUnits.{bytes_bound}
use Rattle.dexinsn.proofs.put.put_pieces.Goals as goal

pub put_with_len-requires-clause-len : goal.put_with_len-requires-clause-len
put_with_len-requires-clause-len c = omega (arith, c.units.ensures)

pub returns-clause-symbolic : goal.returns-clause-symbolic
returns-clause-symbolic c = λ symbolic are_encoded.
    bytes_put c.args.numbering.now c.args.pieces.now.pieces symbolic c.args.out.now c.put_with_len.new.out c.put_with_len.result (c.units_law.ensures c.args.numbering.now c.args.pieces.now.pieces symbolic c.is_numbering.ensures.rising are_encoded) c.put_with_len.ensures

pub returns-clause-bound : goal.returns-clause-bound
returns-clause-bound c = bytes_bound c.args.pieces.now.pieces

pub returns-clause-room : goal.returns-clause-room
returns-clause-room c = λ fits. c.put_with_len.ensures.room (omega (arith, fits, bytes_bound c.args.pieces.now.pieces))
