use Rattle.dexstr.proofs.Common.{arith}
use Rattle.dexstr.proofs.writing.put_text.Goals as goal

pub returns-clause-bound : goal.returns-clause-bound
returns-clause-bound c = omega (arith, c.item_len.ensures.len, c.item_len.ensures.bound)

pub returns-clause-room_for_all : goal.returns-clause-room_for_all
returns-clause-room_for_all c = λ room. c.put_with_len.ensures.room (omega (arith, room, c.item_len.ensures.len, c.item_len.ensures.bound))
