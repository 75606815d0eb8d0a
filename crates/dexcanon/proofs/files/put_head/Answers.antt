use Rattle.dexcanon.proofs.Common.{arith}
use Rattle.dexcanon.proofs.files.put_head.Goals as goal

pub unwrap-requires : goal.unwrap-requires
unwrap-requires c = c.put.ensures.puts.room (omega (arith, c.requires.empty, c.requires.room, c.put.ensures.len))
