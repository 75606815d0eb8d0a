use Rattle.std.proofs.Common.{[], arith}
use Rattle.dexspec.specs.Mentions.{Mentions}
use Rattle.dexval.specs.Code.{set_of}
use Rattle.dexcases_items.proofs.puts.append_light_set.Goals as goal

none : Mentions
none = record { texts = []; types = []; protos = []; fields = []; methods = [] }

pub put_set-requires : goal.put_set-requires
put_set-requires c = c.counts_law.ensures.offsets none c.args.first (set_of c.args.set.now) (omega (arith, c.weight.ensures none))
