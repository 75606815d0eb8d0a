use Rattle.std.proofs.Common.{drop}
use Rattle.dexleb.proofs.Reading.{reads_p1, plus_one_is}
use Rattle.dexleb.proofs.read.read_p1.Goals as goal

pub returns : goal.returns
returns c = reads_p1 (drop c.args.at c.args.b.now) c.checked_sub.result c.in_ok-value.value c.in_ok-value.len (plus_one_is c.checked_sub.result c.in_ok-value.value c.checked_sub.ensures) c.in_ok-value.ensures
