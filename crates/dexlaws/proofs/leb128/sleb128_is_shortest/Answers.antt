use Rattle.dexspec.proofs.numbers.Spellings.{sleb128_is}
use Rattle.dexlaws.proofs.leb128.sleb128_is_shortest.Goals as goal

pub returns : goal.returns
returns c = λ v lt. let is = sleb128_is v lt in record { spelled = is.0; least = is.1 }
