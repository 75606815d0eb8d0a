use Rattle.dexspec.proofs.numbers.Spellings.{uleb128_is}
use Rattle.dexlaws.proofs.leb128.uleb128_is_shortest.Goals as goal

pub returns : goal.returns
returns c = λ v lt. let is = uleb128_is v lt in record { spelled = is.0; least = is.1 }
