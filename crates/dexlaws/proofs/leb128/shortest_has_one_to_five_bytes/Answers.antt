use Rattle.dexspec.specs.Numbers.{plus_one}
use Rattle.dexspec.proofs.numbers.Spellings.{uleb128_bounds, sleb128_bounds}
use Rattle.dexlaws.proofs.leb128.shortest_has_one_to_five_bytes.Goals as goal

pub returns : goal.returns
returns c = record { unsigned = uleb128_bounds; signed = sleb128_bounds; one_more = λ v. uleb128_bounds (plus_one v) }
