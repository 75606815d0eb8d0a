use Rattle.dexspec.proofs.determined.OneNumber.{one_uleb128, one_sleb128, one_uleb128p1}
use Rattle.dexlaws.proofs.items.leb128.number_is_determined.Goals as goal

pub returns : goal.returns
returns c = record { unsigned = one_uleb128; signed = one_sleb128; one_more = one_uleb128p1 }
