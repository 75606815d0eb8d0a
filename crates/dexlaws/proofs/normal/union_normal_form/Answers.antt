use Rattle.std.specs.FinMap as finite
use Rattle.dexspec.proofs.merge.Collections.{collection-is}
use Rattle.dexlaws.proofs.UnionForm.{union_form}
use Rattle.dexlaws.proofs.normal.union_normal_form.Goals as goal

pub returns : goal.returns
returns c = record { accepted = λ caps files parts K caps_are are good is. (union_form caps files parts K caps_are are good is).accepted; denotes = λ caps files parts K caps_are are good is. (union_form caps files parts K caps_are are good is).denotes; some = λ caps D good. (finite.from_entries D, collection-is D good.consistent) }
