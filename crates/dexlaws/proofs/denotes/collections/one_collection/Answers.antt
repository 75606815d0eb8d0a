use Rattle.dexspec.proofs.determined.OneCollection.{one_collection}
use Rattle.dexlaws.proofs.denotes.collections.one_collection.Goals as goal

pub returns : goal.returns
returns c = one_collection
