use Rattle.dexspec.proofs.lists.Decided.{definition_same_or_not}
use Rattle.dexspec.proofs.lists.Searches.{once_of}
use Rattle.dexspec.proofs.merge.Exceeding.{weight-once}
use Rattle.dexlaws.proofs.causes.members_once.Goals as goal

pub returns : goal.returns
returns c = λ D. let o = once_of definition_same_or_not D in record { once = o.once; distinct = o.distinct; same = λ d. (o.only d, o.has d); most = weight-once D }
