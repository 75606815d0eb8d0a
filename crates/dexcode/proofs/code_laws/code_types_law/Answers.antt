use Rattle.dexcode.proofs.Common.{All-map, NumberedTry}
use Rattle.dexcode.proofs.HandlerPlaces.{named_short}
use Rattle.dexcode.proofs.TryRows.{IsInRange}
use Rattle.dexcode.proofs.code_laws.code_types_law.Goals as goal

pub returns : goal.returns
returns c = λ m d x encodes few. named_short m d.tries few (All-map (IsInRange m) (λ (t : NumberedTry). t.handler) d.tries encodes.known.tries_known)
