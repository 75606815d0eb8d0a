use Rattle.dexhead.proofs.Entries.{map_is_right}
use Rattle.dexhead.proofs.map.has_map.Goals as goal

pub returns-in-Some : goal.returns-in-Some
returns-in-Some c = map_is_right c.is_right.result c.in-Some.ensures.place c.in-Some.ensures.bytes c.in-Some.ensures.entries c.is_right.ensures
