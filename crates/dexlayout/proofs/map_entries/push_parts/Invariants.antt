use Rattle.dexlayout.proofs.Common.{◌≡◌, ◌++◌, map, take, flat_map, entry_meant, entry_of}
use Rattle.dexlayout.proofs.map_entries.push_parts.Given as goal

abbrev pub invariant-loop-part : goal.invariant-loop-part
invariant-loop-part l = map entry_meant l.entries.items ≡ map entry_meant l.fn.entries.items ++ flat_map entry_of (map entry_meant (take l.part-index l.parts))
