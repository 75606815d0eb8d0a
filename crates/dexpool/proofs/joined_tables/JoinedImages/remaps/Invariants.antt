use Rattle.dexpool.proofs.Common.{SameFrom}
use Rattle.dexpool.proofs.JoinedTables.{AreFirstMaps}
use Rattle.dexpool.proofs.joined_tables.JoinedImages.remaps.Given as goal

-- the first parts have their maps, and the images of the others are there still
abbrev pub invariant-loop-part : goal.invariant-loop-part
invariant-loop-part l = record { maps : AreFirstMaps l.part l.fn.self l.remaps.items; others : SameFrom l.part l.fn.self l.self }
