use Rattle.dexstr.proofs.Common.{◌≡◌, ◌+◌, ◌/◌, length}
use Rattle.dexstr.specs.internal.Runs.{AreBlocks, AreLatest}
use Rattle.dexstr.proofs.runs.blocks_of.Given as goal

abbrev pub invariant-places : goal.invariant-places
invariant-places l = AreLatest l.bytes l.left l.latest × (length l.latest ≡ 3) × (length l.kept.items ≡ (l.left + 61) / 64) × AreBlocks l.bytes l.kept.items
