use Rattle.std.proofs.Common.{◌≡◌, length}
use Rattle.dexunit.proofs.texts.are_read_equally.Given as goal

-- the places are those of the reader's bytes
abbrev pub invariant-places : goal.invariant-places
invariant-places l = length l.reader ≡ l.at-end
