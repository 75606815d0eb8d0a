use Rattle.std.proofs.Common.{◌≡◌, ◌++◌, take}
use Rattle.dexspec.specs.Numbers.{uleb128}
use Rattle.dexspec.specs.Texts.{spelling}
use Rattle.dexcases_calls.proofs.calls.names.item_of.Given as goal

abbrev pub invariant-loop-unit : goal.invariant-loop-unit
invariant-loop-unit l = l.item.items ≡ uleb128 l.count ++ spelling (take l.unit-index l.units)
