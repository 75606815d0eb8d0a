use Rattle.dexval.proofs.Common.{◌≡◌, ◌-◌, ◌^◌, min, take}
use Rattle.dexval.proofs.Offsets.{end_of, offsets_spelled}
use Rattle.dexval.proofs.put.encode_offsets.Given as goal

abbrev pub invariant-loop-annotation : goal.invariant-loop-annotation
invariant-loop-annotation g l = record { given : g.O.Output.gives (offsets_spelled l.first (take l.annotation-index l.annotations)) l.initial.out l.out; next : l.offset ≡ min (2 ^ 64 - 1) (end_of l.first (take l.annotation-index l.annotations)) }
