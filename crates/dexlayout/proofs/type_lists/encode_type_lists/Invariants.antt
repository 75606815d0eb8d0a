use Rattle.dexlayout.proofs.Common.{◌++◌, map, take, interfaces_use}
use Rattle.dexlayout.proofs.ListUses.{ListsGiven, proto_use}
use Rattle.dexlayout.proofs.type_lists.encode_type_lists.Given as goal

-- the lists of the protos
abbrev pub invariant-loop-i : goal.invariant-loop-i
invariant-loop-i g l = ListsGiven l.numbering l.classes g.O.Output.gives l.fn.out (map proto_use (take l.i l.numbering.protos)) l.at l.out

-- and those of the classes
abbrev pub invariant-loop-i-2 : goal.invariant-loop-i-2
invariant-loop-i-2 g l = ListsGiven l.numbering l.classes g.O.Output.gives l.fn.out (map proto_use l.numbering.protos ++ map (interfaces_use l.numbering) (take l.i l.classes)) l.at l.out
