use Rattle.dexinsn.proofs.Common.{drop, flat_map, ushort, Completes, spelled_from, Follow}
use Rattle.dexinsn.specs.{units_in}
use Rattle.dexinsn.proofs.put.encode_numbered.Given as goal

abbrev pub invariant-loop-index : goal.invariant-loop-index
invariant-loop-index g l = record {
  completes : Completes g.O.Output.gives (flat_map ushort (spelled_from (units_in l.bytes) l.from (drop l.index-index l.indices))) l.out (flat_map ushort (spelled_from (units_in l.bytes) 0 l.indices)) l.initial.out;
  follow : Follow (units_in l.bytes) l.from (drop l.index-index l.indices);
}
