use Rattle.dexinsn.proofs.Common.{drop, Follow, AgreeBeside}
use Rattle.dexinsn.specs.{units_in}
use Rattle.dexinsn.proofs.same.agree_beside.Given as goal

abbrev pub invariant-loop-index : goal.invariant-loop-index
invariant-loop-index l = record {
  follow : Follow (units_in l.bytes) l.from (drop l.index-index l.indices);
  onward : AgreeBeside (units_in l.bytes) (units_in l.others) 0 l.indices → AgreeBeside (units_in l.bytes) (units_in l.others) l.from (drop l.index-index l.indices);
  back : AgreeBeside (units_in l.bytes) (units_in l.others) l.from (drop l.index-index l.indices) → AgreeBeside (units_in l.bytes) (units_in l.others) 0 l.indices;
}
