use Rattle.dexclass.proofs.Common.{symbols_of, type_at}
use Rattle.dexclass.specs.{definition_of, class_uses}
use Rattle.dexpool.proofs.MappingAll.{uses_mapped}
use Rattle.dexclass.proofs.SameClasses.{members_mapped, stays_same}
use Rattle.dexclass.proofs.laws.renumbering_law.Goals as goal

pub returns-clause-same : goal.returns-clause-same
returns-clause-same c = λ m n r class are_mapped maps_to known.
    let uses = members_mapped r class maps_to in
    let keeps = c.members_remapped_law.ensures.keeps m n r class.members are_mapped uses known.members_known in
    stays_same m n r are_mapped class maps_to (record {
      known = keeps.0;
      same = keeps.1;
      ordered = c.members_remapped_law.ensures.order m n r class.members are_mapped uses known.members_ordered;
      own = c.members_remapped_law.ensures.class m n r (type_at m class.name) class.members are_mapped uses known.members_own;
    }) known

pub returns-clause-all : goal.returns-clause-all
returns-clause-all c = λ m r class rising all known. uses_mapped m r all (class_uses class) (symbols_of (definition_of m class)) (c.uses_law.ensures.uses m class rising known)
