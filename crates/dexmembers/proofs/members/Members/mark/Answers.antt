use Rattle.dexmembers.proofs.Common.{sym, subst, All, HasMark, all_back, all_prefix, NumberedValues, values_uses}
use Rattle.dexpool.specs.Uses.{AreMarkedToo}
use Rattle.dexpool.proofs.Visits.{marked_both, still_all}
use Rattle.dexmembers.proofs.MembersUsed.{declared_then}
use Rattle.dexmembers.specs.{NumberedMembers, declared_uses, members_uses}
use Rattle.dexpool.specs.declared.marks.Marks.{Marks}
use Rattle.dexmembers.proofs.members.Members.mark.Goals as goal

-- there is a mark for each symbol of what is declared, and then for each of the static values
both_marked : (x : NumberedMembers) (a : Marks) → All (HasMark a) (members_uses x) → All (HasMark a) (declared_uses x) × All (HasMark a) (values_uses x.static_values)
both_marked x a all =
    let both = subst (All (HasMark a)) (sym (declared_then x)) all in
    (all_prefix (HasMark a) (declared_uses x) (values_uses x.static_values) both, all_back (HasMark a) (declared_uses x) (values_uses x.static_values) both)

pub mark-requires : goal.mark-requires
mark-requires c = (both_marked c.args.self.now c.args.marks.now c.requires).0

pub mark-requires-2 : goal.mark-requires-2
mark-requires-2 c =
    let x = c.args.self.now in
    let a = c.args.marks.now in
    let b = c.mark.new.marks in
    subst (λ (l : NumberedValues). All (HasMark b) (values_uses l)) (sym c.weighed_values.ensures)
    (still_all (declared_uses x) (values_uses x.static_values) a b c.mark.ensures (both_marked x a c.requires).1)

pub returns : goal.returns
returns c =
    let x = c.args.self.now in
    let a = c.args.marks.now in
    let b = c.mark.new.marks in
    let end = c.mark-2.new.marks in
    let values = subst (λ (l : NumberedValues). AreMarkedToo (values_uses l) b end) c.weighed_values.ensures c.mark-2.ensures in
    subst (λ us. AreMarkedToo us a end) (declared_then x) (marked_both (declared_uses x) (values_uses x.static_values) a b end c.mark.ensures values)
