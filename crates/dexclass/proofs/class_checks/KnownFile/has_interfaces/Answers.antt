use Rattle.dexclass.proofs.Common.{refl}
use Rattle.std.proofs.lemmas.Result.{IfOk-weaker}
use Rattle.dexclass.proofs.Interfaces.{has_interfaces, of_interfaces, listed_in, list_fits}
use Rattle.dexclass.proofs.class_checks.KnownFile.has_interfaces.Goals as goal

pub is_class_list-requires-clause-within : goal.is_class_list-requires-clause-within
is_class_list-requires-clause-within c = list_fits c.args.self.now.frame.now c.args.off c.in-Some.count c.in-Some.ensures 0 _ _ refl refl

pub returns-clause-list : goal.returns-clause-list
returns-clause-list c =
    let b = c.args.self.now.frame.now in
    let off = c.args.off in
    let room = c.in-Some.ensures in
    IfOk-weaker c.is_class_list.result _ _
    (λ are h r marks lists.
    let listed = listed_in b off c.in-Some.count room r _ _ refl refl in (
      λ e. has_interfaces b r off c.in-Some.count c.if-off-eq0.false room (listed.0 ((h r marks lists).0 e)),
      λ has. (h r marks lists).1 (listed.1 (of_interfaces b r off c.in-Some.count c.if-off-eq0.false room has)),
    ))
    c.is_class_list.ensures.list
