use Rattle.dexclass.proofs.Common.{subst, refl, false≢true}
use Rattle.std.proofs.lemmas.Result.{IfOk-weaker}
use Rattle.dexclass.specs.internal.Rows.{IsParentIndex, IsSourceIndex}
use Rattle.dexclass.proofs.Indices.{class_of, parent_before_of, interfaces_of, seen_not, has_class}
use Rattle.dexclass.proofs.class_checks.KnownFile.holds.Goals as goal

pub returns-then-not-is_class-clause-holds : goal.returns-then-not-is_class-clause-holds
returns-then-not-is_class-clause-holds c = λ r seen lists is. (λ e. absurd (false≢true e), λ h. c.if-not-is_class.ensures.1 (class_of c.args.self.now.frame.now r c.args.row.now is h))

pub returns-then-self-row-clause-holds : goal.returns-then-self-row-clause-holds
returns-then-self-row-clause-holds c = λ r seen lists is. (λ e. absurd (false≢true e), λ h. absurd (seen_not c.args.self.now.frame.now r c.args.row.now is c.args.self.now.seen.now seen (c.if-not-is_class.ensures.0 refl) c.if-self-row.true h))

pub returns-then-not-is_parent-clause-holds : goal.returns-then-not-is_parent-clause-holds
returns-then-not-is_parent-clause-holds c = λ r seen lists is. (λ e. absurd (false≢true e), λ h. (c.if-not-is_parent.ensures r seen).1 (subst (IsParentIndex c.args.self.now.frame.now) is.superclass_is h.superclass, parent_before_of c.args.self.now.frame.now r c.args.row.now is h))

pub returns-then-not-is_source-clause-holds : goal.returns-then-not-is_source-clause-holds
returns-then-not-is_source-clause-holds c = λ r seen lists is. (λ e. absurd (false≢true e), λ h. c.if-not-is_source.ensures.1 (subst (IsSourceIndex c.args.self.now.frame.now) is.source_is h.source))

pub returns-clause-holds : goal.returns-clause-holds
returns-clause-holds c =
    let b = c.args.self.now.frame.now in
    let row = c.args.row.now in
    IfOk-weaker c.has_interfaces.result _ _
    (λ has h r seen lists is. (
      λ e. has_class b r row is c.args.self.now.seen.now seen (c.if-not-is_class.ensures.0 refl) c.if-self-row.false ((c.if-not-is_parent.ensures r seen).0 refl).0 (c.if-not-is_source.ensures.0 refl)
          ((c.if-not-is_parent.ensures r seen).0 refl).1 ((h r seen lists).0 e),
      λ holds. (h r seen lists).1 (interfaces_of b r row is holds),
    ))
    c.has_interfaces.ensures.list
