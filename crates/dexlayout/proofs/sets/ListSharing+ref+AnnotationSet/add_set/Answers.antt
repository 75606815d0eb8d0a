use Rattle.dexlayout.proofs.Common.{◌≡◌, true, false, [], sym, subst, ◌∙◌, Option, Some, Bor, MatchOption, set_of, NumberedSet, IsKnownSet, annotation_in, set_in, set_use}
use Rattle.dexval.specs.declared.set.AnnotationSet.{AnnotationSet}
use Rattle.dexlayout.proofs.SharedUses.{shared_pass, shared_take, none_used, some_used}
use Rattle.dexlayout.proofs.sets.ListSharing+ref+AnnotationSet.add_set.Goals as goal
use Rattle.dexlayout.proofs.sets.ListSharing+ref+AnnotationSet.add_set.Goals.{in_default-via-in-Some+else-not-is_empty, in_default-via-in_default}

-- what a set that is lent holds
lent_is : (o : Option (Bor AnnotationSet)) (s : Bor AnnotationSet) (meant : NumberedSet) → o ≡ Some s → MatchOption o (meant ≡ []) (λ t. set_of t.now ≡ meant) → set_of s.now ≡ meant
lent_is o s meant e is = subst (λ p. MatchOption p (meant ≡ []) (λ t. set_of t.now ≡ meant)) e is

pub returns-in-Some : goal.returns-in-Some
returns-in-Some c = λ m uses meant is known h.
    let s = c.in-Some.set in
    let e : set_of s.now ≡ meant = lent_is c.args.set s meant c.in-Some.is is in
    let some = some_used (annotation_in m) (set_of s.now) (λ none. let both : true ≡ false = sym (c.is_empty.ensures.1 none) ∙ c.if-not-is_empty.true in cc) in
    shared_take h c.add.result _ _ s (set_use m meant) (subst (IsKnownSet m) (sym e) known) (subst (λ n. set_use m n ≡ Some (set_in m (set_of s.now))) e some) (c.add.ensures h.used h.items)

pub returns-in_default : goal.returns-in_default
returns-in_default c = λ m uses meant is known h.
    let none : meant ≡ [] = elim c.in_default.branch [
      | in_default-via-in-Some+else-not-is_empty w ↦
          sym (lent_is c.args.set w.in-Some.set meant w.in-Some.is is) ∙ w.is_empty.ensures.0 w.if-not-is_empty.false
      | in_default-via-in_default w ↦ subst (λ o. MatchOption o (meant ≡ []) (λ s. set_of s.now ≡ meant)) w.in_default.is is
    ] in
    shared_pass h c.add-in_default.result _ _ (set_use m meant) (none_used (annotation_in m) meant none) (c.add-in_default.ensures h.used h.items)
