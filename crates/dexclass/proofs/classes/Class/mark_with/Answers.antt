use Rattle.std.specs.Prelude.{MatchOption}
use Rattle.dexclass.proofs.Common.{◌≡◌, Option, Some, None, ◌∷◌, [], ◌++◌, ℕ, List, map, option_to_list, ap, sym, ◌∙◌, subst, All, All-head, Marks, HasMark, IsMarkedUse, AreMarkedToo, members_uses, marked_both, all_prefix}
use Rattle.dexclass.specs.{NumberedClass, type_use, text_use, class_uses}
use Rattle.dexclass.proofs.Marked.{rest_marked, stay_marked}
use Rattle.dexclass.proofs.OwnUses.{parts_are}
use Rattle.dexclass.proofs.classes.Class.mark_with.Goals as goal

-- what is lent of a number, if there is one
lent : (o : Option ℕ) (xs : List ℕ) → MatchOption o (xs ≡ []) (λ x. xs ≡ x ∷ []) → xs ≡ option_to_list o
lent None xs e = e
lent (Some x) xs e = e

-- there is a mark for each use of a class, one list after the other
has_all : (marks : Marks) (c v : NumberedClass) → c ≡ v → All (HasMark marks) (class_uses v) → All (HasMark marks) (type_use c.name ∷ (map type_use (option_to_list c.superclass) ++ (map type_use c.interfaces ++ (map text_use (option_to_list c.source) ++ members_uses c.members))))
has_all marks c v e h = subst (All (HasMark marks)) (sym (parts_are c.name c.superclass c.interfaces (map text_use (option_to_list c.source) ++ members_uses c.members))) (subst (λ x. All (HasMark marks) (class_uses x)) (sym e) h)

pub mark-requires : goal.mark-requires
mark-requires c = All-head (HasMark c.args.marks.now) (type_use c.self.inside.name) _ (has_all c.args.marks.now _ _ c.self.view_is c.requires.known)

pub mark_all-requires : goal.mark_all-requires
mark_all-requires c =
    subst (λ (l : List ℕ). All (HasMark c.mark.new.self) (map type_use l)) (sym (lent c.self.inside.superclass c.as_slice.result.now c.as_slice.ensures))
    (all_prefix (HasMark c.mark.new.self) (map type_use (option_to_list c.self.inside.superclass)) _ (rest_marked (type_use c.self.inside.name ∷ []) _ c.args.marks.now _ c.mark.ensures (has_all c.args.marks.now _ _ c.self.view_is c.requires.known)))

pub mark_unless-requires-clause-known : goal.mark_unless-requires-clause-known
mark_unless-requires-clause-known c =
    let s = c.self.inside in
    let second = subst (λ (l : List ℕ). AreMarkedToo (map type_use l) c.mark.new.self c.mark_all.new.marks) (lent s.superclass c.as_slice.result.now c.as_slice.ensures) c.mark_all.ensures in
    subst (λ (l : List ℕ). All (HasMark c.mark_all.new.marks) (map type_use l)) (sym c.numbers.ensures)
    (all_prefix (HasMark c.mark_all.new.marks) (map type_use s.interfaces) _ (rest_marked (map type_use (option_to_list s.superclass)) _ c.mark.new.self _ second
    (rest_marked (type_use s.name ∷ []) _ c.args.marks.now _ c.mark.ensures (has_all c.args.marks.now _ _ c.self.view_is c.requires.known))))

pub mark_unless-requires-clause-marked : goal.mark_unless-requires-clause-marked
mark_unless-requires-clause-marked c = λ yes.
    let s = c.self.inside in
    let second = subst (λ (l : List ℕ). AreMarkedToo (map type_use l) c.mark.new.self c.mark_all.new.marks) (lent s.superclass c.as_slice.result.now c.as_slice.ensures) c.mark_all.ensures in
    subst (λ (l : List ℕ). All (IsMarkedUse c.mark_all.new.marks) (map type_use l)) (sym (c.numbers.ensures ∙ ap (λ (x : NumberedClass). x.interfaces) c.self.view_is))
    (stay_marked (map type_use (option_to_list s.superclass)) _ c.mark.new.self _ second (stay_marked (type_use s.name ∷ []) _ c.args.marks.now _ c.mark.ensures (c.requires.marked yes)))

pub mark_all-requires-2 : goal.mark_all-requires-2
mark_all-requires-2 c =
    let s = c.self.inside in
    let second = subst (λ (l : List ℕ). AreMarkedToo (map type_use l) c.mark.new.self c.mark_all.new.marks) (lent s.superclass c.as_slice.result.now c.as_slice.ensures) c.mark_all.ensures in
    let third = subst (λ (l : List ℕ). AreMarkedToo (map type_use l) c.mark_all.new.marks c.mark_unless.new.marks) c.numbers.ensures c.mark_unless.ensures in
    subst (λ (l : List ℕ). All (HasMark c.mark_unless.new.marks) (map text_use l)) (sym (lent s.source c.as_slice-2.result.now c.as_slice-2.ensures))
    (all_prefix (HasMark c.mark_unless.new.marks) (map text_use (option_to_list s.source)) _ (rest_marked (map type_use s.interfaces) _ c.mark_all.new.marks _ third
    (rest_marked (map type_use (option_to_list s.superclass)) _ c.mark.new.self _ second (rest_marked (type_use s.name ∷ []) _ c.args.marks.now _ c.mark.ensures (has_all c.args.marks.now _ _ c.self.view_is c.requires.known)))))

pub mark-requires-2 : goal.mark-requires-2
mark-requires-2 c =
    let s = c.self.inside in
    let second = subst (λ (l : List ℕ). AreMarkedToo (map type_use l) c.mark.new.self c.mark_all.new.marks) (lent s.superclass c.as_slice.result.now c.as_slice.ensures) c.mark_all.ensures in
    let third = subst (λ (l : List ℕ). AreMarkedToo (map type_use l) c.mark_all.new.marks c.mark_unless.new.marks) c.numbers.ensures c.mark_unless.ensures in
    let fourth = subst (λ (l : List ℕ). AreMarkedToo (map text_use l) c.mark_unless.new.marks c.mark_all-2.new.marks) (lent s.source c.as_slice-2.result.now c.as_slice-2.ensures) c.mark_all-2.ensures in
    rest_marked (map text_use (option_to_list s.source)) _ c.mark_unless.new.marks _ fourth (rest_marked (map type_use s.interfaces) _ c.mark_all.new.marks _ third
    (rest_marked (map type_use (option_to_list s.superclass)) _ c.mark.new.self _ second (rest_marked (type_use s.name ∷ []) _ c.args.marks.now _ c.mark.ensures (has_all c.args.marks.now _ _ c.self.view_is c.requires.known))))

pub returns : goal.returns
returns c =
    let s = c.self.inside in
    let source = map text_use (option_to_list s.source) in
    let others = source ++ members_uses s.members in
    let second = subst (λ (l : List ℕ). AreMarkedToo (map type_use l) c.mark.new.self c.mark_all.new.marks) (lent s.superclass c.as_slice.result.now c.as_slice.ensures) c.mark_all.ensures in
    let third = subst (λ (l : List ℕ). AreMarkedToo (map type_use l) c.mark_all.new.marks c.mark_unless.new.marks) c.numbers.ensures c.mark_unless.ensures in
    let fourth = subst (λ (l : List ℕ). AreMarkedToo (map text_use l) c.mark_unless.new.marks c.mark_all-2.new.marks) (lent s.source c.as_slice-2.result.now c.as_slice-2.ensures) c.mark_all-2.ensures in
    let end = c.mark-2.new.marks in
    subst (λ us. AreMarkedToo us c.args.marks.now end) (parts_are s.name s.superclass s.interfaces others ∙ ap class_uses c.self.view_is)
    (marked_both (type_use s.name ∷ []) _ c.args.marks.now c.mark.new.self end c.mark.ensures (marked_both (map type_use (option_to_list s.superclass)) _ c.mark.new.self c.mark_all.new.marks end second
    (marked_both (map type_use s.interfaces) others c.mark_all.new.marks c.mark_unless.new.marks end third (marked_both source (members_uses s.members) c.mark_unless.new.marks c.mark_all-2.new.marks end fourth c.mark-2.ensures))))
