use Rattle.dexlayout.proofs.Common.{◌≡◌, List, [], ◌∷◌, ◌++◌, append-nil, arith, ap, eqb-true, length, refl, sym, subst, ◌∙◌, map, on_ok_weaker, SharesSets, set_use}
use Rattle.dexlayout.proofs.sets.ListSharing+ref+AnnotationSet.add_list.Goals as goal

-- a list of no members
nothing : {X : Type 0} (xs : List X) → length xs ≡ 0 → xs ≡ []
nothing [] e = refl
nothing (x ∷ xs) e = absurd (omega (arith, e))

pub returns-then-is_empty : goal.returns-then-is_empty
returns-then-is_empty c = λ m uses known h.
    let sets = c.args.sets.now in
    let none : sets ≡ [] = nothing sets (eqb-true (length sets) 0 (sym c.is_empty.ensures ∙ c.if-is_empty.true)) in
    subst (λ us. SharesSets m us c.args.self.now.items.keys c.args.self.now.numbers) (sym (ap (λ ss. uses ++ map (set_use m) ss) none ∙ append-nil uses)) h

pub returns : goal.returns
returns c = λ m uses known h.
    let begun = subst (λ s. SharesSets m uses s.items.keys s.numbers) (sym c.in_ok-end_list.ensures) h in
    on_ok_weaker c.end_list-2.result (λ e. subst (λ s. SharesSets m (uses ++ map (set_use m) c.args.sets.now) s.items.keys s.numbers) (sym e) (c.in_ok-add_sets.ensures m uses known begun)) c.end_list-2.ensures
