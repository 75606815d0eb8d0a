use Rattle.dexlayout.proofs.Common.{◌≡◌, ℕ, List, [], ◌∷◌, length, map, refl, sym, ap, ◌∙◌, arith, unless_empty, type_at}
use Rattle.dexlayout.proofs.SharedUses.{shared_pass, shared_take, none_used, some_used}
use Rattle.dexlayout.proofs.type_lists.Sharing+ListKey.add_list.Goals as goal

-- a list without members
empty_list : (xs : List ℕ) → length xs ≡ 0 → xs ≡ []
empty_list [] e = refl
empty_list (x ∷ xs) e = absurd (omega (arith, e))

pub returns-then-len-eq0-clause-added : goal.returns-then-len-eq0-clause-added
returns-then-len-eq0-clause-added c = λ m uses known h.
    shared_pass h c.add.result _ _ (unless_empty (map (type_at m) c.args.list)) (none_used (type_at m) c.args.list (empty_list c.args.list (sym c.len.ensures ∙ c.if-len-eq0.true))) (c.add.ensures.added h.used h.items)

pub returns-clause-added : goal.returns-clause-added
returns-clause-added c = λ m uses known h.
    shared_take h c.add-2.result _ _ c.args.list (unless_empty (map (type_at m) c.args.list)) known (some_used (type_at m) c.args.list (λ e. c.if-len-eq0.false (c.len.ensures ∙ ap (λ (l : List ℕ). length l) e))) (c.add-2.ensures.added h.used h.items)
