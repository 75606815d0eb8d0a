-- The depth of a name is one more than the greatest depth of its defined parents.
use Rattle.dexspec.proofs.Common.{◌≡◌, ℕ, suc, ◌+◌, ◌≤◌, true, List, [], ◌∷◌, map, arith, inl, inr, Contains, cases_lt}
use Rattle.dexspec.specs.Texts.{Text}
use Rattle.dexspec.specs.Classes.{Definition}
use Rattle.dexspec.specs.Depth.{above, is_below, HasDepth, depth}
use Rattle.dexspec.proofs.lists.Members.{Contains-nil, Contains-first, Contains-later, Contains-cons_cases, list_all-from_members}
use Rattle.dexspec.proofs.merge.Depths.{is_below-later, depth-is, HasDepth-parent, depth-parent}
use Rattle.dexlaws.specs.{greatest}

-- no number exceeds the greatest
greatest_most : {X : Type 0} (f : X → ℕ) (xs : List X) (x : X) → Contains xs x → f x ≤ greatest (map f xs)
greatest_most f [] x c = absurd (Contains-nil x c)
greatest_most f (y ∷ ys) x c = elim (Contains-cons_cases y x ys c) [
  | inl e ↦ rw e (omega arith)
  | inr l ↦ omega (arith, greatest_most f ys x l)
]

-- if no number exceeds a bound, the greatest does not
greatest_least : {X : Type 0} (f : X → ℕ) (xs : List X) (n : ℕ) → ((x : X) → Contains xs x → f x ≤ n) → greatest (map f xs) ≤ n
greatest_least f [] n le = omega arith
greatest_least f (y ∷ ys) n le = omega (arith, le y (Contains-first y ys), greatest_least f ys n (λ x c. le x (Contains-later y x ys c)))

module _ (D : List Definition) (name : Text) (has : HasDepth D name) where
  abbrev more : Text → ℕ
  more parent = depth D parent + 1

  abbrev most : ℕ
  most = greatest (map more (above D name))

  -- each defined parent has a lesser depth
  parent_below : (parent : Text) → Contains (above D name) parent → is_below D most parent ≡ true
  parent_below parent c =
      let own = depth-is D parent (HasDepth-parent D name parent has c) in
      is_below-later D (suc (depth D parent)) most parent (omega (arith, greatest_most more (above D name) parent c)) own.below

  -- so the depth of the name is bounded
  no_deeper : depth D name ≤ most
  no_deeper =
      let own = depth-is D name has in
      let below : is_below D (suc most) name ≡ true = list_all-from_members (is_below D most) (above D name) parent_below in
      elim (cases_lt most (depth D name)) [
        | inl lt ↦ absurd (let deep : is_below D (depth D name) name ≡ true = is_below-later D (suc most) (depth D name) name (omega (arith, lt)) below in let shallow = own.not_below in cc)
        | inr ge ↦ ge
      ]

  pub depth_is_one_more : depth D name ≡ greatest (map (λ parent. depth D parent + 1) (above D name))
  depth_is_one_more = omega (arith, no_deeper, greatest_least more (above D name) (depth D name) (λ parent c. omega (arith, depth-parent D name parent has c)))
