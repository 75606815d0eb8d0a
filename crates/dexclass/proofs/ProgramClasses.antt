-- What a program keeps of its collection.
use Rattle.dexclass.proofs.Common.{◌≡◌, ℕ, ◌<◌, List, [], ◌∷◌, length, get_or, refl, sym, ap, ◌∙◌, subst, arith, sum_by, length-map, get_or-map, sum_by-cons, Definition, Collection, definitions, mentions, in_class_order, in_class_order-same_sum, definitions-distinct}
use Rattle.dexclass.specs.{NumberedClass, definition_of, IsKnownClass, AreClassesOf, IsClassAt}

-- one for each member
each_counts : {X : Type 0} (xs : List X) → sum_by (λ (x : X). 1) xs ≡ length xs
each_counts [] = refl
each_counts (x ∷ xs) = omega (arith, sum_by-cons (λ y. 1) x xs, each_counts xs)

module _ (K : Collection) (cs : List NumberedClass) (h : AreClassesOf K cs) where
  -- there is a class for each definition
  pub classes_count : length cs ≡ length (definitions K)
  classes_count =
      sym (length-map cs (definition_of (mentions (definitions K)))) ∙ ap length h.are
      ∙ sym (each_counts (in_class_order (definitions K)))
      ∙ in_class_order-same_sum (λ (d : Definition). 1) (definitions K) (definitions-distinct K)
      ∙ each_counts (definitions K)

  -- each is the one of its place
  pub class_is_at : (i : ℕ) (c : NumberedClass) → i < length (definitions K) → get_or cs i c ≡ c → IsClassAt K i c
  class_is_at i c lt e =
      let m = mentions (definitions K) in
      let few : i < length cs = omega (arith, lt, classes_count) in
      record {
        known = subst (λ x. IsKnownClass m x) e (h.known i c few);
        is = record {
          within = omega (arith, few, length-map cs (definition_of m), ap length h.are);
          is = λ d. ap (λ l. get_or l i d) (sym h.are) ∙ get_or-map (definition_of m) cs i c d few ∙ ap (definition_of m) e;
        };
      }
