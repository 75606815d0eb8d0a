-- What two iterators give, compared item by item.
use Rattle.std.proofs.Common.{Bool, List, None, Option, Some, [], ap, arith, false, true, length, map, sym, refl, get_or, ◌∙◌, ◌∷◌, ◌≡◌}
use Rattle.std.proofs.lemmas.Iterator.{YieldsList}
use Rattle.std.proofs.lemmas.Iterator.Consumers.{YieldsList-end, YieldsList-turn}
use Rattle.std.proofs.lemmas.List.{get_or_default}
use Rattle.std.proofs.lemmas.List.Elements.{length_all_zip}
use Rattle.std.specs.Bool.{Decides}
use Rattle.std.specs.Iterator.{ComparesItemsByEq}
use Rattle.std.specs.List.{AllZip}
use Rattle.std.specs.Option.{MatchOption, IfSome}

module _ {A X : Type 0} {v w : A → X} (eq : A → A → Bool) (decides : (x y : A) → Decides (eq x y) (v x ≡ w y)) where
  equal_before : (xs ys : List A) → AllZip (λ x y. eq x y ≡ true) xs ys → map v xs ≡ map w ys
  equal_before [] [] h = refl
  equal_before [] (y ∷ ys) h = absurd h
  equal_before (x ∷ xs) [] h = absurd h
  equal_before (x ∷ xs) (y ∷ ys) h = λ i. ((decides x y).0 h.0) i ∷ (equal_before xs ys h.1) i

  -- where `eq` of two items says whether their values are equal, `eq` of two iterators says whether the lists of values are
  pub decides_by_eq : {S T : Type 0} {steps : S → Option A → S → Type 0} {others : T → Option A → T → Type 0} {s : S} {all rest : List X} (Becomes : T → Type 0) (r : Bool) → ComparesItemsByEq steps (λ (_ : Unit {0}) it. Becomes it) others s tt eq r → YieldsList steps v s all → ((it : T) → Becomes it → YieldsList others w it rest) → Decides r (all ≡ rest)
  decides_by_eq {steps = steps} {others = others} {all = all} {rest = rest} _ r (it, xs, ys, o, p, u, k, becomes, (t, gave, last), (t', gave', last'), zipped, is) e f = ends o p is last last'
    where
      g : YieldsList others w it rest
      g = f it becomes

      count : length xs ≡ length ys
      count = length_all_zip (λ x y. eq x y ≡ true) xs ys zipped

      ends : (o' p' : Option A) → MatchOption o' (MatchOption p' (r ≡ true) (λ _. r ≡ false)) (λ x. (r ≡ false) × IfSome p' (λ y. eq x y ≡ false)) → steps t o' u → others t' p' k → Decides r (all ≡ rest)
      ends None None so a b = ((λ _. sym (YieldsList-end e xs t gave None u refl a).0 ∙ equal_before xs ys zipped ∙ (YieldsList-end g ys t' gave' None k refl b).0), (λ _. so))
      ends None (Some y) not_so a b = ((λ t. absurd cc), (λ same. absurd (omega (arith, count, ap length same, (YieldsList-end e xs t gave None u refl a).1, (YieldsList-turn g ys t' gave' (Some y) k y refl b).0))))
      ends (Some x) None not_so a b = ((λ t. absurd cc), (λ same. absurd (omega (arith, count, ap length same, (YieldsList-turn e xs t gave (Some x) u x refl a).0, (YieldsList-end g ys t' gave' None k refl b).1))))
      ends (Some x) (Some y) not_so a b = (
        (λ t. absurd cc),
        (λ same.
            let left = YieldsList-turn e xs t gave (Some x) u x refl a in
            let right = YieldsList-turn g ys t' gave' (Some y) k y refl b in
            let equal = (decides x y).1 (left.1 ∙ ap (λ l. get_or l (length xs) (v x)) same ∙ ap (λ n. get_or rest n (v x)) count ∙ get_or_default rest (length ys) (v x) (w y) right.0 ∙ sym right.1) in absurd cc),
      )
