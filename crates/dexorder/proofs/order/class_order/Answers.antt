use Rattle.std.proofs.Common.{rules, IfOk}
use Rattle.dexorder.proofs.Common.{◌≡◌, length, map, subst, sym, ap, ◌∙◌, refl, arith, range_with_len, IsPermutation, IfOk-weaker, rises, map-range_with_len_more}
use Rattle.std.proofs.lemmas.Grind.{common_steps}
use Rattle.dexorder.specs.{class_place, class_cmp, place_of, places_of}
use Rattle.dexorder.specs.declared.order.Place.{Place}
use Rattle.dexorder.proofs.PlaceLaws.{classes_permuted, classes_rise}
use Rattle.dexorder.proofs.order.class_order.Goals as goal
use Rattle.dexorder.proofs.order.class_order.Goals.{After-drop-places-2}

pub loop-class-preserved : goal.loop-class-preserved
loop-class-preserved c =
    let more = map-range_with_len_more (place_of c.args.depths.now c.args.names.now) 0 c.loop-class.class c.loop-class.class (omega arith) in
    grind (arith, common_steps)

-- the places before sorting
places_are : (c : After-drop-places-2) → c.loop-class.places.items ≡ places_of c.args.depths.now c.args.names.now
places_are c = c.loop-class.invariant ∙ ap (λ n. map (place_of c.args.depths.now c.args.names.now) (range_with_len 0 n)) (omega arith)

-- the classes of the places
classes_are : (c : After-drop-places-2) → IfOk c.collect.result (λ order. order.items ≡ map (λ (p : Place). p.class) c.sort_unstable.new.self.items)
classes_are c = search rules

pub returns-clause-classes : goal.returns-clause-classes
returns-clause-classes c =
    let names = c.args.names.now in
    IfOk-weaker c.collect.result _ _ (λ order e. subst (IsPermutation (range_with_len 0 (length names))) (sym e) (classes_permuted c.args.depths.now names (length names) c.loop-class.places.items c.sort_unstable.new.self.items (places_are c) c.sort_unstable.ensures.permutation)) (classes_are c)

pub returns-clause-rises : goal.returns-clause-rises
returns-clause-rises c =
    let all = classes_rise c.args.depths.now c.args.names.now (length c.args.names.now) c.loop-class.places.items c.sort_unstable.new.self.items refl c.requires.names (places_are c) c.sort_unstable.ensures.permutation c.sort_unstable.ensures.sorted in
    IfOk-weaker c.collect.result _ _ (λ order e. ap (λ ks. rises class_cmp (map (class_place c.args.depths.now c.args.names.now) ks)) e ∙ all) (classes_are c)
