use Rattle.std.proofs.Common.{not, length-append}
use Rattle.dexpool.specs.Cut.{kept}
use Rattle.dexclass.proofs.Common.{◌≡◌, ◌<◌, ◌∙◌, ◌∷◌, Bool, [], true, false, length, get_or, map, sym, ap, arith, refl, length-map, get_or-map, map-id}
use Rattle.dexclass.proofs.PartsOf.{kept-nil, kept_pushed}
use Rattle.std.proofs.lemmas.Iterator.Adapters.{YieldsList-from_vec}
use Rattle.std.proofs.lemmas.Iterator.Consumers.{YieldsList-turn, YieldsList-end}
use Rattle.dexclass.proofs.parts.divide.Goals as goal
use Rattle.dexclass.proofs.parts.divide.Goals.{In-Some, then-flags-place+in_ok-push, else-flags-place+in_ok-push-2}

-- the class has a flag
few : (c : In-Some) → length c.loop-class.yielded < length c.args.classes.items
few c =
    (YieldsList-turn (YieldsList-from_vec {s = c.into_iter-class-iterator.result} c.args.classes.items c.into_iter-class-iterator.ensures.into_iter_gives.0 (omega (arith, c.into_iter-class-iterator.ensures.into_iter_gives.1))) c.loop-class.yielded c.loop-class.class-iterator c.loop-class.yielded_by c.next.result c.next.new.self c.in-Some.class c.in-Some.is c.next.ensures.steps).0

pub loop-class-init : goal.loop-class-init
loop-class-init c = record {
  place = refl;
  chosen = c.new.ensures.items ∙ sym (kept-nil c.args.flags.now);
  others = c.new-2.ensures.items ∙ sym (kept-nil (map not c.args.flags.now));
}

pub bounds-flags-place : goal.bounds-flags-place
bounds-flags-place c = omega (arith, few (goal.at.bounds-flags-place c).In-Some, c.loop-class.invariant.place, c.requires)

pub loop-class-preserved : goal.loop-class-preserved
loop-class-preserved c =
    let flags = c.args.flags.now in
    let n = length c.loop-class.yielded in
    let lt : n < length flags = omega (arith, few (goal.at.loop-class-preserved c).In-Some, c.requires) in
    let below : n < length (map not flags) = omega (arith, lt, length-map flags not) in
    let here : c.loop-class.place ≡ n = c.loop-class.invariant.place in
    let other : (b : Bool) → get_or flags c.loop-class.place false ≡ b → not b ≡ get_or (map not flags) n false = λ b e. ap not (sym e ∙ ap (λ k. get_or flags k false) here) ∙ sym (get_or-map not flags n false false lt) in
    record {
      place = omega (arith, here, length-append c.loop-class.yielded (c.in-Some.class ∷ []));
      chosen = elim c.if-flags-place.branch [
        | then-flags-place+in_ok-push w ↦ rw w.divided-is (kept_pushed flags c.loop-class.yielded c.in-Some.class true _ _ lt (sym w.if-flags-place.true ∙ ap (λ k. get_or flags k false) here) c.loop-class.invariant.chosen (λ t. w.in_ok-push.ensures.items) (λ f. absurd cc))
        | else-flags-place+in_ok-push-2 w ↦ rw w.divided-is (kept_pushed flags c.loop-class.yielded c.in-Some.class false _ _ lt (sym w.if-flags-place.false ∙ ap (λ k. get_or flags k false) here) c.loop-class.invariant.chosen (λ t. absurd cc) (λ f. refl))
      ];
      others = elim c.if-flags-place.branch [
        | then-flags-place+in_ok-push w ↦ rw w.divided-is (kept_pushed (map not flags) c.loop-class.yielded c.in-Some.class false _ _ below (other true w.if-flags-place.true) c.loop-class.invariant.others (λ t. absurd cc) (λ f. refl))
        | else-flags-place+in_ok-push-2 w ↦ rw w.divided-is (kept_pushed (map not flags) c.loop-class.yielded c.in-Some.class true _ _ below (other false w.if-flags-place.false) c.loop-class.invariant.others (λ t. w.in_ok-push-2.ensures.items) (λ f. absurd cc))
      ];
    }

pub returns : goal.returns
returns c =
    let all = (YieldsList-end (YieldsList-from_vec {s = c.into_iter-class-iterator.result} c.args.classes.items c.into_iter-class-iterator.ensures.into_iter_gives.0 (omega (arith, c.into_iter-class-iterator.ensures.into_iter_gives.1))) c.loop-class.yielded c.loop-class.class-iterator c.loop-class.yielded_by c.next.result c.next.new.self c.in-None.is c.next.ensures.steps).0 in
    let is : c.loop-class.yielded ≡ c.args.classes.items = sym (map-id c.loop-class.yielded) ∙ all in
    record {
      chosen = c.loop-class.invariant.chosen ∙ ap (kept c.args.flags.now) is;
      others = c.loop-class.invariant.others ∙ ap (kept (map not c.args.flags.now)) is;
    }
