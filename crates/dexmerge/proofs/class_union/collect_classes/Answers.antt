use Rattle.dexmerge.proofs.Common.{◌≡◌, ◌<◌, ◌∙◌, ◌++◌, ◌∷◌, ℕ, List, [], length, get_or, take, drop, map, sym, ap, subst, arith, flat_map, flat_map-append, append-nil, length-append, length-map, take_all, YieldsList-from_vec, YieldsList-turn, YieldsList-end, Definition, Collection, definitions}
use Rattle.dexmerge.specs.internal.Collecting.{ArePartsOf, AreCollected}
use Rattle.dexmerge.proofs.PartMembers.{part_at}
use Rattle.dexmerge.proofs.Collected.{owned_parts, file_parts, part_is, more_parts, one_of_each}
use Rattle.dexmerge.proofs.class_union.collect_classes.Goals as goal
use Rattle.dexmerge.proofs.class_union.collect_classes.Goals.{After-split_at, In-Some}

-- the parts that are owned have the first maps
own : (c : After-split_at) → ArePartsOf c.requires.0 c.args.owned.items c.split_at.result.0.now
own c =
    let owned : List Collection = c.args.owned.items in
    let size : length owned ≡ c.len.result = omega (arith, c.len.ensures) in
    subst (ArePartsOf c.requires.0 owned) (ap (λ (n : ℕ). take n c.args.remaps.now) size ∙ sym c.split_at.ensures.front) (owned_parts owned (map (λ file. file.now) c.args.files.now) c.requires.0 c.args.remaps.now c.requires.2)

-- the files have the others
rest : (c : After-split_at) → ArePartsOf c.requires.0 (map (λ file. file.now) c.args.files.now) c.split_at.result.1.now
rest c =
    let files : List Collection = map (λ file. file.now) c.args.files.now in
    let size : length c.args.owned.items ≡ c.len.result = omega (arith, c.len.ensures) in
    subst (ArePartsOf c.requires.0 files) (ap (λ (n : ℕ). drop n c.args.remaps.now) size ∙ sym c.split_at.ensures.back) (file_parts c.args.owned.items files c.requires.0 c.args.remaps.now c.requires.2)

-- the part is that of its place
place : (c : In-Some) → (c.loop-part.place < length c.args.owned.items) × (c.in-Some.part ≡ get_or c.args.owned.items c.loop-part.place c.in-Some.part)
place c =
    let t = YieldsList-turn (YieldsList-from_vec {s = c.into_iter-part-iterator.result} c.args.owned.items c.into_iter-part-iterator.ensures.into_iter_gives.0 (omega (arith, c.into_iter-part-iterator.ensures.into_iter_gives.1))) c.loop-part.yielded c.loop-part.part-iterator c.loop-part.yielded_by c.next.result c.next.new.self c.in-Some.part c.in-Some.is c.next.ensures.steps in
    (omega (arith, t.0, c.loop-part.invariant.place), t.1 ∙ ap (λ n. get_or c.args.owned.items n c.in-Some.part) (sym c.loop-part.invariant.place))

pub loop-part-init : goal.loop-part-init
loop-part-init c = record {
  place = omega arith;
  count = (c.in_ok-all.ensures c.requires.0 c.requires.1).count ∙ c.requires.1;
  collected = λ m types own. c.in_ok-all.ensures m types;
}

pub bounds-own-place : goal.bounds-own-place
bounds-own-place c = omega (arith, (place (goal.at.bounds-own-place c).In-Some).0, (own (goal.at.bounds-own-place c).After-split_at).count)

pub take_all-requires : goal.take_all-requires
take_all-requires c =
    let p = place (goal.at.take_all-requires c).In-Some in
    (c.requires.0, part_is c.requires.0 c.args.owned.items c.split_at.result.0.now c.loop-part.place c.in-Some.part c.index-own-place.result (own (goal.at.take_all-requires c).After-split_at) p.0 p.1 c.index-own-place.is, c.loop-part.invariant.count ∙ sym c.requires.1)

pub loop-part-preserved : goal.loop-part-preserved
loop-part-preserved c =
    let Ks : List Collection = c.args.owned.items in
    let p = place (goal.at.loop-part-preserved c).In-Some in
    record {
      place = omega (arith, c.loop-part.invariant.place, length-append c.loop-part.yielded (c.in-Some.part ∷ []));
      count = c.in_ok-take_all.ensures.count ∙ c.loop-part.invariant.count;
      collected = λ m types all. more_parts m [] Ks c.loop-part.place c.in-Some.part c.take_all.new.self.classes.items c.take_all.new.self.is_name.items p.0 p.1
          (c.in_ok-take_all.ensures.collected m (flat_map definitions (take c.loop-part.place Ks)) (part_is m Ks c.split_at.result.0.now c.loop-part.place c.in-Some.part c.index-own-place.result all p.0 p.1 c.index-own-place.is) (c.loop-part.invariant.collected m types all));
    }

pub loop-i-init : goal.loop-i-init
loop-i-init c = record {
  count = c.loop-part.invariant.count;
  collected = λ m types own files.
      let Ks : List Collection = c.args.owned.items in
      let size : length Ks ≡ c.len.result = omega (arith, c.len.ensures) in
      let t = YieldsList-end (YieldsList-from_vec {s = c.into_iter-part-iterator.result} Ks c.into_iter-part-iterator.ensures.into_iter_gives.0 (omega (arith, c.into_iter-part-iterator.ensures.into_iter_gives.1))) c.loop-part.yielded c.loop-part.part-iterator c.loop-part.yielded_by c.next.result c.next.new.self c.in-None.is c.next.ensures.steps in
      subst (λ (l : List Definition). AreCollected m l c.loop-part.all.classes.items c.loop-part.all.is_name.items) (ap (flat_map definitions) (take_all c.loop-part.place Ks (omega (arith, t.1, c.loop-part.invariant.place))) ∙ sym (append-nil (flat_map definitions Ks))) (c.loop-part.invariant.collected m types (subst (ArePartsOf m Ks) (ap (λ (n : ℕ). take n c.args.remaps.now) size ∙ sym c.split_at.ensures.front) own));
}

pub bounds-rest-i : goal.bounds-rest-i
bounds-rest-i c = omega (arith, (rest (goal.at.bounds-rest-i c).After-split_at).count, length-map c.args.files.now (λ file. file.now))

pub copy_all-requires : goal.copy_all-requires
copy_all-requires c =
    let Ks : List Collection = map (λ file. file.now) c.args.files.now in
    let few : c.loop-i.i < length Ks = omega (arith, c.loop-i-test.true, length-map c.args.files.now (λ file. file.now)) in
    (c.requires.0, part_is c.requires.0 Ks c.split_at.result.1.now c.loop-i.i c.index-files-i.result.now c.index-rest-i.result (rest (goal.at.copy_all-requires c).After-split_at) few (part_at c.args.files.now c.loop-i.i c.index-files-i.result c.loop-i-test.true c.index-files-i.is) c.index-rest-i.is, c.loop-i.invariant.count ∙ sym c.requires.1)

pub loop-i-preserved : goal.loop-i-preserved
loop-i-preserved c =
    let Ks : List Collection = map (λ file. file.now) c.args.files.now in
    let D : List Definition = flat_map definitions c.args.owned.items in
    let K = c.index-files-i.result.now in
    let few : c.loop-i.i < length Ks = omega (arith, c.loop-i-test.true, length-map c.args.files.now (λ file. file.now)) in
    let at : K ≡ get_or Ks c.loop-i.i K = part_at c.args.files.now c.loop-i.i c.index-files-i.result c.loop-i-test.true c.index-files-i.is in
    record {
      count = c.in_ok-copy_all.ensures.count ∙ c.loop-i.invariant.count;
      collected = λ m types own files. more_parts m D Ks c.loop-i.i K c.copy_all.new.self.classes.items c.copy_all.new.self.is_name.items few at
          (c.in_ok-copy_all.ensures.collected m (D ++ flat_map definitions (take c.loop-i.i Ks)) (part_is m Ks c.split_at.result.1.now c.loop-i.i K c.index-rest-i.result files few at c.index-rest-i.is) (c.loop-i.invariant.collected m types own files));
    }

pub returns : goal.returns
returns c = λ m types j.
    let owned : List Collection = c.args.owned.items in
    let files : List Collection = map (λ file. file.now) c.args.files.now in
    let size : length owned ≡ c.len.result = omega (arith, c.len.ensures) in
    let own : ArePartsOf m owned (take (length owned) c.args.remaps.now) = owned_parts owned files m c.args.remaps.now j in
    let rest : ArePartsOf m files c.split_at.result.1.now = subst (ArePartsOf m files) (ap (λ (n : ℕ). drop n c.args.remaps.now) size ∙ sym c.split_at.ensures.back) (file_parts owned files m c.args.remaps.now j) in
    let all : take c.loop-i.i files ≡ files = take_all c.loop-i.i files (omega (arith, length-map c.args.files.now (λ file. file.now))) in
    one_of_each m (flat_map definitions (owned ++ files)) c.loop-i.all.classes.items c.loop-i.all.is_name.items j.good.consistent
    (subst (λ (l : List Definition). AreCollected m l c.loop-i.all.classes.items c.loop-i.all.is_name.items) (ap (λ (l : List Collection). flat_map definitions owned ++ flat_map definitions l) all ∙ sym (flat_map-append definitions owned files)) (c.loop-i.invariant.collected m types own rest))
