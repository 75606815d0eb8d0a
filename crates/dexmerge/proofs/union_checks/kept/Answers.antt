use Rattle.std.proofs.Common.{rules}
use Rattle.dexmerge.proofs.Common.{◌≡◌, ◌<◌, ◌++◌, ◌∷◌, [], List, length, map, sym, ap, subst, ◌∙◌, inl, inr, append-nil, map-append, present, Contains, Contains-push_cases, AreIn, ℕ, Option, NumberedClass}
use Rattle.dexmerge.specs.{class_of, classes_of, class_at}
use Rattle.dexmerge.specs.declared.candidates.Candidate.{Candidate}
use Rattle.dexmerge.proofs.CandidatePlaces.{at_place, kept_within, kept_next}
use Rattle.dexmerge.proofs.union_checks.kept.Goals as goal
use Rattle.dexmerge.proofs.union_checks.kept.Goals.{in-Some+in_ok-push, in_default}

pub offset_bounds-candidates-i : goal.offset_bounds-candidates-i
offset_bounds-candidates-i c =
    let lt : c.in-Some.i < length c.args.candidates.now = kept_within c.args.candidates.now c.args.places.now c.loop-place.place-index c.in-Some.i c.requires c.in-Some.is in
    search rules

pub bounds-candidates-i : goal.bounds-candidates-i
bounds-candidates-i c = kept_within c.args.candidates.now c.args.places.now c.loop-place.place-index c.in-Some.i c.requires c.in-Some.is

pub loop-place-preserved : goal.loop-place-preserved
loop-place-preserved c =
    let all = c.args.candidates.now in
    let cs = classes_of all in
    let places = c.args.places.now in
    let t = c.loop-place.place-index in
    let old = c.loop-place.kept.items in
    let kept : Option ℕ → List NumberedClass = λ p. classes_of old ++ map (class_at cs) (present (p ∷ [])) in
    elim c.match-place.branch [
      | in-Some+in_ok-push w ↦
          let x = w.index-candidates-i.result in
          let lt = kept_within all places t w.in-Some.i c.requires w.in-Some.is in
          let items : c.match-place.kept.items ≡ old ++ x ∷ [] = (λ j. (w.kept-is j).items) ∙ w.in_ok-push.ensures.items in
          record {
            within = λ y has. elim (Contains-push_cases old x y (subst (λ (l : List Candidate). Contains l y) items has)) [
              | inl before ↦ c.loop-place.invariant.within y before
              | inr same ↦ subst (Contains all) same (w.in-Some.i, lt, sym w.index-candidates-i.is)
            ];
            kept = kept_next cs places t (classes_of old) (classes_of c.match-place.kept.items) c.loop-place-test.true c.loop-place.invariant.kept
                (ap classes_of items ∙ map-append class_of old (x ∷ []) ∙ ap (λ (y : NumberedClass). classes_of old ++ y ∷ []) (at_place all w.in-Some.i x lt w.index-candidates-i.is) ∙ ap kept (sym w.in-Some.is));
          }
      | in_default w ↦
          let items : c.match-place.kept.items ≡ old = λ j. (w.kept-is j).items in
          record {
            within = subst (λ (l : List Candidate). AreIn l all) (sym items) c.loop-place.invariant.within;
            kept = kept_next cs places t (classes_of old) (classes_of c.match-place.kept.items) c.loop-place-test.true c.loop-place.invariant.kept (ap classes_of items ∙ sym (append-nil (classes_of old)) ∙ ap kept (sym w.in_default.is));
          }
    ]
