use Rattle.std.proofs.Common.{rules}
use Rattle.dexmerge.proofs.Common.{◌≡◌, ◌<◌, ℕ, ◌+◌, ◌∙◌, ◌↔◌, sym, ap, subst, arith, length, get_or, Option, Some, None, IsTrue, name_number, false≢true}
use Rattle.dexmerge.specs.{classes_of, class_at, IsEqualCopy, lesser_of}
use Rattle.dexmerge.proofs.CandidatePlaces.{at_place, name_at_place, count_classes, kept_within, equivalent_by}
use Rattle.dexmerge.proofs.ConflictLaws.{IsLeastTo, equivalent_next, conflict_next, least_is}
use Rattle.dexmerge.proofs.union_checks.first_conflict.Goals.{in-Some+then-kept-i+then-not-is_same, in-Some+else-kept-i, else-kept-i-via-then-kept-i+else-not-is_same, else-kept-i-via-else-kept-i, in_default}
use Rattle.dexmerge.proofs.union_checks.first_conflict.Goals as goal

pub offset_bounds-candidates-kept : goal.offset_bounds-candidates-kept
offset_bounds-candidates-kept c =
    let lt : c.in-Some.kept < length c.args.candidates.now = kept_within c.args.candidates.now c.args.places.now c.name-name.result c.in-Some.kept c.requires (sym c.class_of_type.ensures ∙ c.in-Some.is) in
    search rules

pub bounds-candidates-kept : goal.bounds-candidates-kept
bounds-candidates-kept c = kept_within c.args.candidates.now c.args.places.now c.name-name.result c.in-Some.kept c.requires (sym c.class_of_type.ensures ∙ c.in-Some.is)

pub loop-i-preserved : goal.loop-i-preserved
loop-i-preserved c =
    let all = c.args.candidates.now in
    let cs = classes_of all in
    let places = c.args.places.now in
    let i = c.loop-i.i in
    let few : i < length cs = omega (arith, c.loop-i-test.true, count_classes all) in
    let name : c.name-name.result ≡ name_number cs i = c.name-name.ensures ∙ name_at_place all i c.index-candidates-i.result c.loop-i-test.true c.index-candidates-i.is in
    let place : (o : Option ℕ) → c.class_of_type.result ≡ o → get_or places (name_number cs i) None ≡ o = λ o is. ap (λ (k : ℕ). get_or places k None) (sym name) ∙ sym c.class_of_type.ensures ∙ is in
    let kept_at : (k : ℕ) → c.class_of_type.result ≡ Some k → k < length all = λ k is. kept_within all places c.name-name.result k c.requires (sym c.class_of_type.ensures ∙ is) in
    let next : IsEqualCopy cs places i → IsLeastTo cs places (i + 1) c.loop-i.least = equivalent_next cs places i c.loop-i.least c.loop-i.invariant in
    elim c.match-class_of_type.branch [
      | in-Some+then-kept-i+then-not-is_same w ↦
          let x = at_place all i w.index-candidates-i-then-kept-i.result c.loop-i-test.true w.index-candidates-i-then-kept-i.is in
          let y = at_place all w.in-Some.kept w.index-candidates-kept.result (kept_at w.in-Some.kept w.in-Some.is) w.index-candidates-kept.is in
          let same : IsTrue w.is_same.result ↔ IsEqualCopy cs places i = equivalent_by cs places i w.in-Some.kept (IsTrue w.is_same.result) (place (Some w.in-Some.kept) w.in-Some.is) ((λ p. sym x ∙ w.is_same.ensures.0 p ∙ y), (λ e. w.is_same.ensures.1 (x ∙ e ∙ sym y))) in
          subst (IsLeastTo cs places (i + 1)) (sym (w.least-is ∙ w.lesser-least.ensures ∙ ap (lesser_of c.loop-i.least) name))
          (conflict_next cs places i c.loop-i.least few c.requires c.loop-i.invariant (λ equivalent. false≢true (sym w.if-not-is_same.true ∙ same.1 equivalent)))
      | in-Some+else-kept-i w ↦
          let kept = w.in-Some.kept in
          let own : class_at cs i ≡ class_at cs kept → IsEqualCopy cs places i = (equivalent_by cs places i kept (class_at cs i ≡ class_at cs kept) (place (Some kept) w.in-Some.is) ((λ e. e), (λ e. e))).0 in
          subst (IsLeastTo cs places (i + 1)) (sym w.least-is) (next (own (elim w.else-kept-i.branch [
            | else-kept-i-via-then-kept-i+else-not-is_same v ↦
                sym (at_place all i v.index-candidates-i-then-kept-i.result c.loop-i-test.true v.index-candidates-i-then-kept-i.is)
                ∙ v.is_same.ensures.0 v.if-not-is_same.false
                ∙ at_place all kept v.index-candidates-kept.result (kept_at kept w.in-Some.is) v.index-candidates-kept.is
            | else-kept-i-via-else-kept-i v ↦ ap (class_at cs) (sym v.if-kept-i.false)
          ])))
      | in_default w ↦ subst (IsLeastTo cs places (i + 1)) (sym w.least-is) (next (λ k is. let none : None ≡ Some k = sym (place None w.in_default.is) ∙ is in absurd cc))
    ]

pub returns : goal.returns
returns c =
    let cs = classes_of c.args.candidates.now in
    let n = length c.args.candidates.now in
    let last : c.loop-i.i ≡ n = omega arith in
    least_is cs c.args.places.now n c.loop-i.least (count_classes c.args.candidates.now) (subst (λ (k : ℕ). IsLeastTo cs c.args.places.now k c.loop-i.least) last c.loop-i.invariant)
