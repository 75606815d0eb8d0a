use Rattle.dexmerge.proofs.Common.{IsAt, ◌≡◌, ◌<◌, ◌++◌, ◌∙◌, List, length, get_or, take, map, sym, ap, subst, arith, refl, flat_map, length-map, append-nil, All, All-push, take_all, Definition, Collection, definitions, NumberedClass, renumbered_class}
use Rattle.dexmerge.specs.{AreMembers, IsOfPart, classes_of, referents}
use Rattle.dexmerge.specs.declared.candidates.Candidate.{Candidate}
use Rattle.dexmerge.specs.internal.CandidateLists.{AreByPart}
use Rattle.dexmerge.proofs.CandidatePlaces.{push_more}
use Rattle.dexmerge.proofs.EqualCandidates.{place_of}
use Rattle.dexmerge.proofs.PartMembers.{class_known, mapped_at, members_more, of_part, part_at, parts_more}
use Rattle.dexmerge.proofs.candidates.candidates.Goals as goal

pub loop-class-init : goal.loop-class-init
loop-class-init c = (classes_of c.loop-i.candidates.items, c.loop-i.invariant.members, sym (append-nil _), c.loop-i.invariant.parts, c.loop-i.invariant.remaps)

pub loop-class-preserved : goal.loop-class-preserved
loop-class-preserved c =
    let Ks = referents c.args.parts.now in
    let i = c.loop-i.i in
    let K : Collection = c.index-parts-i.result.now in
    let ps = c.classes-class-items.result.now in
    let x = c.class-item.result in
    let h = c.loop-class.invariant in
    let few : i < length Ks = omega (arith, c.loop-i-test.true, length-map c.args.parts.now (λ part. part.now)) in
    let at = part_at c.args.parts.now i c.index-parts-i.result c.loop-i-test.true c.index-parts-i.is in
    let known = class_known K ps x c.classes-class-items.ensures (c.loop-class.class-index, c.loop-class-test.true, sym c.class-item.is) in (
      h.0,
      h.1,
      push_more c.loop-class.candidates.items c.push.new.self.items _ h.0 c.index-remaps-i.result ps c.loop-class.class-index x c.in_ok-push.ensures.items refl c.loop-class-test.true c.class-item.is h.2,
      λ m zip. subst (All (IsOfPart m)) (sym c.in_ok-push.ensures.items) (All-push (IsOfPart m) c.loop-class.candidates.items _ (h.3 m zip)
          (of_part c.renumbering_law.ensures.same c.renumbering_law.ensures.all m K _ (mapped_at m Ks c.args.remaps.now i K c.index-remaps-i.result few at c.index-remaps-i.is zip) known)),
      subst (AreByPart c.args.remaps.now) (sym c.in_ok-push.ensures.items) (All-push (λ (y : Candidate). IsAt c.args.remaps.now y.part y.remap.now) c.loop-class.candidates.items _ h.4 (place_of c.args.remaps.now i c.index-remaps-i.result (omega (arith, c.loop-i-test.true, c.requires)) c.index-remaps-i.is)),
    )

pub loop-i-preserved : goal.loop-i-preserved
loop-i-preserved c =
    let Ks = referents c.args.parts.now in
    let i = c.loop-i.i in
    let K : Collection = c.index-parts-i.result.now in
    let r = c.index-remaps-i.result in
    let ps = c.classes-class-items.result.now in
    let h = c.loop-class.invariant in
    let few : i < length Ks = omega (arith, c.loop-i-test.true, length-map c.args.parts.now (λ part. part.now)) in
    let at : K ≡ get_or Ks i K = part_at c.args.parts.now i c.index-parts-i.result c.loop-i-test.true c.index-parts-i.is in
    let all : classes_of c.loop-class.candidates.items ≡ h.0 ++ map (renumbered_class r) ps = h.2 ∙ ap (λ (l : List NumberedClass). h.0 ++ map (renumbered_class r) l) (take_all c.loop-class.class-index ps (omega arith)) in
    record {
      members = λ m zip.
          subst (λ (D : List Definition). AreMembers m D (classes_of c.loop-class.candidates.items)) (sym (parts_more Ks i K few ∙ ap (λ (L : Collection). flat_map definitions (take i Ks) ++ definitions L) (sym at)))
          (subst (AreMembers m (flat_map definitions (take i Ks) ++ definitions K)) (sym all)
          (members_more c.renumbering_law.ensures.same c.renumbering_law.ensures.all m K r (mapped_at m Ks c.args.remaps.now i K r few at c.index-remaps-i.is zip) (flat_map definitions (take i Ks)) h.0 ps (h.1 m zip) c.classes-class-items.ensures c.is_good.ensures.formed));
      parts = h.3;
      remaps = h.4;
    }
