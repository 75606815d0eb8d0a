use Rattle.dexval.proofs.Common.{◌≡◌, ◌+◌, ◌∷◌, ◌∙◌, ℕ, List, [], map, refl, sym, ap, subst, arith, map-append, uint_at, encoded_type, annotation_of, NumberedAnnotation, IsItemAt, NoItemAt}
use Rattle.dexval.specs.declared.annotation.Annotation.{Annotation}
use Rattle.dexval.proofs.Refusals.{err_is, refuses_so}
use Rattle.dexval.proofs.SetsRead.{HaveReadSet, none_read, one_more, no_next, no_order, all_read}
use Rattle.dexval.proofs.set_reading.annotations_at.Goals as goal

pub loop-i-init : goal.loop-i-init
loop-i-init c = record {
  least_fits = omega arith;
  read = λ p. subst (λ (l : List Annotation). HaveReadSet c.args.frame.now (c.args.off + 4) c.args.pools.now (uint_at c.args.frame.now c.args.off) 0 0 (map annotation_of l)) (sym c.requires.room.empty) (none_read c.args.frame.now c.args.pools.now p (c.args.off + 4) (uint_at c.args.frame.now c.args.off));
}

pub returns-then-from-least-clause-refused : goal.returns-then-from-least-clause-refused
returns-then-from-least-clause-refused c = λ p.
    let b = c.args.frame.now in
    let r = c.in_ok-annotation.ensures.read p in (
      refl,
      no_order b c.args.pools.now p c.args.off c.loop-i.i c.loop-i.least (map annotation_of c.loop-i.annotations.items) (annotation_of c.in_ok-annotation.annotation) (omega (arith, c.requires.count.1)) (c.loop-i.invariant.read p) (subst (λ (x : ℕ). IsItemAt b x c.args.pools.now (annotation_of c.in_ok-annotation.annotation)) c.uint_at-place.ensures r) (omega (arith, c.from.ensures)),
    )

pub returns-in_err-annotation-clause-refused : goal.returns-in_err-annotation-clause-refused
returns-in_err-annotation-clause-refused c = λ p.
    let b = c.args.frame.now in
    rw (err_is c.from_residual.result c.from_residual.ensures.1) (refuses_so 22 (λ none. no_next b c.args.pools.now p c.args.off c.loop-i.i c.loop-i.least (map annotation_of c.loop-i.annotations.items) (omega (arith, c.requires.count.1)) (c.loop-i.invariant.read p) (subst (NoItemAt b) c.uint_at-place.ensures none)) c.in_err-annotation.field-0.0 (c.in_err-annotation.ensures.refused p))

pub loop-i-preserved : goal.loop-i-preserved
loop-i-preserved c =
    let b = c.args.frame.now in
    let item = c.in_ok-annotation.annotation in
    let typ : encoded_type item.annotation ≡ c.from-least.result = omega (arith, c.from-least.ensures) in
    record {
      least_fits = omega (arith, c.from-least.ensures);
      read = λ p.
          subst (λ (x : ℕ). HaveReadSet b (c.args.off + 4) c.args.pools.now (uint_at b c.args.off) (c.loop-i.i + 1) (x + 1) (map annotation_of c.push.new.self.items)) typ
          (subst (λ (l : List NumberedAnnotation). HaveReadSet b (c.args.off + 4) c.args.pools.now (uint_at b c.args.off) (c.loop-i.i + 1) (encoded_type item.annotation + 1) l) (sym (ap (map annotation_of) c.in_ok-push.ensures.items ∙ map-append annotation_of c.loop-i.annotations.items (item ∷ [])))
          (one_more b c.args.pools.now p (c.args.off + 4) (uint_at b c.args.off) c.loop-i.i c.loop-i.least (map annotation_of c.loop-i.annotations.items) (annotation_of item) (omega (arith, c.requires.count.1)) (omega (arith, c.from.ensures)) (c.loop-i.invariant.read p) (subst (λ (x : ℕ). IsItemAt b x c.args.pools.now (annotation_of item)) c.uint_at-place.ensures (c.in_ok-annotation.ensures.read p))));
    }

pub returns-clause-set : goal.returns-clause-set
returns-clause-set c = λ p.
    all_read c.args.frame.now c.args.pools.now p c.args.off c.loop-i.i c.loop-i.least (map annotation_of c.loop-i.annotations.items) c.requires.count.0 (omega (arith, c.requires.count.1)) (c.loop-i.invariant.read p)
