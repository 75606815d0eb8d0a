use Rattle.dexval.proofs.Common.{◌≤◌, ℕ, List, refl, sym, ap, subst, arith, slice_index, data_off, encoded_type, encoded_elements, visibility_of, NumberedAnnotation, HasPools, NoItemAt, IsItemAt}
use Rattle.dexval.specs.declared.annotation.Visibility.{Visibility}
use Rattle.dexval.specs.declared.annotation.Visibility.TheVariants.{Build}
use Rattle.dexval.proofs.Refusals.{err_is, refuses_so}
use Rattle.dexval.proofs.SetsRead.{item_read, no_item, no_visibility}
use Rattle.dexval.proofs.set_reading.item_at.Goals as goal

known : (v : Visibility) → visibility_of v ≤ 2
known Build = omega arith
known x = omega arith

pub returns-clause-read : goal.returns-clause-read
returns-clause-read c = λ p.
    let e = c.bytes-bytes.ensures.bytes in
    let r = c.in_ok-annotation.ensures.read (subst (λ (b : List ℕ). HasPools b c.args.pools.now) (sym e) p) in
    let x : NumberedAnnotation = record { visibility = visibility_of c.in_ok-visibility.visibility; type = encoded_type c.in_ok-annotation.annotation; elements = encoded_elements c.in_ok-annotation.annotation } in
    subst (λ (b : List ℕ). IsItemAt b c.args.off c.args.pools.now x) e
    (item_read c.bytes-bytes.result.now c.args.off c.args.pools.now (visibility_of c.in_ok-visibility.visibility) (encoded_type c.in_ok-annotation.annotation) (encoded_elements c.in_ok-annotation.annotation) _ (omega (arith, ap data_off e)) (omega arith) (sym c.in_ok-visibility.ensures.visibility) (known c.in_ok-visibility.visibility) r)

pub returns-in_err-annotation-clause-refused : goal.returns-in_err-annotation-clause-refused
returns-in_err-annotation-clause-refused c = λ p.
    rw (err_is c.from_residual-in_err-annotation.result c.from_residual-in_err-annotation.ensures.1)
    (refuses_so 22 (λ none. subst (λ (b : List ℕ). NoItemAt b c.args.off) c.bytes-bytes.ensures.bytes (no_item c.bytes-bytes.result.now c.args.off c.args.pools.now none))
    c.in_err-annotation.field-0.0 (c.in_err-annotation.ensures.refused (subst (λ (b : List ℕ). HasPools b c.args.pools.now) (sym c.bytes-bytes.ensures.bytes) p)))

pub returns-in_err-visibility-clause-refused : goal.returns-in_err-visibility-clause-refused
returns-in_err-visibility-clause-refused c = λ p.
    let b = c.bytes-bytes.result.now in
    rw (err_is c.from_residual.result c.from_residual.ensures.1) (refuses_so 22 (λ unknown. subst (λ (b : List ℕ). NoItemAt b c.args.off) c.bytes-bytes.ensures.bytes (no_visibility b c.args.off c.args.pools.now (slice_index b c.args.off) refl unknown)) c.in_err-visibility.field-0.0 c.in_err-visibility.ensures.refused)
