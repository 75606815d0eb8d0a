use Rattle.dexmembers.proofs.Common.{◌≡◌, ◌≢◌, ◌∙◌, refl, sym, subst, true, false, arith, err_from_is_err_and, AreRising}
use Rattle.dexmembers.proofs.RowAnnotations.{directory_refused, unnamed_refused}
use Rattle.dexmembers.proofs.RowChecked.{no_annotations, annotations_of}
use Rattle.dexmembers.proofs.row_reader.RowReader.check_annotations.Goals as goal

pub returns-then-off-eq0-clause-weight : goal.returns-then-off-eq0-clause-weight
returns-then-off-eq0-clause-weight c = λ r at pools is. no_annotations c.args.self.now.frame.now r c.args.self.now.pools.now c.args.self.now.declared.now is (omega (arith, at))

pub returns-in_err-shape-clause-refused : goal.returns-in_err-shape-clause-refused
returns-in_err-shape-clause-refused c = λ r at pools is.
    let p = err_from_is_err_and c.from_residual.result c.from_residual.ensures.1 in
    let some : c.args.self.now.row.now.annotations_off ≢ 0 = omega arith in
    rw (p.1, p.2) (directory_refused c.args.self.now.frame.now r c.args.self.now.pools.now c.args.self.now.declared.now is c.args.self.now.row.now.annotations_off at some c.in_err-shape.field-0.0 (c.in_err-shape.ensures.refused pools))

pub returns-then-not-names_declared-clause-refused : goal.returns-then-not-names_declared-clause-refused
returns-then-not-names_declared-clause-refused c = λ r at pools is.
    let some : c.args.self.now.row.now.annotations_off ≢ 0 = omega arith in
    let rising = subst AreRising c.numbering.ensures c.is_numbering.ensures.rising in (
      refl,
      unnamed_refused c.args.self.now.frame.now r c.args.self.now.pools.now c.args.self.now.declared.now is c.args.self.now.row.now.annotations_off at some pools rising
          (λ has rise names. let e : false ≡ true = sym c.if-not-names_declared.true ∙ c.names_declared.ensures.missing has rise names in absurd cc),
    )

pub returns-clause-weight : goal.returns-clause-weight
returns-clause-weight c = λ r at pools is.
    let some : c.args.self.now.row.now.annotations_off ≢ 0 = omega arith in
    let rising = subst AreRising c.numbering.ensures c.is_numbering.ensures.rising in
    annotations_of c.args.self.now.frame.now r c.args.self.now.pools.now c.args.self.now.declared.now is c.args.self.now.row.now.annotations_off at some pools rising (c.names_declared.ensures.listed c.if-not-names_declared.false) c.in_ok-shape.shape.weight (c.in_ok-shape.ensures.directory pools)
