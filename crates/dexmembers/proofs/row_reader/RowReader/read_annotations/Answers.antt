use Rattle.dexmembers.proofs.Common.{◌≡◌, inl, ◌≢◌, ◌≤◌, ◌-◌, ◌^◌, min, ◌∙◌, refl, sym, subst, true, false, arith, common_steps, err_from_is_err_and, AreRising, directory_weight, directory_in}
use Rattle.dexmembers.proofs.RowAnnotations.{directory_refused_within, unnamed_refused, directory_returned}
use Rattle.dexmembers.proofs.row_reader.RowReader.read_annotations.Goals as goal

pub returns-in_err-directory-clause-refused : goal.returns-in_err-directory-clause-refused
returns-in_err-directory-clause-refused c = λ r at pools is.
    let p = err_from_is_err_and c.from_residual.result c.from_residual.ensures.1 in
    let some : c.args.self.now.row.now.annotations_off ≢ 0 = λ e. grind (arith, common_steps) in
    rw (p.1, p.2) (directory_refused_within c.args.self.now.frame.now r c.args.self.now.pools.now c.args.self.now.declared.now is c.args.self.now.row.now.annotations_off at some c.args.self.now.most c.in_err-directory.field-0.0 (c.in_err-directory.ensures.refused pools))

pub returns-then-not-names_declared-clause-refused : goal.returns-then-not-names_declared-clause-refused
returns-then-not-names_declared-clause-refused c = λ r at pools is.
    let some : c.args.self.now.row.now.annotations_off ≢ 0 = λ e. grind (arith, common_steps) in
    let rising = subst AreRising c.numbering.ensures c.is_numbering.ensures.rising in
    inl (
      refl,
      unnamed_refused c.args.self.now.frame.now r c.args.self.now.pools.now c.args.self.now.declared.now is c.args.self.now.row.now.annotations_off at some pools rising
          (λ has rise names. let e : false ≡ true = sym c.if-not-names_declared.true ∙ c.names_declared.ensures.missing has rise names in absurd cc),
    )

pub returns-clause-read : goal.returns-clause-read
returns-clause-read c = λ r at pools is.
    let some : c.args.self.now.row.now.annotations_off ≢ 0 = λ e. grind (arith, common_steps) in
    let rising = subst AreRising c.numbering.ensures c.is_numbering.ensures.rising in
    directory_returned c.args.self.now.frame.now r c.args.self.now.pools.now c.args.self.now.declared.now is c.args.self.now.row.now.annotations_off at some pools rising c.args.self.now.most c.in_ok-directory.directory (c.in_ok-directory.ensures.directory pools) (c.names_declared.ensures.listed c.if-not-names_declared.false)

pub returns-then-off-eq0-clause-within : goal.returns-then-off-eq0-clause-within
returns-then-off-eq0-clause-within c = λ pools. subst (λ d. min (2 ^ 64 - 1) (directory_weight (directory_in c.args.self.now.pools.now d)) ≤ c.args.self.now.most) (sym c.no_directory.ensures.none) (omega arith)

pub returns-clause-within : goal.returns-clause-within
returns-clause-within c = λ pools. (c.in_ok-directory.ensures.directory pools).within
