use Rattle.dexmembers.proofs.Common.{ℕ, refl, subst, arith, Ok, Err, err_from_is_err_and, AreRising}
use Rattle.dexmembers.specs.{contents_in, AreReadWithin}
use Rattle.dexmembers.specs.internal.RowParts.{IsPartFault}
use Rattle.dexval.specs.CheckedStatics.{AreCheckedStatics}
use Rattle.dexmembers.proofs.AfterFaults.{still_holds}
use Rattle.dexmembers.proofs.CodesApart.{members_apart}
use Rattle.dexmembers.proofs.DirectoryCache.{data_refused}
use Rattle.dexmembers.proofs.FewMembers.{weighed_few}
use Rattle.dexmembers.proofs.RowRead.{parts_returned, part_fault}
use Rattle.dexmembers.proofs.reading.read_row.Goals as goal

pub returns-in_err-declared-clause-refused : goal.returns-in_err-declared-clause-refused
returns-in_err-declared-clause-refused c = λ r row pools class.
    let p = err_from_is_err_and c.from_residual.result c.from_residual.ensures.1 in
    rw (p.1, p.2) (part_fault c.args.frame.now r c.args.most c.in_err-declared.field-0.0 (data_refused c.args.frame.now r c.in_err-declared.field-0.0 (c.in_err-declared.ensures.refused r row pools)))

pub returns-in_err-contents-clause-refused : goal.returns-in_err-contents-clause-refused
returns-in_err-contents-clause-refused c = λ r row pools class.
    let p = err_from_is_err_and c.from_residual-in_err-contents.result c.from_residual-in_err-contents.ensures.1 in
    let is = c.in_ok-declared.ensures.read r row pools class in
    rw (p.1, p.2) (subst (λ (n : ℕ). IsPartFault c.args.frame.now r n c.in_err-contents.field-0.0) c.from.ensures (c.in_err-contents.ensures.refused r row pools is))

pub returns-then-weight-from-clause-refused : goal.returns-then-weight-from-clause-refused
returns-then-weight-from-clause-refused c = λ r row pools class.
    let b = c.args.frame.now in
    let m = c.args.pools.now in
    let d = c.in_ok-declared.declared in
    let rising = subst AreRising c.numbering.ensures c.is_numbering.ensures.rising in
    let is = c.in_ok-declared.ensures.read r row pools class in
    let x = c.in_ok-contents.ensures.read r row pools is in
    let made = contents_in c.in_ok-contents.contents in
    subst (λ (n : ℕ). IsPartFault b r n c.too_heavy.result) c.from.ensures
    (parts_returned b r m rising d is c.from.result x.directory x.direct x.virtual x.values x.parts (c.code_meaning_law.ensures.known m) (c.code_meaning_law.ensures.meant m) made x.is c.in_ok-contents.codes x.weight (Err c.too_heavy.result) (λ n up known e.
    (c.too_heavy.ensures, omega (arith, c.members_weight_law.ensures n made up known, members_apart made, e, c.weight_with-weight.ensures, c.from.ensures, c.from-2.ensures, c.if-weight-from.true)))).1

pub invariant_of-members : goal.invariant_of-members
invariant_of-members c = record {
  few = weighed_few (contents_in c.in_ok-contents.contents) (omega (arith, c.weight_with-weight.ensures, c.from-2.ensures, c.if-weight-from.false, c.ranges.most.fits));
  held = c.in_ok-contents.ensures.held;
}

pub returns-clause-read : goal.returns-clause-read
returns-clause-read c = λ r row pools class.
    let b = c.args.frame.now in
    let m = c.args.pools.now in
    let d = c.in_ok-declared.declared in
    let rising = subst AreRising c.numbering.ensures c.is_numbering.ensures.rising in
    let is = c.in_ok-declared.ensures.read r row pools class in
    let x = c.in_ok-contents.ensures.read r row pools is in
    let made = contents_in c.in_ok-contents.contents in
    let weight = c.weight_with-weight.result in
    subst (λ (n : ℕ). AreReadWithin b r m n (made, weight)) c.from.ensures
    (parts_returned b r m rising d is c.from.result x.directory x.direct x.virtual x.values x.parts (c.code_meaning_law.ensures.known m) (c.code_meaning_law.ensures.meant m) made x.is c.in_ok-contents.codes x.weight (Ok (made, weight)) (λ n up known e.
    (refl, omega (arith, c.members_weight_law.ensures n made up known, members_apart made, e, c.weight_with-weight.ensures, c.from-2.ensures, c.if-weight-from.false, c.ranges.most.fits), omega (arith, c.from.ensures, c.from-2.ensures, c.if-weight-from.false)))).0

pub returns-in_err-declared-clause-heavy : goal.returns-in_err-declared-clause-heavy
returns-in_err-declared-clause-heavy c = λ pools.
    let p = err_from_is_err_and c.from_residual.result c.from_residual.ensures.1 in
    rw (p.1, p.2) (still_holds (AreCheckedStatics c.args.frame.now c.args.pools.now c.args.checked.now) c.in_err-declared.field-0.0 (c.requires.checked pools))

pub returns-in_err-contents-clause-heavy : goal.returns-in_err-contents-clause-heavy
returns-in_err-contents-clause-heavy c = λ pools.
    let p = err_from_is_err_and c.from_residual-in_err-contents.result c.from_residual-in_err-contents.ensures.1 in
    rw (p.1, p.2) (c.in_err-contents.ensures.heavy pools)

pub returns-then-weight-from-clause-heavy : goal.returns-then-weight-from-clause-heavy
returns-then-weight-from-clause-heavy c = λ pools. still_holds (AreCheckedStatics c.args.frame.now c.args.pools.now c.read_contents.new.checked) c.too_heavy.result (c.in_ok-contents.ensures.checked pools)
