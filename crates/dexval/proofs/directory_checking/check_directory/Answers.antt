use Rattle.dexval.proofs.Common.{ℕ, List, map, sum_by, refl, subst, arith, All, SetAt, RefListAt, IsSetOrEmptyAt, NoSetOrEmptyAt, set_weight_in, sets_weight_in, NumberedSet, IsKnownSet, set_in}
use Rattle.dexval.proofs.DirectoryRead.{no_members, no_own, no_fields, no_methods, no_parameters, pairs_moved, no_pairs_moved}
use Rattle.dexval.proofs.DirectoryChecked.{weighed_as, directory_checked}
use Rattle.dexval.proofs.FileRead.{file_pools}
use Rattle.dexval.proofs.Refusals.{err_is, refuses_so}
use Rattle.dexval.proofs.directory_checking.check_directory.Goals as goal

pub weigh_set-requires : goal.weigh_set-requires
weigh_set-requires c = λ p. c.requires p.pools

pub returns-in_err-pairs-clause-refused : goal.returns-in_err-pairs-clause-refused
returns-in_err-pairs-clause-refused c = λ pools. rw (err_is c.from_residual.result c.from_residual.ensures.1) (refuses_so 22 (no_members c.args.frame.now c.args.off) c.in_err-pairs.field-0.0 c.in_err-pairs.ensures.refused)

pub returns-in_err-own-clause-refused : goal.returns-in_err-own-clause-refused
returns-in_err-own-clause-refused c = λ pools.
    let p = file_pools c.args.frame.now c.args.pools.now c.numbering.result.now c.numbering.ensures c.is_numbering.ensures pools in
    rw (err_is c.from_residual-in_err-own.result c.from_residual-in_err-own.ensures.1) (refuses_so 22 (λ none. no_own c.args.frame.now c.args.off (subst (NoSetOrEmptyAt c.args.frame.now) c.uint_at.ensures none)) c.in_err-own.field-0.0 (c.in_err-own.ensures.refused p))

pub returns-in_err-fields-clause-refused : goal.returns-in_err-fields-clause-refused
returns-in_err-fields-clause-refused c = λ pools.
    let b = c.args.frame.now in
    let p = file_pools b c.args.pools.now c.numbering.result.now c.numbering.ensures c.is_numbering.ensures pools in
    rw (err_is c.from_residual-in_err-fields.result c.from_residual-in_err-fields.ensures.1) (refuses_so 22 (λ none. no_fields b c.args.off c.args.pools.now p (no_pairs_moved SetAt b c.in_ok-pairs.ensures.pairs.fields_are.0 c.in_ok-pairs.ensures.pairs.fields_are.1 c.in_ok-pairs.ensures.pairs.fields_are.2 none)) c.in_err-fields.field-0.0 (c.in_err-fields.ensures.refused p))

pub returns-in_err-methods-clause-refused : goal.returns-in_err-methods-clause-refused
returns-in_err-methods-clause-refused c = λ pools.
    let b = c.args.frame.now in
    let p = file_pools b c.args.pools.now c.numbering.result.now c.numbering.ensures c.is_numbering.ensures pools in
    rw (err_is c.from_residual-in_err-methods.result c.from_residual-in_err-methods.ensures.1) (refuses_so 22 (λ none. no_methods b c.args.off c.args.pools.now p (no_pairs_moved SetAt b c.in_ok-pairs.ensures.pairs.methods_are.0 c.in_ok-pairs.ensures.pairs.methods_are.1 c.in_ok-pairs.ensures.pairs.methods_are.2 none)) c.in_err-methods.field-0.0 (c.in_err-methods.ensures.refused p))

pub returns-in_err-parameters-clause-refused : goal.returns-in_err-parameters-clause-refused
returns-in_err-parameters-clause-refused c = λ pools.
    let b = c.args.frame.now in
    let p = file_pools b c.args.pools.now c.numbering.result.now c.numbering.ensures c.is_numbering.ensures pools in
    rw (err_is c.from_residual-in_err-parameters.result c.from_residual-in_err-parameters.ensures.1) (refuses_so 22 (λ none. no_parameters b c.args.off c.args.pools.now p (no_pairs_moved RefListAt b c.in_ok-pairs.ensures.pairs.parameters_are.0 c.in_ok-pairs.ensures.pairs.parameters_are.1 c.in_ok-pairs.ensures.pairs.parameters_are.2 none)) c.in_err-parameters.field-0.0 (c.in_err-parameters.ensures.refused p))

pub returns-clause-checked : goal.returns-clause-checked
returns-clause-checked c = λ pools. c.in_ok-parameters.ensures.checked (file_pools c.args.frame.now c.args.pools.now c.numbering.result.now c.numbering.ensures c.is_numbering.ensures pools)

pub returns-clause-directory : goal.returns-clause-directory
returns-clause-directory c = λ pools.
    let m = c.args.pools.now in
    let p = file_pools c.args.frame.now m c.numbering.result.now c.numbering.ensures c.is_numbering.ensures pools in
    let sets = sum_by (λ (e : ℕ × NumberedSet). set_weight_in m e.1) in
    let lists = sum_by (λ (e : ℕ × List NumberedSet). sets_weight_in m e.1) in
    directory_checked c.args.frame.now c.args.off m p c.in_ok-own.own c.in_ok-fields.fields c.in_ok-methods.methods c.in_ok-parameters.parameters _ c.in_ok-pairs.ensures.pairs.counts_are.0
    (weighed_as _ _ (set_weight_in m) (set_weight_in m) (λ x k. subst (λ (n : ℕ). IsSetOrEmptyAt c.args.frame.now n m x) c.uint_at.ensures k) (λ x k. refl) (c.in_ok-own.ensures.weight p))
    (weighed_as _ _ sets sets (λ xs k. pairs_moved (IsKnownSet m) (set_in m) SetAt c.args.frame.now c.in_ok-pairs.ensures.pairs.fields_are.0 c.in_ok-pairs.ensures.pairs.fields_are.1 c.in_ok-pairs.ensures.pairs.fields_are.2 k) (λ x k. refl) (c.in_ok-fields.ensures.weight p))
    (weighed_as _ _ sets sets (λ xs k. pairs_moved (IsKnownSet m) (set_in m) SetAt c.args.frame.now c.in_ok-pairs.ensures.pairs.methods_are.0 c.in_ok-pairs.ensures.pairs.methods_are.1 c.in_ok-pairs.ensures.pairs.methods_are.2 k) (λ x k. refl) (c.in_ok-methods.ensures.weight p))
    (weighed_as _ _ lists lists (λ xs k. pairs_moved (All (IsKnownSet m)) (map (set_in m)) RefListAt c.args.frame.now c.in_ok-pairs.ensures.pairs.parameters_are.0 c.in_ok-pairs.ensures.pairs.parameters_are.1 c.in_ok-pairs.ensures.pairs.parameters_are.2 k) (λ x k. refl) (c.in_ok-parameters.ensures.weight p))
    (omega (arith, c.saturating_add.ensures, c.saturating_add-2.ensures, c.saturating_add-weight.ensures))
