use Rattle.dexval.proofs.Common.{ℕ, Budget, [], refl, ap, sym, subst, arith, SetAt, DirectoryAt, OrNone, set_weight, directory_in, directory_weight, IsDirectoryAt, HasCounted}
use Rattle.dexval.proofs.DirectoryCounted.{fields_refused, methods_refused, parameters_refused, directory_counted}
use Rattle.dexval.proofs.DirectoryRead.{no_members, own_part}
use Rattle.dexval.proofs.Keeping.{same_parts}
use Rattle.dexval.proofs.Naming.{directory_held, directory_named, own_stays, fields_stay, methods_stay}
use Rattle.dexval.proofs.Refusals.{err_is, HasPart, none_counted, part_refused, refused_within}
use Rattle.dexval.proofs.directory_cache.File.directory_at.Goals as goal

pub returns-in_err-pairs-clause-refused : goal.returns-in_err-pairs-clause-refused
returns-in_err-pairs-clause-refused c = λ p. rw (err_is c.from_residual.result c.from_residual.ensures.1) (refused_within (DirectoryAt c.args.self.now.frame.now c.args.off) directory_weight 0 c.args.most (no_members c.args.self.now.frame.now c.args.off) c.in_err-pairs.field-0.0 c.in_err-pairs.ensures.refused)

pub returns-in_err-own-clause-refused : goal.returns-in_err-own-clause-refused
returns-in_err-own-clause-refused c = λ p.
    let b = c.args.self.now.frame.now in
    let o = c.args.off in
    let budget : Budget = record { weight = 0; most = c.args.most } in
    rw (err_is c.from_residual-in_err-own.result c.from_residual-in_err-own.ensures.1)
    (part_refused (DirectoryAt b o) (OrNone SetAt [] b c.uint_at.result) directory_weight set_weight budget budget 0 (none_counted budget) (λ d k. subst (λ (n : ℕ). HasPart (OrNone SetAt [] b n) set_weight 0 (directory_weight d)) (sym c.uint_at.ensures) (own_part b o d k))
    c.in_err-own.field-0.0 (c.in_err-own.ensures.refused p))

pub returns-in_err-fields-clause-refused : goal.returns-in_err-fields-clause-refused
returns-in_err-fields-clause-refused c = λ p.
    let b = c.args.self.now.frame.now in
    let o = c.args.off in
    rw (err_is c.from_residual-in_err-fields.result c.from_residual-in_err-fields.ensures.1) (fields_refused b o c.args.self.now.pools.now p c.uint_at.ensures (c.in_ok-own.ensures.read p) c.in_ok-pairs.ensures.pairs.fields_are c.in_err-fields.field-0.0 (c.in_err-fields.ensures.refused p))

pub returns-in_err-methods-clause-refused : goal.returns-in_err-methods-clause-refused
returns-in_err-methods-clause-refused c = λ p.
    let b = c.args.self.now.frame.now in
    let o = c.args.off in
    rw (err_is c.from_residual-in_err-methods.result c.from_residual-in_err-methods.ensures.1) (methods_refused b o c.args.self.now.pools.now p c.uint_at.ensures (c.in_ok-own.ensures.read p) c.in_ok-pairs.ensures.pairs.fields_are (c.in_ok-fields.ensures.read p) c.in_ok-pairs.ensures.pairs.methods_are c.in_err-methods.field-0.0 (c.in_err-methods.ensures.refused p))

pub returns-in_err-parameters-clause-refused : goal.returns-in_err-parameters-clause-refused
returns-in_err-parameters-clause-refused c = λ p.
    let b = c.args.self.now.frame.now in
    let o = c.args.off in
    rw (err_is c.from_residual-in_err-parameters.result c.from_residual-in_err-parameters.ensures.1) (parameters_refused b o c.args.self.now.pools.now p c.uint_at.ensures (c.in_ok-own.ensures.read p) c.in_ok-pairs.ensures.pairs.fields_are (c.in_ok-fields.ensures.read p) c.in_ok-pairs.ensures.pairs.methods_are (c.in_ok-methods.ensures.read p) c.in_ok-pairs.ensures.pairs.parameters_are c.in_err-parameters.field-0.0 (c.in_err-parameters.ensures.refused p))

pub returns-clause-tight : goal.returns-clause-tight
returns-clause-tight c =
    let new = c.members_at-3.new.kept.cache in
    let n1 = c.in_ok-own.ensures.noted in
    let n2 = c.in_ok-fields.ensures.noted in
    let n3 = c.in_ok-methods.ensures.noted in
    let n4 = c.in_ok-parameters.ensures.noted in
    record {
      held = directory_held c.sharing.result c.counted_set_or_empty_at.new.kept.cache c.members_at.new.kept.cache c.members_at-2.new.kept.cache new c.in_ok-own.own c.in_ok-fields.fields.items c.in_ok-methods.methods.items c.in_ok-parameters.parameters.items n1 n2 n3 n4;
      named = directory_named c.sharing.result c.counted_set_or_empty_at.new.kept.cache c.members_at.new.kept.cache c.members_at-2.new.kept.cache new c.in_ok-own.own c.in_ok-fields.fields.items c.in_ok-methods.methods.items c.in_ok-parameters.parameters.items n1 n2 n3 n4 (ap (λ t. t.sets) c.sharing.ensures.table) (ap (λ t. t.lists) c.sharing.ensures.table);
    }

pub returns-clause-read : goal.returns-clause-read
returns-clause-read c = λ p.
    let b = c.args.self.now.frame.now in
    let m = c.args.self.now.pools.now in
    let o = c.args.off in
    let first = c.counted_set_or_empty_at.new.kept.cache in
    let third = c.members_at-2.new.kept.cache in
    let new = c.members_at-3.new.kept.cache in
    let own = c.in_ok-own.own in
    let fields = c.in_ok-fields.fields.items in
    let methods = c.in_ok-methods.methods.items in
    let parameters = c.in_ok-parameters.parameters.items in
    let n1 = c.in_ok-own.ensures.noted in
    let n2 = c.in_ok-fields.ensures.noted in
    let n3 = c.in_ok-methods.ensures.noted in
    let n4 = c.in_ok-parameters.ensures.noted in
    let counted = directory_counted b o m p c.uint_at.ensures (c.in_ok-own.ensures.read p) c.in_ok-pairs.ensures.pairs.fields_are (c.in_ok-fields.ensures.read p) c.in_ok-pairs.ensures.pairs.methods_are (c.in_ok-methods.ensures.read p) c.in_ok-pairs.ensures.pairs.counts_are.0 c.in_ok-pairs.ensures.pairs.parameters_are (c.in_ok-parameters.ensures.read p) in
    let old = c.sharing.result in
    let fields_are = fields_stay old first c.members_at.new.kept.cache third new own fields methods parameters n1 n2 n3 n4 in
    let methods_are = methods_stay old first c.members_at.new.kept.cache third new own fields methods parameters n1 n2 n3 n4 in
    let h = subst (HasCounted (IsDirectoryAt b o m) (λ d. directory_weight (directory_in m d)) (record { weight = 0; most = c.args.most }) c.members_at-3.new.kept.budget) (same_parts (sym (own_stays old first c.members_at.new.kept.cache third new own fields methods parameters n1 n2 n3 n4)) (sym fields_are) (sym methods_are) refl) counted in
    record { is = h.is_read; within = omega (arith, h.counted.grown, h.counted.same_most, h.counted.within (omega arith)) }
