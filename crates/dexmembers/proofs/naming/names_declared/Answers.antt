use Rattle.dexmembers.proofs.Common.{◌≡◌, ◌∙◌, ◌+◌, ◌*◌, ◌++◌, ℕ, refl, sym, ap, subst, true, false, arith, fields_count, methods_count, parameters_count}
use Rattle.dexmembers.specs.internal.Naming.{field_indices, method_indices, fields_read, methods_read, BothRise}
use Rattle.dexmembers.proofs.Named.{names_moved}
use Rattle.dexmembers.proofs.naming.names_declared.Goals as goal

pub returns-then-not-names_members-clause-missing : goal.returns-then-not-names_members-clause-missing
returns-then-not-names_members-clause-missing c = λ has rise names.
    let b = c.args.frame.now in
    let off = c.args.off in
    let count : c.in-Some.counts.fields ≡ fields_count b off = c.in-Some.ensures.some.1 in
    let first = c.deref.ensures.value in
    let second = c.deref-2.ensures.value in
    let there = names_moved b (off + 16) (off + 16) (fields_count b off) c.in-Some.counts.fields (fields_read c.args.declared.now) _ refl (sym count) (λ i. field_indices (sym first i) ++ field_indices (sym second i)) names.fields_named in
    let found = c.names_members.ensures.missing (subst (λ l. BothRise l (field_indices c.deref-2.result.now)) (λ i. field_indices (sym first i)) (subst (λ l. BothRise (field_indices c.args.declared.now.static_fields.items) l) (λ i. field_indices (sym second i)) rise.rising_fields)) there in
    absurd (let e : false ≡ true = sym c.if-not-names_members.true ∙ found in cc)

pub returns-then-not-names_members-2-clause-missing : goal.returns-then-not-names_members-2-clause-missing
returns-then-not-names_members-2-clause-missing c = λ has rise names.
    let b = c.args.frame.now in
    let off = c.args.off in
    let fields : c.in-Some.counts.fields ≡ fields_count b off = c.in-Some.ensures.some.1 in
    let count : c.in-Some.counts.methods ≡ methods_count b off = c.in-Some.ensures.some.2 in
    let first = c.deref-3.ensures.value in
    let second = c.deref-4.ensures.value in
    let there = names_moved b (off + 16 + 8 * fields_count b off) (off + 16 + 8 * c.in-Some.counts.fields) (methods_count b off) c.in-Some.counts.methods (methods_read c.args.declared.now) _ (ap (λ (n : ℕ). off + 16 + 8 * n) (sym fields)) (sym count) (λ i. method_indices (sym first i) ++ method_indices (sym second i)) names.methods_named in
    let found = c.names_members-2.ensures.missing (subst (λ l. BothRise l (method_indices c.deref-4.result.now)) (λ i. method_indices (sym first i)) (subst (λ l. BothRise (method_indices c.args.declared.now.direct_methods.items) l) (λ i. method_indices (sym second i)) rise.rising_methods)) there in
    absurd (let e : false ≡ true = sym c.if-not-names_members-2.true ∙ found in cc)

pub returns-clause-listed : goal.returns-clause-listed
returns-clause-listed c = λ e.
    let b = c.args.frame.now in
    let off = c.args.off in
    let d = c.args.declared.now in
    let fields : c.in-Some.counts.fields ≡ fields_count b off = c.in-Some.ensures.some.1 in
    let methods : c.in-Some.counts.methods ≡ methods_count b off = c.in-Some.ensures.some.2 in
    let parameters : c.in-Some.counts.parameters ≡ parameters_count b off = c.in-Some.ensures.some.3 in
    let third : off + 16 + 8 * c.in-Some.counts.fields + 8 * c.in-Some.counts.methods ≡ off + 16 + 8 * (fields_count b off + methods_count b off) = omega (arith, fields, methods) in
    record {
      fields_named = names_moved b (off + 16) (off + 16) c.in-Some.counts.fields (fields_count b off) _ (fields_read d) refl fields (λ i. field_indices (c.deref.ensures.value i) ++ field_indices (c.deref-2.ensures.value i)) (c.names_members.ensures.listed c.if-not-names_members.false);
      methods_named = names_moved b (off + 16 + 8 * c.in-Some.counts.fields) (off + 16 + 8 * fields_count b off) c.in-Some.counts.methods (methods_count b off) _ (methods_read d) (ap (λ (n : ℕ). off + 16 + 8 * n) fields) methods
          (λ i. method_indices (c.deref-3.ensures.value i) ++ method_indices (c.deref-4.ensures.value i)) (c.names_members-2.ensures.listed c.if-not-names_members-2.false);
      parameters_named = names_moved b (off + 16 + 8 * c.in-Some.counts.fields + 8 * c.in-Some.counts.methods) (off + 16 + 8 * (fields_count b off + methods_count b off)) c.in-Some.counts.parameters (parameters_count b off) _ (methods_read d) third parameters
          (λ i. method_indices (c.deref-5.ensures.value i) ++ method_indices (c.deref-6.ensures.value i)) (c.names_members-3.ensures.listed e);
    }

pub returns-clause-missing : goal.returns-clause-missing
returns-clause-missing c = λ has rise names.
    let b = c.args.frame.now in
    let off = c.args.off in
    let fields : c.in-Some.counts.fields ≡ fields_count b off = c.in-Some.ensures.some.1 in
    let methods : c.in-Some.counts.methods ≡ methods_count b off = c.in-Some.ensures.some.2 in
    let parameters : c.in-Some.counts.parameters ≡ parameters_count b off = c.in-Some.ensures.some.3 in
    let third : off + 16 + 8 * (fields_count b off + methods_count b off) ≡ off + 16 + 8 * c.in-Some.counts.fields + 8 * c.in-Some.counts.methods = omega (arith, fields, methods) in
    let first = c.deref-5.ensures.value in
    let second = c.deref-6.ensures.value in
    let there = names_moved b (off + 16 + 8 * (fields_count b off + methods_count b off)) (off + 16 + 8 * c.in-Some.counts.fields + 8 * c.in-Some.counts.methods) (parameters_count b off) c.in-Some.counts.parameters (methods_read c.args.declared.now) _ third (sym parameters)
    (λ i. method_indices (sym first i) ++ method_indices (sym second i)) names.parameters_named in
    c.names_members-3.ensures.missing (subst (λ l. BothRise l (method_indices c.deref-6.result.now)) (λ i. method_indices (sym first i)) (subst (λ l. BothRise (method_indices c.args.declared.now.direct_methods.items) l) (λ i. method_indices (sym second i)) rise.rising_methods)) there
