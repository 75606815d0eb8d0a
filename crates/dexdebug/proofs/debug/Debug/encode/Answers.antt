use Rattle.dexdebug.proofs.Common.{ℕ, length, ap, sym, ◌∙◌, subst, arith, All, flat_map, uleb128, uleb128p1, FitsIndex, IsFormedOperation, numbered_operation_bytes}
use Rattle.dexdebug.proofs.DebugMeanings.{bytes_most}
use Rattle.dexdebug.proofs.Encoded.{debug_given}
use Rattle.dexdebug.proofs.StoredOperations.{names_many}
use Rattle.dexdebug.proofs.debug.Debug.encode.Goals as goal

pub encode_names-requires : goal.encode_names-requires
encode_names-requires g c = subst (All FitsIndex) (ap (λ d. d.parameter_names) c.self.view_is ∙ sym c.parameter_names.ensures) c.self.invariant.0.names_fit

pub encode_operations-requires : goal.encode_operations-requires
encode_operations-requires g c = subst (All IsFormedOperation) (ap (λ d. d.operations) c.self.view_is ∙ sym c.operations.ensures) c.self.invariant.0.operations_fit

pub returns-clause-bytes : goal.returns-clause-bytes
returns-clause-bytes g c =
    let gives = g.O.Output.gives in
    let start = subst (λ (n : ℕ). gives (uleb128 n) c.args.out.now c.uleb.new.self) (ap (λ d. d.line_start) c.self.view_is) c.uleb.ensures in
    let many = sym (names_many c.self.inside.names c.self.inside.count c.self.inside.bytes.now c.self.inside.at c.self.inside.indices.items c.self.invariant.1) ∙ ap (λ d. length d.parameter_names) c.self.view_is in
    let names = subst (λ xs. gives (flat_map uleb128p1 xs) c.uleb-2.new.self c.encode_names.new.out) c.parameter_names.ensures c.encode_names.ensures in
    let operations = subst (λ xs. gives (flat_map numbered_operation_bytes xs) c.encode_names.new.out c.encode_operations.new.out) c.operations.ensures c.encode_operations.ensures in
    debug_given gives g.met.O.Output.both c.args.self.now c.args.out.now c.uleb.new.self c.uleb-2.new.self c.encode_names.new.out c.encode_operations.new.out c.byte.new.self start (subst (λ (n : ℕ). gives (uleb128 n) c.uleb.new.self c.uleb-2.new.self) many c.uleb-2.ensures) names operations c.byte.ensures

pub returns-clause-few : goal.returns-clause-few
returns-clause-few g c =
    omega (arith, bytes_most c.args.self.now, ap (λ d. length d.parameter_names) c.self.view_is, ap (λ d. length d.operations) c.self.view_is, c.self.invariant.0.names_count, c.self.invariant.0.operations_count)
