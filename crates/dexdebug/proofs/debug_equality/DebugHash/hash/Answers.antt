use Rattle.dexdebug.proofs.Common.{◌≡◌, ◌∷◌, length, ap, sym, ◌∙◌, flat_map, fold, fold-append, hash_input-value}
use Rattle.std.specs.Hash as fed
use Rattle.dexdebug.proofs.StoredOperations.{names_many, operations_many}
use Rattle.dexdebug.proofs.debug_equality.DebugHash.hash.Goals as goal

pub returns : goal.returns
returns g c =
    let write = g.H.Hasher.write in
    let d = c.args.self.now in
    let names_count : c.self.inside.names ≡ length d.parameter_names = sym (names_many c.self.inside.names c.self.inside.count c.self.inside.bytes.now c.self.inside.at c.self.inside.indices.items c.self.invariant.1) ∙ ap (λ x. length x.parameter_names) c.self.view_is in
    let operations_count : c.self.inside.count ≡ length d.operations = sym (operations_many c.self.inside.names c.self.inside.count c.self.inside.bytes.now c.self.inside.at c.self.inside.indices.items c.self.invariant.1) ∙ ap (λ x. length x.operations) c.self.view_is in
    let second = c.hash-2.ensures ∙ (λ i. write ((c.hash.ensures ∙ ap (λ x. write c.args.state.now (fed.le_bytes 4 x.line_start)) c.self.view_is) i) (fed.le_bytes 8 (names_count i))) in
    let third = ap (λ names. fold write c.loop-name.state (flat_map (fed.option fed.u32) names)) (sym c.in-None.ensures.steps.0) ∙ c.loop-name.invariant ∙ (λ i. fold write (second i) (flat_map (fed.option fed.u32) d.parameter_names)) in
    let fourth = c.hash-3.ensures ∙ (λ i. write (third i) (fed.le_bytes 8 (operations_count i))) in
    ap (λ ops. fold write c.loop-operation.state (flat_map hash_input-value.it ops)) (sym c.in-None-operation.ensures.steps.0) ∙ c.loop-operation.invariant ∙ (λ i. fold write (fourth i) (flat_map hash_input-value.it d.operations))
    ∙ sym (fold-append write (write (write c.args.state.now (fed.le_bytes 4 d.line_start)) (fed.le_bytes 8 (length d.parameter_names))) (flat_map (fed.option fed.u32) d.parameter_names) (fed.le_bytes 8 (length d.operations) ∷ (flat_map hash_input-value.it d.operations)))
