use Rattle.dexmembers.proofs.Common.{subst, ap, ◌∙◌}
use Rattle.dexmembers.specs.{both_bytes, method_numbers}
use Rattle.dexmembers.specs.HeldCodes.{methods_in}
use Rattle.dexmembers.proofs.HeldMembers.{method_numbers_held}
use Rattle.dexmembers.proofs.members.Members.encode_method_pairs.Goals as goal

pub returns : goal.returns
returns g c =
    let x = c.self.inside.contents in
    let first = c.declared.ensures ∙ method_numbers_held x.table (methods_in x.direct_methods) ∙ ap (λ y. method_numbers y.direct_methods) c.self.view_is in
    let second = c.declared-2.ensures ∙ method_numbers_held x.table (methods_in x.virtual_methods) ∙ ap (λ y. method_numbers y.virtual_methods) c.self.view_is in
    subst (λ item. g.O.Output.gives item c.args.out.now c.encode_pairs.new.out) (λ i. both_bytes (first i) (second i) c.args.offsets.now) c.encode_pairs.ensures
