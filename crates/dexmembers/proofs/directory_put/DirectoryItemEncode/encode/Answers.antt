use Rattle.dexmembers.proofs.Common.{◌++◌, ◌∙◌, ap, map, subst, uint}
use Rattle.dexmembers.specs.{both_bytes, field_numbers, method_numbers}
use Rattle.dexmembers.proofs.HeldMembers.{field_numbers_held}
use Rattle.dexmembers.proofs.directory_put.DirectoryItemEncode.encode.Goals as goal

pub returns : goal.returns
returns g c =
    let both = g.met.O.Output.both in
    let d = c.args.self.now in
    let x = d.members.now in
    let n0 = uint d.offs.own in
    let n1 = uint c.placed.result in
    let n2 = uint c.placed-2.result in
    let n3 = uint c.placed-3.result in
    let fs = both_bytes (field_numbers x.static_fields) (field_numbers x.instance_fields) d.offs.fields.now in
    let ms = both_bytes (method_numbers x.direct_methods) (method_numbers x.virtual_methods) d.offs.methods.now in
    let ps = both_bytes (method_numbers x.direct_methods) (method_numbers x.virtual_methods) d.offs.parameters.now in
    let own = c.members.inside.contents in
    let first = ap (map (λ y. y.number)) c.deref.ensures.value ∙ field_numbers_held own.table.sets own.static_fields.items ∙ ap (λ y. field_numbers y.static_fields) c.members.view_is in
    let second = ap (map (λ y. y.number)) c.deref-2.ensures.value ∙ field_numbers_held own.table.sets own.instance_fields.items ∙ ap (λ y. field_numbers y.instance_fields) c.members.view_is in
    let fields = subst (λ item. g.O.Output.gives item c.u32-4.new.self c.encode_pairs.new.out) (λ i. both_bytes (first i) (second i) d.offs.fields.now) c.encode_pairs.ensures in
    let end = c.encode_method_pairs-2.new.out in
    subst (λ bs. g.O.Output.gives bs c.args.out.now end)
    (λ i. n0 ++ (uint (c.placed.ensures.is i) ++ (uint (c.placed-2.ensures.is i) ++ (uint (c.placed-3.ensures.is i) ++ (fs ++ (ms ++ ps))))))
    (both n0 (n1 ++ (n2 ++ (n3 ++ (fs ++ (ms ++ ps))))) c.args.out.now c.u32.new.self end c.u32.ensures
    (both n1 (n2 ++ (n3 ++ (fs ++ (ms ++ ps)))) c.u32.new.self c.u32-2.new.self end c.u32-2.ensures
    (both n2 (n3 ++ (fs ++ (ms ++ ps))) c.u32-2.new.self c.u32-3.new.self end c.u32-3.ensures
    (both n3 (fs ++ (ms ++ ps)) c.u32-3.new.self c.u32-4.new.self end c.u32-4.ensures
    (both fs (ms ++ ps) c.u32-4.new.self c.encode_pairs.new.out end fields
    (both ms ps c.encode_pairs.new.out c.encode_method_pairs.new.out end c.encode_method_pairs.ensures c.encode_method_pairs-2.ensures))))))
