use Rattle.dexmembers.proofs.Common.{ℕ, ◌++◌, length, take, drop, ap, ◌∙◌, subst, uleb128}
use Rattle.dexmembers.specs.{numbered_fields_bytes, numbered_methods_bytes}
use Rattle.dexmembers.proofs.class_data_put.ClassDataItemEncode.encode.Goals as goal

pub returns : goal.returns
returns g c =
    let both = g.met.O.Output.both in
    let offs = c.args.self.now.code_offs.now in
    let a = c.args.out.now in
    let end = c.encode_methods-2.new.out in
    let n0 = uleb128 c.len.result in
    let n1 = uleb128 c.len-2.result in
    let n2 = uleb128 c.len-3.result in
    let n3 = uleb128 c.len-4.result in
    let x0 = numbered_fields_bytes 0 c.static_fields-static_fields.result in
    let x1 = numbered_fields_bytes 0 c.instance_fields-instance_fields.result in
    let x2 = numbered_methods_bytes 0 c.direct_methods-direct_methods.result c.split_at.result.0.now in
    let x3 = numbered_methods_bytes 0 c.virtual_methods-virtual_methods.result c.split_at.result.1.now in
    let first = c.len.ensures ∙ ap length c.static_fields-static_fields.ensures in
    let second = c.len-2.ensures ∙ ap length c.instance_fields-instance_fields.ensures in
    let third = c.len-3.ensures ∙ ap length c.direct_methods-direct_methods.ensures in
    let fourth = c.len-4.ensures ∙ ap length c.virtual_methods-virtual_methods.ensures in
    let at = c.len-5.ensures ∙ ap length c.direct_methods-direct_methods.ensures in
    let front = c.split_at.ensures.front ∙ ap (λ (n : ℕ). take n offs) at in
    let back = c.split_at.ensures.back ∙ ap (λ (n : ℕ). drop n offs) at in
    subst (λ bs. g.O.Output.gives bs a end)
    (λ i.
    uleb128 (first i) ++ (uleb128 (second i) ++ (uleb128 (third i) ++ (uleb128 (fourth i) ++ (numbered_fields_bytes 0 (c.static_fields-static_fields.ensures i) ++ (numbered_fields_bytes 0 (c.instance_fields-instance_fields.ensures i)
    ++ (numbered_methods_bytes 0 (c.direct_methods-direct_methods.ensures i) (front i) ++ numbered_methods_bytes 0 (c.virtual_methods-virtual_methods.ensures i) (back i))))))))
    (both n0 (n1 ++ (n2 ++ (n3 ++ (x0 ++ (x1 ++ (x2 ++ x3)))))) a c.uleb.new.self end c.uleb.ensures
    (both n1 (n2 ++ (n3 ++ (x0 ++ (x1 ++ (x2 ++ x3))))) c.uleb.new.self c.uleb-2.new.self end c.uleb-2.ensures
    (both n2 (n3 ++ (x0 ++ (x1 ++ (x2 ++ x3)))) c.uleb-2.new.self c.uleb-3.new.self end c.uleb-3.ensures
    (both n3 (x0 ++ (x1 ++ (x2 ++ x3))) c.uleb-3.new.self c.uleb-4.new.self end c.uleb-4.ensures
    (both x0 (x1 ++ (x2 ++ x3)) c.uleb-4.new.self c.encode_fields.new.out end c.encode_fields.ensures
    (both x1 (x2 ++ x3) c.encode_fields.new.out c.encode_fields-2.new.out end c.encode_fields-2.ensures (both x2 x3 c.encode_fields-2.new.out c.encode_methods.new.out end c.encode_methods.ensures c.encode_methods-2.ensures)))))))
