use Rattle.dexpool.proofs.Common.{◌∙◌, ap, [], Method, proto_cmp, text_cmp}
use Rattle.dexpool.proofs.Ranking.{by_first, by_second, at_number}
use Rattle.dexpool.proofs.numbering.Numbering.compare_method.Goals as goal

none : Method
none = record { class = []; name = []; proto = record { return_type = []; parameters = [] } }

pub compare_type-requires : goal.compare_type-requires
compare_type-requires c = (c.method-row.ensures none).class_is.within

pub compare_string-requires : goal.compare_string-requires
compare_string-requires c = (c.method-row.ensures none).name_is.within

pub compare_proto-requires : goal.compare_proto-requires
compare_proto-requires c = (c.method-row.ensures none).proto_is.within

pub returns-in_default : goal.returns-in_default
returns-in_default c = λ d.
    by_first _ _ _ (at_number text_cmp _ _ c.compare_type.result [] _ c.args.method.now.class _ (c.method-row.ensures d).class_is (c.compare_type.ensures []) (c.text.ensures ∙ ap (λ (m : Method). m.class) c.method.view_is)) c.in_default.not-Equal

pub returns-in_default-compare_string : goal.returns-in_default-compare_string
returns-in_default-compare_string c = λ d.
    let k = c.method-row.ensures d in
    let classes = at_number text_cmp _ _ c.compare_type.result [] _ c.args.method.now.class _ k.class_is (c.compare_type.ensures []) (c.text.ensures ∙ ap (λ (m : Method). m.class) c.method.view_is) in
    by_second _ _ _ _ classes c.in-Equal.is (by_first _ _ _ (at_number text_cmp _ _ c.compare_string.result [] _ c.args.method.now.name _ k.name_is (c.compare_string.ensures []) (c.text-in-Equal.ensures ∙ ap (λ (m : Method). m.name) c.method.view_is)) c.in_default-compare_string.not-Equal)

pub returns-in-Equal-compare_string : goal.returns-in-Equal-compare_string
returns-in-Equal-compare_string c = λ d.
    let k = c.method-row.ensures d in
    let classes = at_number text_cmp _ _ c.compare_type.result [] _ c.args.method.now.class _ k.class_is (c.compare_type.ensures []) (c.text.ensures ∙ ap (λ (m : Method). m.class) c.method.view_is) in
    let names = at_number text_cmp _ _ c.compare_string.result [] _ c.args.method.now.name _ k.name_is (c.compare_string.ensures []) (c.text-in-Equal.ensures ∙ ap (λ (m : Method). m.name) c.method.view_is) in
    by_second _ _ _ _ classes c.in-Equal.is (by_second _ _ _ _ names c.in-Equal-compare_string.is (at_number proto_cmp _ _ c.compare_proto.result none.proto _ c.args.method.now.proto _ k.proto_is (c.compare_proto.ensures none.proto) (ap (λ (m : Method). m.proto) c.method.view_is)))
