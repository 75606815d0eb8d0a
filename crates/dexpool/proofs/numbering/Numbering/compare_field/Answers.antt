use Rattle.dexpool.proofs.Common.{◌∙◌, ap, [], Field, text_cmp}
use Rattle.dexpool.proofs.Ranking.{by_first, by_second, at_number}
use Rattle.dexpool.proofs.numbering.Numbering.compare_field.Goals as goal

none : Field
none = record { class = []; name = []; type = [] }

pub compare_type-requires : goal.compare_type-requires
compare_type-requires c = (c.field-row.ensures none).class_is.within

pub compare_string-requires : goal.compare_string-requires
compare_string-requires c = (c.field-row.ensures none).name_is.within

pub compare_type-requires-in-Equal-compare_string : goal.compare_type-requires-in-Equal-compare_string
compare_type-requires-in-Equal-compare_string c = (c.field-row.ensures none).type_is.within

pub returns-in_default : goal.returns-in_default
returns-in_default c = λ d.
    by_first _ _ _ (at_number text_cmp _ _ c.compare_type.result [] _ c.args.field.now.class _ (c.field-row.ensures d).class_is (c.compare_type.ensures []) (c.text.ensures ∙ ap (λ (f : Field). f.class) c.field.view_is)) c.in_default.not-Equal

pub returns-in_default-compare_string : goal.returns-in_default-compare_string
returns-in_default-compare_string c = λ d.
    let k = c.field-row.ensures d in
    let classes = at_number text_cmp _ _ c.compare_type.result [] _ c.args.field.now.class _ k.class_is (c.compare_type.ensures []) (c.text.ensures ∙ ap (λ (f : Field). f.class) c.field.view_is) in
    by_second _ _ _ _ classes c.in-Equal.is (by_first _ _ _ (at_number text_cmp _ _ c.compare_string.result [] _ c.args.field.now.name _ k.name_is (c.compare_string.ensures []) (c.text-in-Equal.ensures ∙ ap (λ (f : Field). f.name) c.field.view_is)) c.in_default-compare_string.not-Equal)

pub returns-in-Equal-compare_string : goal.returns-in-Equal-compare_string
returns-in-Equal-compare_string c = λ d.
    let k = c.field-row.ensures d in
    let classes = at_number text_cmp _ _ c.compare_type.result [] _ c.args.field.now.class _ k.class_is (c.compare_type.ensures []) (c.text.ensures ∙ ap (λ (f : Field). f.class) c.field.view_is) in
    let names = at_number text_cmp _ _ c.compare_string.result [] _ c.args.field.now.name _ k.name_is (c.compare_string.ensures []) (c.text-in-Equal.ensures ∙ ap (λ (f : Field). f.name) c.field.view_is) in
    let types = at_number text_cmp _ _ c.compare_type-in-Equal-compare_string.result [] _ c.args.field.now.type _ k.type_is (c.compare_type-in-Equal-compare_string.ensures []) (c.text-in-Equal-compare_string.ensures ∙ ap (λ (f : Field). f.type) c.field.view_is) in
    by_second _ _ _ _ classes c.in-Equal.is (by_second _ _ _ _ names c.in-Equal-compare_string.is types)
