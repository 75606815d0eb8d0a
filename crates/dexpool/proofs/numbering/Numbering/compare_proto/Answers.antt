use Rattle.dexpool.proofs.Common.{◌<◌, ◌∙◌, ap, sym, subst, [], length, map, get_or, All, slice_cmp, Proto, text_cmp}
use Rattle.dexpool.proofs.Ranking.{by_first, by_second, at_number, listed_at, listed_within}
use Rattle.dexpool.proofs.numbering.Numbering.compare_proto.Goals as goal

none : Proto
none = record { return_type = []; parameters = [] }

pub compare_type-requires : goal.compare_type-requires
compare_type-requires c = subst (λ n. n < length c.args.self.now.types) (sym c.return_type.ensures) (c.proto-row.ensures none).return_is.within

pub compare_types-requires : goal.compare_types-requires
compare_types-requires c = subst (All (λ n. n < length c.args.self.now.types)) (sym c.parameters.ensures) (listed_within c.args.self.now.types _ _ (c.proto-row.ensures none).parameters_are)

pub returns-in_default : goal.returns-in_default
returns-in_default c = λ d.
    let order = c.compare_type.ensures [] ∙ ap (λ n. text_cmp (get_or c.args.self.now.types n []) c.text.result) c.return_type.ensures in
    by_first _ _ _ (at_number text_cmp c.args.self.now.types c.proto-row.result.return_type c.compare_type.result [] _ c.args.proto.now.return_type _ (c.proto-row.ensures d).return_is order (c.text.ensures ∙ ap (λ (p : Proto). p.return_type) c.proto.view_is)) c.in_default.not-Equal

pub returns-in-Equal : goal.returns-in-Equal
returns-in-Equal c = λ d.
    let ts = c.args.self.now.types in
    let k = c.proto-row.ensures d in
    let returns = at_number text_cmp ts c.proto-row.result.return_type c.compare_type.result [] _ c.args.proto.now.return_type _ k.return_is (c.compare_type.ensures [] ∙ ap (λ n. text_cmp (get_or ts n []) c.text.result) c.return_type.ensures) (c.text.ensures ∙ ap (λ (p : Proto). p.return_type) c.proto.view_is) in
    let parameters = c.compare_types.ensures [] ∙ ap (λ ns. slice_cmp text_cmp (map (λ n. get_or ts n []) ns) c.deref.result.now) c.parameters.ensures
    ∙ ap (λ xs. slice_cmp text_cmp xs c.deref.result.now) (listed_at ts [] _ _ k.parameters_are) ∙ ap (slice_cmp text_cmp _) (c.deref.ensures.value ∙ ap (λ (p : Proto). p.parameters) c.proto.view_is) in
    by_second _ _ _ _ returns c.in-Equal.is parameters
