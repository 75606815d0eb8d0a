use Rattle.dexpool.proofs.Common.{◌≡◌, ◌<◌, ◌++◌, ◌∷◌, [], length, map, get_or, sym, ap, ◌∙◌, subst, arith, All, All-push, map-append, take_more, get_or_default, ProtoNumbers, ProtoEntry, Span, HasSpan, numbers_of}
use Rattle.dexpool.proofs.renumbering.placed.Goals as goal

pub loop-i-preserved : goal.loop-i-preserved
loop-i-preserved c =
    let ps = c.args.parameters.items in
    let protos = c.args.protos.now in
    let rows = c.loop-i.rows.items in
    let i = c.loop-i.i in
    let p = c.index-protos-i.result in
    let q = c.index-protos-i-in-loop-i.result in
    let lt : i < length protos = omega (arith, c.loop-i-test.true) in
    let d : Span = record { start = 0; end = 0 } in
    let has = c.requires.places i d (omega (arith, lt, c.requires.count)) in
    let entry : ProtoEntry = record { shorty = c.shorty.result; return_type = c.return_type.result; parameters = get_or c.args.places.now i d } in
    let back = c.return_type.ensures ∙ ap (λ (r : ProtoNumbers). r.return_type) (c.index-protos-i-in-loop-i.is ∙ get_or_default protos i q p lt) in
    let shorty = c.shorty.ensures ∙ ap (λ (r : ProtoNumbers). r.shorty) c.index-protos-i.is in
    let row : numbers_of ps entry ≡ get_or protos i p = λ k. record { shorty = shorty k; return_type = back k; parameters = (has.1 p) k } in
    record {
      rows = ap (map (numbers_of ps)) c.in_ok-push.ensures.items ∙ map-append (numbers_of ps) rows (entry ∷ []) ∙ (λ k. c.loop-i.invariant.rows k ++ row k ∷ []) ∙ sym (take_more protos i p lt);
      spans = subst (All (λ (e : ProtoEntry). HasSpan ps e.parameters)) (sym c.in_ok-push.ensures.items) (All-push (λ (e : ProtoEntry). HasSpan ps e.parameters) rows entry c.loop-i.invariant.spans has.0);
    }
