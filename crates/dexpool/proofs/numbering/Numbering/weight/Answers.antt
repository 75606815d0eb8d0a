use Rattle.dexpool.proofs.Common.{◌≡◌, ◌∙◌, ◌+◌, ◌-◌, ◌*◌, ◌^◌, ap, sym, arith, min, length, sum_by, take_all, text_weight, mentions_weight, ProtoEntry}
use Rattle.dexpool.proofs.Weighing.{tables_weight}
use Rattle.dexpool.proofs.numbering.Numbering.weight.Goals as goal

pub returns : goal.returns
returns c =
    let t = c.self.inside.tables in
    let weighs = λ (p : ProtoEntry). 20 + 2 * (p.parameters.end - p.parameters.start) in
    let texts = ap (sum_by text_weight) (take_all c.loop-text.text-index c.deref-text-items.result.now c.loop-text-test.false ∙ c.deref-text-items.ensures.value) in
    let protos = ap (sum_by weighs) (take_all c.loop-proto.proto-index c.deref-proto-items.result.now c.loop-proto-test.false ∙ c.deref-proto-items.ensures.value) in
    let sums : c.loop-proto.weight ≡ min (2 ^ 64 - 1) (sum_by text_weight t.strings.items + 4 * length t.types.items + sum_by weighs t.protos.items + 8 * length t.fields.items + 8 * length t.methods.items) =
    omega (arith, texts, protos) in
    sums ∙ ap (min (2 ^ 64 - 1)) (sym (tables_weight t c.self.invariant) ∙ ap mentions_weight c.self.view_is)
