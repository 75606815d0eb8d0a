-- The weight does not decrease as definitions are added.
use Rattle.dexspec.proofs.Common.{◌≡◌, ◌≤◌, List, arith, Mentions}
use Rattle.dexspec.specs.{AreDistinct, text_cmp, proto_cmp, field_cmp, method_cmp, Definition, AreWithin, mentions, text_weight, proto_weight, mentions_weight, body_weight, weight}
use Rattle.dexspec.proofs.lists.{sum_by-among, length-among, AreDistinct-from_Rises}
use Rattle.dexspec.proofs.merge.SymbolOrders.{text_total, proto_total, field_total, method_total}
use Rattle.dexspec.proofs.merge.Growth.{AreRising, AreMentioned, mentions-rising, mentions-among}

pub mentions_weight-among : (m n : Mentions) → AreRising m → AreMentioned m n → mentions_weight m ≤ mentions_weight n
mentions_weight-among m n r h =
    let texts = sum_by-among text_weight m.texts n.texts (AreDistinct-from_Rises text_cmp text_total m.texts r.texts) h.texts in
    let types = length-among m.types n.types (AreDistinct-from_Rises text_cmp text_total m.types r.types) h.types in
    let protos = sum_by-among proto_weight m.protos n.protos (AreDistinct-from_Rises proto_cmp proto_total m.protos r.protos) h.protos in
    let fields = length-among m.fields n.fields (AreDistinct-from_Rises field_cmp field_total m.fields r.fields) h.fields in
    let methods = length-among m.methods n.methods (AreDistinct-from_Rises method_cmp method_total m.methods r.methods) h.methods in
    omega (arith, texts, types, protos, fields, methods)

pub weight-within : (D E : List Definition) → AreDistinct D → AreWithin D E → weight D ≤ weight E
unfolding weight
weight-within D E d h =
    let mentioned = mentions_weight-among (mentions D) (mentions E) (mentions-rising D) (mentions-among D E h) in
    let bodies = sum_by-among (λ (e : Definition). body_weight e.1) D E d h in
    omega (arith, mentioned, bodies)

-- two lists without repeats that have the same members weigh the same
pub weight-same : (D E : List Definition) → AreDistinct D → AreDistinct E → AreWithin D E → AreWithin E D → weight D ≡ weight E
weight-same D E d e f g = omega (arith, weight-within D E d f, weight-within E D e g)
