use Rattle.dexcode.proofs.Common.{List, handlers_of, ArePlaces, NumberedHandler, ℕ, length, ◌++◌, ap, sym, subst, ◌∙◌, length-map, numbered_bytes, named, unit_count, numbered_tries_bytes, numbered_head_bytes, numbered_item_bytes}
use Rattle.dexcode.proofs.code_put.encode_placed.Goals as goal

pub returns : goal.returns
unfolding numbered_item_bytes
returns g c =
    let gives = g.O.Output.gives in
    let code = c.args.pieces.now in
    let ts = c.args.tries.now in
    let b = c.encode_head.new.out in
    let d = c.encode.new.out in
    let e = c.encode_tries.new.out in
    let head = subst (λ (n : ℕ). gives (numbered_head_bytes c.args.debug_off n code (unit_count code)) c.args.out.now b) (sym (length-map c.parts.result.0.now (named c.parts.result.1.now)) ∙ ap length c.parts.ensures.named) c.encode_head.ensures in
    g.met.O.Output.both (numbered_head_bytes c.args.debug_off (length ts) code (unit_count code)) (numbered_bytes code.pieces ++ numbered_tries_bytes (unit_count code) ts) c.args.out.now b e head
    (g.met.O.Output.both (numbered_bytes code.pieces) (numbered_tries_bytes (unit_count code) ts) b d e c.encode.ensures (subst (λ (n : ℕ). gives (numbered_tries_bytes n ts) d e) c.unit_count.ensures c.encode_tries.ensures))

pub encode_tries-requires : goal.encode_tries-requires
encode_tries-requires g c = subst (λ (hs : List NumberedHandler). ArePlaces hs c.place_handlers.new.places) (c.parts.ensures.stored.used ∙ ap handlers_of c.parts.ensures.named) c.place_handlers.ensures
