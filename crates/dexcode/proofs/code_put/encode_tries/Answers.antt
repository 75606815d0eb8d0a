use Rattle.dexcode.proofs.Common.{◌≡◌, [], List, ap, sym, ◌∙◌, subst, arith, common_steps, flat_map, all_named, gap_bytes, handlers_of, numbered_table_bytes, numbered_tries_bytes, numbered_try_bytes, numbered_list_bytes, ArePlaces, NumberedHandler}
use Rattle.dexcode.proofs.CodeSizes.{tries_parts}
use Rattle.dexcode.proofs.HandlerPlaces.{stored_apart, tries_placed}
use Rattle.dexcode.proofs.code_put.encode_tries.Goals as goal

pub returns : goal.returns
returns g c =
    let gives = g.O.Output.gives in
    let ts = c.parts.result.0.now in
    let hs = c.parts.result.1.now in
    let stored = c.parts.ensures.stored in
    let some : ts ≡ [] → ⊥ = λ e. grind (arith, common_steps) in
    let placed = subst (λ (ks : List NumberedHandler). ArePlaces ks c.args.places.now) (sym (stored.used ∙ ap handlers_of c.parts.ensures.named)) c.requires in
    let items = subst (λ bs. gives bs c.encode_gap.new.out c.encode_items.new.out) (tries_placed hs c.args.places.now ts (stored_apart hs ts stored) placed stored.within) c.encode_items.ensures in
    let table = g.met.O.Output.both (flat_map (numbered_try_bytes hs) (all_named hs ts)) (numbered_list_bytes hs) c.encode_gap.new.out c.encode_items.new.out c.encode_list.new.out items c.encode_list.ensures in
    subst (λ all. gives (numbered_tries_bytes c.args.units all) c.args.out.now c.encode_list.new.out) c.parts.ensures.named
    (subst (λ bs. gives bs c.args.out.now c.encode_list.new.out) (sym (tries_parts c.args.units hs ts stored some))
    (g.met.O.Output.both (gap_bytes c.args.units) (numbered_table_bytes hs (all_named hs ts)) c.args.out.now c.encode_gap.new.out c.encode_list.new.out c.encode_gap.ensures table))
