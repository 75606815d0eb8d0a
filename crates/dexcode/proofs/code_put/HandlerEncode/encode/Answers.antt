use Rattle.dexcode.proofs.Common.{◌++◌, List, w32, subst, ◌∙◌, rules, ℤ, option_to_list, flat_map, to_z-of_z, uleb128, sleb128, Catch, handler_count, numbered_catch_bytes}
use mir.Val.{SFits}
use Rattle.dexcode.proofs.code_put.HandlerEncode.encode.Goals as goal

pub returns : goal.returns
returns g c =
    let h = c.args.self.now in
    let fits : SFits w32 c.handler_count.result = search rules in
    let count = subst (λ (n : ℤ). g.O.Output.gives (sleb128 n) c.args.out.now c.sleb.new.self) (to_z-of_z w32 c.handler_count.result fits ∙ c.handler_count.ensures) c.sleb.ensures in
    let catches = subst (λ (cs : List Catch). g.O.Output.gives (flat_map numbered_catch_bytes cs) c.sleb.new.self c.encode_all.new.out) c.catches.ensures c.encode_all.ensures in
    let all = subst (λ a. g.O.Output.gives (flat_map uleb128 (option_to_list a)) c.encode_all.new.out c.encode_catch_all.new.out) c.catch_all_addr.ensures c.encode_catch_all.ensures in
    let following = g.met.O.Output.both (flat_map numbered_catch_bytes h.catches) (flat_map uleb128 (option_to_list h.catch_all_addr)) c.sleb.new.self c.encode_all.new.out c.encode_catch_all.new.out catches all in
    g.met.O.Output.both (sleb128 (handler_count h)) (flat_map numbered_catch_bytes h.catches ++ flat_map uleb128 (option_to_list h.catch_all_addr)) c.args.out.now c.sleb.new.self c.encode_catch_all.new.out count following
