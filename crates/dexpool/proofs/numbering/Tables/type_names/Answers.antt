use Rattle.dexpool.proofs.Common.{[], ◌∷◌, ◌++◌, sym, ap, ◌∙◌, arith, map, map_more, take_all, type_of}
use Rattle.dexpool.proofs.numbering.Tables.type_names.Goals as goal

pub loop-i-preserved : goal.loop-i-preserved
loop-i-preserved c =
    let t = c.args.self.now in
    c.in_ok-push.ensures.items ∙ (λ k. c.loop-i.invariant k ++ (c.in_ok-type_name.ensures ∙ ap (type_of t.strings.items t.types.items) c.at.ensures) k ∷ [])
    ∙ sym (map_more (type_of t.strings.items t.types.items) c.args.types.now c.loop-i.i 0 (omega (arith, c.loop-i-test.true, c.len-i-end.ensures)))

pub returns : goal.returns
returns c = c.loop-i.invariant ∙ ap (map (type_of c.args.self.now.strings.items c.args.self.now.types.items)) (take_all c.loop-i.i c.args.types.now (omega (arith, c.loop-i-test.false, c.len-i-end.ensures)))
