use Rattle.dexout.proofs.Common.{◌≡◌, ◌++◌, [], sym, ◌∙◌, arith, take-append-drop, common_steps, completes_none, completes_more, completes_all, Adds, adds_nothing, adds_both}
use Rattle.dexout.proofs.output.Out.bytes_in_parts.Goals as goal

pub parts-init : goal.parts-init
parts-init g c = completes_none (Adds g.T.Target.gives g.T.Target.gives_prefix g.T.Target.has_failed) c.args.bytes.now c.args.self.now

pub parts-preserved : goal.parts-preserved
parts-preserved g c =
    let rest = c.parts.rest.now in
    let part = c.split_at.result.0.now in
    let after = c.split_at.result.1.now in
    let parts : rest ≡ part ++ after = sym (take-append-drop c.min.result rest) ∙ (λ i. sym c.split_at.ensures.front i ++ sym c.split_at.ensures.back i) in
    completes_more (Adds g.T.Target.gives g.T.Target.gives_prefix g.T.Target.has_failed) (adds_both g.T.Target.gives g.T.Target.gives_prefix g.T.Target.has_failed) part after rest c.args.bytes.now c.args.self.now c.parts.self _ parts c.parts.invariant
    c.write_part.ensures

pub returns : goal.returns
returns g c =
    let none : c.parts.rest.now ≡ [] = grind (arith, common_steps) in
    completes_all (Adds g.T.Target.gives g.T.Target.gives_prefix g.T.Target.has_failed) (adds_nothing g.T.Target.gives g.T.Target.gives_prefix g.T.Target.has_failed) c.parts.rest.now c.args.bytes.now c.args.self.now c.parts.self none c.parts.invariant
