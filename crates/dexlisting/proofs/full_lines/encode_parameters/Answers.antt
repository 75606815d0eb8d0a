use Rattle.std.proofs.Common.{map, drop, ap, subst, get_or, [], arith}
use Rattle.std.proofs.Math.ListN.{drop_of_length-le}
use Rattle.std.proofs.lemmas.List.{get_or_default}
use Rattle.dexio.proofs.Encoded.{then_given, completes_none, completes_all, completes_more}
use Rattle.dexval.specs.Numbered.{IsKnownSet, set_in}
use Rattle.dexlisting.specs.FullListing.{parameter_lines}
use Rattle.dexlisting.proofs.Declared.{one_set, parameter_next}
use Rattle.dexlisting.proofs.full_lines.encode_parameters.Goals as goal

pub loop-i-init : goal.loop-i-init
loop-i-init g c = completes_none g.O.Output.gives (parameter_lines 0 (map (set_in c.args.numbering.now) c.args.sets.now)) c.args.out.now

pub encode_set-requires : goal.encode_set-requires
encode_set-requires g c = λ is borrowed. subst (IsKnownSet c.args.numbering.now) (one_set c.get.result _ is c.get.ensures borrowed) (c.requires c.loop-i.i [] (omega (arith, c.loop-i-test.true)))

pub loop-i-preserved : goal.loop-i-preserved
loop-i-preserved g c =
    let G = g.O.Output.gives in
    let B = g.met.O.Output.both in
    let s = get_or c.args.sets.now c.loop-i.i [] in
    completes_more G B _ _ _ _ _ _ _
    (parameter_next c.args.numbering.now c.args.sets.now c.loop-i.i s (omega (arith, c.loop-i-test.true)) (get_or_default c.args.sets.now c.loop-i.i [] s (omega (arith, c.loop-i-test.true))))
    c.loop-i.invariant (then_given G B c.encode_count.ensures (then_given G B c.byte.ensures (c.encode_set.ensures s c.get.ensures)))

pub returns : goal.returns
returns g c =
    completes_all g.O.Output.gives g.met.O.Output.nothing _ _ _ _
    (ap (λ sets. parameter_lines c.loop-i.i (map (set_in c.args.numbering.now) sets)) (drop_of_length-le c.args.sets.now (omega (arith, c.loop-i-test.false)))) c.loop-i.invariant
