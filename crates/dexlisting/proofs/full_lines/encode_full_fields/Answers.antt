use Rattle.std.proofs.Common.{map, drop, ap, arith}
use Rattle.std.proofs.Math.ListN.{drop_of_length-le}
use Rattle.dexio.proofs.Encoded.{completes_none, completes_all, completes_more}
use Rattle.dexmembers.specs.Numbered.{field_in}
use Rattle.dexlisting.specs.internal.Known.{field_lines}
use Rattle.dexlisting.proofs.Declared.{values_from, lent, lent_known, field_next}
use Rattle.dexlisting.proofs.full_lines.encode_full_fields.Goals as goal

pub loop-i-init : goal.loop-i-init
loop-i-init g c = completes_none g.O.Output.gives (field_lines c.args.words.now (map (field_in c.args.numbering.now) c.args.fields.now) (values_from c.args.numbering.now c.args.values.now)) c.args.out.now

pub encode_full_field-requires-clause-value : goal.encode_full_field-requires-clause-value
encode_full_field-requires-clause-value g c = lent_known c.args.numbering.now c.args.values.now c.loop-i.i c.get-in-loop-i.result (lent c.args.values.now c.loop-i.i c.get-in-loop-i.result c.get-in-loop-i.ensures.lookup) c.requires.values

pub loop-i-preserved : goal.loop-i-preserved
loop-i-preserved g c =
    completes_more g.O.Output.gives g.met.O.Output.both _ _ _ _ _ _ _
    (field_next c.args.numbering.now c.args.words.now c.args.fields.now c.args.values.now c.loop-i.i c.get.result c.get-in-loop-i.result (omega (arith, c.loop-i-test.true)) c.get.ensures (lent c.args.values.now c.loop-i.i c.get-in-loop-i.result c.get-in-loop-i.ensures.lookup))
    c.loop-i.invariant c.encode_full_field.ensures

pub returns : goal.returns
returns g c =
    completes_all g.O.Output.gives g.met.O.Output.nothing _ _ _ _
    (ap (λ fs. field_lines c.args.words.now (map (field_in c.args.numbering.now) fs) (values_from c.args.numbering.now (drop c.loop-i.i c.args.values.now))) (drop_of_length-le c.args.fields.now (omega (arith, c.loop-i-test.false))))
    c.loop-i.invariant
