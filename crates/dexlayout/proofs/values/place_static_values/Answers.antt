use Rattle.dexlayout.proofs.Common.{map, arith, ap, sym, subst, IsKnownClass, drop_all, AreStaticValues, ordered_of, encode_uses, static_item}
use Rattle.dexlayout.proofs.EncodedUses.{all_encoded_by, use_encoded, use_fits, drop_next}
use Rattle.dexlayout.proofs.Ends.{end_in_file}
use Rattle.dexlayout.proofs.StaticItems.{arrays_laid}
use Rattle.dexlayout.proofs.values.place_static_values.Goals as goal

pub loop-class-init : goal.loop-class-init
loop-class-init c = ap (λ p. encode_uses 1 p (map (static_item c.args.input.now.numbering.now) c.args.input.now.classes.now)) c.in_ok-items.ensures

pub put_array-requires-clause-known : goal.put_array-requires-clause-known
put_array-requires-clause-known c = subst (IsKnownClass c.args.input.now.numbering.now) (sym c.class-item.is) (c.requires.classes.known c.loop-class.class-index c.class-item.result c.loop-class-test.true)

pub put_array-requires-clause-fits : goal.put_array-requires-clause-fits
put_array-requires-clause-fits c =
    let m = c.args.input.now.numbering.now in
    let cs = c.args.input.now.classes.now in
    omega (
      arith,
      use_fits 1 c.loop-class.items (ap (map (static_item m)) (drop_next cs c.loop-class.class-index c.class-item.result c.loop-class-test.true (sym c.class-item.is))) c.loop-class.invariant,
      (arrays_laid m cs c.args.from c.requires.from).places_are.end_is,
      (end_in_file (ordered_of m cs) c.requires.classes.fits).arrays,
    )

pub loop-class-preserved : goal.loop-class-preserved
loop-class-preserved c =
    use_encoded 1 c.loop-class.items (ap (map (static_item c.args.input.now.numbering.now)) (drop_next c.args.input.now.classes.now c.loop-class.class-index c.class-item.result c.loop-class-test.true (sym c.class-item.is))) c.loop-class.invariant c.in_ok-put_array.ensures

pub returns : goal.returns
returns c =
    let m = c.args.input.now.numbering.now in
    let cs = c.args.input.now.classes.now in
    subst (AreStaticValues m cs) (sym (all_encoded_by 1 (ap (map (static_item m)) (drop_all c.loop-class.class-index cs c.loop-class-test.false)) c.loop-class.invariant)) (arrays_laid m cs c.args.from c.requires.from)
