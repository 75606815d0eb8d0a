use Rattle.dexlayout.proofs.Common.{◌≡◌, ◌+◌, [], ◌∷◌, length, drop, arith, ap, sym, subst, ◌∙◌, drop_all, NumberedMembers, methods_of, AreClassData, ordered_of, class_data_item, class_data_items, encode_uses, no_items_from}
use Rattle.dexlayout.proofs.DataItems.{data_laid, data_split, data_rest}
use Rattle.dexlayout.proofs.EncodedUses.{all_encoded_by, use_encoded, use_fits}
use Rattle.dexlayout.proofs.Ends.{end_in_file}
use Rattle.dexlayout.proofs.CodeItems.{code_offsets_count}
use Rattle.dexlayout.proofs.bodies.place_class_data.Goals as goal
use Rattle.dexlayout.proofs.bodies.place_class_data.Goals.{After-split_at}

pub loop-class-init : goal.loop-class-init
loop-class-init c = record {
  count = code_offsets_count c.requires.0 c.args.input.now.classes.now c.offsets-rest.result.now (c.offsets-rest.ensures ∙ c.requires.2.offsets_are);
  encoded = λ i. encode_uses 1 ((c.in_ok-items.ensures ∙ ap no_items_from c.end.ensures) i) (class_data_items c.args.input.now.classes.now (c.offsets-rest.ensures i));
}

-- as many methods as the class declares
count_is : (c : After-split_at) → c.method_count.result ≡ length (methods_of c.class-item.result.members)
count_is c = c.method_count.ensures ∙ ap (λ (x : NumberedMembers). length (methods_of x)) c.members.ensures

-- its data are the next
next : (c : After-split_at) → class_data_items (drop c.loop-class.class-index c.args.input.now.classes.now) c.loop-class.rest.now
    ≡ class_data_item c.class-item.result c.split_at.result.0.now ∷ class_data_items (drop (c.loop-class.class-index + 1) c.args.input.now.classes.now) c.split_at.result.1.now
next c = data_split c.args.input.now.classes.now c.loop-class.class-index c.class-item.result c.loop-class-test.true (sym c.class-item.is) c.method_count.result (count_is c) c.loop-class.rest.now c.split_at.result.0.now c.split_at.result.1.now c.split_at.ensures.front c.split_at.ensures.back

pub put_item-requires-clause-offsets : goal.put_item-requires-clause-offsets
put_item-requires-clause-offsets c = omega (arith, c.split_at.ensures.front_len, c.method_count.ensures, ap (λ (x : NumberedMembers). length (methods_of x)) c.members.ensures)

pub put_item-requires-clause-fits : goal.put_item-requires-clause-fits
put_item-requires-clause-fits c =
    let cs = c.args.input.now.classes.now in
    omega (
      arith,
      use_fits 1 c.loop-class.items (next (goal.at.put_item-requires-clause-fits c).After-split_at) c.loop-class.invariant.encoded,
      (data_laid c.requires.0 cs c.requires.1 c.args.codes.now.offsets c.requires.2.offsets_are c.args.codes.now.end c.requires.2.end_is).places_are.end_is,
      (end_in_file (ordered_of c.requires.0 cs) c.requires.1.fits).class_data,
    )

pub loop-class-preserved : goal.loop-class-preserved
loop-class-preserved c =
    let here = (goal.at.loop-class-preserved c).After-split_at in
    record {
      count = data_rest c.args.input.now.classes.now c.loop-class.class-index c.class-item.result c.loop-class-test.true (sym c.class-item.is) c.method_count.result (count_is here) c.loop-class.rest.now c.split_at.result.1.now c.split_at.ensures.back c.loop-class.invariant.count;
      encoded = use_encoded 1 c.loop-class.items (next here) c.loop-class.invariant.encoded c.in_ok-put_item.ensures;
    }

pub returns : goal.returns
returns c = λ m w laid.
    let cs = c.args.input.now.classes.now in
    let none : class_data_items (drop c.loop-class.class-index cs) c.loop-class.rest.now ≡ [] = ap (λ ks. class_data_items ks c.loop-class.rest.now) (drop_all c.loop-class.class-index cs c.loop-class-test.false) in
    subst (AreClassData m cs) (sym (all_encoded_by 1 none c.loop-class.invariant.encoded)) (data_laid m cs w c.args.codes.now.offsets laid.offsets_are c.args.codes.now.end laid.end_is)
