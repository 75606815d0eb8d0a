use Rattle.dexlayout.proofs.Common.{◌≡◌, ℕ, ◌+◌, ◌∷◌, ◌++◌, List, length, take, drop, refl, sym, ap, subst, ◌∙◌, arith, drop_all, NumberedSet, NumberedMembers, NumberedMethod, NumberedClass, methods_of, ordered_of, ItemPlaces, EncodedItems, SetPlaces, encode_uses, no_items_from, class_parameter_counts, list_item, offset_lists, parameter_counts}
use Rattle.dexlayout.proofs.EncodedUses.{given_next}
use Rattle.dexlayout.proofs.Ends.{end_in_file}
use Rattle.dexlayout.proofs.RefLists.{class_counts, list_enough, list_fits, lists_more, lists_same, next_counts, no_lists, parameters_enough, ref_lists_laid}
use Rattle.dexlayout.proofs.directories.encode_ref_lists.Goals as goal
use Rattle.dexlayout.proofs.directories.encode_ref_lists.Goals.{After-len}

-- all lists
abbrev all_lists : List NumberedClass → SetPlaces → EncodedItems
all_lists cs sets = encode_uses 4 (no_items_from sets.written.places.end) (offset_lists list_item (class_parameter_counts cs) sets.parameters)

pub loop-class-init : goal.loop-class-init
loop-class-init g c = record {
  items = no_items_from c.args.sets.now.written.places.end;
  keeps = record { ends = sym (c.end-at.ensures ∙ ap (λ (q : ItemPlaces). q.end) c.places.ensures ∙ ap (λ (q : EncodedItems). q.places.end) c.written.ensures); given = g.met.O.Output.nothing c.args.out.now };
  encoded = ap (λ offs. encode_uses 4 (no_items_from c.args.sets.now.written.places.end) (offset_lists list_item (class_parameter_counts c.args.classes.now) offs)) c.parameters-rest.ensures;
  enough = omega (arith, parameters_enough c.requires.0 c.args.classes.now c.requires.2, ap (λ (l : List ℕ). length l) c.parameters-rest.ensures);
}

pub loop-i-init : goal.loop-i-init
loop-i-init g c =
    lists_same (class_counts c.args.classes.now c.loop-class.class-index c.class-item.result c.loop-class-test.true (sym c.class-item.is)
    ∙ ap (λ (x : NumberedMembers). parameter_counts (methods_of x) ++ class_parameter_counts (drop (c.loop-class.class-index + 1) c.args.classes.now)) (sym c.members-members.ensures)) c.loop-class.invariant

-- the number of parameters of the method is the next
counts : (g : _) (c : After-len g) → parameter_counts (drop c.loop-i.i (methods_of c.members-members.result.now)) ++ class_parameter_counts (drop (c.loop-class.class-index + 1) c.args.classes.now)
    ≡ c.len.result ∷ (parameter_counts (drop (c.loop-i.i + 1) (methods_of c.members-members.result.now)) ++ class_parameter_counts (drop (c.loop-class.class-index + 1) c.args.classes.now))
counts g c =
    let many : c.len.result ≡ length c.method_at.result.parameter_annotations = c.len.ensures ∙ ap (λ (l : List NumberedSet). length l) c.parameter_annotations-parameters.ensures in
    ap (λ ns. ns ++ class_parameter_counts (drop (c.loop-class.class-index + 1) c.args.classes.now))
    (next_counts (λ (x : NumberedMethod). length x.parameter_annotations) (methods_of c.members-members.result.now) c.loop-i.i c.method_at.result c.len.result (omega (arith, c.loop-i-test.true, c.method_count-i-end.ensures)) (sym c.method_at.ensures) many)

pub encode_list-at-requires-clause-enough : goal.encode_list-at-requires-clause-enough
encode_list-at-requires-clause-enough g c = list_enough c.loop-i.rest (counts g (goal.at.encode_list-at-requires-clause-enough g c).After-len) c.loop-i.invariant.enough

pub encode_list-at-requires-clause-fits : goal.encode_list-at-requires-clause-fits
encode_list-at-requires-clause-fits g c =
    omega (
      arith,
      list_fits c.loop-i.rest (counts g (goal.at.encode_list-at-requires-clause-fits g c).After-len) refl refl c.loop-i.invariant (no_items_from c.loop-i.at) (λ items h. h.ends),
      (ref_lists_laid c.requires.0 c.args.classes.now c.requires.2).places_are.end_is,
      (end_in_file (ordered_of c.requires.0 c.args.classes.now) c.requires.1.fits).ref_lists,
    )

pub loop-i-preserved : goal.loop-i-preserved
loop-i-preserved g c =
    lists_more c.loop-i.rest (counts g (goal.at.loop-i-preserved g c).After-len) c.encode_list-at.ensures.others refl c.loop-i.invariant
    (given_next (list_item (take c.len.result c.loop-i.rest)) g.met.O.Output.both c.encode_list-at.ensures.end c.encode_list-at.ensures.given)

pub loop-class-preserved : goal.loop-class-preserved
loop-class-preserved g c =
    let ns = class_parameter_counts (drop (c.loop-class.class-index + 1) c.args.classes.now) in
    lists_same (ap (λ xs. parameter_counts xs ++ ns) (drop_all c.loop-i.i (methods_of c.members-members.result.now) (omega (arith, c.loop-i-test.false, c.method_count-i-end.ensures)))) c.loop-i.invariant

pub returns : goal.returns
returns g c = λ m w sets.
    let cs = c.args.classes.now in
    let all = no_lists {all = all_lists cs c.args.sets.now} (ap class_parameter_counts (drop_all c.loop-class.class-index cs c.loop-class-test.false)) c.loop-class.invariant in
    subst (λ bytes. g.O.Output.gives bytes c.args.out.now c.loop-class.out) (ref_lists_laid m cs sets).bytes_are all.given
