use Rattle.dexlayout.proofs.Common.{◌≡◌, ◌+◌, ◌∷◌, ◌++◌, List, length, take, drop, refl, sym, ap, subst, ◌∙◌, arith, drop_all, length-take, NumberedSet, NumberedMembers, NumberedMethod, NumberedClass, methods_of, ordered_of, ItemPlaces, EncodedItems, SetPlaces, encode_uses, no_items_from, class_parameter_counts, list_item, offset_lists, parameter_counts, AreLaidIn, none_from, ref_list_section, without_bytes}
use Rattle.dexlayout.proofs.EncodedUses.{use_places}
use Rattle.dexlayout.proofs.Ends.{end_in_file}
use Rattle.dexlayout.proofs.RefLists.{class_counts, list_enough, list_fits, lists_more, lists_same, next_counts, no_lists, parameters_enough, ref_lists_laid}
use Rattle.dexlayout.proofs.directories.place_ref_lists.Goals as goal
use Rattle.dexlayout.proofs.directories.place_ref_lists.Goals.{After-len}

-- all lists
abbrev all_lists : List NumberedClass → SetPlaces → EncodedItems
all_lists cs sets = encode_uses 4 (no_items_from sets.written.places.end) (offset_lists list_item (class_parameter_counts cs) sets.parameters)

pub loop-class-init : goal.loop-class-init
loop-class-init c = (
  c.args.sets.now.parameters,
  record {
    items = no_items_from c.args.sets.now.written.places.end;
    keeps = sym (c.in_ok-places.ensures ∙ ap none_from (c.end-from.ensures ∙ ap (λ (q : ItemPlaces). q.end) c.places.ensures ∙ ap (λ (q : EncodedItems). q.places.end) c.written.ensures));
    encoded = refl;
    enough = parameters_enough c.requires.0 c.args.classes.now c.requires.2;
  },
)

pub loop-i-init : goal.loop-i-init
loop-i-init c = (
  c.loop-class.invariant.0,
  lists_same (class_counts c.args.classes.now c.loop-class.class-index c.class-item.result c.loop-class-test.true (sym c.class-item.is)
      ∙ ap (λ (x : NumberedMembers). parameter_counts (methods_of x) ++ class_parameter_counts (drop (c.loop-class.class-index + 1) c.args.classes.now)) (sym c.members-members.ensures)) c.loop-class.invariant.1,
)

-- the number of parameters of the method is the next
counts : (c : After-len) → parameter_counts (drop c.loop-i.i (methods_of c.members-members.result.now)) ++ class_parameter_counts (drop (c.loop-class.class-index + 1) c.args.classes.now)
    ≡ c.len.result ∷ (parameter_counts (drop (c.loop-i.i + 1) (methods_of c.members-members.result.now)) ++ class_parameter_counts (drop (c.loop-class.class-index + 1) c.args.classes.now))
counts c =
    let many : c.len.result ≡ length c.method_at.result.parameter_annotations = c.len.ensures ∙ ap (λ (l : List NumberedSet). length l) c.parameter_annotations-parameters.ensures in
    ap (λ ns. ns ++ class_parameter_counts (drop (c.loop-class.class-index + 1) c.args.classes.now))
    (next_counts (λ (x : NumberedMethod). length x.parameter_annotations) (methods_of c.members-members.result.now) c.loop-i.i c.method_at.result c.len.result (omega (arith, c.loop-i-test.true, c.method_count-i-end.ensures)) (sym c.method_at.ensures) many)

-- the offsets of the sets of its parameters are as many
prefix_length : (c : After-len) → length (take c.len.result c.loop-i.invariant.0) ≡ c.len.result
prefix_length c = omega (arith, length-take c.len.result c.loop-i.invariant.0, list_enough c.loop-i.invariant.0 (counts c) c.loop-i.invariant.1.enough)

pub put_list-requires : goal.put_list-requires
put_list-requires c =
    let here = (goal.at.put_list-requires c).After-len in (
      take c.len.result c.loop-i.invariant.0,
      prefix_length here,
      omega (
        arith,
        list_fits c.loop-i.invariant.0 (counts here) refl refl c.loop-i.invariant.1 (without_bytes c.loop-i.places) (λ items e. ap (λ (q : ItemPlaces). q.end) e),
        (ref_lists_laid c.requires.0 c.args.classes.now c.requires.2).places_are.end_is,
        (end_in_file (ordered_of c.requires.0 c.args.classes.now) c.requires.1.fits).ref_lists,
      ),
    )

pub loop-i-preserved : goal.loop-i-preserved
loop-i-preserved c =
    let here = (goal.at.loop-i-preserved c).After-len in
    let rest = c.loop-i.invariant.0 in
    let list = take c.len.result rest in (
      drop c.len.result rest,
      lists_more rest (counts here) refl refl c.loop-i.invariant.1
          (λ items e. use_places 4 items (without_bytes c.loop-i.places) (list_item list) e ∙ sym (c.in_ok-put_list.ensures list (prefix_length here))),
    )

pub loop-class-preserved : goal.loop-class-preserved
loop-class-preserved c =
    let ns = class_parameter_counts (drop (c.loop-class.class-index + 1) c.args.classes.now) in (
      c.loop-i.invariant.0,
      lists_same (ap (λ xs. parameter_counts xs ++ ns) (drop_all c.loop-i.i (methods_of c.members-members.result.now) (omega (arith, c.loop-i-test.false, c.method_count-i-end.ensures)))) c.loop-i.invariant.1,
    )

pub returns : goal.returns
returns c = λ m w sets.
    let cs = c.args.classes.now in
    let all = no_lists {all = all_lists cs c.args.sets.now} (ap class_parameter_counts (drop_all c.loop-class.class-index cs c.loop-class-test.false)) c.loop-class.invariant.1 in
    subst (AreLaidIn (ref_list_section (ordered_of m cs))) all (ref_lists_laid m cs sets).places_are
