use Rattle.dexclass.proofs.Common.{◌≡◌, ◌<◌, ◌∙◌, sym, subst, ap, ℕ, All, length, map, length-map, slice_index_or, AreDistinct}
use Rattle.dexclass.specs.{NumberedClass, definition_of, no_class}
use Rattle.dexclass.proofs.Ordered.{order_count, order_distinct, order_within, ordered_are, arranged_among}
use Rattle.dexclass.proofs.ProgramsOf.{named, collection_is, program_is}
use Rattle.dexclass.proofs.programs.Program.arranged.Goals as goal
use Rattle.dexclass.proofs.programs.Program.arranged.Goals.{In_ok-order}

-- the names that the classes are ordered by
names_are : (c : In_ok-order) → c.deref-2.result.now ≡ map (λ (x : NumberedClass). x.name) c.args.classes.items
names_are c = c.deref-2.ensures.value ∙ c.in_ok-names.ensures ∙ ap (map (λ (x : NumberedClass). x.name)) c.deref.ensures.value

pub class_order-requires-clause-count : goal.class_order-requires-clause-count
class_order-requires-clause-count c =
    let cs = c.args.classes.items in
    let e = c.deref-2.ensures.value ∙ c.in_ok-names.ensures ∙ ap (map (λ (x : NumberedClass). x.name)) c.deref.ensures.value in
    c.requires.depths.count ∙ length-map cs (definition_of c.args.numbering) ∙ sym (ap length e ∙ length-map cs (λ (x : NumberedClass). x.name))

pub class_order-requires-clause-names : goal.class_order-requires-clause-names
class_order-requires-clause-names c =
    subst AreDistinct (sym (c.deref-2.ensures.value ∙ c.in_ok-names.ensures ∙ ap (map (λ (x : NumberedClass). x.name)) c.deref.ensures.value)) (named c.args.numbering c.args.classes.items c.requires.mergeable c.is_numbering.ensures).distinct

pub arrange-requires-clause-count : goal.arrange-requires-clause-count
arrange-requires-clause-count c =
    let cs = c.args.classes.items in
    ap length c.deref-3.ensures.value ∙ order_count c.args.numbering cs (named c.args.numbering cs c.requires.mergeable c.is_numbering.ensures) c.args.depths.now _ c.in_ok-order.order.items (names_are (goal.at.arrange-requires-clause-count c).In_ok-order) c.in_ok-order.ensures.classes c.in_ok-order.ensures.rises

pub arrange-requires-clause-within : goal.arrange-requires-clause-within
arrange-requires-clause-within c =
    let cs = c.args.classes.items in
    subst (All (λ (i : ℕ). i < length cs)) (sym c.deref-3.ensures.value)
    (order_within c.args.numbering cs (named c.args.numbering cs c.requires.mergeable c.is_numbering.ensures) c.args.depths.now _ c.in_ok-order.order.items (names_are (goal.at.arrange-requires-clause-within c).In_ok-order) c.in_ok-order.ensures.classes c.in_ok-order.ensures.rises)

pub arrange-requires-clause-distinct : goal.arrange-requires-clause-distinct
arrange-requires-clause-distinct c =
    let cs = c.args.classes.items in
    subst AreDistinct (sym c.deref-3.ensures.value)
    (order_distinct c.args.numbering cs (named c.args.numbering cs c.requires.mergeable c.is_numbering.ensures) c.args.depths.now _ c.in_ok-order.order.items (names_are (goal.at.arrange-requires-clause-distinct c).In_ok-order) c.in_ok-order.ensures.classes c.in_ok-order.ensures.rises)

pub invariant_of-result : goal.invariant_of-result
invariant_of-result c =
    let m = c.args.numbering in
    let cs = c.args.classes.items in
    let h = c.requires.mergeable in
    let new = c.arrange.new.elements.items in
    let in_order = named m cs h c.is_numbering.ensures in
    let names = names_are (goal.at.invariant_of-result c).In_ok-order in
    let is = c.in_ok-arrange.ensures no_class ∙ ap (map (λ (i : ℕ). slice_index_or cs i no_class)) c.deref-3.ensures.value in
    program_is m cs h c.is_numbering.ensures new (arranged_among m cs in_order c.args.depths.now _ c.in_ok-order.order.items names c.in_ok-order.ensures.classes c.in_ok-order.ensures.rises new is)
    (ordered_are m cs in_order c.args.depths.now _ c.in_ok-order.order.items names c.in_ok-order.ensures.classes c.in_ok-order.ensures.rises c.requires.depths new is) c.args.total c.requires.total

pub returns : goal.returns
returns c =
    let m = c.args.numbering in
    let cs = c.args.classes.items in
    let h = c.requires.mergeable in
    let new = c.arrange.new.elements.items in
    let in_order = named m cs h c.is_numbering.ensures in
    let names = names_are (goal.at.returns c).In_ok-order in
    let is = c.in_ok-arrange.ensures no_class ∙ ap (map (λ (i : ℕ). slice_index_or cs i no_class)) c.deref-3.ensures.value in
    collection_is m cs h c.is_numbering.ensures new (arranged_among m cs in_order c.args.depths.now _ c.in_ok-order.order.items names c.in_ok-order.ensures.classes c.in_ok-order.ensures.rises new is)
    (ordered_are m cs in_order c.args.depths.now _ c.in_ok-order.order.items names c.in_ok-order.ensures.classes c.in_ok-order.ensures.rises c.requires.depths new is)
