use Rattle.dexcanon.proofs.Common.{◌≡◌, ◌+◌, ℕ, List, length, get_or, ap, arith, sym, ◌∙◌, uses_offsets, type_list_section, directory_section, class_data_section, array_section, ItemPlaces, EncodedItems, SharedPlaces, ordered_of}
use Rattle.dexcanon.proofs.Rows.{class_offsets_at, count_lists, count_directories, count_class_data, count_static_values}
use Rattle.dexcanon.proofs.tables.offsets_of.Goals as goal
use Rattle.dexcanon.proofs.tables.offsets_of.Goals.{After-offsets-static_values}

-- the offsets of each kind are those of the file
lists_are : (c : After-offsets-static_values) → c.offsets-lists.result.now ≡ uses_offsets (type_list_section (ordered_of c.args.contents.now.numbering.now c.args.contents.now.classes.now))
lists_are c = c.offsets-lists.ensures ∙ ap (λ (p : ItemPlaces). p.offsets) (c.places.ensures ∙ ap (λ (d : SharedPlaces). d.places) c.type_lists.ensures) ∙ c.requires.ready.laid.type_lists_are.places_are.offsets_are

directories_are : (c : After-offsets-static_values) → c.offsets-directories.result.now ≡ uses_offsets (directory_section (ordered_of c.args.contents.now.numbering.now c.args.contents.now.classes.now))
directories_are c = c.offsets-directories.ensures ∙ ap (λ (p : ItemPlaces). p.offsets) (c.places-2.ensures ∙ ap (λ (d : EncodedItems). d.places) c.directories.ensures) ∙ c.requires.ready.laid.directories_are.places_are.offsets_are

class_data_are : (c : After-offsets-static_values) → c.offsets-class_data.result.now ≡ uses_offsets (class_data_section (ordered_of c.args.contents.now.numbering.now c.args.contents.now.classes.now))
class_data_are c = c.offsets-class_data.ensures ∙ ap (λ (p : ItemPlaces). p.offsets) (c.places-3.ensures ∙ ap (λ (d : EncodedItems). d.places) c.class_data.ensures) ∙ c.requires.ready.laid.class_data_are.places_are.offsets_are

static_values_are : (c : After-offsets-static_values) → c.offsets-static_values.result.now ≡ uses_offsets (array_section (ordered_of c.args.contents.now.numbering.now c.args.contents.now.classes.now))
static_values_are c = c.offsets-static_values.ensures ∙ ap (λ (p : ItemPlaces). p.offsets) (c.places-4.ensures ∙ ap (λ (s : EncodedItems). s.places) c.static_values.ensures) ∙ c.requires.ready.laid.static_values_are.places_are.offsets_are

pub bounds-lists-list : goal.bounds-lists-list
bounds-lists-list c = omega (arith, ap (λ (l : List ℕ). length l) (lists_are (goal.at.bounds-lists-list c).After-offsets-static_values), count_lists c.args.contents.now.numbering.now c.args.contents.now.classes.now, c.count.ensures, c.requires.within)

pub bounds-directories-i : goal.bounds-directories-i
bounds-directories-i c = omega (arith, ap (λ (l : List ℕ). length l) (directories_are (goal.at.bounds-directories-i c).After-offsets-static_values), count_directories c.args.contents.now.numbering.now c.args.contents.now.classes.now, c.requires.within)

pub bounds-class_data-i : goal.bounds-class_data-i
bounds-class_data-i c = omega (arith, ap (λ (l : List ℕ). length l) (class_data_are (goal.at.bounds-class_data-i c).After-offsets-static_values), count_class_data c.args.contents.now.numbering.now c.args.contents.now.classes.now, c.requires.within)

pub bounds-static_values-i : goal.bounds-static_values-i
bounds-static_values-i c =
    omega (arith, ap (λ (l : List ℕ). length l) (static_values_are (goal.at.bounds-static_values-i c).After-offsets-static_values), count_static_values c.args.contents.now.numbering.now c.args.contents.now.classes.now, c.requires.within)

pub returns : goal.returns
returns c =
    let here = (goal.at.returns c).After-offsets-static_values in
    let i = c.args.i in
    (λ k. (get_or (lists_are here k) (c.count.ensures k + i) 0, get_or (directories_are here k) i 0, get_or (class_data_are here k) i 0, get_or (static_values_are here k) i 0))
    ∙ sym (class_offsets_at c.args.contents.now.numbering.now c.args.contents.now.classes.now i c.requires.within)
