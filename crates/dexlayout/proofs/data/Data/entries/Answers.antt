use Rattle.dexlayout.proofs.Common.{◌≡◌, ℕ, List, length, arith, ap, ◌∙◌, round_up, Section, TypeLists, AnnotationItems, EncodedArrayItems, StringDataItems, DebugInfoItems, CodeItems, ClassDataItems, AnnotationSets, AnnotationSetRefLists, AnnotationsDirectories, Mentions, NumberedClass, ItemPlaces, EncodedItems, AreWritable, ordered_of}
use Rattle.dexlayout.specs.{count_placed}
use Rattle.dexlayout.proofs.Ends.{EndInFile, end_in_file}
use Rattle.dexlayout.proofs.OwnCounts.{counted}
use Rattle.dexlayout.proofs.OwnFile.{ten_same, named_parts_are}
use Rattle.dexlayout.proofs.data.Data.entries.Goals as goal

-- an entry, of equal numbers
abbrev entry_with : Section → ℕ → ℕ → Section × ℕ × ℕ
entry_with s n o = (s, n, o)

same_entry : (s : Section) (n n' o o' : ℕ) → n ≡ n' → o ≡ o' → entry_with s n o ≡ entry_with s n' o'
same_entry s n n' o o' en eo = ap (λ k. entry_with s k o) en ∙ ap (entry_with s n') eo

-- what is not aligned
plain : (n : ℕ) → n ≡ round_up 1 n
plain n = omega arith

-- the sections of a file end within it
ends : {m : Mentions} {cs : List NumberedClass} → AreWritable m cs → EndInFile (ordered_of m cs)
ends {m} {cs} w = end_in_file (ordered_of m cs) w.fits

pub overflow_cast-lists : goal.overflow_cast-lists
overflow_cast-lists c = omega (arith, c.count-lists.ensures, (counted c.requires.1 c.requires.2).type_lists)

pub round_up-requires : goal.round_up-requires
round_up-requires c = omega (arith, c.requires.3, (ends c.requires.1).tables)

pub overflow_cast-annotations : goal.overflow_cast-annotations
overflow_cast-annotations c = omega (arith, ap (λ xs. length xs) (c.offsets.ensures ∙ ap (λ (q : ItemPlaces). q.offsets) c.places.ensures), (counted c.requires.1 c.requires.2).annotations)

pub overflow_cast-arrays : goal.overflow_cast-arrays
overflow_cast-arrays c = omega (arith, c.count_placed-arrays.ensures ∙ ap count_placed (c.offsets-2.ensures ∙ ap (λ (q : ItemPlaces). q.offsets) c.places-2.ensures), (counted c.requires.1 c.requires.2).arrays)

pub overflow_cast-debugs : goal.overflow_cast-debugs
overflow_cast-debugs c = omega (arith, c.count-debugs.ensures, (counted c.requires.1 c.requires.2).debugs)

pub overflow_cast-codes : goal.overflow_cast-codes
overflow_cast-codes c = omega (arith, c.count_placed-codes.ensures ∙ ap count_placed (c.offsets-3.ensures ∙ ap (λ (q : ItemPlaces). q.offsets) c.places-3.ensures), (counted c.requires.1 c.requires.2).codes)

pub round_up-debugs_end-requires : goal.round_up-debugs_end-requires
round_up-debugs_end-requires c = omega (arith, c.end.ensures ∙ ap (λ (q : ItemPlaces). q.end) c.places-10.ensures ∙ c.requires.2.bodies_are.debugs_are.places_are.end_is, (ends c.requires.1).debugs)

pub overflow_cast-class_data : goal.overflow_cast-class_data
overflow_cast-class_data c = omega (arith, c.count_placed-class_data.ensures ∙ ap count_placed (c.offsets-4.ensures ∙ ap (λ (q : ItemPlaces). q.offsets) c.places-4.ensures), (counted c.requires.1 c.requires.2).class_data)

pub overflow_cast-sets : goal.overflow_cast-sets
overflow_cast-sets c = omega (arith, ap (λ xs. length xs) (c.offsets-5.ensures ∙ ap (λ (q : ItemPlaces). q.offsets) (c.places-5.ensures ∙ ap (λ (p : EncodedItems). p.places) c.written.ensures)), (counted c.requires.1 c.requires.2).sets)

pub round_up-class_data_end-requires : goal.round_up-class_data_end-requires
round_up-class_data_end-requires c = omega (arith, c.end-2.ensures ∙ ap (λ (q : ItemPlaces). q.end) c.places-12.ensures ∙ c.requires.2.bodies_are.class_data_are.places_are.end_is, (ends c.requires.1).class_data)

pub overflow_cast-ref_lists : goal.overflow_cast-ref_lists
overflow_cast-ref_lists c = omega (arith, c.count_placed-ref_lists.ensures ∙ ap count_placed c.offsets-6.ensures, (counted c.requires.1 c.requires.2).ref_lists)

pub round_up-sets_end-requires : goal.round_up-sets_end-requires
round_up-sets_end-requires c = omega (arith, c.end-3.ensures ∙ ap (λ (q : ItemPlaces). q.end) (c.places-13.ensures ∙ ap (λ (p : EncodedItems). p.places) c.written-2.ensures) ∙ c.requires.2.back_are.sets_are.written_are.places_are.end_is, (ends c.requires.1).sets)

pub overflow_cast-directories : goal.overflow_cast-directories
overflow_cast-directories c = omega (arith, c.count_placed-directories.ensures ∙ ap count_placed (c.offsets-7.ensures ∙ ap (λ (q : ItemPlaces). q.offsets) c.places-6.ensures), (counted c.requires.1 c.requires.2).directories)

pub round_up-ref_lists_end-requires : goal.round_up-ref_lists_end-requires
round_up-ref_lists_end-requires c = omega (arith, c.end-4.ensures ∙ c.requires.2.back_are.ref_lists_are.end_is, (ends c.requires.1).ref_lists)

pub returns : goal.returns
returns c = λ cs w d from.
    let n = counted w d in
    ten_same _ _ _ _ _ _ _ _ _ _ _ _ _ _ _ _ _ _ _ _
    (c.entry.ensures ∙ same_entry TypeLists _ _ _ _ (c.count-lists.ensures ∙ n.type_lists.0) (c.round_up.ensures ∙ ap (round_up 4) from))
    (c.entry-2.ensures ∙ same_entry AnnotationItems _ _ _ _ (ap (λ xs. length xs) (c.offsets.ensures ∙ ap (λ (q : ItemPlaces). q.offsets) c.places.ensures) ∙ n.annotations.0) (c.end-lists_end.ensures ∙ ap (λ (q : ItemPlaces). q.end) c.places-7.ensures ∙ d.first_sections_are.type_lists_are.places_are.end_is ∙ plain _))
    (c.entry-3.ensures ∙ same_entry EncodedArrayItems _ _ _ _ (c.count_placed-arrays.ensures ∙ ap count_placed (c.offsets-2.ensures ∙ ap (λ (q : ItemPlaces). q.offsets) c.places-2.ensures) ∙ n.arrays.0) (c.end-annotations_end.ensures ∙ ap (λ (q : ItemPlaces). q.end) c.places-8.ensures ∙ d.first_sections_are.annotations_are.places_are.end_is ∙ plain _))
    (c.entry-4.ensures ∙ same_entry StringDataItems _ _ _ _ (c.count-texts.ensures ∙ n.strings.0) (c.end-arrays_end.ensures ∙ ap (λ (q : ItemPlaces). q.end) c.places-9.ensures ∙ d.first_sections_are.static_values_are.places_are.end_is ∙ plain _))
    (c.entry-5.ensures ∙ same_entry DebugInfoItems _ _ _ _ (c.count-debugs.ensures ∙ n.debugs.0) (c.end-texts_end.ensures ∙ d.first_sections_are.strings_are.end_is ∙ plain _))
    (c.entry-6.ensures ∙ same_entry CodeItems _ _ _ _ (c.count_placed-codes.ensures ∙ ap count_placed (c.offsets-3.ensures ∙ ap (λ (q : ItemPlaces). q.offsets) c.places-3.ensures) ∙ n.codes.0) (c.round_up-debugs_end.ensures ∙ ap (round_up 4) (c.end.ensures ∙ ap (λ (q : ItemPlaces). q.end) c.places-10.ensures ∙ d.bodies_are.debugs_are.places_are.end_is)))
    (c.entry-7.ensures ∙ same_entry ClassDataItems _ _ _ _ (c.count_placed-class_data.ensures ∙ ap count_placed (c.offsets-4.ensures ∙ ap (λ (q : ItemPlaces). q.offsets) c.places-4.ensures) ∙ n.class_data.0) (c.end-codes_end.ensures ∙ ap (λ (q : ItemPlaces). q.end) c.places-11.ensures ∙ d.bodies_are.codes_are.places_are.end_is ∙ plain _))
    (c.entry-8.ensures ∙ same_entry AnnotationSets _ _ _ _ (ap (λ xs. length xs) (c.offsets-5.ensures ∙ ap (λ (q : ItemPlaces). q.offsets) (c.places-5.ensures ∙ ap (λ (p : EncodedItems). p.places) c.written.ensures)) ∙ n.sets.0) (c.round_up-class_data_end.ensures ∙ ap (round_up 4) (c.end-2.ensures ∙ ap (λ (q : ItemPlaces). q.end) c.places-12.ensures ∙ d.bodies_are.class_data_are.places_are.end_is)))
    (c.entry-9.ensures ∙ same_entry AnnotationSetRefLists _ _ _ _ (c.count_placed-ref_lists.ensures ∙ ap count_placed c.offsets-6.ensures ∙ n.ref_lists.0) (c.round_up-sets_end.ensures ∙ ap (round_up 4) (c.end-3.ensures ∙ ap (λ (q : ItemPlaces). q.end) (c.places-13.ensures ∙ ap (λ (p : EncodedItems). p.places) c.written-2.ensures) ∙ d.back_are.sets_are.written_are.places_are.end_is)))
    (c.entry-10.ensures ∙ same_entry AnnotationsDirectories _ _ _ _ (c.count_placed-directories.ensures ∙ ap count_placed (c.offsets-7.ensures ∙ ap (λ (q : ItemPlaces). q.offsets) c.places-6.ensures) ∙ n.directories.0) (c.round_up-ref_lists_end.ensures ∙ ap (round_up 4) (c.end-4.ensures ∙ d.back_are.ref_lists_are.end_is)))
    ∙ named_parts_are (ordered_of c.args.numbering.now cs)
