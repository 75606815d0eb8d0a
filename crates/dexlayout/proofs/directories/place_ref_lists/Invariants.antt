use Rattle.dexlayout.proofs.Common.{◌≡◌, ◌+◌, ◌++◌, ℕ, List, drop, methods_of, encode_uses, no_items_from, class_parameter_counts, list_item, offset_lists, parameter_counts}
use Rattle.dexlayout.proofs.RefLists.{ListsLeft}
use Rattle.dexlayout.proofs.directories.place_ref_lists.Given as goal

-- encoding what is left of the offsets gives the whole
abbrev pub invariant-loop-class : goal.invariant-loop-class
invariant-loop-class l = (rest : List ℕ) × ListsLeft (λ items. items.places ≡ l.places) (class_parameter_counts (drop l.class-index l.classes)) rest (encode_uses 4 (no_items_from l.sets.written.places.end) (offset_lists list_item (class_parameter_counts l.classes) l.sets.parameters))

-- what is left of a class, and the classes after it
abbrev pub invariant-loop-i : goal.invariant-loop-i
invariant-loop-i l = (rest : List ℕ) × ListsLeft (λ items. items.places ≡ l.places) (parameter_counts (drop l.i (methods_of l.members)) ++ class_parameter_counts (drop (l.class-index + 1) l.classes)) rest (encode_uses 4 (no_items_from l.sets.written.places.end) (offset_lists list_item (class_parameter_counts l.classes) l.sets.parameters))
