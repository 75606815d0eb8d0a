use Rattle.dexmerge.proofs.Common.{◌≡◌, ◌++◌, List, All, map, take, flat_map, definitions, Mentions, NumberedClass, renumbered_class}
use Rattle.dexmerge.specs.{AreMembers, IsOfPart, classes_of, referents}
use Rattle.dexmerge.specs.internal.CandidateLists.{AreMapped, AreByPart}
use Rattle.dexmerge.proofs.candidates.candidates.Given as goal

abbrev pub invariant-loop-i : goal.invariant-loop-i
invariant-loop-i l = record {
  members : (m : Mentions) → AreMapped m (referents l.parts) l.remaps → AreMembers m (flat_map definitions (take l.i (referents l.parts))) (classes_of l.candidates.items);
  parts : (m : Mentions) → AreMapped m (referents l.parts) l.remaps → All (IsOfPart m) l.candidates.items;
  remaps : AreByPart l.remaps l.candidates.items;
}

-- those of the parts before, and the first classes of the part
abbrev pub invariant-loop-class : goal.invariant-loop-class
invariant-loop-class l =
    (before : List NumberedClass)
    × ((m : Mentions) → AreMapped m (referents l.parts) l.remaps → AreMembers m (flat_map definitions (take l.i (referents l.parts))) before)
    × (classes_of l.candidates.items ≡ before ++ map (renumbered_class l.remap) (take l.class-index l.class-items))
    × ((m : Mentions) → AreMapped m (referents l.parts) l.remaps → All (IsOfPart m) l.candidates.items)
    × AreByPart l.remaps l.candidates.items
