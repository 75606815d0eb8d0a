use Rattle.dexclass.proofs.Common.{◌≡◌, List, Option, map, sym, ap, subst, ◌∙◌, IfSome, IfNone, All, Mentions, Maps, AllMapTo, MapsMarked}
use Rattle.dexclass.specs.{NumberedClass, definition_of, IsKnownClass, IsMappedClass}
use Rattle.dexclass.specs.internal.Trimming.{MarkClasses}
use Rattle.dexclass.proofs.Trimmed.{all_map_to, trimmed}
use Rattle.dexclass.proofs.trimming.into_trimmed.Goals as goal
use Rattle.dexclass.proofs.trimming.into_trimmed.Goals.{In_ok-trimmed, in-Some+in_ok-cut_all, in_default}

-- the marks are those of the classes in their vector
marks_of : (c : In_ok-trimmed) → MarkClasses c.args.numbering c.args.classes.now.items c.in_ok-marks.marks
marks_of c = subst (λ (cs : List NumberedClass). MarkClasses c.args.numbering cs c.in_ok-marks.marks) c.deref.ensures.value c.in_ok-marks.ensures

-- each number that occurs has an image
mapped : (c : In_ok-trimmed) → (r : Maps) → MapsMarked c.in_ok-marks.marks r → All (IsMappedClass r) c.args.classes.now.items
mapped c r =
    all_map_to c.args.numbering c.args.classes.now.items c.requires (λ class. c.uses_law.ensures.uses c.args.numbering class c.is_numbering.ensures.rising) c.in_ok-marks.marks (marks_of c).uses_marked r

pub into_kept-requires : goal.into_kept-requires
into_kept-requires c = c.in_ok-marks.ensures.count

pub cut_all-requires-clause-remapped : goal.cut_all-requires-clause-remapped
cut_all-requires-clause-remapped c = mapped (goal.at.cut_all-requires-clause-remapped c).In_ok-trimmed c.in-Some.remap (subst (λ o. IfSome o (MapsMarked c.in_ok-marks.marks)) c.in-Some.is c.in_ok-trimmed.ensures.marked)

pub returns : goal.returns
returns c =
    let m = c.args.numbering in
    let n = c.in_ok-trimmed.trimmed in
    let cs = c.args.classes.now.items in
    let k = (goal.at.returns c).In_ok-trimmed in
    let is = c.in_ok-trimmed.ensures.kept ∙ (marks_of k).mentioned in
    elim c.match-remap.branch [
      | in-Some+in_ok-cut_all w ↦
          let r = w.in-Some.remap in
          let maps = subst (λ (o : Option Maps). IfSome o (AllMapTo m n)) w.in-Some.is c.in_ok-trimmed.ensures.map in
          trimmed m n r cs _ (λ class. c.renumbering_law.ensures.same m n r class maps) (mapped k r (subst (λ (o : Option Maps). IfSome o (MapsMarked c.in_ok-marks.marks)) w.in-Some.is c.in_ok-trimmed.ensures.marked)) c.requires (ap (λ v. v.items) w.classes-is ∙ w.in_ok-cut_all.ensures) is
      | in_default w ↦
          let whole : n ≡ m = subst (λ (o : Option Maps). IfNone o (n ≡ m)) w.in_default.is c.in_ok-trimmed.ensures.whole in
          rw w.classes-is (record {
            mentions_are = is;
            same = ap (λ (t : Mentions). map (definition_of t) cs) whole;
            known = subst (λ (t : Mentions). All (IsKnownClass t) cs) (sym whole) c.requires;
          })
    ]
