use Rattle.dexclass.proofs.Common.{List, subst, ◌∙◌, All}
use Rattle.dexclass.specs.{NumberedClass, IsMappedClass}
use Rattle.dexclass.specs.internal.Trimming.{MarkClasses}
use Rattle.dexclass.proofs.Trimmed.{all_map_to, trimmed}
use Rattle.dexclass.proofs.trimming.trim.Goals as goal
use Rattle.dexclass.proofs.trimming.trim.Goals.{In_ok-trimmed}

-- the marks are those of the classes in their vector
marks_of : (c : In_ok-trimmed) → MarkClasses c.args.numbering.now c.args.classes.now.items c.in_ok-marks.marks
marks_of c = subst (λ (cs : List NumberedClass). MarkClasses c.args.numbering.now cs c.in_ok-marks.marks) c.deref.ensures.value c.in_ok-marks.ensures

-- each number that occurs has an image
mapped : (c : In_ok-trimmed) → All (IsMappedClass c.in_ok-trimmed.remap) c.args.classes.now.items
mapped c =
    all_map_to c.args.numbering.now c.args.classes.now.items c.requires (λ class. c.uses_law.ensures.uses c.args.numbering.now class c.is_numbering.ensures.rising) c.in_ok-marks.marks (marks_of c).uses_marked c.in_ok-trimmed.remap c.in_ok-trimmed.ensures.marked

pub keep-requires : goal.keep-requires
keep-requires c = c.in_ok-marks.ensures.count

pub cut_all-requires : goal.cut_all-requires
cut_all-requires c = record { down = c.in_ok-trimmed.ensures.down; remapped = mapped (goal.at.cut_all-requires c).In_ok-trimmed }

pub returns : goal.returns
returns c =
    let m = c.args.numbering.now in
    let n = c.in_ok-trimmed.trimmed in
    let k = (goal.at.returns c).In_ok-trimmed in
    trimmed m n c.in_ok-trimmed.remap c.args.classes.now.items c.cut_all.new.classes.items (λ class. c.renumbering_law.ensures.same m n c.in_ok-trimmed.remap class c.in_ok-trimmed.ensures.map) (mapped k) c.requires c.in_ok-cut_all.ensures (c.in_ok-trimmed.ensures.kept ∙ (marks_of k).mentioned)
