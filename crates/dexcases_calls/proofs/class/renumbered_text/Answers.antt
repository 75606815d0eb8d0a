use Rattle.std.proofs.Common.{sym, subst}
use Rattle.dexpool.specs.Numberings.{AllMapTo}
use Rattle.dexmembers.specs.Fitting.{NumbersFit}
use Rattle.dexclass.specs.Renumbering.{ClassHasPlaces}
use Rattle.dexclass.specs.Uses.{class_uses}
use Rattle.dexclass.proofs.SameClasses.{members_mapped}
use Rattle.dexclass.proofs.Unmarked.{still_marks}
use Rattle.dexcases_calls.proofs.class.renumbered_text.Goals as goal

pub mark-requires : goal.mark-requires
mark-requires c = c.uses_law.ensures.marks c.args.numbering.now c.in_ok-marks.marks c.args.class.now c.in_ok-marks.ensures.marks c.requires

pub keep-requires : goal.keep-requires
keep-requires c = still_marks c.args.numbering.now (class_uses c.args.class.now) c.in_ok-marks.marks c.mark.new.marks c.in_ok-marks.ensures.marks c.mark.ensures

pub renumber-requires : goal.renumber-requires
renumber-requires c =
    let m = c.args.numbering.now in
    let x = c.args.class.now in
    let r = c.in_ok-kept.remap in
    let marks = c.mark.new.marks in
    let are = still_marks m (class_uses x) c.in_ok-marks.marks marks c.in_ok-marks.ensures.marks c.mark.ensures in
    let marked = c.code_kept_law.ensures.marked (class_uses x) c.in_ok-marks.marks marks c.mark.ensures in
    let maps_to = subst (λ n. AllMapTo m n r) c.in_ok-kept.ensures.kept c.in_ok-kept.ensures.map in
    let remapped = c.code_kept_law.ensures.images m marks r (class_uses x) are maps_to marked in
    let places = c.members_cut_law.ensures r x.members c.in_ok-kept.ensures.down (subst NumbersFit c.members.ensures c.numbers_fit.ensures) (members_mapped r x remapped) in
    subst (ClassHasPlaces r) (sym c.in_ok-copy.ensures) places
