use Rattle.dexlayout.proofs.Common.{sym, ap, subst, ◌∙◌, definitions, mentions, IsNumbering, AreWritable, IsLaid, file_end}
use Rattle.dexlayout.proofs.OwnFile.{writable, ordered_is, laid_same, length_canonical}
use Rattle.dexlayout.proofs.layout.Layout.of.Goals as goal

pub build_layout-requires : goal.build_layout-requires
build_layout-requires c =
    let w = writable c.args.program.now c.classes.result.now (subst IsNumbering c.numbering-numbering.ensures c.is_numbering.ensures) c.is_good.ensures.good c.is_good.ensures.formed c.fitting_size_law.ensures.canonical c.classes.ensures in
    subst (λ m. AreWritable m c.classes.result.now) (sym c.numbering-numbering.ensures) w

pub returns-clause-laid : goal.returns-clause-laid
returns-clause-laid c = λ cs of.
    let C = c.args.program.now in
    let here = c.classes.result.now in
    laid_same (mentions (definitions C)) here cs (ordered_is C here c.classes.ensures ∙ sym (ordered_is C cs of)) (subst (λ n. IsLaid n here c.in_ok-layout.layout) c.numbering-numbering.ensures c.in_ok-layout.ensures)

pub returns-clause-writable : goal.returns-clause-writable
returns-clause-writable c = λ cs of.
    (writable c.args.program.now cs (subst IsNumbering c.numbering-numbering.ensures c.is_numbering.ensures) c.is_good.ensures.good c.is_good.ensures.formed c.fitting_size_law.ensures.canonical of, ordered_is c.args.program.now cs of)

pub returns-in_err-layout-clause-writable : goal.returns-in_err-layout-clause-writable
returns-in_err-layout-clause-writable c = λ cs of.
    (writable c.args.program.now cs (subst IsNumbering c.numbering-numbering.ensures c.is_numbering.ensures) c.is_good.ensures.good c.is_good.ensures.formed c.fitting_size_law.ensures.canonical of, ordered_is c.args.program.now cs of)

pub returns-clause-len : goal.returns-clause-len
returns-clause-len c =
    let here = c.classes.result.now in
    (subst (λ n. IsLaid n here c.in_ok-layout.layout) c.numbering-numbering.ensures c.in_ok-layout.ensures).head_states.file_ends ∙ ap file_end (ordered_is c.args.program.now here c.classes.ensures) ∙ sym (length_canonical c.args.program.now)
