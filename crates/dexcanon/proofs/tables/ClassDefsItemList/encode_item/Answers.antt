use Rattle.dexcanon.proofs.Common.{◌<◌, length, sym, subst, ap, arith, rules, ◌∙◌, ranks_are_numbers, IsKnownClass, class_row}
use Rattle.dexcanon.proofs.Rows.{count_class_rows, class_row_at, name_small, superclass_small, source_small}
use Rattle.dexcanon.proofs.WholeFile.{texts_few}
use Rattle.dexcanon.proofs.tables.ClassDefsItemList.encode_item.Goals as goal
use Rattle.dexcanon.proofs.tables.ClassDefsItemList.encode_item.Goals.{After-index-classes-i}

-- the class is one of the file
within : (g : _) (c : After-index-classes-i g) → c.args.i < length c.args.contents.now.classes.now
within g c = omega (arith, c.requires.within, count_class_rows c.args.contents.now.numbering.now c.args.contents.now.classes.now)

-- its numbers are those of symbols
known : (g : _) (c : After-index-classes-i g) → IsKnownClass c.args.contents.now.numbering.now c.index-classes-i.result
known g c = subst (IsKnownClass c.args.contents.now.numbering.now) (sym c.index-classes-i.is) (c.requires.ready.writable.known c.args.i c.index-classes-i.result (within g c))

pub offset_bounds-classes-i : goal.offset_bounds-classes-i
offset_bounds-classes-i g c =
    let lt : c.args.i < length c.args.contents.now.classes.now = omega (arith, c.requires.within, count_class_rows c.args.contents.now.numbering.now c.args.contents.now.classes.now) in
    search rules

pub bounds-classes-i : goal.bounds-classes-i
bounds-classes-i g c = omega (arith, c.requires.within, count_class_rows c.args.contents.now.numbering.now c.args.contents.now.classes.now)

pub offsets_of-requires-clause-within : goal.offsets_of-requires-clause-within
offsets_of-requires-clause-within g c = within g (goal.at.offsets_of-requires-clause-within g c).After-index-classes-i

pub row_of-row-requires-clause-name : goal.row_of-row-requires-clause-name
row_of-row-requires-clause-name g c = name_small c.args.contents.now.numbering.now c.index-classes-i.result (known g (goal.at.row_of-row-requires-clause-name g c).After-index-classes-i) (omega (arith, c.requires.ready.writable.types_few))

pub row_of-row-requires-clause-superclass : goal.row_of-row-requires-clause-superclass
row_of-row-requires-clause-superclass g c = superclass_small c.args.contents.now.numbering.now c.index-classes-i.result (known g (goal.at.row_of-row-requires-clause-superclass g c).After-index-classes-i) (omega (arith, c.requires.ready.writable.types_few))

pub row_of-row-requires-clause-source : goal.row_of-row-requires-clause-source
row_of-row-requires-clause-source g c = source_small c.args.contents.now.numbering.now c.index-classes-i.result (known g (goal.at.row_of-row-requires-clause-source g c).After-index-classes-i) (texts_few c.args.contents.now.numbering.now c.args.contents.now.classes.now c.requires.ready.writable)

pub returns : goal.returns
returns g c =
    let m = c.args.contents.now.numbering.now in
    let here = (goal.at.returns g c).After-index-classes-i in
    let at = class_row_at m c.args.contents.now.classes.now c.args.i c.index-classes-i.result (ranks_are_numbers m c.requires.ready.writable.numbering.rising) (known g here) (within g here) c.index-classes-i.is in
    subst (λ bs. g.O.Output.gives bs c.args.out.now c.encode_numbers.new.out) ((c.row_of-row.ensures ∙ ap (class_row c.index-classes-i.result) c.offsets_of.ensures) ∙ sym at) c.encode_numbers.ensures
