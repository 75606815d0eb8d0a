use Rattle.dexpool.proofs.Common.{◌∙◌, sym, ap, subst, Mentions, closed, symbols_in, AreMarksOf, AllMapTo, Maps, marked, MapsDown, MapsMarked, kept_places}
use Rattle.dexpool.proofs.KeptNumbers.{kept_down, kept_marked}
use Rattle.dexpool.proofs.KeptSymbols.{are_closed, closed_count, kept_mentioned, kept_mapped}
use Rattle.dexpool.proofs.numbering.Numbering.keep.Goals as goal

pub marked_copies-requires-clause-marks : goal.marked_copies-requires-clause-marks
marked_copies-requires-clause-marks c =
    closed_count c.tables-tables.result.now c.tables-tables.ensures.tables c.args.marks.now (subst (λ (m : Mentions). AreMarksOf m c.args.marks.now) (sym c.tables-tables.ensures.symbols) c.requires) c.in_ok-marks.marks c.in_ok-marks.ensures

pub marked_copies-requires-clause-closed : goal.marked_copies-requires-clause-closed
marked_copies-requires-clause-closed c =
    are_closed c.tables-tables.result.now c.tables-tables.ensures.tables c.args.marks.now (subst (λ (m : Mentions). AreMarksOf m c.args.marks.now) (sym c.tables-tables.ensures.symbols) c.requires) c.in_ok-marks.marks c.in_ok-marks.ensures

pub renumbered-requires : goal.renumbered-requires
renumbered-requires c = (c.tables-tables.result.now, c.in_ok-rows.ensures)

pub returns : goal.returns
returns c = record {
  kept =
      let marks = c.args.marks.now in
      (c.in_ok-tables.ensures c.tables-tables.result.now c.in_ok-rows.ensures).symbols_are ∙ kept_mentioned c.tables-tables.result.now c.tables-tables.ensures.tables marks (subst (λ (m : Mentions). AreMarksOf m marks) (sym c.tables-tables.ensures.symbols) c.requires) c.in_ok-marks.marks c.in_ok-marks.ensures
      ∙ ap (λ (m : Mentions). closed (marked m marks)) c.tables-tables.ensures.symbols;
  map =
      let k = (c.in_ok-tables.ensures c.tables-tables.result.now c.in_ok-rows.ensures) in
      let are_mapped = kept_mapped c.tables-tables.result.now c.tables-tables.ensures.tables c.args.marks.now (subst (λ (m : Mentions). AreMarksOf m c.args.marks.now) (sym c.tables-tables.ensures.symbols) c.requires) c.in_ok-marks.marks c.in_ok-marks.ensures in
      let there = subst (λ (m : Mentions). AllMapTo (symbols_in c.tables-tables.result.now) m (kept_places c.in_ok-marks.marks)) (sym k.symbols_are) are_mapped in
      let maps = subst (λ (r : Maps). AllMapTo (symbols_in c.tables-tables.result.now) (symbols_in c.in_ok-tables.tables) r) (sym k.maps_are) there in
      subst (λ (m : Mentions). AllMapTo m (symbols_in c.in_ok-tables.tables) c.in_ok-tables.remap) c.tables-tables.ensures.symbols maps;
  marked = subst (MapsMarked c.args.marks.now) (sym (c.in_ok-tables.ensures c.tables-tables.result.now c.in_ok-rows.ensures).maps_are) (kept_marked c.tables-tables.result.now c.args.marks.now c.in_ok-marks.marks c.in_ok-marks.ensures);
  down = subst MapsDown (sym (c.in_ok-tables.ensures c.tables-tables.result.now c.in_ok-rows.ensures).maps_are) (kept_down c.in_ok-marks.marks);
}
