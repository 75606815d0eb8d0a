use Rattle.dexpool.proofs.Common.{◌≡◌, ◌↔◌, ◌∙◌, sym, ap, subst, false≢true, Mentions, closed, symbols_in, AreMarksOf, AllMapTo, Maps, marked, MapsDown, MapsMarked, kept_places, kept_symbols, HaveAllMarks}
use Rattle.dexpool.proofs.KeptNumbers.{kept_down, kept_marked}
use Rattle.dexpool.proofs.KeptSymbols.{are_closed, closed_count, kept_mentioned, kept_mapped}
use Rattle.dexpool.proofs.KeptWhole.{whole_if_marked}
use Rattle.dexpool.proofs.numbering.Numbering.into_kept.Goals as goal
use Rattle.dexpool.proofs.numbering.Numbering.into_kept.Goals.{In_ok-closed}

-- there is a mark for each symbol of the tables
counted : (c : In_ok-closed) → AreMarksOf (symbols_in c.into_tables-tables.result) c.args.marks.now
counted c = subst (λ (m : Mentions). AreMarksOf m c.args.marks.now) (sym c.into_tables-tables.ensures.symbols) c.requires

-- the closed marks are all set just where every symbol is kept
whole : (c : In_ok-closed) → HaveAllMarks c.in_ok-closed.closed ↔ (closed (marked c.args.self c.args.marks.now) ≡ c.args.self)
whole c =
    subst (λ (m : Mentions). HaveAllMarks c.in_ok-closed.closed ↔ (closed (marked m c.args.marks.now) ≡ m)) c.into_tables-tables.ensures.symbols
    (whole_if_marked c.into_tables-tables.result c.into_tables-tables.ensures.tables c.args.marks.now (counted c) c.in_ok-closed.closed c.in_ok-closed.ensures)

-- what is kept is what the marked symbols mention
mentioned : (c : In_ok-closed) → closed (marked c.args.self c.args.marks.now) ≡ kept_symbols c.in_ok-closed.closed c.args.self
mentioned c =
    subst (λ (m : Mentions). closed (marked m c.args.marks.now) ≡ kept_symbols c.in_ok-closed.closed m) c.into_tables-tables.ensures.symbols
    (sym (kept_mentioned c.into_tables-tables.result c.into_tables-tables.ensures.tables c.args.marks.now (counted c) c.in_ok-closed.closed c.in_ok-closed.ensures))

pub returns-then-are_all-clause-kept : goal.returns-then-are_all-clause-kept
returns-then-are_all-clause-kept c = c.into_tables-tables.ensures.symbols ∙ sym ((whole (goal.at.returns-then-are_all-clause-kept c).In_ok-closed).0 (c.are_all.ensures.0 c.if-are_all.true))

pub marked_rows-rows-requires-clause-marks : goal.marked_rows-rows-requires-clause-marks
marked_rows-rows-requires-clause-marks c =
    closed_count c.into_tables-tables.result c.into_tables-tables.ensures.tables c.args.marks.now (counted ((goal.at.marked_rows-rows-requires-clause-marks c).In_ok-closed)) c.in_ok-closed.closed c.in_ok-closed.ensures

pub marked_rows-rows-requires-clause-closed : goal.marked_rows-rows-requires-clause-closed
marked_rows-rows-requires-clause-closed c =
    are_closed c.into_tables-tables.result c.into_tables-tables.ensures.tables c.args.marks.now (counted ((goal.at.marked_rows-rows-requires-clause-closed c).In_ok-closed)) c.in_ok-closed.closed c.in_ok-closed.ensures

pub renumbered-requires : goal.renumbered-requires
renumbered-requires c = (c.into_tables-tables.result, c.marked_rows-rows.ensures)

pub returns-clause-kept : goal.returns-clause-kept
returns-clause-kept c =
    (c.in_ok-tables.ensures c.into_tables-tables.result c.marked_rows-rows.ensures).symbols_are ∙ ap (kept_symbols c.in_ok-closed.closed) c.into_tables-tables.ensures.symbols ∙ sym (mentioned (goal.at.returns-clause-kept c).In_ok-closed)

pub returns-clause-less : goal.returns-clause-less
returns-clause-less c e =
    let k = (goal.at.returns-clause-less c).In_ok-closed in
    false≢true (sym c.if-are_all.false ∙ c.are_all.ensures.1 ((whole k).1 (mentioned k ∙ sym ((c.in_ok-tables.ensures c.into_tables-tables.result c.marked_rows-rows.ensures).symbols_are ∙ ap (kept_symbols c.in_ok-closed.closed) c.into_tables-tables.ensures.symbols) ∙ e)))

pub returns-clause-map : goal.returns-clause-map
returns-clause-map c =
    let t = c.into_tables-tables.result in
    let k = (c.in_ok-tables.ensures c.into_tables-tables.result c.marked_rows-rows.ensures) in
    let there = subst (λ (m : Mentions). AllMapTo (symbols_in t) m (kept_places c.in_ok-closed.closed)) (sym k.symbols_are) (kept_mapped t c.into_tables-tables.ensures.tables c.args.marks.now (counted (goal.at.returns-clause-map c).In_ok-closed) c.in_ok-closed.closed c.in_ok-closed.ensures) in
    let maps = subst (λ (r : Maps). AllMapTo (symbols_in t) (symbols_in c.in_ok-tables.tables) r) (sym k.maps_are) there in
    subst (λ (m : Mentions). AllMapTo m (symbols_in c.in_ok-tables.tables) c.in_ok-tables.remap) c.into_tables-tables.ensures.symbols maps

pub returns-clause-marked : goal.returns-clause-marked
returns-clause-marked c = subst (MapsMarked c.args.marks.now) (sym (c.in_ok-tables.ensures c.into_tables-tables.result c.marked_rows-rows.ensures).maps_are) (kept_marked c.into_tables-tables.result c.args.marks.now c.in_ok-closed.closed c.in_ok-closed.ensures)

pub returns-clause-down : goal.returns-clause-down
returns-clause-down c = subst MapsDown (sym (c.in_ok-tables.ensures c.into_tables-tables.result c.marked_rows-rows.ensures).maps_are) (kept_down c.in_ok-closed.closed)
