use Rattle.dexlayout.proofs.Common.{ℕ, List, length, arith, ap, sym, subst, ◌∙◌, IsMap, ordered_of, ItemPlaces, placed_map}
use Rattle.dexlayout.proofs.Ends.{end_in_file}
use Rattle.dexlayout.proofs.OwnFile.{data_before, map_laid}
use Rattle.dexlayout.proofs.layout.build_layout.Goals as goal
use Rattle.dexlayout.proofs.layout.build_layout.Goals.{After-entries, In_ok-map}

pub entries-sections-requires : goal.entries-sections-requires
entries-sections-requires c = (c.args.classes.now, c.requires, c.in_ok-placed.ensures, c.of-tables.ensures.end_is)

-- the map is laid out after the sections
laid : (c : After-entries) → IsMap c.args.numbering.now c.args.classes.now (placed_map c.entries.result c.entries-sections.result c.end-data_end.result)
laid c =
    map_laid c.args.numbering.now c.args.classes.now c.entries.result c.entries-sections.result c.end-data_end.result
    (c.entries.ensures (ordered_of c.args.numbering.now c.args.classes.now) c.of-tables.ensures) (c.entries-sections.ensures c.args.classes.now c.requires c.in_ok-placed.ensures c.of-tables.ensures.end_is)
    (c.end-data_end.ensures ∙ ap (λ (q : ItemPlaces). q.end) c.places.ensures ∙ c.in_ok-placed.ensures.back_are.directories_are.places_are.end_is)

pub place_map-requires-clause-fits : goal.place_map-requires-clause-fits
place_map-requires-clause-fits c = omega (arith, (laid ((goal.at.place_map-requires-clause-fits c).After-entries)).places_are.end_is, (end_in_file (ordered_of c.args.numbering.now c.args.classes.now) c.requires.fits).file)

-- so is what was built
built : (c : In_ok-map) → IsMap c.args.numbering.now c.args.classes.now (placed_map c.entries.result c.entries-sections.result c.end-data_end.result) → IsMap c.args.numbering.now c.args.classes.now c.in_ok-map.map
built c is = subst (IsMap c.args.numbering.now c.args.classes.now) (sym c.in_ok-map.ensures) is

pub head_of-head-requires-clause-one : goal.head_of-head-requires-clause-one
head_of-head-requires-clause-one c = ap (λ (l : List ℕ). length l) (built (goal.at.head_of-head-requires-clause-one c).In_ok-map (laid (goal.at.head_of-head-requires-clause-one c).After-entries)).places_are.offsets_are

pub head_of-head-requires-clause-following : goal.head_of-head-requires-clause-following
head_of-head-requires-clause-following c =
    omega (arith, c.of-tables.ensures.end_is, (built (goal.at.head_of-head-requires-clause-following c).In_ok-map (laid (goal.at.head_of-head-requires-clause-following c).After-entries)).places_are.end_is, data_before (ordered_of c.args.numbering.now c.args.classes.now))

pub returns : goal.returns
returns c =
    let is = built (goal.at.returns c).In_ok-map (laid (goal.at.returns c).After-entries) in
    let d = c.in_ok-placed.ensures in
    record {
      head_states = c.head_of-head.ensures.reports (ordered_of c.args.numbering.now c.args.classes.now) c.of-tables.ensures is.places_are;
      signature_length = c.head_of-head.ensures.signature;
      type_lists_are = d.first_sections_are.type_lists_are;
      annotations_are = d.first_sections_are.annotations_are;
      static_values_are = d.first_sections_are.static_values_are;
      strings_are = d.first_sections_are.strings_are;
      debugs_are = d.bodies_are.debugs_are;
      codes_are = d.bodies_are.codes_are;
      class_data_are = d.bodies_are.class_data_are;
      sets_are = d.back_are.sets_are;
      ref_lists_are = d.back_are.ref_lists_are;
      directories_are = d.back_are.directories_are;
      map_is = is;
    }
