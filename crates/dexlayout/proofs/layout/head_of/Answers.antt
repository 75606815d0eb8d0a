use Rattle.dexlayout.proofs.Common.{◌-◌, ap, ◌∙◌, slice_index, ItemPlaces}
use Rattle.dexlayout.proofs.layout.head_of.Goals as goal

pub returns-clause-reports : goal.returns-clause-reports
returns-clause-reports c = λ K t laid.
    let size = c.end-file_size.ensures ∙ ap (λ (q : ItemPlaces). q.end) c.places.ensures in
    record {
      tables = record { rows = c.rows.ensures K t; data_begins = t.end_is; data_ends = ap (λ n. c.end-file_size.result - n) t.end_is };
      map_begins = ap (λ offs. slice_index offs 0) (c.offsets.ensures ∙ ap (λ (q : ItemPlaces). q.offsets) c.places-2.ensures ∙ laid.offsets_are);
      file_ends = size ∙ laid.end_is;
    }
