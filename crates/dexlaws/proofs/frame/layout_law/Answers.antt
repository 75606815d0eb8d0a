use Rattle.dexspec.proofs.Common.{ℕ, List, get_or, sym, ap, subst, ◌∙◌, ◌%◌, All, All-from_recursion, All-contains}
use Rattle.dexspec.specs.Bytes.{BytesAt}
use Rattle.dexspec.specs.Header.{ClassDefs}
use Rattle.dexspec.specs.Rows.{row_at}
use Rattle.dexspec.specs.Placing.{Ordered, end}
use Rattle.dexspec.specs.Canonical.{map_of, map_bytes, class_row_bytes, data_sections, directory_section}
use Rattle.dexspec.proofs.layout.Places.{round_up_four}
use Rattle.dexspec.proofs.layout.SectionPlaces.{Laid, laid, SectionIsAt, class_at, map_place, map_place_is, map_list_named}
use Rattle.dexlaws.specs.{HasFields, HasRows, HasItems, BytesAligned}
use Rattle.dexlaws.proofs.frame.layout_law.Goals as goal

-- the header's fields
fields : {K : Ordered} {b : List ℕ} → Laid K b → HasFields K b
fields {K} h = record {
  file = h.file;
  tables = h.count;
  data_begins = h.data_from;
  data_ends = h.data_to;
  map_begins = h.map_from ∙ map_place_is K;
}

-- the rows
rows : {K : Ordered} {b : List ℕ} → Laid K b → HasRows K b
rows {K} {b} h = record {
  strings = h.string_row;
  types = h.type_row;
  protos = h.proto_row;
  fields = h.field_row;
  methods = h.method_row;
  classes = λ r d e lt. subst (λ offs. BytesAt b (row_at b ClassDefs r) (class_row_bytes K.pools (get_or K.classes r d) offs)) (sym (class_at K r e lt)) (h.class_row r d lt);
}

-- the items of each section
sections : {K : Ordered} {b : List ℕ} → Laid K b → All (SectionIsAt b) (data_sections K)
sections {K} {b} h = All-from_recursion (SectionIsAt b) (data_sections K)
    (h.type_lists, (h.annotations, (h.arrays, (h.strings, (h.debugs, (h.codes, (h.class_data, (h.sets, (h.ref_lists, (h.directories, tt))))))))))

-- items and map
items : {K : Ordered} {b : List ℕ} → Laid K b → HasItems K b
items {K} {b} h = record {
  items = λ p c i d lt.
      let item = All-contains (SectionIsAt b) (data_sections K) p (sections h) c i d lt in
      record { encodes = item.encodes; in_data = item.in_data; multiple = item.multiple };
  map_list = subst (λ o. BytesAligned b 4 o (map_bytes (map_of K o))) (sym h.map_from)
      (subst (λ es. BytesAligned b 4 (map_place K) (map_bytes es)) (map_list_named K) (record { encodes = h.entries; in_data = h.map_in_data; multiple = ap (λ n. n % 4) (map_place_is K) ∙ round_up_four (end (directory_section K)) }));
}

pub returns : goal.returns
returns c = record { fields = λ K small. fields (laid K small); rows = λ K small. rows (laid K small); items = λ K small. items (laid K small) }
