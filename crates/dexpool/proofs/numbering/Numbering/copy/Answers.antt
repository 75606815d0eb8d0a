use Rattle.dexpool.proofs.Common.{◌≡◌, sym, ◌∙◌, rules, Tables}
use Rattle.dexpool.proofs.SameTables.{HaveSameRows, same_symbols, same_tables}
use Rattle.dexpool.proofs.numbering.Numbering.copy.Goals as goal

abbrev copies : (c : goal.In_ok-from_slice-4) → Tables
copies c = record {
  strings = c.in_ok-collect.field-0;
  types = c.in_ok-from_slice.field-0;
  protos = c.in_ok-from_slice-2.field-0;
  parameters = c.in_ok-copy.field-0;
  fields = c.in_ok-from_slice-3.field-0;
  methods = c.in_ok-from_slice-4.field-0;
}

texts_same : (c : goal.In_ok-from_slice-4) → c.in_ok-collect.field-0.items ≡ c.deref.result.now
texts_same c = search rules

same_rows : (c : goal.In_ok-from_slice-4) → HaveSameRows c.self.inside.tables (copies c)
same_rows c = record {
  strings = sym (texts_same c ∙ c.deref.ensures.value);
  types = sym (c.in_ok-from_slice.ensures.items ∙ c.deref-2.ensures.value);
  protos = sym (c.in_ok-from_slice-2.ensures.items ∙ c.deref-3.ensures.value);
  parameters = sym (c.in_ok-copy.ensures);
  fields = sym (c.in_ok-from_slice-3.ensures.items ∙ c.deref-4.ensures.value);
  methods = sym (c.in_ok-from_slice-4.ensures.items ∙ c.deref-5.ensures.value);
}

pub invariant_of-result : goal.invariant_of-result
invariant_of-result c = same_tables c.self.inside.tables (copies c) (same_rows c) c.self.invariant

pub returns : goal.returns
returns c = sym (same_symbols c.self.inside.tables (copies c) (same_rows c)) ∙ c.self.view_is
