use Rattle.dexpool.proofs.Common.{◌∙◌, kept}
use Rattle.dexpool.proofs.kept_tables.marked_copies.Goals as goal

pub returns : goal.returns
returns c = record {
  tables = c.requires.tables;
  counted = c.requires.marks;
  closed = c.requires.closed;
  strings_are = c.in_ok-marked_copy.ensures ∙ (λ i. kept (c.deref-2.ensures.value i) (c.deref.ensures.value i));
  types_are = c.marked.ensures ∙ (λ i. kept (c.deref-4.ensures.value i) ((c.in_ok-from_slice.ensures.items ∙ c.deref-3.ensures.value) i));
  protos_are = c.marked-2.ensures ∙ (λ i. kept (c.deref-6.ensures.value i) ((c.in_ok-from_slice-2.ensures.items ∙ c.deref-5.ensures.value) i));
  parameters_are = c.in_ok-copy.ensures;
  fields_are = c.in_ok-marked_copy-2.ensures ∙ (λ i. kept (c.deref-8.ensures.value i) (c.deref-7.ensures.value i));
  methods_are = c.in_ok-marked_copy-3.ensures ∙ (λ i. kept (c.deref-10.ensures.value i) (c.deref-9.ensures.value i));
}
