use Rattle.dexpool.proofs.Common.{Bool, List, refl, ap, ◌∙◌, kept}
use Rattle.dexpool.proofs.kept_tables.marked_rows.Goals as goal

pub returns : goal.returns
returns c =
    record {
      tables = c.requires.tables;
      counted = c.requires.marks;
      closed = c.requires.closed;
      strings_are = c.marked.ensures ∙ ap (λ (ms : List Bool). kept ms c.args.tables.strings.items) c.deref.ensures.value;
      types_are = c.marked-2.ensures ∙ ap (λ (ms : List Bool). kept ms c.args.tables.types.items) c.deref-2.ensures.value;
      protos_are = c.marked-3.ensures ∙ ap (λ (ms : List Bool). kept ms c.args.tables.protos.items) c.deref-3.ensures.value;
      parameters_are = refl;
      fields_are = c.marked-4.ensures ∙ ap (λ (ms : List Bool). kept ms c.args.tables.fields.items) c.deref-4.ensures.value;
      methods_are = c.marked-5.ensures ∙ ap (λ (ms : List Bool). kept ms c.args.tables.methods.items) c.deref-5.ensures.value;
    }
