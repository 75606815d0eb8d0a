use Rattle.dexids.proofs.Common.{◌∙◌, ℕ, List, sym, ap, subst, file_numbers, AreRead}
use Rattle.dexids.proofs.ReadTables.{all_read}
use Rattle.dexids.proofs.tables.read_tables.Goals as goal

pub read_rows-requires-clause-file : goal.read_rows-requires-clause-file
read_rows-requires-clause-file c = c.of_file-parameters.ensures ∙ ap file_numbers c.bytes-2.ensures.bytes

are_read : (c : goal.In_ok-protos) → AreRead c.args.frame.now c.in_ok-strings.strings.items c.in_ok-types.types.items c.of_file-parameters.result c.in_ok-protos.protos.items c.in_ok-protos.fields.items c.in_ok-protos.methods.items
are_read c =
    let read = all_read c.args.frame.now c.in_ok-strings.strings.items c.deref.result.now c.deref-2.result.now c.in_ok-types.types.items c.deref-3.result.now
    (file_numbers c.args.frame.now) c.in_ok-protos.protos.items c.in_ok-protos.fields.items c.in_ok-protos.methods.items
    c.checked.ensures c.in_ok-strings.ensures.ok c.in_ok-types.ensures.ok c.in_ok-protos.ensures.protos c.in_ok-protos.ensures.fields c.in_ok-protos.ensures.methods
    c.deref.ensures.value c.deref-2.ensures.value c.deref-3.ensures.value in
    subst (λ (ps : List ℕ). AreRead c.args.frame.now c.in_ok-strings.strings.items c.in_ok-types.types.items ps c.in_ok-protos.protos.items c.in_ok-protos.fields.items c.in_ok-protos.methods.items) (sym (c.of_file-parameters.ensures ∙ ap file_numbers c.bytes-2.ensures.bytes)) read

pub returns-clause-rows : goal.returns-clause-rows
returns-clause-rows c = are_read c
