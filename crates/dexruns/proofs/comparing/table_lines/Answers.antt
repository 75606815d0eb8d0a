use Rattle.dexruns.proofs.Common.{◌≡◌, [], map}
use Rattle.std.specs.Map.Iter.{deref_pair}
use Rattle.std.proofs.lemmas.Map.Iter.{rest_all}
use Rattle.dexspec.specs.Texts.{Text}
use Rattle.dexruns.specs.declared.copies.Copies.{Copies}
use Rattle.dexruns.specs.Comparisons.{comparison_lines}
use Rattle.dexruns.specs.internal.CopyTables.{copies_list}
use Rattle.dexruns.proofs.CopyTables.{table_is, printed_all}
use Rattle.dexruns.proofs.comparing.table_lines.Goals as goal

pub returns : goal.returns
returns c = λ Ks holds.
    let m = c.args.table.now.classes in
    let lines_of = comparison_lines c.args.comparison (map (λ file. file.now) c.args.files.now) in
    let given = c.into_iter-name-iterator.ensures.into_iter_gives in
    let end : c.loop-name.name-iterator ≡ [] = rest_all deref_pair _ _ _ c.in-None.is c.next.ensures.steps in
    table_is Ks m lines_of _ given.5 given.6 holds (printed_all (λ (e : Text × Copies). lines_of e.0 (copies_list e.1)) _ c.loop-name.name-iterator m.entries end c.loop-name.invariant.printed)
