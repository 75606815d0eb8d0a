use Rattle.dexhead.proofs.Common.{sym, ◌∙◌, meant, entries}
use Rattle.dexhead.proofs.Entries.{length-entries, empty_table}
use Rattle.dexhead.proofs.map.Map.has_table.Goals as goal

pub returns-in-0 : goal.returns-in-0
returns-in-0 c = empty_table (entries c.args.self.now) (meant c.args.table) c.args.self.now.count c.code.result c.lacks.result
    (sym (length-entries c.args.self.now)) (sym c.table_size.ensures ∙ c.in-0.is) c.code.ensures c.lacks.ensures
