use Rattle.dexpool.proofs.Common.{◌≡◌, map, take, All, AllZip, AreSorted, numbers_in, HasSpans, Denote, proto_of_row, IsRowOf}
use Rattle.dexpool.specs.internal.Joining.{proto_key}
use Rattle.dexpool.proofs.joined_tables.LowerJoined.join_protos.Given as goal

abbrev pub invariant-loop-i : goal.invariant-loop-i
invariant-loop-i l = record {
  spans : All HasSpans l.tables.items;
  sorted : All (λ table. AreSorted proto_key (numbers_in table)) l.tables.items;
  rows : AllZip (λ part rows. Denote (proto_of_row l.self.strings.now.rows.items l.self.types.now.rows.items) (IsRowOf l.self.strings.now.rows.items l.self.types.now.rows.items) part.protos rows) (map (λ part. part.now) (take l.i l.self.parts.now)) (map numbers_in l.tables.items);
}

abbrev pub invariant-loop-table : goal.invariant-loop-table
invariant-loop-table l = map (λ table. table.items) l.rows.items ≡ map numbers_in (take l.table-index l.table-items)
