use Rattle.dexpool.proofs.Common.{map, take, length, All, AllZip, AreSorted, method_of, method_key, IsMethodWithin, Denote}
use Rattle.dexpool.proofs.joined_tables.LowerJoined.join_methods.Given as goal

abbrev pub invariant-loop-i : goal.invariant-loop-i
invariant-loop-i l = record {
  are_encoded : AllZip (λ part rows. Denote (method_of l.self.strings.now.rows.items l.self.types.now.rows.items l.protos.table.parameters.items l.protos.table.rows.items) (IsMethodWithin (length l.self.strings.now.rows.items) (length l.self.types.now.rows.items) (length l.protos.table.rows.items)) part.methods rows) (map (λ part. part.now) (take l.i l.self.parts.now)) (map (λ rows. rows.items) l.rows.items);
  sorted : All (λ rows. AreSorted method_key rows.items) l.rows.items;
}
