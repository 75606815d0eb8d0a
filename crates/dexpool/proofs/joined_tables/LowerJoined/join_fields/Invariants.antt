use Rattle.dexpool.proofs.Common.{map, take, length, All, AllZip, AreSorted, field_of, field_key, IsFieldWithin, Denote}
use Rattle.dexpool.proofs.joined_tables.LowerJoined.join_fields.Given as goal

abbrev pub invariant-loop-i : goal.invariant-loop-i
invariant-loop-i l = record {
  are_encoded : AllZip (λ part rows. Denote (field_of l.self.strings.now.rows.items l.self.types.now.rows.items) (IsFieldWithin (length l.self.strings.now.rows.items) (length l.self.types.now.rows.items)) part.fields rows) (map (λ part. part.now) (take l.i l.self.parts.now)) (map (λ rows. rows.items) l.rows.items);
  sorted : All (λ rows. AreSorted field_key rows.items) l.rows.items;
}
