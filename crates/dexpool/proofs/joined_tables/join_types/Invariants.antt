use Rattle.dexpool.proofs.Common.{◌<◌, [], ◌∷◌, map, take, length, All, AllZip, AreSorted, text_of, Denote}
use Rattle.dexpool.proofs.joined_tables.join_types.Given as goal

abbrev pub invariant-loop-i : goal.invariant-loop-i
invariant-loop-i l = record {
  are_encoded : AllZip (λ part rows. Denote (λ row. text_of l.strings.rows.items row.descriptor) (λ row. row.descriptor < length l.strings.rows.items) part.types rows) (map (λ part. part.now) (take l.i l.parts)) (map (λ rows. rows.items) l.rows.items);
  sorted : All (λ rows. AreSorted (λ row. row.descriptor ∷ []) rows.items) l.rows.items;
}
