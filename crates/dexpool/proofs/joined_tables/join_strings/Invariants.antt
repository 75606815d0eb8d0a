use Rattle.dexpool.proofs.Common.{◌≡◌, map, take, All, IsNumbering}
use Rattle.dexpool.proofs.joined_tables.join_strings.Given as goal

abbrev pub invariant-loop-part : goal.invariant-loop-part
invariant-loop-part l = record { seen : map (λ texts. texts.items) l.rows.items ≡ map (λ part. part.now.texts) (take l.part-index l.parts); numberings : All IsNumbering (map (λ part. part.now) (take l.part-index l.parts)) }
