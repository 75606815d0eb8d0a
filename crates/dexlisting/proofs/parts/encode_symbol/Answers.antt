use Rattle.std.proofs.Common.{rules}
use Rattle.dexlisting.proofs.parts.encode_symbol.Goals as goal

pub returns-in-Text : goal.returns-in-Text
returns-in-Text g c = rw c.in-Text.is (search rules)

pub returns-in-Typ : goal.returns-in-Typ
returns-in-Typ g c = rw c.in-Typ.is (search rules)

pub returns-in-Proto : goal.returns-in-Proto
returns-in-Proto g c = rw c.in-Proto.is (search rules)

pub returns-in-Field : goal.returns-in-Field
returns-in-Field g c = rw c.in-Field.is (search rules)

pub returns-in-Method : goal.returns-in-Method
returns-in-Method g c = rw c.in-Method.is (search rules)
