use Rattle.dexexamples.proofs.WholeRows.{string_0, string_1, type_0, type_1, strings, types, protos, fields, methods}
use Rattle.dexexamples.proofs.accepted.rows.Goals as goal

pub returns-clause-first_string : goal.returns-clause-first_string
returns-clause-first_string c = string_0

pub returns-clause-second_string : goal.returns-clause-second_string
returns-clause-second_string c = string_1

pub returns-clause-first_type : goal.returns-clause-first_type
returns-clause-first_type c = type_0

pub returns-clause-second_type : goal.returns-clause-second_type
returns-clause-second_type c = type_1

pub returns-clause-strings : goal.returns-clause-strings
returns-clause-strings c = strings

pub returns-clause-types : goal.returns-clause-types
returns-clause-types c = types

pub returns-clause-protos : goal.returns-clause-protos
returns-clause-protos c = protos

pub returns-clause-fields : goal.returns-clause-fields
returns-clause-fields c = fields

pub returns-clause-methods : goal.returns-clause-methods
returns-clause-methods c = methods
