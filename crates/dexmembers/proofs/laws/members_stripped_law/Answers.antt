use Rattle.dexmembers.proofs.StrippedMembers.{members_stripped, stripped_known, stripped_ordered, stripped_own, stripped_short_strings, stripped_tries}
use Rattle.dexmembers.proofs.laws.members_stripped_law.Goals as goal

pub returns-clause-same : goal.returns-clause-same
returns-clause-same c = members_stripped

pub returns-clause-known : goal.returns-clause-known
returns-clause-known c = stripped_known

pub returns-clause-ordered : goal.returns-clause-ordered
returns-clause-ordered c = stripped_ordered

pub returns-clause-own : goal.returns-clause-own
returns-clause-own c = stripped_own

pub returns-clause-short_strings : goal.returns-clause-short_strings
returns-clause-short_strings c = stripped_short_strings

pub returns-clause-tries : goal.returns-clause-tries
returns-clause-tries c = stripped_tries
