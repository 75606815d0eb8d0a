use Rattle.dexexamples.proofs.WholeMembers.{class_row, members}
use Rattle.dexexamples.proofs.accepted.class_row_with_members.Goals as goal

pub returns-clause-members : goal.returns-clause-members
returns-clause-members c = members

pub returns-clause-is : goal.returns-clause-is
returns-clause-is c = class_row
