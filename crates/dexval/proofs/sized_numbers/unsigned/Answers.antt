use Rattle.dexval.proofs.Spelled.{number_is, number_room}
use Rattle.dexval.proofs.sized_numbers.unsigned.Goals as goal

pub returns-clause-room : goal.returns-clause-room
returns-clause-room c = λ n le. rw (c.read_uint.ensures, number_is c.args.bytes.now) (number_room c.args.bytes.now n (λ i. (c.type_inv.bytes i).fits) le)
