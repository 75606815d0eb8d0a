use Rattle.dexmembers.proofs.Common.{map, Contains-append_right}
use Rattle.dexmembers.proofs.naming.declares_member.Goals as goal

pub returns-else-has_member-clause-listed : goal.returns-else-has_member-clause-listed
returns-else-has_member-clause-listed g c = λ e. Contains-append_right (map g.T.Encoded.index_of c.args.first.now) (map g.T.Encoded.index_of c.args.second.now) c.args.index (c.has_member-else-has_member.ensures.listed e)
