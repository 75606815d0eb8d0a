use Rattle.dexorder.proofs.ByType.{first_parent_from, no_parent_from}
use Rattle.dexorder.proofs.depths.next_parent.Goals as goal

pub returns-in_err-found : goal.returns-in_err-found
returns-in_err-found g c = rw c.from_residual.ensures (no_parent_from c.args.by_type.now (g.C.HasParents.superclass_of c.args.class.now) (g.C.HasParents.interfaces_of c.args.class.now) c.args.place c.in_err-found.ensures)

pub returns : goal.returns
returns g c = first_parent_from c.args.by_type.now (g.C.HasParents.superclass_of c.args.class.now) (g.C.HasParents.interfaces_of c.args.class.now) c.args.place c.in_ok-found.found c.in_ok-found.ensures
