use Rattle.dexmembers.proofs.Common.{◌++◌, map}
use Rattle.dexmembers.specs.internal.Naming.{NamesOnly}
use Rattle.dexmembers.proofs.naming.names_members.Given as goal

abbrev pub invariant-loop-i : goal.invariant-loop-i
invariant-loop-i g l = NamesOnly l.frame l.at l.i (map g.T.Encoded.index_of l.first ++ map g.T.Encoded.index_of l.second)
