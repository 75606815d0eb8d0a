use Rattle.dexmerge.proofs.Common.{◌<◌, length, arith}
use Rattle.dexmerge.proofs.EqualCandidates.{equal_interfaces}
use Rattle.dexmerge.proofs.candidates.first_or_same.Goals as goal

pub returns-then-has_interfaces_of-clause-equal : goal.returns-then-has_interfaces_of-clause-equal
returns-then-has_interfaces_of-clause-equal c =
    let same = c.has_interfaces_of.ensures c.if-has_interfaces_of.true in
    let less : c.args.found < length c.args.candidates.now = omega (arith, c.if-found-i.true, c.requires.within) in
    equal_interfaces c.requires.parts.0 c.args.candidates.now c.requires.parts.1 c.args.i c.args.found c.index-candidates-i.result c.index-candidates-found.result c.requires.within less c.index-candidates-i.is c.index-candidates-found.is same.0 same.1
