use Rattle.dexmembers.proofs.Common.{subst, arith, IsNumbering}
use Rattle.dexmembers.proofs.Owned.{method_owned}
use Rattle.dexmembers.proofs.encoded_lists.ClassReader.has_method.Goals as goal

pub returns-then-index-len : goal.returns-then-index-len
returns-then-index-len c =
    method_owned c.args.self.now.pools.now (subst IsNumbering c.numbering.ensures c.is_numbering.ensures) c.args.self.now.class c.args.index c.method.result.now.class c.ranges.index.fits (omega (arith, c.len.ensures, c.if-index-len.true)) (c.method.ensures _).class_is
