use Rattle.dexmembers.proofs.Common.{subst, arith, IsNumbering}
use Rattle.dexmembers.proofs.Owned.{field_owned}
use Rattle.dexmembers.proofs.encoded_lists.ClassReader.has_field.Goals as goal

pub returns-then-index-len : goal.returns-then-index-len
returns-then-index-len c =
    field_owned c.args.self.now.pools.now (subst IsNumbering c.numbering.ensures c.is_numbering.ensures) c.args.self.now.class c.args.index c.field.result.now.class c.ranges.index.fits (omega (arith, c.len.ensures, c.if-index-len.true)) (c.field.ensures _).class_is
