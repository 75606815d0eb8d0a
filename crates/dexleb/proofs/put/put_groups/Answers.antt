use Rattle.std.proofs.Common.{arith, rules}
use Rattle.dexspec.specs.Numbers.{groups}
use Rattle.dexleb.proofs.Groups.{one_more, fits_one_more}
use Rattle.dexleb.proofs.put.put_groups.Goals as goal

pub loop-i-preserved : goal.loop-i-preserved
loop-i-preserved c = record {
  len = search rules;
  written = one_more c.loop-i.bytes (groups c.args.len c.args.value) c.loop-i.i c.args.len c.loop-i.rest (omega arith) (omega arith) c.loop-i.invariant.written;
  fits = fits_one_more c.loop-i.rest c.args.len c.loop-i.i (omega arith) c.loop-i.invariant.fits;
}
