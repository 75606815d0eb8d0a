use Rattle.dexmembers.proofs.Common.{◌≡◌, ◌==◌, not, arith, rules}
use Rattle.std.specs.Prelude.{count_by}
use Rattle.dexmembers.proofs.PairsMerged.{placed_counted, placed_few}
use Rattle.dexmembers.proofs.directory_put.placed.Goals as goal

pub returns-clause-is : goal.returns-clause-is
returns-clause-is c =
    let counted : c.count.result ≡ count_by (λ o. not (o == 0)) c.args.offsets.now = search rules in
    omega (arith, counted, placed_counted c.args.offsets.now)

pub returns-clause-few : goal.returns-clause-few
returns-clause-few c =
    let counted : c.count.result ≡ count_by (λ o. not (o == 0)) c.args.offsets.now = search rules in
    omega (arith, counted, placed_counted c.args.offsets.now, placed_few c.args.offsets.now)
