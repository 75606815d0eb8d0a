use Rattle.std.proofs.Common.{◌^◌, ◌<◌, drop, sym, ◌∙◌, arith}
use Rattle.dexspec.specs.Numbers.{sum_of_groups}
use Rattle.dexleb.proofs.Reading.{number_in_range, number_out_of_range, from_place}
use Rattle.dexleb.proofs.read.read_u.Goals as goal

pub returns-in-Ok : goal.returns-in-Ok
returns-in-Ok c =
    let first = rw from_place at c.in_ok-sum.ensures.first in
    number_in_range sum_of_groups (λ v. v < 2 ^ 32) (drop c.args.at c.args.b.now) c.in_ok-sum.sum c.in_ok-sum.len c.in-Ok.value first (first.value ∙ sym c.in-Ok.ensures.1) (omega arith)

pub returns-in-Err : goal.returns-in-Err
returns-in-Err c =
    let first = rw from_place at c.in_ok-sum.ensures.first in
    number_out_of_range sum_of_groups (λ v. v < 2 ^ 32) (drop c.args.at c.args.b.now) c.in_ok-sum.sum c.in_ok-sum.len first (λ lt. c.in-Err.ensures (omega (arith, first.value, lt)))
