use Rattle.std.proofs.Common.{◌≡◌, drop, sym, subst, ◌∙◌, arith, to_z, of_z}
use Rattle.std.specs.Prelude.{FitsSigned, ℤ}
use Rattle.std.specs.Int.{w32}
use Rattle.std.proofs.lemmas.Int.{ints}
use Rattle.dexspec.specs.Numbers.{signed_sum}
use Rattle.dexleb.proofs.Reading.{number_in_range, number_out_of_range, from_place}
use Rattle.dexleb.proofs.read.read_s.Goals as goal

pub returns-in-Ok : goal.returns-in-Ok
returns-in-Ok c =
    let first = rw from_place at c.in_ok-sum.ensures.first in
    let sign = rw from_place at c.with_sign.ensures in
    let same : c.with_sign.result ≡ to_z w32 (of_z w32 c.in-Ok.value) = omega (arith, ints, c.in-Ok.ensures) in
    number_in_range signed_sum (FitsSigned w32) (drop c.args.at c.args.b.now) c.in_ok-sum.sum c.in_ok-sum.len _ first
    (sym sign ∙ same) (omega (arith, ints, c.in-Ok.ensures))

pub returns-in-Err : goal.returns-in-Err
returns-in-Err c =
    let first = rw from_place at c.in_ok-sum.ensures.first in
    let sign = rw from_place at c.with_sign.ensures in
    let wide : FitsSigned w32 c.with_sign.result → ⊥ = λ fits. c.in-Err.ensures (omega (arith, ints)) in
    number_out_of_range signed_sum (FitsSigned w32) (drop c.args.at c.args.b.now) c.in_ok-sum.sum c.in_ok-sum.len first
    (subst (λ (z : ℤ). ¬ FitsSigned w32 z) sign wide)
