use Rattle.std.proofs.Common.{◌≡◌, ◌-◌, take, false, arith, rules, refl, drop, set, subst}
use Rattle.std.specs.Fmt.{digits}
use Rattle.dexout.proofs.Hexadecimal.{none_yet, one_more, all_digits, has_place, fits_less}
use Rattle.dexout.proofs.numbers.encode_hexadecimal.Goals as goal

pub loop-rest-init : goal.loop-rest-init
loop-rest-init g c = record { len = refl; place = omega arith; written = none_yet c.args.number; fits = omega arith }

pub overflow_sub-start-in-loop-rest : goal.overflow_sub-start-in-loop-rest
overflow_sub-start-in-loop-rest g c = has_place c.loop-rest.start c.loop-rest.rest (omega arith) c.loop-rest.invariant.fits

pub loop-rest-preserved : goal.loop-rest-preserved
loop-rest-preserved g c =
    let above = has_place c.loop-rest.start c.loop-rest.rest (omega arith) c.loop-rest.invariant.fits in
    record {
      len = search rules;
      place = omega arith;
      written = one_more c.loop-rest.digits (digits 16 false c.args.number) c.loop-rest.start c.loop-rest.rest c.digit.result c.digit.ensures above (omega arith) (omega arith) c.loop-rest.invariant.written;
      fits = fits_less c.loop-rest.start c.loop-rest.rest above c.loop-rest.invariant.fits;
    }

pub returns : goal.returns
returns g c =
    let shown : take (8 - c.loop-rest.start) (drop c.loop-rest.start (set c.loop-rest.digits c.loop-rest.start c.digit-2.result)) ≡ digits 16 false c.args.number =
    all_digits c.loop-rest.digits (digits 16 false c.args.number) c.loop-rest.start c.loop-rest.rest c.digit-2.result c.digit-2.ensures c.loop-rest.invariant.len (omega arith) (omega arith) c.loop-rest.invariant.written in
    subst (λ z. g.O.Output.gives z c.args.out.now c.bytes.new.self) shown c.bytes.ensures
