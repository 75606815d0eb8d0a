use Rattle.dexcode.proofs.Common.{◌≡◌, ◌+◌, ap, sym, subst, ◌∙◌, refl, arith, w32, nat_abs, to_z-of_z, CatchAt, CatchAllAt}
use Rattle.dexcode.proofs.Prefixes.{stuck}
use Rattle.dexcode.proofs.HandlersRead.{no_catches, no_catch_all, one_catch, one_catch_more}
use Rattle.dexcode.proofs.tries_reader.TriesReader.handler_len.Goals as goal

pub returns-in_err-len-clause-none : goal.returns-in_err-len-clause-none
returns-in_err-len-clause-none c = rw c.from_residual.ensures (
    let read = c.loop.invariant.read in
    let at = CatchAt c.args.self.now.starts.now c.args.self.now.types in
    no_catches c.args.self.now.starts.now c.args.self.now.types c.args.self.now.bytes.now c.args.at c.in-Ok.count c.in-Ok.count_size c.in-Ok.ensures.found c.unsigned_abs-end.result (c.unsigned_abs-end.ensures.value ∙ ap nat_abs (to_z-of_z w32 c.in-Ok.count c.in-Ok.ensures.found.spelled.in_range))
    (λ cs n many h. stuck at (one_catch c.args.self.now.starts.now c.args.self.now.types) c.args.self.now.bytes.now (c.args.at + c.in-Ok.count_size) c.loop.invariant.catches cs c.loop.size n (omega (arith, many, read.many, c.loop-test.true)) read.are_encoded c.in_err-len.ensures.none h))

pub loop-preserved : goal.loop-preserved
loop-preserved c = one_catch_more c.args.self.now.starts.now c.args.self.now.types c.args.self.now.bytes.now (c.args.at + c.in-Ok.count_size) c.loop.counter c.loop.size c.in_ok-len.len c.in_ok-len.field-0-0 c.loop.invariant c.in_ok-len.ensures.some c.in_ok-len.ensures.within

pub returns-in_err-all_size-clause-none : goal.returns-in_err-all_size-clause-none
returns-in_err-all_size-clause-none c = rw c.from_residual-in_err-all_size.ensures (let same = to_z-of_z w32 c.in-Ok.count c.in-Ok.ensures.found.spelled.in_range in
    let read = c.loop.invariant.read in
    no_catch_all c.args.self.now.starts.now c.args.self.now.types c.args.self.now.bytes.now c.args.at c.in-Ok.count c.in-Ok.count_size c.in-Ok.ensures.found c.loop.counter (omega (arith, c.loop-test.false) ∙ c.unsigned_abs-end.ensures.value ∙ ap nat_abs same) c.loop.invariant.catches c.loop.size read
    (λ a n there. c.in_err-all_size.ensures.none a n (subst (λ z. CatchAllAt c.args.self.now.starts.now z c.args.self.now.bytes.now (c.args.at + c.in-Ok.count_size + c.loop.size) a n) (sym same) there)))

pub returns-clause-some : goal.returns-clause-some
returns-clause-some c =
    let same = to_z-of_z w32 c.in-Ok.count c.in-Ok.ensures.found.spelled.in_range in
    let read = c.loop.invariant.read in
    let whole : c.loop.counter ≡ c.unsigned_abs-end.result = omega (arith, c.loop-test.false) in
    record {
      handler = record { catches = c.loop.invariant.catches; catch_all_addr = c.in_ok-all_size.field-0-0 };
      encodes = record {
        count = c.in-Ok.count;
        count_size = c.in-Ok.count_size;
        catches_size = c.loop.size;
        all_size = c.in_ok-all_size.all_size;
        count_is = c.in-Ok.ensures.found;
        many = sym (read.many ∙ whole ∙ c.unsigned_abs-end.ensures.value ∙ ap nat_abs same);
        catches_are = read.are_encoded;
        all = subst (λ z. CatchAllAt c.args.self.now.starts.now z c.args.self.now.bytes.now (c.args.at + c.in-Ok.count_size + c.loop.size) c.in_ok-all_size.field-0-0 c.in_ok-all_size.all_size) same c.in_ok-all_size.ensures.some;
        size = refl;
      };
      within = omega (arith, read.within, c.in_ok-all_size.ensures.within);
    }
