use Rattle.dexval.proofs.Common.{◌≡◌, ℕ, take, sym, subst, arith, uint}
use Rattle.dexval.proofs.Offsets.{end_of, offsets_spelled, one_offset, next_offset, offset_fits, offsets_end}
use Rattle.dexval.proofs.put.encode_offsets.Goals as goal

pub overflow_cast-offset : goal.overflow_cast-offset
overflow_cast-offset g c = omega (arith, c.loop-annotation.invariant.next, offset_fits c.args.first c.args.annotations.now c.loop-annotation.annotation-index c.loop-annotation-test.true c.requires)

pub loop-annotation-preserved : goal.loop-annotation-preserved
loop-annotation-preserved g c =
    let gives = g.O.Output.gives in
    let xs = c.args.annotations.now in
    let i = c.loop-annotation.annotation-index in
    let is : c.loop-annotation.offset ≡ end_of c.args.first (take i xs) = omega (arith, c.loop-annotation.invariant.next, offset_fits c.args.first xs i c.loop-annotation-test.true c.requires) in
    let both = g.met.O.Output.both (offsets_spelled c.args.first (take i xs)) (uint (end_of c.args.first (take i xs))) c.args.out.now c.loop-annotation.out c.u32.new.self c.loop-annotation.invariant.given (subst (λ (n : ℕ). gives (uint n) c.loop-annotation.out c.u32.new.self) is c.u32.ensures) in
    record {
      given = subst (λ bs. gives bs c.args.out.now c.u32.new.self) (sym (one_offset c.args.first xs i c.annotation-item.result c.loop-annotation-test.true c.annotation-item.is)) both;
      next = omega (arith, c.saturating_add-offset.ensures, c.annotation_size.ensures.size, is, next_offset c.args.first xs i c.annotation-item.result c.loop-annotation-test.true c.annotation-item.is);
    }

pub returns : goal.returns
returns g c = subst (λ bs. g.O.Output.gives bs c.args.out.now c.loop-annotation.out) (offsets_end c.args.first c.args.annotations.now c.loop-annotation.annotation-index (omega arith)) c.loop-annotation.invariant.given
