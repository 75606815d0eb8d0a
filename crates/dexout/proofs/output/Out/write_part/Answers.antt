use Rattle.dexout.proofs.Common.{◌≡◌, [], ◌++◌, List, ℕ, ap, arith, refl, nil_from_length, adds_both}
use Rattle.dexout.proofs.Buffered.{dropped, flushed, flushed_first}
use Rattle.dexout.proofs.output.Out.write_part.Goals as goal

pub returns-then-part-capacity : goal.returns-then-part-capacity
returns-then-part-capacity g c =
    flushed_first g.met.T.Target.more c.args.self.now c.flush.new.self c.bytes.new.self c.args.part.now c.flush.ensures.adds
    (λ room. omega (arith, c.flush.ensures.empty, c.if-part-capacity.true, c.capacity.ensures)) c.bytes.ensures

pub returns-then-not-self : goal.returns-then-not-self
returns-then-not-self g c =
    let empty : c.flush.new.self.buffer.items ≡ [] = nil_from_length c.flush.new.self.buffer.items (omega (arith, c.flush.ensures.empty)) in
    adds_both g.T.Target.gives g.T.Target.gives_prefix g.T.Target.has_failed [] c.args.part.now c.args.self.now c.flush.new.self _ c.flush.ensures.adds
    (flushed g.met.T.Target.both g.met.T.Target.after c.flush.new.self c.write.new.self c.flush.new.self.buffer c.args.part.now c.args.part.now c.write.result c.is_err-self.result (ap (λ (z : List ℕ). z ++ c.args.part.now) empty) c.if-not-self.true c.is_err-self.ensures.value c.write.ensures.works c.write.ensures.fails c.write.ensures.written c.write.ensures.prefix empty refl)

pub returns-else-not-self : goal.returns-else-not-self
returns-else-not-self g c =
    adds_both g.T.Target.gives g.T.Target.gives_prefix g.T.Target.has_failed [] c.args.part.now c.args.self.now c.flush.new.self c.flush.new.self c.flush.ensures.adds
    (dropped g.met.T.Target.more c.flush.new.self c.flush.new.self.buffer c.args.part.now c.if-not-self.false refl)
