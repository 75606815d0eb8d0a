use Rattle.dexlayout.proofs.Common.{arith, take, subst, sym, ◌++◌, take_all, same_bytes, HasUses, debug_encoding, debug_encodings}
use Rattle.dexlayout.proofs.SharedUses.{uses_next}
use Rattle.dexlayout.proofs.bodies.Encodings.add_each.Goals as goal

pub loop-i-preserved : goal.loop-i-preserved
loop-i-preserved c = λ uses h.
    subst (λ us. HasUses same_bytes us c.add_method.new.self.sharing) (uses_next debug_encoding uses c.args.methods.now c.loop-i.i c.get.result (omega (arith, c.loop-i-test.true, c.len-i-end.ensures)) (sym c.get.ensures))
    (c.in_ok-add_method.ensures.added (uses ++ debug_encodings (take c.loop-i.i c.args.methods.now)) (c.loop-i.invariant uses h))

pub returns : goal.returns
returns c = λ uses h.
    subst (λ ys. HasUses same_bytes (uses ++ debug_encodings ys) c.loop-i.self.sharing) (take_all c.loop-i.i c.args.methods.now (omega (arith, c.loop-i-test.false, c.len-i-end.ensures))) (c.loop-i.invariant uses h)
