use Rattle.dexmembers.proofs.Common.{◌+◌, ◌∷◌, [], refl, arith}
use Rattle.dexmembers.proofs.DataCounts.{numbers_stuck}
use Rattle.dexmembers.proofs.class_data.read_counts.Goals as goal

pub returns-in_err-instances-clause-none : goal.returns-in_err-instances-clause-none
returns-in_err-instances-clause-none c = rw c.from_residual-in_err-instances.ensures (λ a d e f n h.
    let x = c.in_ok-statics in
    numbers_stuck c.args.bytes.now c.args.at (c.args.at + x.first) (x.statics ∷ []) (a ∷ d ∷ e ∷ f ∷ []) (x.first + 0) n (omega arith) (x.first, 0, x.ensures.some, refl, refl) (omega arith) c.in_err-instances.ensures.none h)

pub returns-in_err-directs-clause-none : goal.returns-in_err-directs-clause-none
returns-in_err-directs-clause-none c = rw c.from_residual-in_err-directs.ensures (λ a d e f n h.
    let x = c.in_ok-statics in
    let y = c.in_ok-instances in
    numbers_stuck c.args.bytes.now c.args.at (c.args.at + x.first + y.second) (x.statics ∷ y.instances ∷ []) (a ∷ d ∷ e ∷ f ∷ []) (x.first + (y.second + 0)) n (omega arith)
    (x.first, y.second + 0, x.ensures.some, (y.second, 0, y.ensures.some, refl, refl), refl) (omega arith) c.in_err-directs.ensures.none h)

pub returns-in_err-virtuals-clause-none : goal.returns-in_err-virtuals-clause-none
returns-in_err-virtuals-clause-none c = rw c.from_residual-in_err-virtuals.ensures (λ a d e f n h.
    let x = c.in_ok-statics in
    let y = c.in_ok-instances in
    let z = c.in_ok-directs in
    numbers_stuck c.args.bytes.now c.args.at (c.args.at + x.first + y.second + z.third) (x.statics ∷ y.instances ∷ z.directs ∷ []) (a ∷ d ∷ e ∷ f ∷ []) (x.first + (y.second + (z.third + 0))) n (omega arith)
    (x.first, y.second + (z.third + 0), x.ensures.some, (y.second, z.third + 0, y.ensures.some, (z.third, 0, z.ensures.some, refl, refl), refl), refl) (omega arith) c.in_err-virtuals.ensures.none h)

pub returns-clause-some : goal.returns-clause-some
returns-clause-some c =
    let x = c.in_ok-statics in
    let y = c.in_ok-instances in
    let z = c.in_ok-directs in
    let w = c.in_ok-virtuals in
    (x.first, y.second + (z.third + (w.fourth + 0)), x.ensures.some, (y.second, z.third + (w.fourth + 0), y.ensures.some, (z.third, w.fourth + 0, z.ensures.some, (w.fourth, 0, w.ensures.some, refl, refl), refl), refl), omega arith)
