use Rattle.dexpool.proofs.Common.{[], ◌∷◌, ◌++◌, take, sym, ap, ◌∙◌, arith, append_assoc, slice_index, take_more}
use Rattle.dexpool.proofs.renumbering.push_numbers.Goals as goal

pub loop-i-preserved : goal.loop-i-preserved
loop-i-preserved c =
    c.in_ok-push.ensures.items ∙ (λ k. c.loop-i.invariant k ++ c.at.ensures k ∷ []) ∙ append_assoc c.args.to.now.items (take c.loop-i.i c.args.numbers.now) (slice_index c.args.numbers.now c.loop-i.i ∷ [])
    ∙ ap (λ more. c.args.to.now.items ++ more) (sym (take_more c.args.numbers.now c.loop-i.i 0 (omega (arith, c.loop-i-test.true, c.len-i-end.ensures))))
