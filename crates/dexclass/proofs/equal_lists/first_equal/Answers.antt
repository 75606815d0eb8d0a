use Rattle.dexclass.proofs.Common.{List, ℕ, ◌+◌, sym, subst, arith}
use Rattle.dexclass.specs.{NumberedClass}
use Rattle.dexclass.proofs.FirstEqual.{AreFirstUpTo, first_all, first_more}
use Rattle.dexclass.proofs.equal_lists.first_equal.Goals as goal

pub loop-i-preserved : goal.loop-i-preserved
loop-i-preserved c = subst (λ (l : List ℕ). AreFirstUpTo (λ (x : NumberedClass). x.interfaces) c.args.classes.now l (c.loop-i.i + 1)) (sym c.in_ok-push.ensures.items)
    (first_more (λ (x : NumberedClass). x.interfaces) c.args.classes.now c.loop-i.firsts.items c.loop-i.i c.first_or_same.result c.loop-i.invariant c.first_or_same.ensures.before c.first_or_same.ensures.equal)

pub returns : goal.returns
returns c = first_all (λ (x : NumberedClass). x.interfaces) c.args.classes.now c.loop-i.firsts.items c.loop-i.i c.loop-i.invariant (omega (arith, c.loop-i-test.false))
