use Rattle.dexorder.proofs.Common.{◌≡◌, List, Option, ℕ, arith, drop, present, subst, sym, take}
use Rattle.dexorder.specs.internal.Searching.{IsDepthBelow, parents_in}
use Rattle.dexorder.proofs.ListDepths.{below_first, below_none, below_passed}
use Rattle.dexorder.proofs.depths.continued_with.Given.{Over}
use Rattle.dexorder.proofs.depths.continued_with.Goals as goal

-- the parents of the class
abbrev parents : (g : Over) → List (Option ℕ) → g.row.C.Denot → List (Option ℕ)
parents g by_type class = parents_in by_type (g.C.HasParents.superclass_of class) (g.C.HasParents.interfaces_of class)

pub returns-then-visit-gt0 : goal.returns-then-visit-gt0
returns-then-visit-gt0 g c = λ classes known below list. below_passed classes (parents g c.args.by_type.now c.args.class.now) c.args.visit.passed c.args.visit.depth c.args.list c.max-depth.result (omega (arith, c.if-visit-gt0.true)) (omega (arith, c.max-depth.ensures)) below list

pub returns-in-Some-depths : goal.returns-in-Some-depths
returns-in-Some-depths g c = λ classes known below list.
    let all = parents g c.args.by_type.now c.args.class.now in
    let none : c.args.visit.passed ≡ 0 = omega (arith, c.if-visit-gt0.false) in
    let nothing = subst (λ k. IsDepthBelow classes (present (take k all)) c.args.visit.depth) none below in
    below_first classes all c.in-Some.parent c.in-Some-depths.above c.max-depth.result c.max.result (sym c.in-Some.ensures) (known c.in-Some.parent c.in-Some-depths.above c.in-Some-depths.is) (omega (arith, c.max.ensures))
    (below_none classes (present (drop 1 all)) c.args.visit.depth c.args.list c.max-depth.result (omega (arith, c.max-depth.ensures)) nothing list)
