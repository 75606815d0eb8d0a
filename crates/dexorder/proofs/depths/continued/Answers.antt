use Rattle.std.proofs.Common.{rules}
use Rattle.dexorder.proofs.Common.{◌+◌, ◌<◌, ℕ, List, Option, Some, length, subst, arith}
use Rattle.dexorder.specs.internal.Searching.{HasDepthBefore, parents_in}
use Rattle.dexorder.proofs.ByType.{parent_type, parents_length}
use Rattle.dexorder.proofs.Passing.{passed_class, passed_to}
use Rattle.dexorder.proofs.depths.continued.Given.{Over}
use Rattle.dexorder.proofs.depths.continued.Goals as goal
use Rattle.dexorder.proofs.depths.continued.Goals.{In-Some}

-- the parents of the class
abbrev parents : (g : Over) → List (Option ℕ) → g.row.C.Denot → List (Option ℕ)
parents g by_type class = parents_in by_type (g.C.HasParents.superclass_of class) (g.C.HasParents.interfaces_of class)

-- the next of them, and the depth below those before it
next : (g : Over) (c : In-Some g) → HasDepthBefore (parents g c.args.by_type.now c.args.class.now) c.args.depths.now c.args.visit (Some (c.in-Some.passed, c.in-Some.parent)) c.loop-next.depth
next g c = subst (λ (o : Option (ℕ × ℕ)). HasDepthBefore (parents g c.args.by_type.now c.args.class.now) c.args.depths.now c.args.visit o c.loop-next.depth) c.in-Some.is c.loop-next.invariant

below : (g : Over) (c : In-Some g) → c.in-Some.parent < length c.args.depths.now
below g c =
    let t = parent_type c.args.by_type.now (g.C.HasParents.superclass_of c.args.class.now) (g.C.HasParents.interfaces_of c.args.class.now) c.in-Some.passed c.in-Some.parent (next g c).0.is in
    c.requires.within t.0 c.in-Some.parent t.1

pub loop-next-init : goal.loop-next-init
loop-next-init g c =
    let count = parents_length c.args.by_type.now (g.C.HasParents.superclass_of c.args.class.now) (g.C.HasParents.interfaces_of c.args.class.now) in
    passed_to (parents g c.args.by_type.now c.args.class.now) c.args.depths.now c.args.visit c.args.visit.depth c.args.visit.passed c.first_parent-next.result (omega (arith, count, c.requires.passed)) (omega arith) c.first_parent-next.ensures (λ classes known below. below)

pub offset_bounds-depths-parent : goal.offset_bounds-depths-parent
offset_bounds-depths-parent g c =
    let lt : c.in-Some.parent < length c.args.depths.now = below g (goal.at.offset_bounds-depths-parent g c).In-Some in
    search (rules, lt)

pub bounds : goal.bounds
bounds g c = below g (goal.at.bounds g c).In-Some

pub loop-next-preserved : goal.loop-next-preserved
loop-next-preserved g c =
    let all = parents g c.args.by_type.now c.args.class.now in
    let it = next g (goal.at.loop-next-preserved g c).In-Some in
    let depth = passed_class all c.args.depths.now c.args.visit c.in-Some.passed c.loop-next.depth c.max-depth.result it.0.within it.1 c.in-Some.parent c.in-Some-depths.above it.0.is c.in-Some-depths.is (omega (arith, c.max-depth.ensures)) in
    passed_to all c.args.depths.now c.args.visit c.max-depth.result (c.in-Some.passed + 1) c.next_parent-next.result (omega (arith, it.0.within)) (omega (arith, it.0.later)) c.next_parent-next.ensures depth
