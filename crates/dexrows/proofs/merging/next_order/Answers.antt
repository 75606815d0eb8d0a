use Rattle.dexrows.proofs.Common.{◌≡◌, ℕ, length, subst, arith}
use Rattle.dexrows.proofs.MergeSteps.{compared}
use Rattle.dexrows.specs.internal.Merge.{IsNext}
use Rattle.dexrows.proofs.merging.next_order.Goals as goal

pub returns-in-Some-Some : goal.returns-in-Some-Some
returns-in-Some-Some g c =
    let m = c.args.merged.now in
    let i : c.len-i.result ≡ length m.left_places.items = omega (arith, m.left_places.ok.0, c.len-i.ensures) in
    let j : c.len-j.result ≡ length m.right_places.items = omega (arith, m.right_places.ok.0, c.len-j.ensures) in
    subst (λ (i : ℕ). IsNext g.R.Row.key_of c.args.left.now i c.args.right.now (length m.right_places.items) c.compare.result) i
    (subst (λ (j : ℕ). IsNext g.R.Row.key_of c.args.left.now c.len-i.result c.args.right.now j c.compare.result) j
    (compared g.R.Row.key_of c.args.left.now c.args.right.now c.len-i.result c.len-j.result c.in-Some-Some.row.now c.in-Some-Some.other.now c.compare.result c.in-Some-Some.ensures.lookup.3.0 c.in-Some-Some.ensures'.lookup.3.0 c.in-Some-Some.ensures.lookup.1 c.in-Some-Some.ensures'.lookup.1 c.compare.ensures))
