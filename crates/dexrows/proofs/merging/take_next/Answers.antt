use Rattle.dexrows.proofs.Common.{refl, length, subst, arith}
use Rattle.dexrows.specs.internal.Merged.{IsNextRow}
use Rattle.dexrows.proofs.MergeSteps.{left_step, right_step, both_step}
use Rattle.dexrows.proofs.merging.take_next.Goals as goal

pub returns-in_ok-push-in-Less-clause-taken : goal.returns-in_ok-push-in-Less-clause-taken
returns-in_ok-push-in-Less-clause-taken g c =
    let m = c.args.merged.now in
    left_step g.R.Row.key_of c.args.left.now c.args.right.now c.requires.left_sorted c.requires.right_sorted m.rows.items m.left_places.items m.right_places.items c.requires.so_far c.args.order c.requires.next
    c.next_row-row.result c.next_row-row.result c.len-place.result (length m.left_places.items) c.push.new.self.items refl (omega (arith, m.rows.ok.0, c.len-place.ensures)) c.in_ok-push.ensures.items
    c.push-in-Less.new.self.items c.in-Less.is refl (subst (λ o. IsNextRow c.args.left.now c.args.right.now m o c.next_row-row.result) c.in-Less.is c.next_row-row.ensures) c.in_ok-push-in-Less.ensures.items

pub returns-in_ok-push-in-Equal-2-clause-taken : goal.returns-in_ok-push-in-Equal-2-clause-taken
returns-in_ok-push-in-Equal-2-clause-taken g c =
    let m = c.args.merged.now in
    both_step g.R.Row.key_of c.args.left.now c.args.right.now c.requires.left_sorted c.requires.right_sorted m.rows.items m.left_places.items m.right_places.items c.requires.so_far c.args.order c.requires.next
    c.next_row-row.result c.next_row-row.result c.len-place.result (length m.left_places.items) c.push.new.self.items refl (omega (arith, m.rows.ok.0, c.len-place.ensures)) c.in_ok-push.ensures.items
    c.push-in-Equal.new.self.items c.push-in-Equal-2.new.self.items c.in-Equal.is refl (subst (λ o. IsNextRow c.args.left.now c.args.right.now m o c.next_row-row.result) c.in-Equal.is c.next_row-row.ensures) c.in_ok-push-in-Equal.ensures.items c.in_ok-push-in-Equal-2.ensures.items

pub returns-in_ok-push-in-Greater-clause-taken : goal.returns-in_ok-push-in-Greater-clause-taken
returns-in_ok-push-in-Greater-clause-taken g c =
    let m = c.args.merged.now in
    right_step g.R.Row.key_of c.args.left.now c.args.right.now c.requires.left_sorted c.requires.right_sorted m.rows.items m.left_places.items m.right_places.items c.requires.so_far c.args.order c.requires.next
    c.next_row-row.result c.next_row-row.result c.len-place.result (length m.right_places.items) c.push.new.self.items refl (omega (arith, m.rows.ok.0, c.len-place.ensures)) c.in_ok-push.ensures.items
    c.push-in-Greater.new.self.items c.in-Greater.is refl (subst (λ o. IsNextRow c.args.left.now c.args.right.now m o c.next_row-row.result) c.in-Greater.is c.next_row-row.ensures) c.in_ok-push-in-Greater.ensures.items
