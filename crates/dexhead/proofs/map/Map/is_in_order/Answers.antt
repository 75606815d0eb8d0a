use Rattle.dexhead.proofs.Common.{arith, refl, subst, take_all, AreInOrder, entries}
use Rattle.dexhead.proofs.Entries.{length-entries, never, order_more, next_at}
use Rattle.dexhead.proofs.map.Map.is_in_order.Goals as goal

pub returns-then-not-is_next : goal.returns-then-not-is_next
returns-then-not-is_next c = (λ x. absurd (never x), λ h. absurd (never (c.if-not-is_next.ensures.1 (next_at (entries c.args.self.now) c.loop-i.i (omega (arith, length-entries c.args.self.now)) h))))

pub loop-i-preserved : goal.loop-i-preserved
loop-i-preserved c = order_more (entries c.args.self.now) c.loop-i.i (omega (arith, length-entries c.args.self.now)) c.loop-i.invariant (c.if-not-is_next.ensures.0 refl)

pub returns : goal.returns
returns c = (λ x. subst (AreInOrder c.args.self.now.bytes.now) (take_all c.loop-i.i (entries c.args.self.now) (omega (arith, length-entries c.args.self.now))) c.loop-i.invariant, λ h. refl)
