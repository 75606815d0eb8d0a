use Rattle.dexclass.proofs.Common.{length, arith, ap, sym, subst, All}
use Rattle.std.specs.Global.{Vec}
use Rattle.dexclass.specs.declared.checked_lists.Range16.{Range16}
use Rattle.std.proofs.lemmas.List.Elements.{All-set, All-push}
use Rattle.dexclass.specs.internal.Checked.{AreInterfacesIn}
use Rattle.dexclass.proofs.CheckedParts.{parts_touch}
use Rattle.dexclass.proofs.checked_lists.CheckedLists.add.Goals as goal

pub returns-then-part-range : goal.returns-then-part-range
returns-then-part-range c = λ b r lists part.
    let P : Range16 → Type 0 = λ x. AreInterfacesIn b r x.start x.end in
    let known : All P c.loop-i.self.ranges.items = subst (λ (v : Vec Range16). All P v.items) (sym c.loop-i.invariant) lists in
    let old = c.index-range.result.now in
    let here : P old = subst P (sym c.index-range.ensures) (known c.loop-i.i old (omega (arith, c.loop-i-test.true, c.len-i-end.ensures, ap (λ (v : Vec Range16). length v.items) c.loop-i.invariant))) in
    All-set P c.loop-i.self.ranges.items c.loop-i.i (record { start = c.min.result; end = c.max.result }) (parts_touch b r old.start old.end c.args.part.start c.args.part.end c.min.result c.max.result c.if-range-part.true c.if-part-range.true c.min.ensures c.max.ensures here part) known

pub returns : goal.returns
returns c = λ b r lists part.
    let P : Range16 → Type 0 = λ x. AreInterfacesIn b r x.start x.end in
    subst (All P) (sym c.in_ok-push.ensures.items) (All-push P c.loop-i.self.ranges.items c.args.part (subst (λ (v : Vec Range16). All P v.items) (sym c.loop-i.invariant) lists) part)
