use Rattle.dexmembers.proofs.Common.{◌∙◌, ◌<◌, get_or, length, map, sym, ap, subst, arith, length-map, get_or-map}
use Rattle.dexmembers.specs.{method_of, IsHeldMethod, held_in}
use Rattle.dexmembers.specs.HeldCodes.{codes_in}
use Rattle.dexmembers.proofs.RenumberingLists.{all_seen}
use Rattle.dexmembers.proofs.method_views.Methods.get.Goals as goal

pub invariant_of-result : goal.invariant_of-result
invariant_of-result c =
    let t = c.self.inside.table.now in
    let list = c.self.inside.methods.now in
    let xs = list.methods.items in
    let held = held_in (codes_in list.code_items) in
    let one = all_seen held (IsHeldMethod t) xs c.self.invariant c.args.place c.index.result.now (omega (arith, c.requires, ap length c.self.view_is, length-map xs held, length-map (map held xs) (method_of t))) in
    let two = subst (λ x. IsHeldMethod t (held x)) (sym c.index.ensures) one in
    record { set_held = two.set_held; list_held = two.list_held }

pub returns : goal.returns
returns c =
    let t = c.self.inside.table.now in
    let list = c.self.inside.methods.now in
    let xs = list.methods.items in
    let held = held_in (codes_in list.code_items) in
    let place = c.args.place in
    let few : place < length xs = omega (arith, c.requires, ap length c.self.view_is, length-map xs held, length-map (map held xs) (method_of t)) in
    let here = held (get_or xs place c.index.result.now) in
    let got = method_of t (held c.index.result.now) in
    ap (λ x. method_of t (held x)) c.index.ensures
    ∙ ap (method_of t) (sym (get_or-map held xs place c.index.result.now here few))
    ∙ sym (get_or-map (method_of t) (map held xs) place here got (omega (arith, few, length-map xs held)))
    ∙ ap (λ l. get_or l place got) c.self.view_is
