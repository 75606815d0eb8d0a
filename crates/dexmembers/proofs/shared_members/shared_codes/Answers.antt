use Rattle.dexmembers.proofs.Common.{rules, ◌≡◌, ◌∙◌, ◌++◌, ◌∷◌, [], ap, map, map-append, sym}
use Rattle.std.proofs.lemmas.List.{map-id}
use Rattle.std.proofs.lemmas.Iterator.Adapters.{YieldsList-from_vec}
use Rattle.std.proofs.lemmas.Iterator.Consumers.{YieldsList-end}
use Rattle.dexmembers.specs.internal.SharedCodes.{stored_with}
use Rattle.dexmembers.proofs.shared_members.shared_codes.Goals as goal

pub loop-item-preserved : goal.loop-item-preserved
loop-item-preserved c =
    let code = c.in_ok-code.ensures in
    ap (map stored_with) c.in_ok-push.ensures.items ∙ map-append stored_with c.loop-item.shared.items _ ∙ (λ i. c.loop-item.invariant i ++ record { code = code i; debug = c.in-Some.item.debug } ∷ [])

pub returns : goal.returns
returns c =
    let end = YieldsList-end (YieldsList-from_vec {s = c.into_iter-item-iterator.result} c.args.items.items (search rules) (search rules)) c.loop-item.yielded c.loop-item.item-iterator c.loop-item.yielded_by c.next.result c.next.new.self c.in-None.is c.next.ensures.steps in
    c.loop-item.invariant ∙ sym (map-id c.loop-item.yielded) ∙ end.0
