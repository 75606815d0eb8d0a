use Rattle.dexmembers.proofs.Common.{rules, ◌≡◌, ◌∙◌, ◌++◌, ◌∷◌, [], ap, map, map-append, sym}
use Rattle.std.proofs.lemmas.List.{map-id}
use Rattle.std.proofs.lemmas.Iterator.Adapters.{YieldsList-from_vec}
use Rattle.std.proofs.lemmas.Iterator.Consumers.{YieldsList-end}
use Rattle.dexmembers.specs.internal.SharedCodes.{debug_in}
use Rattle.dexmembers.proofs.shared_members.shared_debugs.Goals as goal

pub loop-debug-preserved : goal.loop-debug-preserved
loop-debug-preserved c =
    ap (map debug_in) c.in_ok-push.ensures.items ∙ map-append debug_in c.loop-debug.shared.items _ ∙ (λ i. c.loop-debug.invariant i ++ c.in_ok-debug.ensures i ∷ [])

pub returns : goal.returns
returns c =
    let end = YieldsList-end (YieldsList-from_vec {s = c.into_iter-debug-iterator.result} c.args.debugs.items (search rules) (search rules)) c.loop-debug.yielded c.loop-debug.debug-iterator c.loop-debug.yielded_by c.next.result c.next.new.self c.in-None.is c.next.ensures.steps in
    c.loop-debug.invariant ∙ sym (map-id c.loop-debug.yielded) ∙ end.0
