use Rattle.dexmembers.proofs.Common.{ℕ, List, subst}
use Rattle.dexmembers.specs.{AreSameBefore, HeldMethod, code_debug, held_in}
use Rattle.dexmembers.specs.HeldCodes.{codes_in, methods_in}
use Rattle.dexmembers.proofs.SharedDebugs.{if_same, same_mapped, stored_debug}
use Rattle.dexmembers.proofs.method_list.MethodList.shared_debugs.Goals as goal

pub returns : goal.returns
returns c =
    let x = c.args.self.now in
    let f = λ (y : HeldMethod). code_debug y.code in
    let codes = codes_in x.code_items in
    if_same (λ (places : List ℕ). AreSameBefore (stored_debug codes) c.deref.result.now places) (λ (places : List ℕ). AreSameBefore f (methods_in x) places)
    (λ places h. same_mapped f (held_in codes) x.methods.items places (subst (λ ys. AreSameBefore (stored_debug codes) ys places) c.deref.ensures.value h)) c.shared_debugs.result c.shared_debugs.ensures
