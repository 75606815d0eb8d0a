use Rattle.dexmembers.proofs.Common.{ℕ, List, subst}
use Rattle.dexmembers.specs.{AreSameBefore, HeldMethod, code_debug, debug_of, method_of}
use Rattle.dexmembers.specs.HeldCodes.{methods_in}
use Rattle.dexmembers.proofs.SharedDebugs.{if_same, same_mapped}
use Rattle.dexmembers.proofs.method_views.Methods.shared_debugs.Goals as goal

pub returns : goal.returns
returns c =
    let x = c.self.inside in
    let f = λ (y : HeldMethod). code_debug y.code in
    if_same (λ (places : List ℕ). AreSameBefore f (methods_in x.methods.now) places) (λ (places : List ℕ). AreSameBefore debug_of c.args.self.now places)
    (λ places h. subst (λ ys. AreSameBefore debug_of ys places) c.self.view_is (same_mapped debug_of (method_of x.table.now) (methods_in x.methods.now) places h))
    c.shared_debugs.result c.shared_debugs.ensures
