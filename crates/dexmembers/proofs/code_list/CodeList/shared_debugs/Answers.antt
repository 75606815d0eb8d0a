use Rattle.dexmembers.proofs.Common.{IfOk, IfSome, subst}
use Rattle.dexmembers.specs.{AreSameBefore, codes_with}
use Rattle.dexmembers.proofs.SharedDebugs.{debug_by_place, placed_debug, same_debugs, stored_debug}
use Rattle.dexmembers.proofs.code_list.CodeList.shared_debugs.Goals as goal

pub returns : goal.returns
returns c =
    let x = c.self.inside in
    let r = c.first_with_debugs.result in
    let xs = c.args.methods.now in
    subst (λ codes. IfOk r (λ places. IfSome places (λ ps. AreSameBefore (stored_debug codes) xs ps.items))) c.self.view_is
    (same_debugs (codes_with x.debugs.items x.items.items) x.debugs.items x.items.items xs (debug_by_place x.debugs.items x.items.items) r
    (subst (λ items. IfOk r (λ places. IfSome places (λ ps. AreSameBefore (placed_debug x.debugs.items items) xs ps.items))) c.deref.ensures.value (c.first_with_debugs.ensures x.debugs.items)))
