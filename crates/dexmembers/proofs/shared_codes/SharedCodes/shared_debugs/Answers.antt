use Rattle.dexmembers.proofs.Common.{IfOk, IfSome, subst}
use Rattle.dexmembers.specs.{AreSameBefore, codes_with}
use Rattle.dexmembers.specs.internal.SharedCodes.{debugs_in, stored_in}
use Rattle.dexmembers.proofs.SharedDebugs.{debug_by_shared_place, placed_debug, same_debugs, stored_debug}
use Rattle.dexmembers.proofs.shared_codes.SharedCodes.shared_debugs.Goals as goal

pub returns : goal.returns
returns c =
    let debugs = debugs_in c.self.inside.debugs.items in
    let items = c.self.inside.items.items in
    let r = c.first_with_debugs.result in
    let xs = c.args.methods.now in
    subst (λ codes. IfOk r (λ places. IfSome places (λ ps. AreSameBefore (stored_debug codes) xs ps.items))) c.self.view_is
    (same_debugs (codes_with debugs (stored_in items)) debugs items xs (debug_by_shared_place debugs items) r
    (subst (λ (is : _). IfOk r (λ places. IfSome places (λ ps. AreSameBefore (placed_debug debugs is) xs ps.items))) c.deref.ensures.value (c.first_with_debugs.ensures debugs)))
