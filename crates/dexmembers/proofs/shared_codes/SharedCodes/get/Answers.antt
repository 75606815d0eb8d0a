use Rattle.dexmembers.proofs.Common.{◌≡◌, ◌∙◌, Some, ap, sym}
use Rattle.dexcode.specs.Numbered.{with_debug}
use Rattle.dexmembers.specs.{item_at}
use Rattle.dexmembers.specs.internal.SharedCodes.{debugs_in}
use Rattle.dexmembers.proofs.CodeLists.{shared_code_at}
use Rattle.dexmembers.proofs.shared_codes.SharedCodes.get.Goals as goal

pub returns : goal.returns
returns c =
    let x = c.self.inside in
    let place = c.args.place in
    let is : item_at x.items.items place ≡ Some c.in_ok-item.item.now = ap (λ items. item_at items place) (sym c.deref.ensures.value) ∙ sym c.in_ok-item.ensures in
    let debug = c.debug_at-debug.ensures ∙ ap (λ ds. item_at (debugs_in ds) c.in_ok-item.item.now.debug) c.deref-2.ensures.value in
    ap (λ codes. item_at codes place) (sym c.self.view_is) ∙ shared_code_at (debugs_in x.debugs.items) x.items.items place c.in_ok-item.item.now is
    ∙ ap Some (sym (c.with_debug.ensures ∙ (λ i. with_debug (c.item.ensures i) (debug i))))
