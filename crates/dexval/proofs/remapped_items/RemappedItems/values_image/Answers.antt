use Rattle.dexval.proofs.Common.{rules, ◌≡◌, false, ap, sym, subst, ◌∙◌, Maps}
use Rattle.dexval.specs.Renumbering.{HavePlaces, renumbered_values}
use Rattle.dexval.proofs.Symbolless.{values_stay}
use Rattle.dexval.proofs.remapped_items.RemappedItems.values_image.Goals as goal

pub remapped_values-requires : goal.remapped_values-requires
remapped_values-requires c = subst (λ (r : Maps). HavePlaces r c.args.values.now.value) (sym c.self.view_is) c.requires

pub returns-then-not-names_symbols-clause-image : goal.returns-then-not-names_symbols-clause-image
returns-then-not-names_symbols-clause-image c =
    let r = c.args.self.now in
    let at : c.deref.result.now ≡ c.args.values.now.value = search rules in
    let none : c.names_symbols.result ≡ false = search rules in
    let cloned : c.in_ok-clone.field-0.value ≡ c.args.values.now.value = search rules in
    cloned ∙ sym (ap (renumbered_values r) (sym at) ∙ values_stay r c.deref.result.now (c.names_symbols.ensures none) ∙ at)
