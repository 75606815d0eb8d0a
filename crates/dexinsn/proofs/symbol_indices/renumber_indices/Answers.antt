use Rattle.dexinsn.proofs.Common.{◌≡◌, ◌^◌, ◌≤◌, Bool, true, false, if◌then◌else◌, drop, ◌∙◌, ap, arith, subst, sym, unwrap_or, image_of, is_wide_index, kind_in, HasPlaceAt, IsIndexed, renumbered_index}
use Rattle.dexpool.specs.declared.symbols.SymbolKind.{SymbolKind}
use Rattle.dexinsn.proofs.Steps.{unchanged, changed_more}
use Rattle.dexinsn.proofs.symbol_indices.renumber_indices.Goals as goal

pub index_kind_at-kind-requires : goal.index_kind_at-kind-requires
index_kind_at-kind-requires c =
    let us = c.args.units.now in
    let d = c.index-index.result.now in
    let indexed = subst (IsIndexed us) (sym c.index-index.ensures) (unchanged (renumbered_index c.args.remap.now us) (IsIndexed us) c.args.indices.now.items c.loop-i.indices.items c.loop-i.i d c.loop-i.invariant (omega arith) c.requires.indexed) in
    omega (arith, indexed.within)

room_most : (b : Bool) → (if b then 2 ^ 32 else 2 ^ 16) ≤ 2 ^ 32
room_most true = omega arith
room_most false = omega arith

pub overflow_cast-number : goal.overflow_cast-number
overflow_cast-number c =
    let r = c.args.remap.now in
    let us = c.args.units.now in
    let d = c.index-index.result.now in
    let place = subst (HasPlaceAt r us) (sym c.index-index.ensures) (unchanged (renumbered_index r us) (HasPlaceAt r us) c.args.indices.now.items c.loop-i.indices.items c.loop-i.i d c.loop-i.invariant (omega arith) c.requires.places) in
    let number : c.unwrap_or-number.result ≡ place.0 = c.unwrap_or-number.ensures ∙ ap (λ o. unwrap_or o 0) (c.image-image.ensures ∙ ap (λ (k : SymbolKind). image_of r k d.number) c.index_kind_at-kind.ensures ∙ place.1) in
    omega (arith, number, place.2, room_most (is_wide_index (drop d.unit us)))

pub loop-i-preserved : goal.loop-i-preserved
loop-i-preserved c =
    let r = c.args.remap.now in
    let us = c.args.units.now in
    let d = c.index-index.result.now in
    let number : c.unwrap_or-number.result ≡ unwrap_or (image_of r (kind_in (drop d.unit us)) d.number) 0 = c.unwrap_or-number.ensures ∙ ap (λ o. unwrap_or o 0) (c.image-image.ensures ∙ ap (λ (k : SymbolKind). image_of r k d.number) c.index_kind_at-kind.ensures) in
    changed_more (renumbered_index r us) c.args.indices.now.items c.loop-i.indices.items c.loop-i.i d (record { unit = d.unit; number = c.unwrap_or-number.result }) c.loop-i.invariant (omega arith)
    ((λ i. record { unit = d.unit; number = number i }) ∙ ap (renumbered_index r us) c.index-index.ensures)
