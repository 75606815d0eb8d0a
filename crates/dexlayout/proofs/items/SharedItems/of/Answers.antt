use Rattle.dexlayout.proofs.Common.{◌<◌, length, List, ℕ, subst, sym, ap, ◌∙◌, All, IfSome, EncodedItems, shared_places}
use Rattle.dexlayout.proofs.items.SharedItems.of.Goals as goal

pub place_shared-requires : goal.place_shared-requires
place_shared-requires c = subst (λ (e : EncodedItems). All (λ n. IfSome n (λ i. i < length e.places.offsets)) c.args.numbers.now) (sym c.written.view_is) c.requires

pub returns : goal.returns
returns c =
    let bytes = ap (λ (e : EncodedItems). e.bytes) c.written.view_is in
    let count = ap (λ (os : List ℕ). length os) c.offsets-count.ensures ∙ ap (λ (e : EncodedItems). length e.places.offsets) c.written.view_is in
    let places = c.in_ok-uses.ensures ∙ ap (λ (e : EncodedItems). shared_places c.args.numbers.now e.places) c.written.view_is in
    λ i. record { bytes = bytes i; count = count i; places = places i }
