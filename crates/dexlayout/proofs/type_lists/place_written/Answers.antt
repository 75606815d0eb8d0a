use Rattle.dexlayout.proofs.Common.{List, ℕ, Option, Some, map, refl, arith, ap, sym, ◌∙◌, drop_all, ItemPlaces, EncodedItems, encode_use, list_bytes, no_items_from, without_bytes}
use Rattle.dexlayout.proofs.EncodedUses.{all_encoded_by, drop_next, use_encoded, use_ends, use_fits, use_places}
use Rattle.dexlayout.proofs.type_lists.place_written.Goals as goal

-- the item of a list
abbrev item_of : List ℕ → Option (List ℕ)
item_of ns = Some (list_bytes ns)

pub loop-key-init : goal.loop-key-init
loop-key-init c = (no_items_from c.args.from, sym c.in_ok-places.ensures, refl)

pub put_list-requires : goal.put_list-requires
put_list-requires c =
    let h = c.loop-key.invariant in
    omega (
      arith,
      use_fits 4 h.0 (ap (map item_of) (drop_next c.args.lists.now c.loop-key.key-index c.key-item.result c.loop-key-test.true (sym c.key-item.is))) h.2,
      use_ends 4 h.0 (without_bytes c.loop-key.places) (item_of c.key-item.result) (ap (λ (p : ItemPlaces). p.end) h.1),
      c.requires,
    )

pub loop-key-preserved : goal.loop-key-preserved
loop-key-preserved c =
    let h = c.loop-key.invariant in (
      encode_use 4 h.0 (item_of c.key-item.result),
      use_places 4 h.0 (without_bytes c.loop-key.places) (item_of c.key-item.result) h.1 ∙ sym c.in_ok-put_list.ensures,
      use_encoded 4 h.0 (ap (map item_of) (drop_next c.args.lists.now c.loop-key.key-index c.key-item.result c.loop-key-test.true (sym c.key-item.is))) h.2 refl,
    )

pub returns : goal.returns
returns c =
    let h = c.loop-key.invariant in
    sym h.1 ∙ ap (λ (p : EncodedItems). p.places) (all_encoded_by 4 (ap (map item_of) (drop_all c.loop-key.key-index c.args.lists.now c.loop-key-test.false)) h.2)
