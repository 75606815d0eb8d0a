use Rattle.dexcanon.proofs.Common.{◌≡◌, ◌<◌, List, ℕ, length, map, get_or, [], ap, sym, subst, arith, ◌∙◌, get_or-map, length-map, uint, offsets, string_section, ItemPlaces, ordered_of}
use Rattle.dexcanon.proofs.tables.StringIdsItemList.encode_item.Goals as goal
use Rattle.dexcanon.proofs.tables.StringIdsItemList.encode_item.Goals.{After-offsets-offsets}

-- the offsets are those of the section
offsets_are : (g : _) (c : After-offsets-offsets g) → c.offsets-offsets.result.now ≡ offsets (string_section (ordered_of c.args.contents.now.numbering.now c.args.contents.now.classes.now))
offsets_are g c = c.offsets-offsets.ensures ∙ ap (λ (p : ItemPlaces). p.offsets) c.strings.ensures ∙ c.requires.ready.laid.strings_are.offsets_are

within : (g : _) (c : After-offsets-offsets g) → c.args.i < length c.offsets-offsets.result.now
within g c = omega (arith, c.requires.within, length-map (offsets (string_section (ordered_of c.args.contents.now.numbering.now c.args.contents.now.classes.now))) uint, ap (λ (l : List ℕ). length l) (offsets_are g c))

pub bounds-offsets-i : goal.bounds-offsets-i
bounds-offsets-i g c = within g (goal.at.bounds-offsets-i g c).After-offsets-offsets

pub returns : goal.returns
returns g c =
    let here = (goal.at.returns g c).After-offsets-offsets in
    subst (λ bs. g.O.Output.gives bs c.args.out.now c.u32.new.self) (sym (get_or-map uint c.offsets-offsets.result.now c.args.i 0 [] (within g here)) ∙ ap (λ ys. get_or (map uint ys) c.args.i []) (offsets_are g here)) c.u32.ensures
