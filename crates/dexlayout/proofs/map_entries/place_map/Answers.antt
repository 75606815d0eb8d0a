use Rattle.dexlayout.proofs.Common.{◌≡◌, ℕ, List, ◌++◌, length, map, arith, ap, ◌∙◌, round_up, map_bytes, entry_meant, EncodedItems, align_next, no_items_from, whole_map}
use Rattle.dexhead.proofs.Lengths.{length_map}
use Rattle.dexlayout.proofs.EncodedUses.{begins, ended, ended_fits}
use Rattle.dexlayout.proofs.map_entries.place_map.Goals as goal
use Rattle.dexlayout.proofs.map_entries.place_map.Goals.{In_ok-entries, In_ok-put}

-- what is before it are zeros
zeros : (c : In_ok-entries) → record { bytes = c.items.inside.bytes.items; places = c.items.inside.places } ≡ align_next 4 (no_items_from c.args.from)
zeros c = c.items.view_is ∙ c.in_ok-align.ensures ∙ ap (align_next 4) c.in_ok-items.ensures

-- the entries
entries_are : (c : In_ok-entries) → map entry_meant c.in_ok-entries.entries.items ≡ whole_map c.args.tables.now c.args.sections.now (round_up 4 c.args.from)
entries_are c = c.in_ok-entries.ensures ∙ ap (whole_map c.args.tables.now c.args.sections.now) (c.end.ensures ∙ ap (λ (q : EncodedItems). q.places.end) (zeros c))

-- their bytes
abbrev list : In_ok-put → List ℕ
list c = map_bytes (whole_map c.args.tables.now c.args.sections.now (round_up 4 c.args.from))

-- they were put
put : (c : In_ok-put) → map entry_meant c.in_ok-entries.entries.items ≡ whole_map c.args.tables.now c.args.sections.now (round_up 4 c.args.from) → c.put.new.out.items ≡ c.items.inside.bytes.items ++ list c
put c are = c.in_ok-put.ensures.puts.ok ∙ ap (λ es. c.items.inside.bytes.items ++ map_bytes es) (ap (map entry_meant) c.deref.ensures.value ∙ are)

pub invariant_of-put : goal.invariant_of-put
invariant_of-put c =
    record { few = omega (arith, c.deref.ensures.len, ap (λ xs. length (map_bytes xs)) (entries_are (goal.at.invariant_of-put c).In_ok-entries), length_map c.in_ok-entries.entries.items, c.requires.fits) }

pub end_item-requires-clause-begins : goal.end_item-requires-clause-begins
end_item-requires-clause-begins c =
    let here = goal.at.end_item-requires-clause-begins c in
    begins (list here.In_ok-put) (zeros here.In_ok-entries) (c.len-before.ensures ∙ c.items.inside.bytes.ok.0) (put here.In_ok-put (entries_are here.In_ok-entries))

pub end_item-requires-clause-fits : goal.end_item-requires-clause-fits
end_item-requires-clause-fits c =
    let here = goal.at.end_item-requires-clause-fits c in
    ended_fits (list here.In_ok-put) (zeros here.In_ok-entries) (c.len-before.ensures ∙ c.items.inside.bytes.ok.0) (put here.In_ok-put (entries_are here.In_ok-entries)) c.requires.fits

pub returns : goal.returns
returns c =
    let here = goal.at.returns c in
    c.in_ok-end_item.ensures ∙ ended (list here.In_ok-put) (zeros here.In_ok-entries) (c.len-before.ensures ∙ c.items.inside.bytes.ok.0) (put here.In_ok-put (entries_are here.In_ok-entries))
