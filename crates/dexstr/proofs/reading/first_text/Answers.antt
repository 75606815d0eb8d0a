use Rattle.dexstr.proofs.Common.{◌≡◌, ◌<◌, ◌⊎◌, inl, inr, length, get_or, refl, rules, false≢true}
use Rattle.dexstr.proofs.Outcomes.{spells_prefix, item_found, from_place, no_zero, prefix_from, prefix_to}
use Rattle.dexstr.proofs.reading.first_text.Goals as goal
use Rattle.dexstr.proofs.reading.first_text.Goals.{in_default-via-then-rest-lt1, in_default-via-else-rest-lt1+in_default-1}

pub of_spelling-requires : goal.of_spelling-requires
of_spelling-requires c = rw from_place (spells_prefix c.args.bytes.now _ c.args.count c.args.len c.args.units c.args.rest.now c.requires.count c.requires.units c.if-units-count.true)

pub returns-in-0-clause-found : goal.returns-in-0-clause-found
returns-in-0-clause-found c =
    let zero_first : get_or c.args.rest.now 0 0 ≡ 0 = search rules in
    rw (c.of_spelling.ensures, from_place) (item_found c.args.bytes.now c.args.count c.args.len c.args.units c.args.rest.now c.requires.count c.requires.units c.if-units-count.true c.in-0.len_at_least zero_first _ refl)

pub returns-in_default-clause-fault : goal.returns-in_default-clause-fault
returns-in_default-clause-fault c =
    inr (record { count = c.args.count; len = c.args.len; units = c.args.units; rest = c.args.rest.now; begins = c.requires.count; after = c.requires.units; is = prefix_from c.args.rest.now (c.looks_cut_off.ensures.0 c.if-looks_cut_off.true) })

pub returns-in_default-2-clause-fault : goal.returns-in_default-2-clause-fault
returns-in_default-2-clause-fault c =
    let no : (length c.args.rest.now < 1) ⊎ (get_or c.args.rest.now 0 0 ≡ 0 → ⊥) =
    elim c.in_default.branch [ in_default-via-then-rest-lt1 w ↦ inl (search rules) | in_default-via-else-rest-lt1+in_default-1 w ↦ inr (search rules) ] in
    inr (record { count = c.args.count; len = c.args.len; units = c.args.units; rest = c.args.rest.now; begins = c.requires.count; after = c.requires.units; is = ((λ front. false≢true (c.if-looks_cut_off.ensures.1 (prefix_to c.args.rest.now front))), no_zero c.args.rest.now no) })
