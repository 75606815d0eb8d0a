use Rattle.dexinsn.proofs.Common.{◌≡◌, ℕ, ◌+◌, ◌-◌, ◌<◌, length, get_or, subst, ◌∙◌, arith, Index, IsCountBefore}
use Rattle.dexinsn.proofs.StoredRead.{any_default}
use Rattle.dexinsn.proofs.BlankUnits.{last_covers, none_covers, stored_rise}
use Rattle.dexinsn.proofs.Lined.{indexed_at}
use Rattle.dexinsn.proofs.unit.is_of_index.Goals as goal

pub count_before-count-requires : goal.count_before-count-requires
count_before-count-requires c = stored_rise c.args.units.now c.args.indices.now c.requires

pub returns-then-count-eq0 : goal.returns-then-count-eq0
returns-then-count-eq0 c = none_covers c.args.units.now c.args.indices.now c.args.unit (subst (IsCountBefore c.args.indices.now c.args.unit) c.if-count-eq0.true c.count_before-count.ensures)

pub is_in_index-requires-clause-few : goal.is_in_index-requires-clause-few
is_in_index-requires-clause-few c = c.requires.few

pub is_in_index-requires-clause-first : goal.is_in_index-requires-clause-first
is_in_index-requires-clause-first c =
    let d : Index = record { unit = 0; number = 0 } in
    let k : ℕ = c.count_before-count.result - 1 in
    let lt : k < length c.args.indices.now = omega (arith, c.count_before-count.ensures.within, c.if-count-eq0.false) in
    omega (arith, (indexed_at c.args.units.now c.args.indices.now k (get_or c.args.indices.now k d) c.requires lt (any_default c.args.indices.now k d (get_or c.args.indices.now k d) lt)).within)

pub returns : goal.returns
returns c =
    let k : ℕ = c.count_before-count.result - 1 in
    let more : c.count_before-count.result ≡ k + 1 = omega (arith, c.if-count-eq0.false) in
    c.is_in_index.ensures
    ∙ last_covers c.args.units.now c.args.indices.now c.args.unit k (record { unit = 0; number = 0 }) c.requires (subst (IsCountBefore c.args.indices.now c.args.unit) more c.count_before-count.ensures)
