use Rattle.dexinsn.proofs.Common.{◌≡◌, length, map, subst, sym, ap, ◌∙◌, AgreeBeside, Follow, renumbered_piece}
use Rattle.dexinsn.specs.{units_in}
use Rattle.dexinsn.proofs.SamePieces.{same_from_equivalent, equivalent_from_same}
use Rattle.dexinsn.proofs.PutUnits.{stored_follow}
use Rattle.dexinsn.proofs.Lined.{indexed_for}
use Rattle.dexinsn.proofs.pieces.Pieces.eq_pieces.Goals as goal

pub agree_beside-requires-clause-follow : goal.agree_beside-requires-clause-follow
agree_beside-requires-clause-follow c =
    subst (Follow (units_in c.self.inside.bytes.now) 0) (sym c.deref.ensures.value) (stored_follow (units_in c.self.inside.bytes.now) c.self.inside.indices.items c.self.invariant)

pub eq_indices-requires : goal.eq_indices-requires
eq_indices-requires c = indexed_for (units_in c.self.inside.bytes.now) c.of_bytes-units.result c.self.inside.indices.items c.deref-2.result.now c.self.invariant c.of_bytes-units.ensures c.deref-2.ensures.value

pub returns-then-len : goal.returns-then-len
returns-then-len c = (
  λ f. absurd cc,
  λ same.
      let a = equivalent_from_same c.args.mine.now c.args.theirs.now (units_in c.self.inside.bytes.now) (units_in c.other.inside.bytes.now) c.self.inside.indices.items c.other.inside.indices.items c.self.invariant c.other.invariant
      (ap (λ v. map (renumbered_piece c.args.mine.now) v.pieces) c.self.view_is ∙ same ∙ sym (ap (λ v. map (renumbered_piece c.args.theirs.now) v.pieces) c.other.view_is)) in
      absurd (c.if-len.true (c.len.ensures.len ∙ ap length c.of_bytes-units.ensures ∙ a.count ∙ sym (c.len-2.ensures.len ∙ ap length c.of_bytes.ensures))),
)

pub returns-then-not-agree_beside : goal.returns-then-not-agree_beside
returns-then-not-agree_beside c = (
  λ f. absurd cc,
  λ same.
      let a = equivalent_from_same c.args.mine.now c.args.theirs.now (units_in c.self.inside.bytes.now) (units_in c.other.inside.bytes.now) c.self.inside.indices.items c.other.inside.indices.items c.self.invariant c.other.invariant
      (ap (λ v. map (renumbered_piece c.args.mine.now) v.pieces) c.self.view_is ∙ same ∙ sym (ap (λ v. map (renumbered_piece c.args.theirs.now) v.pieces) c.other.view_is)) in
      sym c.if-not-agree_beside.true ∙ c.agree_beside.ensures.1 (subst (AgreeBeside (units_in c.self.inside.bytes.now) (units_in c.other.inside.bytes.now) 0) (sym c.deref.ensures.value) a.agree),
)

pub returns : goal.returns
returns c =
    let us = units_in c.self.inside.bytes.now in
    let vs = units_in c.other.inside.bytes.now in
    let is = c.self.inside.indices.items in
    let js = c.other.inside.indices.items in
    let mine = ap (λ v. map (renumbered_piece c.args.mine.now) v.pieces) c.self.view_is in
    let theirs = ap (λ v. map (renumbered_piece c.args.theirs.now) v.pieces) c.other.view_is in
    let count : length us ≡ length vs = sym (c.len.ensures.len ∙ ap length c.of_bytes-units.ensures) ∙ c.if-len.false ∙ c.len-2.ensures.len ∙ ap length c.of_bytes.ensures in
    let zipped = rw (c.of_bytes-units.ensures, c.deref-2.ensures.value, c.deref-3.ensures.value) at c.eq_indices.ensures in (
      λ yes. sym mine
          ∙ same_from_equivalent c.args.mine.now c.args.theirs.now us vs is js c.self.invariant c.other.invariant
          (record { count = count; agree = subst (AgreeBeside us vs 0) c.deref.ensures.value (c.agree_beside.ensures.0 c.if-not-agree_beside.false); are_mapped = zipped.0 yes })
          ∙ theirs,
      λ same. zipped.1 (equivalent_from_same c.args.mine.now c.args.theirs.now us vs is js c.self.invariant c.other.invariant (mine ∙ same ∙ sym theirs)).are_mapped,
    )
