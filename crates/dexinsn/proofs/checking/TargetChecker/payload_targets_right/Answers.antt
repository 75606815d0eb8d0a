use Rattle.dexinsn.proofs.Common.{◌≡◌, ℕ, pos, slice_index, to_z, of_z, w64, ap, sym, ◌∙◌, subst, ne_eqb, nat_abs, to_z-of_z, payload_targets, ident_of, are_right_targets}
use Rattle.dexinsn.specs.internal.{HasPlace}
use Rattle.dexinsn.proofs.RightTargets.{has_targets-nowhere, has_targets-payload}
use Rattle.dexinsn.proofs.Placed.{at_place, ident_begins, no_payload, payload_by_unit}
use Rattle.dexinsn.proofs.StartBits.{groups_are, start_bits}
use Rattle.dexinsn.proofs.checking.TargetChecker.payload_targets_right.Goals as goal

pub returns-then-not-has_place : goal.returns-then-not-has_place
returns-then-not-has_place c = λ cs starts noted.
    let same : to_z w64 (of_z w64 c.args.place) ≡ c.args.place = to_z-of_z w64 c.args.place c.ranges.place in
    has_targets-nowhere (ident_of c.args.kind) c.args.self.now.units.now cs c.args.at c.args.place
    (no_payload (ident_of c.args.kind) c.args.self.now.units.now cs c.args.self.now.noted.now c.args.place (ident_begins c.args.kind) (λ has. let set = c.has_place.ensures.1 (subst (HasPlace c.args.self.now.noted.now) (sym same) has) in let unset = c.if-not-has_place.true in cc) noted)

pub returns-then-at-ident : goal.returns-then-at-ident
returns-then-at-ident c = λ cs starts noted.
    let unit : ℕ = nat_abs (to_z w64 (of_z w64 c.args.place)) in
    let same : to_z w64 (of_z w64 c.args.place) ≡ c.args.place = to_z-of_z w64 c.args.place c.ranges.place in
    let has = subst (HasPlace c.args.self.now.noted.now) same (c.has_place.ensures.0 c.if-not-has_place.false) in
    has_targets-nowhere (ident_of c.args.kind) c.args.self.now.units.now cs c.args.at c.args.place
    (payload_by_unit (ident_of c.args.kind) c.args.self.now.units.now cs c.args.self.now.noted.now c.args.place unit (at_place c.args.self.now.noted.now c.args.place has ∙ ap (λ p. pos (nat_abs p)) (sym same)) has noted
    ∙ ne_eqb (slice_index c.args.self.now.units.now unit) (ident_of c.args.kind) (λ e. c.if-at-ident.true (c.at.ensures.is ∙ e ∙ sym c.ident.ensures)))

pub returns-in-Some : goal.returns-in-Some
returns-in-Some c = λ cs starts noted.
    let us = c.args.self.now.units.now in
    let unit : ℕ = nat_abs (to_z w64 (of_z w64 c.args.place)) in
    let same : to_z w64 (of_z w64 c.args.place) ≡ c.args.place = to_z-of_z w64 c.args.place c.ranges.place in
    let has = subst (HasPlace c.args.self.now.noted.now) same (c.has_place.ensures.0 c.if-not-has_place.false) in
    let here : c.args.place ≡ pos unit = at_place c.args.self.now.noted.now c.args.place has ∙ ap (λ p. pos (nat_abs p)) (sym same) in
    let said : c.groups_right.result ≡ are_right_targets us cs c.args.at (payload_targets us unit) =
    groups_are us cs c.args.self.now.starts.now c.args.at (payload_targets us unit) c.in-Some.groups.now.items c.groups_right.result (start_bits us cs c.args.self.now.starts.now starts)
    (c.requires.switches unit c.in-Some.groups.now (sym c.in-Some.ensures.value)) (rw c.deref.ensures.value at c.groups_right.ensures) in
    has_targets-payload (ident_of c.args.kind) us cs c.args.at unit c.args.place c.groups_right.result
    (payload_by_unit (ident_of c.args.kind) us cs c.args.self.now.noted.now c.args.place unit here has noted) (sym c.at.ensures.is ∙ c.if-at-ident.false ∙ c.ident.ensures) here said
