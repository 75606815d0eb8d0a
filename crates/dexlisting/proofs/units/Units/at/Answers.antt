use Rattle.std.proofs.Common.{◌≡◌, ◌+◌, ◌*◌, ◌<◌, ◌≤◌, ap, sym, ◌∙◌, arith, length, take, drop, slice_index, get_or-take, get_or-drop, length-take}
use Rattle.std.specs.List.{flat_map}
use Rattle.std.proofs.lemmas.List.{get_or_past}
use Rattle.dexinsn.specs.Blank.{blank_units}
use Rattle.dexlisting.proofs.Shown.{bytes_counted}
use Rattle.dexlisting.proofs.Blanks.{blanks_counted}
use Rattle.dexlisting.proofs.units.Units.at.Goals as goal

pub unit-requires : goal.unit-requires
unit-requires c =
    let ps = c.self.inside.pieces.now.pieces in
    omega (arith, bytes_counted ps, blanks_counted ps, c.self.invariant.0, c.if-place-self.true)

pub returns-then-place-self : goal.returns-then-place-self
returns-then-place-self c =
    let all = flat_map blank_units c.self.inside.pieces.now.pieces in
    let first = c.self.inside.first in
    c.unit.ensures ∙ sym (get_or-take c.self.inside.count (drop first all) c.args.place 0 c.if-place-self.true ∙ get_or-drop first all c.args.place 0) ∙ ap (λ us. slice_index us c.args.place) c.self.view_is

pub returns-else-place-self : goal.returns-else-place-self
returns-else-place-self c =
    let us = take c.self.inside.count (drop c.self.inside.first (flat_map blank_units c.self.inside.pieces.now.pieces)) in
    sym (get_or_past us c.args.place 0 (omega (arith, length-take c.self.inside.count (drop c.self.inside.first (flat_map blank_units c.self.inside.pieces.now.pieces)), c.if-place-self.false))) ∙ ap (λ us. slice_index us c.args.place) c.self.view_is
