use Rattle.dexinsn.proofs.Common.{◌≡◌, ◌+◌, ◌<◌, ℕ, List, ap, ◌∙◌, arith, length, drop, length-drop, get_or, get_or-drop, is_payload_ident, slice_index}
use Rattle.dexinsn.proofs.IndexRoom.{size_is}
use Rattle.dexinsn.proofs.Listings.{payload_two}
use Rattle.dexinsn.proofs.Placed.{ident_begins}
use Rattle.dexinsn.proofs.long_switches.targets_at.Goals as goal

first_at : (at : ℕ) (us : List ℕ) → slice_index (drop at us) 0 ≡ slice_index us at
first_at at us = let z : at + 0 ≡ at = omega arith in get_or-drop at us 0 0 ∙ ap (λ (k : ℕ). get_or us k 0) z

pub at-requires : goal.at-requires
at-requires c =
    let rest = drop c.args.unit c.args.units.now in
    let size = size_is _ c.requires.piece in
    let two : 1 < length rest = payload_two c.args.unit size.0 rest size.1 (ap is_payload_ident (first_at c.args.unit c.args.units.now ∙ c.requires.kind) ∙ ident_begins c.args.kind) in
    omega (arith, length-drop c.args.unit c.args.units.now, two)
