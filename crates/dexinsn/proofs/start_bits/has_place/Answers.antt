use Rattle.dexinsn.proofs.Common.{◌≡◌, ℕ, ◌/◌, ◌%◌, ◌^◌, pos, slice_index, to_z, of_z, w64, arith, eqb-true, eq-eqb, nat_abs, ints}
use Rattle.dexinsn.proofs.Placed.{no_place_past, bit_is}
use Rattle.dexinsn.proofs.start_bits.has_place.Goals as goal

pub returns-then-words-unit : goal.returns-then-words-unit
returns-then-words-unit c =
    let unit : ℕ = nat_abs (to_z w64 (of_z w64 c.args.place)) in
    let here : c.args.place ≡ pos unit = grind (arith, ints) in (λ e. cc, λ has. absurd (no_place_past c.args.words.now c.args.place unit here (omega arith) has))

pub returns : goal.returns
returns c =
    let unit : ℕ = nat_abs (to_z w64 (of_z w64 c.args.place)) in
    let here : c.args.place ≡ pos unit = grind (arith, ints) in
    let bit = bit_is c.args.words.now unit c.args.place here in let word = slice_index c.args.words.now (unit / 64) / 2 ^ (unit % 64) % 2 in (λ e. bit.0 (eqb-true word 1 e), λ has. eq-eqb word 1 (bit.1 has))
