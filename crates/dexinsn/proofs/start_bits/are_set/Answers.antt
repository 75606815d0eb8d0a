use Rattle.dexinsn.proofs.Common.{◌≡◌, ℕ, ◌^◌, ◌<◌, pos, to_z, of_z, w64, arith, eqb-true, eq-eqb, bit_and, bit_not, nat_abs, ints}
use Rattle.dexinsn.proofs.StartBits.{places_are}
use Rattle.dexinsn.proofs.start_bits.are_set.Goals as goal

pub returns : goal.returns
returns c =
    let unit : ℕ = nat_abs (to_z w64 (of_z w64 c.args.place)) in
    let here : c.args.place ≡ pos unit = grind (arith, ints) in
    let word : c.bits_from.result < 2 ^ 64 = omega arith in
    let both = places_are c.args.words.now c.args.place unit c.args.mask c.bits_from.result here (omega arith) word c.bits_from.ensures in
    (λ e. both.0 (eqb-true (bit_and c.args.mask (bit_not w64 c.bits_from.result)) 0 e), λ all. eq-eqb (bit_and c.args.mask (bit_not w64 c.bits_from.result)) 0 (both.1 all))
