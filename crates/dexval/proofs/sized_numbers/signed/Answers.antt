use Rattle.dexval.proofs.Common.{◌∙◌, ℕ, ◌*◌, ◌^◌, ◌<◌, subst, sym, ℤ, w64, to_z-of_z, magnitude}
use Rattle.dexval.proofs.Spelled.{signed_is, signed_room, fits_64}
use Rattle.dexval.proofs.sized_numbers.signed.Goals as goal

pub returns-clause-room : goal.returns-clause-room
returns-clause-room c = λ n le.
    let room = λ (k : ℕ) (fits : _). signed_room c.args.bytes.now c.read_int.result k (λ i. (c.type_inv.bytes i).fits) c.requires.some (c.read_int.ensures ∙ signed_is c.args.bytes.now c.requires.some) fits in
    subst (λ (z : ℤ). 2 * magnitude z < 256 ^ n) (sym (to_z-of_z w64 c.read_int.result (fits_64 c.read_int.result (room 8 c.requires.few)))) (room n le)
