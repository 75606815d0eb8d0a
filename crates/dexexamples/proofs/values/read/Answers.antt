use Rattle.dexexamples.proofs.Common.{[], ◌∷◌, refl, arith, number_of}
use Rattle.dexexamples.proofs.values.read.Goals as goal

pub returns-clause-wide : goal.returns-clause-wide
unfolding number_of
returns-clause-wide c = (0x05 ∷ 0x00 ∷ 0x00 ∷ 0x00 ∷ [], record { some = omega arith; few = omega arith; encodes = record { here = refl }; size = refl }, refl)

pub returns-clause-byte : goal.returns-clause-byte
unfolding number_of
returns-clause-byte c = (0x80 ∷ [], record { some = omega arith; few = omega arith; encodes = record { here = refl }; size = refl }, refl)

pub returns-clause-char : goal.returns-clause-char
unfolding number_of
returns-clause-char c = (0xff ∷ 0xff ∷ [], record { some = omega arith; few = omega arith; encodes = record { here = refl }; size = refl }, refl)

pub returns-clause-long : goal.returns-clause-long
unfolding number_of
returns-clause-long c = (0xff ∷ 0xff ∷ 0xff ∷ 0xff ∷ 0xff ∷ 0xff ∷ 0xff ∷ 0xff ∷ [], record { some = omega arith; few = omega arith; encodes = record { here = refl }; size = refl }, refl)

pub returns-clause-double : goal.returns-clause-double
unfolding number_of
returns-clause-double c = (0x00 ∷ 0x00 ∷ 0x00 ∷ 0x00 ∷ 0x00 ∷ 0x00 ∷ 0xf0 ∷ 0x3f ∷ [], record { some = omega arith; few = omega arith; encodes = record { here = refl }; size = refl }, refl)

pub returns-clause-array : goal.returns-clause-array
returns-clause-array c =
    (record { here = refl }, 2, (1, 1, record { within = omega arith; spelled = record { chain = omega arith; few = omega arith; value = refl; in_range = omega arith } }, (1, 0, (record { here = refl }, refl), refl, refl), refl), refl)
