use Rattle.dexval.proofs.Common.{◌≡◌, ◌≤◌, ◌∙◌, ℕ, length, arith, subst, sym, ℤ, to_z, of_z, IfSome, w8, w16, w32, w64, ints, width_of, Spells}
use Rattle.dexval.proofs.Members.{byte_is, short_is, int_is}
use Rattle.dexval.proofs.Spelled.{fits_8, fits_16, fits_32}
use Rattle.dexval.proofs.scalars.spelled.Goals as goal

pub overflow_cast-result : goal.overflow_cast-result
overflow_cast-result c = omega (arith, ints, fits_8 c.signed.result (c.signed.ensures.room 1 (subst (λ (k : ℕ). IfSome (width_of k) (λ w. length c.args.number.now ≤ w)) c.in-0.is c.requires.few)))

pub overflow_cast-result-in-2 : goal.overflow_cast-result-in-2
overflow_cast-result-in-2 c = omega (arith, ints, fits_16 c.signed-in-2.result (c.signed-in-2.ensures.room 2 (subst (λ (k : ℕ). IfSome (width_of k) (λ w. length c.args.number.now ≤ w)) c.in-2.is c.requires.few)))

pub overflow_cast-result-in-3 : goal.overflow_cast-result-in-3
overflow_cast-result-in-3 c = omega (arith, c.unsigned.ensures.room 2 (subst (λ (k : ℕ). IfSome (width_of k) (λ w. length c.args.number.now ≤ w)) c.in-3.is c.requires.few))

pub overflow_cast-result-in-4 : goal.overflow_cast-result-in-4
overflow_cast-result-in-4 c = omega (arith, ints, fits_32 c.signed-in-4.result (c.signed-in-4.ensures.room 4 (subst (λ (k : ℕ). IfSome (width_of k) (λ w. length c.args.number.now ≤ w)) c.in-4.is c.requires.few)))

pub overflow_cast-result-in-16 : goal.overflow_cast-result-in-16
overflow_cast-result-in-16 c = omega (arith, c.bits.ensures.room)

pub returns-in-0 : goal.returns-in-0
returns-in-0 c =
    let z : ℤ = to_z w8 (of_z w8 (to_z w64 (of_z w64 c.signed.result))) in
    let kept : z ≡ c.signed.result = omega (arith, ints, fits_8 c.signed.result (c.signed.ensures.room 1 (subst (λ (k : ℕ). IfSome (width_of k) (λ w. length c.args.number.now ≤ w)) c.in-0.is c.requires.few))) in
    subst (Spells c.args.pools.now c.args.code c.args.number.now) (sym (byte_is z)) (c.in-0.is, kept ∙ c.signed.ensures.value)

pub returns-in-2 : goal.returns-in-2
returns-in-2 c =
    let z : ℤ = to_z w16 (of_z w16 (to_z w64 (of_z w64 c.signed-in-2.result))) in
    let kept : z ≡ c.signed-in-2.result = omega (arith, ints, fits_16 c.signed-in-2.result (c.signed-in-2.ensures.room 2 (subst (λ (k : ℕ). IfSome (width_of k) (λ w. length c.args.number.now ≤ w)) c.in-2.is c.requires.few))) in
    subst (Spells c.args.pools.now c.args.code c.args.number.now) (sym (short_is z)) (c.in-2.is, kept ∙ c.signed-in-2.ensures.value)

pub returns-in-4 : goal.returns-in-4
returns-in-4 c =
    let z : ℤ = to_z w32 (of_z w32 (to_z w64 (of_z w64 c.signed-in-4.result))) in
    let kept : z ≡ c.signed-in-4.result = omega (arith, ints, fits_32 c.signed-in-4.result (c.signed-in-4.ensures.room 4 (subst (λ (k : ℕ). IfSome (width_of k) (λ w. length c.args.number.now ≤ w)) c.in-4.is c.requires.few))) in
    subst (Spells c.args.pools.now c.args.code c.args.number.now) (sym (int_is z)) (c.in-4.is, kept ∙ c.signed-in-4.ensures.value)
