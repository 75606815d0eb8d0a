use Rattle.dexinsn.proofs.Common.{◌≡◌, ◌*◌, ◌%◌, ◌^◌, ◌<◌, ℤ, pos, ◌+ℤ◌, ◌-ℤ◌, true, rules, to_z, of_z, w32, w64, sym, subst, arith, ◌↔◌, bit_or, nat_abs, SFits, ints, to_z-of_z, AllFrom}
use Rattle.dexinsn.proofs.TargetGroups.{bit_stays, one_more}
use Rattle.dexinsn.proofs.target_group.TargetGroup.with.Goals as goal

pub invariant_of-result : goal.invariant_of-result
invariant_of-result c =
    record { has_first = bit_stays c.args.self.bits (1 * 2 ^ nat_abs (to_z w64 (of_z w64 (to_z w64 (of_z w64 c.from.result) -ℤ to_z w64 (of_z w64 c.from-2.result)))) % 2 ^ 64) 0 c.args.self.has_first }

pub returns : goal.returns
returns c = λ test.
    let distance : ℤ = to_z w64 (of_z w64 (to_z w64 (of_z w64 c.from.result) -ℤ to_z w64 (of_z w64 c.from-2.result))) in
    let fits : SFits w32 c.args.self.first = search rules in
    let near : nat_abs distance < 64 = grind (arith, ints) in
    let at : c.args.self.first +ℤ pos (nat_abs distance) ≡ c.args.target = grind (arith, ints) in
    subst (λ (z : ℤ). AllFrom test z (bit_or c.args.self.bits (1 * 2 ^ nat_abs distance % 2 ^ 64)) ↔ (AllFrom test c.args.self.first c.args.self.bits × (test c.args.target ≡ true))) (sym (to_z-of_z w32 c.args.self.first fits))
    (one_more test c.args.self.first c.args.target c.args.self.bits (nat_abs distance) near at)
