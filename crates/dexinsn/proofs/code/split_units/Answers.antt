use Rattle.dexinsn.proofs.Common.{◌/◌, ◌+◌, length, ap, sym, subst, arith, cuts_of, AreNoted, begins_instruction, is_noted}
use Rattle.dexinsn.proofs.Outcome.{cut_bad_target, cut_code, cut_noted}
use Rattle.dexinsn.proofs.Passed.{none_bits}
use Rattle.dexinsn.proofs.code.split_units.Goals as goal

pub cut_units-requires-clause-starts : goal.cut_units-requires-clause-starts
cut_units-requires-clause-starts c = none_bits begins_instruction c.args.units.now c.wipe.new.words.items (c.len.result / 64 + 2) (ap (λ n. n / 64 + 2) c.len.ensures.len) c.in_ok-wipe.ensures

pub cut_units-requires-clause-noted : goal.cut_units-requires-clause-noted
cut_units-requires-clause-noted c = none_bits is_noted c.args.units.now c.wipe-2.new.words.items (c.len.result / 64 + 2) (ap (λ n. n / 64 + 2) c.len.ensures.len) c.in_ok-wipe-2.ensures

pub find-requires-clause-noted : goal.find-requires-clause-noted
find-requires-clause-noted c =
    subst (AreNoted c.args.units.now) (sym c.deref.ensures.value) (cut_noted c.args.units.now (cuts_of c.in_ok-cuts.cuts.items) c.cut_units.new.starts.items c.cut_units.new.noted.items c.in_ok-cuts.ensures.cuts)

pub find-requires-clause-few : goal.find-requires-clause-few
find-requires-clause-few c = omega (arith, ap length c.deref.ensures.value, c.in_ok-cuts.ensures.cuts.noted_are.room, c.len.ensures.small)

pub first_bad_target-requires-clause-cuts : goal.first_bad_target-requires-clause-cuts
first_bad_target-requires-clause-cuts c = rw (sym c.deref-2.ensures.value, sym c.deref-3.ensures.value, sym c.deref-4.ensures.value) at c.in_ok-cuts.ensures.cuts

pub returns-in-Some-clause-fault : goal.returns-in-Some-clause-fault
returns-in-Some-clause-fault c =
    cut_bad_target c.args.units.now (cuts_of c.in_ok-cuts.cuts.items) c.cut_units.new.starts.items c.cut_units.new.noted.items c.in-Some.unit c.in_ok-cuts.ensures.cuts
    (sym (rw c.deref-4.ensures.value at c.in-Some.ensures))

pub returns-clause-code : goal.returns-clause-code
returns-clause-code c =
    cut_code c.args.units.now (cuts_of c.in_ok-cuts.cuts.items) c.cut_units.new.starts.items c.cut_units.new.noted.items c.requires c.in_ok-cuts.ensures.cuts
    (sym (rw c.deref-4.ensures.value at c.in-None.ensures))
