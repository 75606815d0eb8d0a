use Rattle.dexmembers.proofs.Common.{◌≡◌, ◌+◌, ◌≤◌, length, map, arith, slice_index, length-map}
use Rattle.dexmembers.specs.{pair_bytes, both_bytes}
use Rattle.dexmembers.proofs.Partways.{partway_next, partway_last}
use Rattle.dexmembers.proofs.PairsMerged.{rest_of, step_first, step_second, step_last, first_there, second_there}
use Rattle.dexmembers.proofs.directory_put.encode_pairs.Goals as goal

pub merging-preserved-then-one-other : goal.merging-preserved-then-one-other
merging-preserved-then-one-other g c =
    let number = g.T.HasNumber.number_of in
    let xs = c.args.first.now in
    let ys = c.args.second.now in
    let os = c.split_at.result.0.now in
    let ks = c.split_at.result.1.now in
    let i = c.merging.i in
    let j = c.merging.j in
    let one = c.next_number-one in
    let other = c.next_number-other in
    let e : length os ≡ length (map number xs) = omega (arith, c.split_at.ensures.front_len, c.requires, length-map xs number) in
    let f : length ks ≡ length (map number ys) = omega (arith, c.split_at.ensures.back_len, c.requires, length-map ys number) in
    let less = c.if-one-other.true in
    let lt = first_there i (length xs) j (length ys) one.result other.result one.ensures.end other.ensures.there other.ensures.end less in
    record {
      first = omega (arith, lt);
      second = c.merging.invariant.second;
      left = partway_next g.O.Output.gives g.met.O.Output.both (pair_bytes (one.result, slice_index os i)) (rest_of (map number xs) os (map number ys) ks (i + 1) j) (both_bytes (map number xs) (map number ys) c.args.offsets.now)
          (rest_of (map number xs) os (map number ys) ks i j) c.args.out.now c.merging.out c.encode_pair.new.out
          (step_first (map number xs) os (map number ys) ks i j one.result e f (omega (arith, lt, length-map xs number)) one.ensures.number (omega (arith, less, other.ensures.number))) c.merging.invariant.left c.encode_pair.ensures;
    }

pub merging-preserved : goal.merging-preserved
merging-preserved g c =
    let number = g.T.HasNumber.number_of in
    let xs = c.args.first.now in
    let ys = c.args.second.now in
    let os = c.split_at.result.0.now in
    let ks = c.split_at.result.1.now in
    let i = c.merging.i in
    let j = c.merging.j in
    let one = c.next_number-one in
    let other = c.next_number-other in
    let e : length os ≡ length (map number xs) = omega (arith, c.split_at.ensures.front_len, c.requires, length-map xs number) in
    let f : length ks ≡ length (map number ys) = omega (arith, c.split_at.ensures.back_len, c.requires, length-map ys number) in
    let le : other.result ≤ one.result = omega (arith, c.if-one-other.false) in
    let lt = second_there i (length xs) j (length ys) one.result other.result one.ensures.there other.ensures.end le c.merging.invariant.first (omega (arith, c.merging-test.true, c.requires)) in
    record {
      first = c.merging.invariant.first;
      second = omega (arith, lt);
      left = partway_next g.O.Output.gives g.met.O.Output.both (pair_bytes (other.result, slice_index ks j)) (rest_of (map number xs) os (map number ys) ks i (j + 1)) (both_bytes (map number xs) (map number ys) c.args.offsets.now)
          (rest_of (map number xs) os (map number ys) ks i j) c.args.out.now c.merging.out c.encode_pair-else-one-other.new.out
          (step_second (map number xs) os (map number ys) ks i j other.result e f (omega (arith, lt, length-map ys number)) other.ensures.number (omega (arith, le, one.ensures.number))) c.merging.invariant.left c.encode_pair-else-one-other.ensures;
    }

pub returns : goal.returns
returns g c =
    let number = g.T.HasNumber.number_of in
    let xs = c.args.first.now in
    let ys = c.args.second.now in
    let os = c.split_at.result.0.now in
    let ks = c.split_at.result.1.now in
    let i = c.merging.i in
    let j = c.merging.j in
    partway_last g.O.Output.gives (rest_of (map number xs) os (map number ys) ks i j) (both_bytes (map number xs) (map number ys) c.args.offsets.now) c.args.out.now c.merging.out
    (step_last (map number xs) os (map number ys) ks i j (omega (arith, length-map xs number, c.merging-test.false, c.requires, c.merging.invariant.first, c.merging.invariant.second)) (omega (arith, length-map ys number, c.merging-test.false, c.requires, c.merging.invariant.first, c.merging.invariant.second))) c.merging.invariant.left
