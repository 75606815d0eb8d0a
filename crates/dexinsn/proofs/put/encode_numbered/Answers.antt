use Rattle.dexinsn.proofs.Common.{◌≡◌, ℕ, ◌+◌, ◌<◌, length, drop, get_or, ap, sym, ◌∙◌, subst, arith, flat_map, ushort, is_wide_index, Completes, completes_none, after_index, spelled_from, Follow}
use Rattle.dexinsn.specs.{units_in}
use Rattle.dexinsn.proofs.Halves.{length_from}
use Rattle.dexinsn.proofs.PutUnits.{stored_follow, Next, next_index, follow_within, put_more, put_last}
use Rattle.dexinsn.proofs.put.encode_numbered.Goals as goal

pub loop-index-init : goal.loop-index-init
loop-index-init g c = record { completes = completes_none g.O.Output.gives (flat_map ushort (spelled_from (units_in c.args.bytes.now) 0 c.args.indices.now)) c.args.out.now; follow = stored_follow (units_in c.args.bytes.now) c.args.indices.now c.requires }

pub is_wide_at-is_wide-requires : goal.is_wide_at-is_wide-requires
is_wide_at-is_wide-requires g c =
    let n : Next (units_in c.args.bytes.now) c.loop-index.from (get_or c.args.indices.now c.loop-index.index-index (record { unit = 0; number = 0 })) (drop (c.loop-index.index-index + 1) c.args.indices.now) = next_index (units_in c.args.bytes.now) c.loop-index.from c.args.indices.now c.loop-index.index-index (record { unit = 0; number = 0 }) c.loop-index-test.true c.loop-index.invariant.follow in
    subst (λ us. (get_or c.args.indices.now c.loop-index.index-index (record { unit = 0; number = 0 })).unit < length us) (sym c.of_bytes-units.ensures) (omega (arith, n.inside))

pub encode_part-requires-clause-within : goal.encode_part-requires-clause-within
encode_part-requires-clause-within g c =
    let n : Next (units_in c.args.bytes.now) c.loop-index.from (get_or c.args.indices.now c.loop-index.index-index (record { unit = 0; number = 0 })) (drop (c.loop-index.index-index + 1) c.args.indices.now) = next_index (units_in c.args.bytes.now) c.loop-index.from c.args.indices.now c.loop-index.index-index (record { unit = 0; number = 0 }) c.loop-index-test.true c.loop-index.invariant.follow in
    omega (arith, n.inside, length_from c.args.bytes.now)

pub encode_part-requires-2-clause-within : goal.encode_part-requires-2-clause-within
encode_part-requires-2-clause-within g c = omega (arith, length_from c.args.bytes.now, c.len.ensures.len ∙ ap length c.of_bytes-units.ensures)

pub loop-index-preserved : goal.loop-index-preserved
loop-index-preserved g c =
    let us = units_in c.args.bytes.now in
    let is = c.args.indices.now in
    let i = c.loop-index.index-index in
    let n : Next (units_in c.args.bytes.now) c.loop-index.from (get_or c.args.indices.now c.loop-index.index-index (record { unit = 0; number = 0 })) (drop (c.loop-index.index-index + 1) c.args.indices.now) = next_index (units_in c.args.bytes.now) c.loop-index.from c.args.indices.now c.loop-index.index-index (record { unit = 0; number = 0 }) c.loop-index-test.true c.loop-index.invariant.follow in
    let w : c.is_wide_at-is_wide.result ≡ is_wide_index (drop (get_or c.args.indices.now c.loop-index.index-index (record { unit = 0; number = 0 })).unit (units_in c.args.bytes.now)) = rw c.of_bytes-units.ensures at c.is_wide_at-is_wide.ensures in
    let more = put_more g.O.Output.gives g.met.O.Output.both us c.loop-index.from is i (record { unit = 0; number = 0 }) c.is_wide_at-is_wide.result (flat_map ushort (spelled_from us 0 is)) c.args.out.now c.loop-index.out c.encode_part.new.out c.encode_number.new.out c.loop-index-test.true w
    c.loop-index.invariant.completes c.encode_part.ensures c.encode_number.ensures in
    record {
      completes = subst (λ (k : ℕ). Completes g.O.Output.gives (flat_map ushort (spelled_from us k (drop (i + 1) is))) c.encode_number.new.out (flat_map ushort (spelled_from us 0 is)) c.args.out.now) (sym c.after_index-from.ensures) more;
      follow = subst (λ (k : ℕ). Follow us k (drop (i + 1) is)) (sym (c.after_index-from.ensures ∙ ap (λ b. after_index b (get_or is i (record { unit = 0; number = 0 })).unit) w)) n.later;
    }

pub returns : goal.returns
returns g c =
    put_last g.O.Output.gives (units_in c.args.bytes.now) c.loop-index.from c.len.result c.args.indices.now c.loop-index.index-index (flat_map ushort (spelled_from (units_in c.args.bytes.now) 0 c.args.indices.now)) c.args.out.now c.loop-index.out c.encode_part-2.new.out c.loop-index-test.false (c.len.ensures.len ∙ ap length c.of_bytes-units.ensures)
    (follow_within (units_in c.args.bytes.now) c.loop-index.from (drop c.loop-index.index-index c.args.indices.now) c.loop-index.invariant.follow) c.loop-index.invariant.completes c.encode_part-2.ensures
