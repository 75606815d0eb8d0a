use Rattle.dexmembers.proofs.Common.{refl, length, err_from_is_err_and}
use Rattle.dexmembers.proofs.DataCounts.{no_fields, no_methods}
use Rattle.dexmembers.proofs.MemberChains.{refused_so}
use Rattle.dexmembers.proofs.encoded_lists.ClassReader.read_data.Goals as goal

pub returns-in_default-clause-fault : goal.returns-in_default-clause-fault
returns-in_default-clause-fault c = (refl, λ ss is ds vs g. c.in_default.ensures.none (length ss) (length is) (length ds) (length vs) g.counts_size g.counts)

pub returns-in_err-static_fields-clause-fault : goal.returns-in_err-static_fields-clause-fault
returns-in_err-static_fields-clause-fault c =
    let p = err_from_is_err_and c.from_residual.result c.from_residual.ensures.1 in
    let n = c.in-Some.counts in
    rw (p.1, p.2) (refused_so (no_fields c.args.self.now.pools.now c.args.self.now.class c.args.self.now.bytes.now c.args.at n.0 n.1 n.2 n.3 c.in-Some.counts_size c.in-Some.ensures.some) c.in_err-static_fields.field-0.0 c.in_err-static_fields.ensures.fault)

pub returns-in_err-direct_methods-clause-fault : goal.returns-in_err-direct_methods-clause-fault
returns-in_err-direct_methods-clause-fault c =
    let p = err_from_is_err_and c.from_residual-in_err-direct_methods.result c.from_residual-in_err-direct_methods.ensures.1 in
    let n = c.in-Some.counts in
    let fields = c.in_ok-static_fields in
    rw (p.1, p.2) (refused_so
    (no_methods c.args.self.now.pools.now c.args.self.now.class c.args.self.now.bytes.now c.args.at n.0 n.1 n.2 n.3 c.in-Some.counts_size c.in-Some.ensures.some fields.static_fields.items fields.instance_fields.items fields.fields_size fields.ensures.lists)
    c.in_err-direct_methods.field-0.0 c.in_err-direct_methods.ensures.fault)
