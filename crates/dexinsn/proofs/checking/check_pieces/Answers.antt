use Rattle.dexinsn.proofs.Common.{◌≡◌, ◌+◌, ◌/◌, length, ap, sym, subst, ◌∙◌, arith, ushort_at, RegistersAt, length-ushorts_at, AreStartsAt}
use Rattle.std.proofs.lemmas.Result.{err_from_is_err_and}
use Rattle.dexinsn.specs.{units_in}
use Rattle.dexinsn.proofs.StoredRead.{pieces_fault, starts_there, few_units}
use Rattle.dexinsn.proofs.Halves.{ushort_after}
use Rattle.dexinsn.proofs.NotedTargets.{pieces_there, shape_there}
use Rattle.dexinsn.proofs.checking.check_pieces.Goals as goal

pub check_units-requires : goal.check_units-requires
check_units-requires c = few_units c.args.frame.now c.args.off c.in-Some.bytes.now c.in-Some.ensures

pub returns-in_err-indices-clause-refused : goal.returns-in_err-indices-clause-refused
returns-in_err-indices-clause-refused c = λ pools.
    let p = err_from_is_err_and c.from_residual.result c.from_residual.ensures.1 in
    rw (p.1, p.2) (pieces_fault c.args.frame.now c.args.off c.args.pools.now c.in-Some.bytes.now c.in_err-indices.field-0.0 pools c.in-Some.ensures c.in_err-indices.ensures.fault)

pub returns : goal.returns
returns c =
    let bytes = c.in-Some.bytes.now in
    let first : c.args.off + 0 ≡ c.args.off = omega arith in
    let registers : RegistersAt c.args.frame.now c.args.off c.u16_at.result c.u16_at-2.result c.u16_at-3.result = record {
      registers_size = ap (ushort_at c.args.frame.now) (sym first) ∙ sym (rw c.rest-code.ensures at c.u16_at.ensures ∙ ushort_after c.args.frame.now c.args.off 0);
      ins_size = sym (rw c.rest-code.ensures at c.u16_at-2.ensures ∙ ushort_after c.args.frame.now c.args.off 2);
      outs_size = sym (rw c.rest-code.ensures at c.u16_at-3.ensures ∙ ushort_after c.args.frame.now c.args.off 4);
    } in
    let count : length bytes / 2 ≡ length (units_in bytes) = sym (length-ushorts_at bytes 0 (length bytes / 2)) in
    record {
      shape = shape_there c.args.frame.now c.args.off c.args.pools.now bytes _ c.in-Some.ensures registers count c.in_ok-indices.ensures.indices;
      pieces = λ pools. pieces_there c.args.frame.now c.args.off c.args.pools.now bytes _ pools c.in-Some.ensures registers count c.in_ok-indices.ensures.indices;
      starts = subst (AreStartsAt c.args.frame.now c.args.off) (sym c.in_ok-indices.ensures.starts.1) (starts_there c.args.frame.now c.args.off bytes c.in_ok-indices.ensures.starts.0 c.in-Some.ensures c.in_ok-indices.ensures.starts.2);
      refused = λ pools. tt;
    }

pub overflow_cast-result : goal.overflow_cast-result
overflow_cast-result c = let bytes = c.in-Some.bytes.now in omega (arith, length-ushorts_at bytes 0 (length bytes / 2), few_units c.args.frame.now c.args.off bytes c.in-Some.ensures)
