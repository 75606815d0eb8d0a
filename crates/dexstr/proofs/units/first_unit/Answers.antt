use Rattle.dexstr.proofs.Common.{arith, ◌+◌}
use Rattle.dexstr.proofs.Forms.{any_none, no_second, no_third}
use Rattle.dexstr.proofs.units.first_unit.Goals as goal

pub returns-in_err-low-in-192-to-223-clause-none : goal.returns-in_err-low-in-192-to-223-clause-none
returns-in_err-low-in-192-to-223-clause-none c =
    any_none c.from_residual-in_err-low-in-192-to-223.result (no_second c.args.bytes.now c.in_ok-lead.lead.now c.in_ok-lead.rest.now c.in_ok-lead.ensures.cases.0 (omega arith) c.in_err-low-in-192-to-223.ensures.none)

pub returns-in_err-middle-in-224-to-239-clause-none : goal.returns-in_err-middle-in-224-to-239-clause-none
returns-in_err-middle-in-224-to-239-clause-none c =
    any_none c.from_residual-in_err-middle-in-224-to-239.result (no_second c.args.bytes.now c.in_ok-lead.lead.now c.in_ok-lead.rest.now c.in_ok-lead.ensures.cases.0 (omega arith) c.in_err-middle-in-224-to-239.ensures.none)

pub returns-in_err-low-in-224-to-239-clause-none : goal.returns-in_err-low-in-224-to-239-clause-none
returns-in_err-low-in-224-to-239-clause-none c =
    any_none c.from_residual-in_err-low-in-224-to-239.result (no_third c.args.bytes.now c.in_ok-lead.lead.now (0x80 + c.in_ok-middle-in-224-to-239.middle) c.in_ok-lead.rest.now c.in_ok-middle-in-224-to-239.rest.now c.in_ok-lead.ensures.cases.0 c.in_ok-middle-in-224-to-239.ensures.found.1 (omega arith) c.in_err-low-in-224-to-239.ensures.none)
