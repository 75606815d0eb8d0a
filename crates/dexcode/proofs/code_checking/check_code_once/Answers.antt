use Rattle.dexcode.proofs.Common.{◌≡◌, ◌+◌, ◌*◌, ℕ, List, sym, subst, ◌∙◌, arith, err_from_is_err_and, AreRising, NumberedCode, AreStartsAt, HasCodeOf, HaveTriesOf, NumberedTry, IsTriesFault, TriesAt}
use Rattle.dexcode.proofs.CodesRead.{code_weighed, pieces_there, program_fault, tries_fault}
use Rattle.dexcode.proofs.code_checking.check_code_once.Goals as goal

pub returns-in_err-tries-clause-refused : goal.returns-in_err-tries-clause-refused
returns-in_err-tries-clause-refused c = λ pools.
    let p = err_from_is_err_and c.from_residual-in_err-tries.result c.from_residual-in_err-tries.ensures.1 in
    let fault = c.in_err-tries.field-0.0 in
    let pieces = c.in_ok-pieces.ensures.pieces pools in
    let body : NumberedCode = record { registers = c.in_ok-pieces.pieces.registers; ins = c.in_ok-pieces.pieces.ins; outs = c.in_ok-pieces.pieces.outs; pieces = pieces.pieces } in
    let first = subst (λ bytes. IsTriesFault ((ts : List NumberedTry) → TriesAt c.starts-starts.result c.len-types.result bytes c.args.off ts → ⊥) fault) c.bytes.ensures.bytes c.in_err-tries.ensures.fault in
    rw (p.1, p.2) (tries_fault c.args.frame.now c.args.off c.args.pools.now pools (subst AreRising c.numbering.ensures c.is_numbering.ensures.rising) c.starts-starts.result
    (subst (AreStartsAt c.args.frame.now c.args.off) (sym c.starts-starts.ensures) c.in_ok-pieces.ensures.starts) body pieces.at fault (subst (λ (n : ℕ). IsTriesFault ((ts : List NumberedTry) → TriesAt c.starts-starts.result n c.args.frame.now c.args.off ts → ⊥) fault) c.len-types.ensures first))

pub returns-in_err-program-clause-refused : goal.returns-in_err-program-clause-refused
returns-in_err-program-clause-refused c = λ pools.
    let p = err_from_is_err_and c.from_residual-in_err-program.result c.from_residual-in_err-program.ensures.1 in
    rw (p.1, p.2) (program_fault (pieces_there (c.in_ok-pieces.ensures.pieces pools).at) c.in_err-program.field-0.0 (c.in_err-program.ensures.refused pools))

pub returns-clause-code : goal.returns-clause-code
returns-clause-code c = λ pools.
    let first = subst (λ bytes. HaveTriesOf c.starts-starts.result c.len-types.result bytes c.args.off c.in_ok-tries.tries) c.bytes.ensures.bytes c.in_ok-tries.ensures.tries in
    let tries = subst (λ (n : ℕ). HaveTriesOf c.starts-starts.result n c.args.frame.now c.args.off c.in_ok-tries.tries) c.len-types.ensures first in
    let program = c.in_ok-program.ensures.program pools in
    let weight : 24 + 2 * c.in_ok-pieces.pieces.units + c.in_ok-tries.tries + c.in_ok-program.program ≡ c.saturating_add.result = omega (arith, c.from.ensures ∙ c.units.ensures, program.light, c.in_ok-tries.ensures.light, c.saturating_add.ensures, c.ranges) in
    subst (λ (n : ℕ). HasCodeOf c.args.frame.now c.args.off n) weight
    (code_weighed c.code_weight_law.ensures c.args.frame.now c.args.off c.args.pools.now pools (subst AreRising c.numbering.ensures c.is_numbering.ensures.rising) c.starts-starts.result
    (subst (AreStartsAt c.args.frame.now c.args.off) (sym c.starts-starts.ensures) c.in_ok-pieces.ensures.starts) c.in_ok-pieces.pieces (c.in_ok-pieces.ensures.pieces pools) c.in_ok-tries.tries c.in_ok-program.program tries program)
