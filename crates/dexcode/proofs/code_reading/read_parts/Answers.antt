use Rattle.dexcode.proofs.Common.{ℕ, List, [], sym, subst, err_from_is_err_and, unwrap_or, AreRising, NumberedTry, TriesAt, AreStartsAt, IsTriesFault}
use Rattle.dexcode.proofs.CodesRead.{code_found, pieces_there, tries_fault}
use Rattle.dexcode.proofs.code_reading.read_parts.Goals as goal

pub returns-in_err-tries-clause-refused : goal.returns-in_err-tries-clause-refused
returns-in_err-tries-clause-refused c = λ pools.
    let p = err_from_is_err_and c.from_residual-in_err-tries.result c.from_residual-in_err-tries.ensures.1 in
    let fault = c.in_err-tries.field-0.0 in
    let rising = subst AreRising c.numbering.ensures c.is_numbering.ensures.rising in
    let first = subst (λ bytes. IsTriesFault ((ts : List NumberedTry) → TriesAt c.starts-starts.result c.len-types.result bytes c.args.off ts → ⊥) fault) c.bytes.ensures.bytes c.in_err-tries.ensures.fault in
    let none = subst (λ (n : ℕ). IsTriesFault ((ts : List NumberedTry) → TriesAt c.starts-starts.result n c.args.frame.now c.args.off ts → ⊥) fault) c.len-types.ensures first in
    rw (p.1, p.2) (tries_fault c.args.frame.now c.args.off c.args.pools.now pools rising c.starts-starts.result (subst (AreStartsAt c.args.frame.now c.args.off) (sym c.starts-starts.ensures) c.in_ok-shape.ensures.starts) c.in_ok-pieces.pieces (c.in_ok-pieces.ensures.pieces pools) fault none)

pub returns-clause-parts : goal.returns-clause-parts
returns-clause-parts c = λ pools.
    let rising = subst AreRising c.numbering.ensures c.is_numbering.ensures.rising in
    let pieces = c.in_ok-pieces.ensures.pieces pools in
    let ts = unwrap_or c.in_ok-tries.tries [] in
    let first = subst (λ bytes. TriesAt c.starts-starts.result c.len-types.result bytes c.args.off ts) c.bytes.ensures.bytes c.in_ok-tries.ensures.tries in
    let tries = subst (λ (n : ℕ). TriesAt c.starts-starts.result n c.args.frame.now c.args.off ts) c.len-types.ensures first in
    record {
      pieces = pieces_there pieces;
      completed = λ d debug.
          code_found c.args.frame.now c.args.off c.args.pools.now pools rising c.starts-starts.result (subst (AreStartsAt c.args.frame.now c.args.off) (sym c.starts-starts.ensures) c.in_ok-shape.ensures.starts) c.in_ok-pieces.pieces c.in_ok-pieces.ensures.registers pieces ts tries d debug;
    }
