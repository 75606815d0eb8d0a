use Rattle.dexdebug.proofs.Common.{ℕ, nat_eq, sym, HasDebugAt}
use Rattle.std.specs.HashMap.{get}
use Rattle.dexdebug.proofs.DebugsChecked.{debug_found, number_added}
use Rattle.dexdebug.proofs.checked_debugs.checked_debug_at.Goals as goal

pub returns-in-Some-clause-debug : goal.returns-in-Some-clause-debug
returns-in-Some-clause-debug c = λ pools. c.requires pools c.args.off c.in-Some.weight.now (sym c.in-Some.ensures.value)

pub returns-clause-debug : goal.returns-clause-debug
returns-clause-debug c = λ pools. debug_found c.args.frame.now c.args.off c.args.pools.now c.in_ok-shape.shape c.in_ok-shape.ensures.shape (c.in_ok-shape.ensures.debug pools)

pub returns-clause-checked : goal.returns-clause-checked
returns-clause-checked c = λ pools.
    number_added (HasDebugAt c.args.frame.now) (λ (q : ℕ). get nat_eq c.args.checked.now.weights q) (λ (q : ℕ). get nat_eq c.insert.new.self q) c.args.off c.in_ok-shape.shape.weight (c.requires pools)
    (debug_found c.args.frame.now c.args.off c.args.pools.now c.in_ok-shape.shape c.in_ok-shape.ensures.shape (c.in_ok-shape.ensures.debug pools)) c.in_ok-insert.ensures.updates.1 c.in_ok-insert.ensures.updates.2
