use Rattle.dexcode.proofs.Common.{◌≡◌, ◌≤◌, take, most_handlers, handlers_weight}
use Rattle.dexcode.proofs.handlers.handlers_weight.Given as goal

abbrev pub invariant-loop-handler : goal.invariant-loop-handler
invariant-loop-handler l = (l.weight ≡ handlers_weight (take l.handler-index l.handlers)) × (l.weight ≤ most_handlers)
