use Rattle.dexcode.proofs.Common.{◌≡◌, ◌<◌, ◌≤◌, ℕ, length, take, get_or, handlers_weight, place_of}
use Rattle.dexcode.proofs.code_put.place_handlers.Given as goal

abbrev pub invariant-loop-i : goal.invariant-loop-i
invariant-loop-i l = record { sum : l.place ≡ place_of l.handlers l.i; few : l.place ≤ handlers_weight (take l.i l.handlers); count : length l.places ≡ length l.fn.places; each : (k : ℕ) → k < l.i → get_or l.places k 0 ≡ place_of l.handlers k }
