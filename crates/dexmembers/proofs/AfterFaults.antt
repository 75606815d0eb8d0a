-- What holds after a fault.
use Rattle.dexmembers.proofs.Common.{ℕ, List, Result, Ok, Err, IfOk, IfErr, arith, ItemFault, Refused, Memory, IsStaticsFault}
use Rattle.dexmembers.specs.{IsMembersFault}
use Rattle.dexmembers.specs.TooHeavy.{IfTooHeavy}

-- what holds in any case holds after a fault
pub still_holds : (P : Type 0) (fault : ItemFault) → P → IfTooHeavy P fault
still_holds P Memory h = tt
still_holds P (Refused n) h = λ heavy. h

-- and after any result
pub still_holds_after : {X : Type 0} (P : Type 0) (r : Result X ItemFault) → P → IfOk r (λ x. P) × IfErr r (IfTooHeavy P)
still_holds_after P (Ok x) h = (h, tt)
still_holds_after P (Err fault) h = (tt, still_holds P fault h)

-- static values that are not there are not too heavy
pub not_there : (P : Type 0) (b : List ℕ) (off : ℕ) (fault : ItemFault) → IsStaticsFault b off fault → IfTooHeavy P fault
not_there P b off Memory is = tt
not_there P b off (Refused n) is = λ heavy. absurd (omega (arith, heavy, is.0))

-- nor is what a row declares where a condition fails
pub not_heavy : (P : Type 0) (b : List ℕ) (r : ℕ) (fault : ItemFault) → IsMembersFault b r fault → IfTooHeavy P fault
not_heavy P b r Memory is = tt
not_heavy P b r (Refused n) is = λ heavy. absurd (omega (arith, heavy, is.3))
