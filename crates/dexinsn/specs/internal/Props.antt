-- Facts that have one proof at most.
use Rattle.std.proofs.Common.{ℕ, List, [], ◌∷◌, drop, ◌+◌}
use Rattle.std.proofs.Props.{props}
use Rattle.dexspec.specs.Pieces.{Cut, AreCut}

pub AreCut-prop : (at : ℕ) (us : List ℕ) (cs : List Cut) (rest : List ℕ) → IsProp (AreCut at us cs rest)
AreCut-prop at us [] rest = hlevel props
AreCut-prop at us (c ∷ cs) rest =
    let later : IsProp (AreCut (at + c.units) (drop c.units us) cs rest) =
    AreCut-prop (at + c.units) (drop c.units us) cs rest in
    hlevel (props, later)
