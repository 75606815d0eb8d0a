-- The laws of canonical files.
use Rattle.dexspec.specs.Files.{Collection, definitions, Denotes}
use Rattle.dexspec.specs.WellFormed.{AreWellFormed}
use Rattle.dexspec.specs.Merging.{IsGood, greatest_caps}
use Rattle.dexspec.specs.Accepted.{IsAccepted}
use Rattle.dexspec.specs.Canonical.{canonical}

-- that of good and well formed definitions is accepted
abbrev pub CanonicalIsAccepted : Type 0
CanonicalIsAccepted =
    (K : Collection) → IsGood greatest_caps (definitions K) → AreWellFormed (definitions K) → IsAccepted (canonical K)

-- it denotes just these definitions
abbrev pub CanonicalDenotes : Type 0
CanonicalDenotes =
    (K : Collection) → IsGood greatest_caps (definitions K) → AreWellFormed (definitions K) → Denotes (canonical K) K
