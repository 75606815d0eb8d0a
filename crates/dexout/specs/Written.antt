-- What a writer is left with.
use Rattle.std.specs.Prelude.{◌≡◌, ℕ, List, ◌++◌, take}
use Rattle.dexout.specs.declared.faults.StoreFault.{StoreFault}
use Rattle.dexout.specs.declared.faults.StoreFault.TheVariants.{Memory, Io}

-- after a fault of the writer it has taken a prefix of what was to be written, and after out of memory nothing
abbrev pub HasLeft : {W : Type 0} → Type 0 → W → W → (W → List ℕ) → List ℕ → StoreFault → Type 0
HasLeft reports old new taken whole Memory = new ≡ old
HasLeft reports old new taken whole Io = reports → (n : ℕ) × (taken new ≡ taken old ++ take n whole)

-- where the writer reports what it takes, it has taken x
abbrev pub HasTaken : {W : Type 0} → (W → Type 0) → (W → List ℕ) → W → W → List ℕ → Type 0
HasTaken reports taken old new x = reports old → taken new ≡ taken old ++ x
