-- The methods whose debug programs are at a place first.
use Rattle.std.specs.Prelude.{◌≡◌, ◌⊎◌, ℕ, ◌<◌, List, [], ◌∷◌, ◌++◌, length, Option, Some, None, slice_index_or}
use Rattle.std.specs.Option.{option_map_or}
use Rattle.dexmembers.specs.declared.code_list.StoredCode.{StoredCode}
use Rattle.dexmembers.specs.internal.Stored.{item_at}

-- the place of the debug program of the code at a place, if there is one
abbrev pub debug_place : {C : Type 0} → List (StoredCode C) → Option ℕ → Option ℕ
debug_place xs code = option_map_or (λ x. x.debug) (item_at xs code) None

-- the first of those that are known, by the places of debug programs, or this one
abbrev pub IsFirstOf : List ℕ → Option ℕ → ℕ → ℕ → Type 0
IsFirstOf firsts debug own place =
    (place ≡ own)
    ⊎ ((p : ℕ) × (debug ≡ Some p) × (p < length firsts) × (place ≡ slice_index_or firsts p 0))

-- nothing is added, or this one as the first at the next place of a debug program
abbrev pub AreFirstsWith : List ℕ → List ℕ → Option ℕ → ℕ → Type 0
AreFirstsWith old new debug own = (new ≡ old) ⊎ ((debug ≡ Some (length old)) × (new ≡ old ++ own ∷ []))
