-- The statements of the laws of the normal form: what the rows of a canonical file denote.
use Rattle.std.specs.Prelude.{◌≡◌, ◌↔◌, ℕ, ◌+◌, ◌^◌, ◌<◌, List, length, All, slice_index_or}
use Rattle.std.specs.List.{Contains, AllZip, flat_map}
use Rattle.std.specs.declared.cmp.Ordering.{Ordering}
use Rattle.dexspec.specs.Lists.{rank}
use Rattle.dexspec.specs.Symbols.{Symbol}
use Rattle.dexspec.specs.Rows.{SymbolRow}
use Rattle.dexspec.specs.Classes.{Definition, ClassRow}
use Rattle.dexspec.specs.Files.{Collection, definitions, Denotes, IsCollectionOf}
use Rattle.dexspec.specs.Depth.{in_class_order}
use Rattle.dexspec.specs.WellFormed.{AreWellFormed}
use Rattle.dexspec.specs.Merging.{Caps, AreCaps, greatest_caps, Fits, IsGood}
use Rattle.dexspec.specs.Canonical.{canonical}
use Rattle.dexspec.specs.Accepted.{IsAccepted}
use Rattle.dexspec.specs.Mentions.{Mentions, mentions, symbols_of}
use Rattle.dexspec.specs.Spellings.{symbol_index}

-- the i-th element of the list is x
pub record IsAt {X : Type 0} (xs : List X) (i : ℕ) (x : X) : Type 0 where
  pub within : i < length xs
  pub there : slice_index_or xs i x ≡ x

-- the rows are the elements of the list, in order: row i is x exactly if the i-th element is x
abbrev pub AreListed : {X : Type 0} → (ℕ → X → Type 0) → List X → Type 0
AreListed {X} Row xs = (i : ℕ) (x : X) → Row i x ↔ IsAt xs i x

-- each element of the list is at its rank
abbrev pub AreAtRanks : {X : Type 0} → (X → X → Ordering) → (ℕ → X → Type 0) → List X → Type 0
AreAtRanks {X} R Row xs = (x : X) → Contains xs x → Row (rank R x xs) x

-- each symbol is in the row of its index in its pool, and the index plus one fits 32 bits
abbrev pub HaveRows : List ℕ → Mentions → List Symbol → Type 0
HaveRows b m ss = (s : Symbol) → Contains ss s → SymbolRow b (symbol_index m s) s × (symbol_index m s + 1 < 2 ^ 32)

-- the bytes are an accepted file that denotes the collection
pub record IsAcceptedAs (b : List ℕ) (K : Collection) : Type 0 where
  pub bytes : All (λ byte. byte < 256) b
  pub accepted : IsAccepted b
  pub denotes : Denotes b K

-- if the definitions fit and are well formed, the fact holds
abbrev pub OnFitting : Collection → Type 0 → Type 0
OnFitting K fact = Fits greatest_caps (definitions K) → AreWellFormed (definitions K) → fact

-- if the definitions are good and well formed, the fact holds
abbrev pub OnGood : Collection → Type 0 → Type 0
OnGood K fact = IsGood greatest_caps (definitions K) → AreWellFormed (definitions K) → fact

-- the rows of a pool of the canonical file are the mentions of its kind, in order
abbrev pub RowsAreMentions : {X : Type 0} → (List ℕ → ℕ → X → Type 0) → (Mentions → List X) → Type 0
RowsAreMentions Row kind =
    (K : Collection) → OnFitting K (AreListed (Row (canonical K)) (kind (mentions (definitions K))))

-- each mention is in the row of its rank
abbrev pub MentionsAreAtRanks : {X : Type 0} → (X → X → Ordering) → (List ℕ → ℕ → X → Type 0) → (Mentions → List X)
    → Type 0
MentionsAreAtRanks R Row kind = (K : Collection)
    → OnFitting K (AreAtRanks R (Row (canonical K)) (kind (mentions (definitions K))))

-- the canonical file of the collection is accepted
abbrev pub HasAcceptedFile : Collection → Type 0
HasAcceptedFile K = IsAccepted (canonical K)

-- the canonical file of the collection denotes it
abbrev pub IsDenotedByFile : Collection → Type 0
IsDenotedByFile K = Denotes (canonical K) K

-- the class rows of the canonical file are the definitions, in class order
abbrev pub RowsAreClasses : Collection → Type 0
RowsAreClasses K = AreListed (λ r (d : Definition). ClassRow (canonical K) r d.0 d.1) (in_class_order (definitions K))

-- each symbol of a definition is in the row of its index in the canonical file
abbrev pub DefinitionsHaveRows : Collection → Type 0
DefinitionsHaveRows K = (d : Definition) → Contains (definitions K) d
    → HaveRows (canonical K) (mentions (definitions K)) (symbols_of d)

-- two collections have the same canonical file exactly if they are equal
abbrev pub FilesTellApart : Collection → Collection → Type 0
FilesTellApart K L = (canonical K ≡ canonical L) ↔ (K ≡ L)

-- the canonical file of a collection that a canonical file denotes is that file
abbrev pub IsCanonicalAgain : Collection → Collection → Type 0
IsCanonicalAgain K L = Denotes (canonical K) L → canonical L ≡ canonical K

-- what holds of the collection of the mergeable definitions of accepted files
abbrev pub OnUnion : Caps → List (List ℕ) → (Collection → Type 0) → Type 0
OnUnion caps files P = (parts : List Collection) (K : Collection) → AreCaps caps → AllZip IsAcceptedAs files parts
    → IsGood caps (flat_map definitions parts) → IsCollectionOf (flat_map definitions parts) K → P K
