-- The statements of the laws of items with numbers: values, lists of values, annotations and sets.
use Rattle.std.specs.Prelude.{◌≡◌, ◌↔◌, ℕ, ◌+◌, ◌^◌, ◌<◌, ◌≤◌, List, length, All}
use Rattle.std.specs.List.{AllZip}
use Rattle.dexspec.specs.Symbols.{Symbol}
use Rattle.dexspec.specs.Mentions.{Mentions}
use Rattle.dexpool.specs.declared.marks.Marks.{Marks}
use Rattle.dexpool.specs.declared.symbols.SymbolKind.{SymbolKind}
use Rattle.dexpool.specs.Laws.{MapsAll}
use Rattle.dexpool.specs.Numberings.{AreMarksOf, AreRising, Maps, AllMapTo}
use Rattle.dexpool.specs.Pools.{count_of}
use Rattle.dexpool.specs.Uses.{Use, IsUseOf, IsMappedUse, HasMark}
use Rattle.dexval.specs.Directories.{set_weight_in}
use Rattle.dexval.specs.Numbered.{NumberedValue, NumberedSet, values_of_list}
use Rattle.dexval.specs.Renumbering.{MapsNarrow}
use Rattle.dexval.specs.Spelled.{AreCounted, numbered_offsets}

-- ---- what is denoted

-- if each number of an item has an image, the remapped item denotes the same
abbrev pub RemappedDenote : {X V : Type 0} → (Mentions → X → V → Type 0) → (Maps → X → X) → (X → List Use) → Type 0
RemappedDenote {X} {V} Means remapped uses =
    (m n : Mentions) (r : Maps) (x : X) (v : V) → AllMapTo m n r → All (IsMappedUse r) (uses x) → Means m x v
    → Means n (remapped r x) v

-- the symbols that occur in an item are those of what it denotes, one for one and in order
abbrev pub UsesAreSymbols : {X V : Type 0} → (Mentions → X → V → Type 0) → (X → List Use) → (V → List Symbol) → Type 0
UsesAreSymbols {X} {V} Means uses symbols =
    (m : Mentions) (x : X) (v : V) → Means m x v → AllZip (IsUseOf m) (uses x) (symbols v)

-- items of two numberings are equal, once they are remapped to a third, exactly if they denote the same
abbrev pub RemappedAreSame : {X V : Type 0} → (Mentions → X → V → Type 0) → (Maps → X → X) → (X → List Use) → Type 0
RemappedAreSame {X} {V} Means remapped uses =
    (m n whole : Mentions) (r s : Maps) (x y : X) (v w : V) → AreRising whole → AllMapTo m whole r → AllMapTo n whole s
    → All (IsMappedUse r) (uses x) → All (IsMappedUse s) (uses y) → Means m x v → Means n y w
    → (remapped r x ≡ remapped s y) ↔ (v ≡ w)

-- ---- marks and images

-- if there is a mark for each symbol, there is a mark for each symbol that occurs
abbrev pub UsesHaveMarks : {X : Type 0} → (Mentions → X → Type 0) → (X → List Use) → Type 0
UsesHaveMarks {X} Known uses =
    (m : Mentions) (marks : Marks) (x : X) → AreMarksOf m marks → Known m x → All (HasMark marks) (uses x)

-- if each number of a symbol has an image, so has each number that occurs
abbrev pub UsesHaveImages : {X : Type 0} → (Mentions → X → Type 0) → (X → List Use) → Type 0
UsesHaveImages {X} Known uses =
    (m : Mentions) (r : Maps) (x : X) → MapsAll m r → Known m x → All (IsMappedUse r) (uses x)

-- in an item that may be remapped each number has an image
abbrev pub PlacedHaveImages : {X : Type 0} → (Maps → X → Type 0) → (X → List Use) → Type 0
PlacedHaveImages {X} Placed uses = (r : Maps) (x : X) → Placed r x → All (IsMappedUse r) (uses x)

-- under a map to numbers of 32 bits an item whose numbers have images may be remapped
abbrev pub ImagesArePlaces : {X : Type 0} → (X → List Use) → (Maps → X → Type 0) → Type 0
ImagesArePlaces {X} uses Placed = (r : Maps) (x : X) → MapsNarrow r → All (IsMappedUse r) (uses x) → Placed r x

-- no kind has more than 2^32 symbols
abbrev pub HasFewSymbols : Mentions → Type 0
HasFewSymbols m = (kind : SymbolKind) → count_of kind m ≤ 2 ^ 32

-- an item may be remapped to a numbering of few symbols, if each number of a symbol has an image there
abbrev pub KnownHavePlaces : {X : Type 0} → (Mentions → X → Type 0) → (Maps → X → Type 0) → Type 0
KnownHavePlaces {X} Known Placed =
    (m n : Mentions) (r : Maps) (x : X) → AllMapTo m n r → MapsAll m r → HasFewSymbols n → Known m x → Placed r x

-- ---- counts

-- an item that weighs less than 2^32 has few enough members to be put
abbrev pub LightAreCounted : {X : Type 0} → (Mentions → X → ℕ) → (X → Type 0) → Type 0
LightAreCounted {X} weight_in Counted = (m : Mentions) (x : X) → weight_in m x < 2 ^ 32 → Counted x

-- the static values, and the members of each array and annotation in them, are fewer than 2^32
abbrev pub AreCountedStatics : List NumberedValue → Type 0
AreCountedStatics xs = (length xs < 2 ^ 32) × AreCounted (values_of_list xs)

-- if an offset and the weight of a set are together less than 2^32, the annotations are at offsets below 2^32
abbrev pub LightSetsFit : Type 0
LightSetsFit =
    (m : Mentions) (first : ℕ) (s : NumberedSet) → first + set_weight_in m s < 2 ^ 32
    → All (λ offset. offset < 2 ^ 32) (numbered_offsets first s)
