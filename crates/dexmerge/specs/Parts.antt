-- The parts of a union, owned and borrowed.
use Rattle.std.specs.Prelude.{List, ◌++◌, map}
use Rattle.std.specs.List.{flat_map}
use Rattle.std.specs.Borrow.{Bor}
use Rattle.dexspec.specs.Classes.{Definition}
use Rattle.dexspec.specs.Files.{Collection, definitions}

-- what the references point to
abbrev pub referents : {X : Type 0} → List (Bor X) → List X
referents references = map (λ reference. reference.now) references

-- the definitions of borrowed parts
abbrev pub definitions_in : List (Bor Collection) → List Definition
definitions_in parts = flat_map definitions (referents parts)

-- the parts that are owned, and then the files
abbrev pub all_parts : List Collection → List (Bor Collection) → List Collection
all_parts owned files = owned ++ referents files

-- their definitions
abbrev pub all_definitions : List Collection → List (Bor Collection) → List Definition
all_definitions owned files = flat_map definitions (all_parts owned files)
