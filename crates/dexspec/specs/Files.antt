-- Collections of class definitions, and the collection that a file denotes. Terms of this project, for what the items
-- of "Dalvik Executable format" denote together.
use Rattle.std.specs.Prelude.{◌≡◌, ◌↔◌, ℕ, List, Some}
use Rattle.std.specs.List.{Contains}
use Rattle.std.specs.FinMap as map
use Rattle.dexspec.specs.Texts.{Text, text_cmp}
use Rattle.dexspec.specs.Classes.{Body, Definition, ClassRow}

-- A collection, in which no name has two definitions: the classes of a program or of an accepted file.
abbrev pub Collection : Type 0
Collection = map.FinMap text_cmp Body

-- its definitions, by name
abbrev pub definitions : Collection → List Definition
definitions K = map.entries K

-- the definition is a member
abbrev pub IsMember : Collection → Text → Body → Type 0
IsMember K name c = map.get K name ≡ Some c

-- some class row of the file is the definition
abbrev pub Defines : List ℕ → Text → Body → Type 0
Defines b name c = (r : ℕ) × ClassRow b r name c

-- the members are exactly the definitions of the class rows
abbrev pub Denotes : List ℕ → Collection → Type 0
Denotes b K = (name : Text) (c : Body) → IsMember K name c ↔ Defines b name c

-- A union, in which one name may have different definitions, is a list of which only the members matter.
abbrev pub AreSame : List Definition → List Definition → Type 0
AreSame D E = (d : Definition) → Contains D d ↔ Contains E d

-- every member of the first list is a member of the second
abbrev pub AreWithin : List Definition → List Definition → Type 0
AreWithin D E = (d : Definition) → Contains D d → Contains E d

-- the members of the list are exactly those of the collection
abbrev pub IsCollectionOf : List Definition → Collection → Type 0
IsCollectionOf D K = (name : Text) (c : Body) → IsMember K name c ↔ Contains D (name, c)
