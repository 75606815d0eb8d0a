-- Classes with their depths, in the order of a canonical file.
use Rattle.std.specs.Prelude.{ℕ, List, Option, None, map, slice_index_or}
use Rattle.dexspec.specs.Mentions.{Mentions, mentions}
use Rattle.dexclass.specs.Numbered.{NumberedClass, definition_of}

-- for each class the depth at the number of its name
abbrev pub depths_by_name : List (Option ℕ) → List NumberedClass → List (Option ℕ)
depths_by_name by_name cs = map (λ c. slice_index_or by_name c.name None) cs

-- what the classes' definitions mention
abbrev pub mentions_of : Mentions → List NumberedClass → Mentions
mentions_of m cs = mentions (map (definition_of m) cs)
