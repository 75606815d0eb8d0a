-- The rows of classes, by numbers.
use Rattle.std.specs.Prelude.{ℕ, List, ◌++◌, map, unwrap_or}
use Rattle.dexspec.specs.Lists.{zip_with}
use Rattle.dexspec.specs.Mentions.{Mentions}
use Rattle.dexspec.specs.Bytes.{uint}
use Rattle.dexspec.specs.Classes.{no_index}
use Rattle.dexspec.specs.Canonical.{class_row_bytes}
use Rattle.dexclass.specs.Numbered.{NumberedClass, definition_of}

-- a class_def_item of numbers
abbrev pub class_row : NumberedClass → ℕ × ℕ × ℕ × ℕ → List ℕ
class_row c offs =
    uint c.name ++ (uint c.flags ++ (uint (unwrap_or c.superclass no_index) ++ (uint offs.0
    ++ (uint (unwrap_or c.source no_index) ++ (uint offs.1 ++ (uint offs.2 ++ uint offs.3))))))

-- where there is no class
abbrev pub no_offsets : ℕ × ℕ × ℕ × ℕ
no_offsets = (0, 0, 0, 0)

-- the rows of classes, with the offsets of each
abbrev pub rows_with : Mentions → List NumberedClass → List (ℕ × ℕ × ℕ × ℕ) → List (List ℕ)
rows_with m cs offs = zip_with (class_row_bytes m) (map (definition_of m) cs) offs
