-- The directories of classes, by the offsets of sets and of lists of sets.
use Rattle.std.specs.Prelude.{ℕ, ◌+◌, ◌==◌, if◌then◌else◌, List, [], ◌∷◌, length, take, drop, slice_index, Option, Some}
use Rattle.std.specs.Prelude.{None}
use Rattle.dexmembers.specs.Numbered.{NumberedMembers, fields_of, methods_of}
use Rattle.dexmembers.specs.DirectoryPut.{count_placed, numbered_directory_bytes}
use Rattle.dexmembers.specs.declared.directory_put.DirectoryOffsets.{DirectoryOffsets}
use Rattle.dexclass.specs.Numbered.{NumberedClass}

-- how many members a directory names
abbrev pub entry_count : List ℕ → List ℕ → List ℕ → ℕ
entry_count fields methods lists = count_placed fields + count_placed methods + count_placed lists

-- the directory of what a class declares, unless all offsets are 0
abbrev pub directory_item : NumberedMembers → ℕ → List ℕ → List ℕ → List ℕ → Option (List ℕ)
directory_item x own fields methods lists =
    if own + entry_count fields methods lists == 0 then None
    else Some (numbered_directory_bytes x own fields methods lists)

-- the directory with these offsets
abbrev pub directory_with : NumberedMembers → DirectoryOffsets → Option (List ℕ)
directory_with x offs = directory_item x offs.own offs.fields.now offs.methods.now offs.parameters.now

-- those of classes, from the offsets of all
abbrev pub directory_items : List NumberedClass → List ℕ → List ℕ → List ℕ → List ℕ → List (Option (List ℕ))
directory_items [] own fields methods lists = []
directory_items (c ∷ cs) own fields methods lists =
    directory_item c.members (slice_index own 0) (take (length (fields_of c.members)) fields)
    (take (length (methods_of c.members)) methods) (take (length (methods_of c.members)) lists)
    ∷ directory_items cs (drop 1 own) (drop (length (fields_of c.members)) fields)
    (drop (length (methods_of c.members)) methods) (drop (length (methods_of c.members)) lists)
