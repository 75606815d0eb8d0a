-- Items that are encoded use by use, one after the other and aligned; and the item of each use.
use Rattle.std.specs.Prelude.{ℕ, ◌+◌, ◌-◌, Bool, ◌==◌, if◌then◌else◌, List, [], ◌∷◌, ◌++◌, length, take, drop, Option}
use Rattle.std.specs.Prelude.{Some, None}
use Rattle.std.specs.List.{flat_map}
use Rattle.std.specs.Option.{option_map}
use Rattle.dexspec.specs.Bytes.{ushort, uint, padding}
use Rattle.dexspec.specs.Mentions.{Mentions}
use Rattle.dexspec.specs.Placing.{values_unless_empty}
use Rattle.dexspec.specs.Spellings.{encoded_array_bytes}
use Rattle.dexval.specs.Numbered.{values_in}
use Rattle.dexmembers.specs.Numbered.{NumberedMembers, fields_of, methods_of}
use Rattle.dexmembers.specs.Spelled.{numbered_class_data_bytes}
use Rattle.dexclass.specs.Numbered.{NumberedClass}
use Rattle.dexlayout.specs.Places.{EncodedItems, ItemPlaces}
use Rattle.dexlayout.specs.internal.Running.{none_from, pass, align_end, put_next}

-- ---- use by use

-- no items yet: the first will be at `from` or after it
abbrev pub no_items_from : ℕ → EncodedItems
no_items_from from = record { bytes = []; places = none_from from }

-- no bytes, at these places
abbrev pub without_bytes : ItemPlaces → EncodedItems
without_bytes p = record { bytes = []; places = p }

-- a use more, without an item
abbrev pub pass_use : EncodedItems → EncodedItems
pass_use p = record { bytes = p.bytes; places = pass p.places }

-- the zeros that align the next item
abbrev pub align_next : ℕ → EncodedItems → EncodedItems
align_next align p = record { bytes = p.bytes ++ padding align p.places.end; places = align_end align p.places }

-- a use more, whose item is after those before it
abbrev pub put_item : EncodedItems → List ℕ → EncodedItems
put_item p item = record { bytes = p.bytes ++ item; places = put_next p.places (length item) }

-- a use more, whose item is the bytes that follow the first `before`
abbrev pub end_item : ℕ → EncodedItems → EncodedItems
end_item before p = record { bytes = p.bytes; places = put_next p.places (length p.bytes - before) }

-- a use more, aligned if it has an item
abbrev pub encode_use : ℕ → EncodedItems → Option (List ℕ) → EncodedItems
encode_use align p None = pass_use p
encode_use align p (Some item) = put_item (align_next align p) item

-- uses, one after the other
abbrev pub encode_uses : ℕ → EncodedItems → List (Option (List ℕ)) → EncodedItems
encode_uses align p [] = p
encode_uses align p (u ∷ us) = encode_uses align (encode_use align p u) us

-- ---- the items of uses

-- a type_list of numbers
abbrev pub list_bytes : List ℕ → List ℕ
list_bytes ns = uint (length ns) ++ flat_map ushort ns

-- the array of a class's static values, unless it has none
abbrev pub static_item : Mentions → NumberedClass → Option (List ℕ)
static_item m c = option_map (encoded_array_bytes m) (values_unless_empty (values_in m c.members.static_values))

-- whether neither fields nor methods are declared
abbrev pub has_no_members : NumberedMembers → Bool
has_no_members x = length (fields_of x) + length (methods_of x) == 0

-- a class's data, with the offsets of its methods' code, unless it has no members
abbrev pub class_data_item : NumberedClass → List ℕ → Option (List ℕ)
class_data_item c offs = if has_no_members c.members then None else Some (numbered_class_data_bytes c.members offs)

-- the data of classes, with the offsets of the code of all their methods
abbrev pub class_data_items : List NumberedClass → List ℕ → List (Option (List ℕ))
class_data_items [] offs = []
class_data_items (c ∷ cs) offs =
    class_data_item c (take (length (methods_of c.members)) offs)
    ∷ class_data_items cs (drop (length (methods_of c.members)) offs)
