-- The kinds of type descriptors, as the code finds them.
use Rattle.std.specs.Prelude.{ℕ, suc, Bool, true, false, ◌&&◌, ◌||◌, List, [], ◌∷◌, drop, Option, Some, None, is_some}
use Rattle.std.specs.Prelude.{if◌then◌else◌, nat_le, ◌==◌}
use Rattle.dexspec.specs.Names.{TypeKind, VoidType, PrimitiveType, ClassType, ArrayType}
use Rattle.dexstr.specs.declared.descriptors.Kind.{Kind}
use Rattle.dexstr.specs.declared.descriptors.Kind.TheVariants.{Void, Primitive, Class, Array}

-- the kind of type that a `Kind` names
abbrev pub type_kind : Kind → TypeKind
type_kind Void = VoidType
type_kind Primitive = PrimitiveType
type_kind Class = ClassType
type_kind Array = ArrayType

-- no unit is left
abbrev pub is_end : List ℕ → Bool
is_end [] = true
is_end (u ∷ s) = false

-- the rest of a class's descriptor, after its `L`: a part of the name may have begun
abbrev pub ends_class : Bool → List ℕ → Bool
ends_class begun [] = false
ends_class begun (u ∷ s) =
    if u == 0x3b then begun && is_end s
    else (if u == 0x2f then begun && ends_class false s
    else (if u == 0x2e || u == 0x5b then false else ends_class true s))

-- `Z` `B` `S` `C` `J` `I` `F` `D`
abbrev pub is_primitive_letter : ℕ → Bool
is_primitive_letter u =
    u == 0x5a || u == 0x42 || u == 0x53 || u == 0x43 || u == 0x4a || u == 0x49 || u == 0x46 || u == 0x44

-- the kind of what an array may hold
abbrev pub element_kind : List ℕ → Option Kind
element_kind [] = None
element_kind (u ∷ s) =
    if u == 0x4c then (if ends_class false s then Some Class else None)
    else (if is_primitive_letter u && is_end s then Some Primitive else None)

-- how many `[` come first
abbrev pub dimensions : List ℕ → ℕ
dimensions [] = 0
dimensions (u ∷ s) = if u == 0x5b then suc (dimensions s) else 0

abbrev pub is_void : List ℕ → Bool
is_void [] = false
is_void (u ∷ s) = u == 0x56 && is_end s

-- the kind of a descriptor, or none
abbrev pub kind_of : List ℕ → Option Kind
kind_of s =
    if is_void s then Some Void
    else (if dimensions s == 0 then element_kind s
    else (if nat_le (dimensions s) 255 && is_some (element_kind (drop (dimensions s) s)) then Some Array else None))
