-- Names: type descriptors, class names, member names and shorties.
-- Source: "Dalvik Executable format", "TypeDescriptor", "ShortyDescriptor" and "MemberName".
-- This project's rule: a name's part may hold every unit but `.` `;` `[` `/`.
use Rattle.std.specs.Prelude.{◌≡◌, ◌≢◌, ℕ, ◌<◌, ◌≤◌, ◌⊎◌, List, [], ◌∷◌, ◌++◌, length, map, All, replicate}
use Rattle.std.specs.Prelude.{if◌then◌else◌, ◌==◌}
use Rattle.std.specs.List.{join_with_byte, Contains}
use Rattle.dexspec.specs.Texts.{Text}

-- none of `.` `;` `[` `/`
abbrev pub IsNameUnit : ℕ → Type 0
IsNameUnit u = (u ≢ 0x2e) × (u ≢ 0x3b) × (u ≢ 0x5b) × (u ≢ 0x2f)

-- a name of a member, or one part of the name of a class: one unit or more, each of which may be in
-- a name
pub record IsMemberName (s : Text) : Type 0 where
  pub some : 0 < length s
  pub units : All IsNameUnit s

-- the name of a class: one part or more, joined by `/`
pub record IsClassName (s : Text) : Type 0 where
  pub parts : List Text
  pub some : 0 < length parts
  pub names : All IsMemberName parts
  pub joined : s ≡ join_with_byte 0x2f parts

-- `Z` `B` `S` `C` `J` `I` `F` `D`: boolean, byte, short, char, long, int, float, double
abbrev pub primitive_letters : List ℕ
primitive_letters = 0x5a ∷ 0x42 ∷ 0x53 ∷ 0x43 ∷ 0x4a ∷ 0x49 ∷ 0x46 ∷ 0x44 ∷ []

-- the four kinds of type
pub data TypeKind : Type 0 where
  VoidType PrimitiveType ClassType ArrayType : TypeKind

-- `V`
abbrev pub IsVoid : Text → Type 0
IsVoid s = s ≡ 0x56 ∷ []

-- one of these letters
pub record IsPrimitive (s : Text) : Type 0 where
  pub letter : ℕ
  pub is : s ≡ letter ∷ []
  pub known : Contains primitive_letters letter

-- `L`, the name of the class, `;`
pub record IsClass (s : Text) : Type 0 where
  pub name : Text
  pub is : s ≡ 0x4c ∷ (name ++ 0x3b ∷ [])
  pub named : IsClassName name

-- 1 to 255 times `[` before the type of an element
pub record IsArray (s : Text) : Type 0 where
  pub dimensions : ℕ
  pub element : Text
  pub is : s ≡ replicate dimensions 0x5b ++ element
  pub some : 1 ≤ dimensions
  pub few : dimensions ≤ 255
  pub held : IsPrimitive element ⊎ IsClass element

-- the text is the descriptor of a type of this kind
abbrev pub HasKind : TypeKind → Text → Type 0
HasKind VoidType s = IsVoid s
HasKind PrimitiveType s = IsPrimitive s
HasKind ClassType s = IsClass s
HasKind ArrayType s = IsArray s

-- the text is a type descriptor
abbrev pub IsDescriptor : Text → Type 0
IsDescriptor s = (kind : TypeKind) × HasKind kind s

-- the type of a value: not void
abbrev pub IsValueType : Text → Type 0
IsValueType s = IsPrimitive s ⊎ IsClass s ⊎ IsArray s

-- a type that may have methods
abbrev pub IsReferenceType : Text → Type 0
IsReferenceType s = IsClass s ⊎ IsArray s

-- a type's letter in a shorty: every class or array type has `L`
abbrev pub shorty_letter : Text → ℕ
shorty_letter [] = 0
shorty_letter (u ∷ s) = if u == 0x5b then 0x4c else u

-- the letter of the return type, then the letter of each parameter
abbrev pub shorty : Text → List Text → Text
shorty return_type parameters = shorty_letter return_type ∷ map shorty_letter parameters
