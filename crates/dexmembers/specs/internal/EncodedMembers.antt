-- Lists of class data as they are read: members of one class, by their indices in the pools.
use Rattle.std.specs.Prelude.{◌≡◌, ℕ, ◌+◌, ◌^◌, ◌<◌, ◌≤◌, List, [], ◌∷◌, length, map, Option, Some, None}
use Rattle.std.specs.Prelude.{slice_index_or}
use Rattle.std.specs.Global.{Vec}
use Rattle.dexspec.specs.Lists.{Sequence}
use Rattle.dexspec.specs.Numbers.{Uleb128At}
use Rattle.dexspec.specs.ClassData.{IsNextIndex, ShareNone}
use Rattle.dexspec.specs.Mentions.{Mentions}
use Rattle.dexpool.specs.declared.faults.ItemFault.{ItemFault}
use Rattle.dexpool.specs.declared.faults.ItemFault.TheVariants.{Refused, Memory}
use Rattle.dexpool.specs.Numberings.{IsAt}
use Rattle.dexval.specs.Numbered.{field_at, method_at}
use Rattle.dexmembers.specs.declared.class_data.EncodedField.{EncodedField}
use Rattle.dexmembers.specs.declared.class_data.EncodedMethod.{EncodedMethod}
use Rattle.dexmembers.specs.declared.class_data.ClassData.{ClassData}
use Rattle.dexmembers.specs.declared.encoded_lists.ClassReader.{ClassReader}

-- the members are refused for this reason; a failed allocation says nothing
abbrev pub IsDataRefusal : Type 0 → ItemFault → Type 0
IsDataRefusal Reason (Refused number) = (number ≡ 17) × Reason
IsDataRefusal Reason Memory = Unit {0}

-- ---- lists of members

-- A kind of member: at offset o of b, after a member with the index `last`, if there is one, is x, in n bytes.
abbrev pub Member : Type 0 → Type 1
Member X = List ℕ → ℕ → Option ℕ → X → ℕ → Type 0

-- a kind of member of a class, which has this number among the types of a numbering
abbrev pub OwnMember : Type 0 → Type 1
OwnMember X = Mentions → ℕ → Member X

-- the member, with its size, is at offset o
abbrev pub IsMember : {X : Type 0} → Member X → List ℕ → ℕ → Option ℕ → X × ℕ → Type 0
IsMember At b o last x = At b o last x.0 x.1

-- no member is at offset o
abbrev pub NoMember : {X : Type 0} → Member X → List ℕ → ℕ → Option ℕ → Type 0
NoMember {X} At b o last = (x : X) (n : ℕ) → At b o last x n → ⊥

-- at most one member is at an offset, and it has one size
abbrev pub IsOneMember : {X : Type 0} → OwnMember X → Type 0
IsOneMember {X} At =
    (m : Mentions) (class : ℕ) (b : List ℕ) (o : ℕ) (last : Option ℕ) (x y : X) (n k : ℕ) → At m class b o last x n
    → At m class b o last y k → (x ≡ y) × (n ≡ k)

-- the index of a member is above the one before it
abbrev pub HasGreaterIndex : {X : Type 0} → OwnMember X → (X → ℕ) → Type 0
HasGreaterIndex {X} At index =
    (m : Mentions) (class : ℕ) (b : List ℕ) (o i : ℕ) (x : X) (n : ℕ) → At m class b o (Some i) x n → i < index x

-- from o on, after the index `last`, are the members one after the other, in n bytes together
abbrev pub Chain : {X : Type 0} → Member X → (X → ℕ) → List ℕ → ℕ → Option ℕ → List X → ℕ → Type 0
Chain At index b o last [] n = n ≡ 0
Chain At index b o last (x ∷ xs) n =
    (k : ℕ) × (m : ℕ) × At b o last x k × Chain At index b (o + k) (Some (index x)) xs m × (n ≡ k + m)

-- the index of the last member, or that before the first
abbrev pub last_index : {X : Type 0} → (X → ℕ) → Option ℕ → List X → Option ℕ
last_index index last [] = last
last_index index last (x ∷ xs) = last_index index (Some (index x)) xs

-- `count` members were read from offset o on, in n bytes
pub record IsListRead {X : Type 0} (At : Member X) (index : X → ℕ) (b : List ℕ) (o count : ℕ) (xs : List X) (n : ℕ) :
    Type 0 where
  pub are_encoded : Chain At index b o None xs n
  pub many : length xs ≡ count
  pub within : o + n ≤ length b

-- there are not `count` members from offset o on
abbrev pub NoList : {X : Type 0} → Member X → (X → ℕ) → List ℕ → ℕ → ℕ → Type 0
NoList {X} At index b o count = (xs : List X) (n : ℕ) → length xs ≡ count → Chain At index b o None xs n → ⊥

-- two lists are at offset o, in n bytes, and no index is in both
pub record ListsAt {X : Type 0} (At : Member X) (index : X → ℕ) (b : List ℕ) (o : ℕ) (xs ys : List X) (n : ℕ) :
    Type 0 where
  pub first_size : ℕ
  pub second_size : ℕ
  pub first : Chain At index b o None xs first_size
  pub second : Chain At index b (o + first_size) None ys second_size
  pub apart : ShareNone (map index xs) (map index ys)
  pub size : n ≡ first_size + second_size

-- two lists of `count` and `other_count` members were read
pub record AreListsRead {X : Type 0} (At : Member X) (index : X → ℕ) (b : List ℕ) (o count other_count : ℕ)
    (xs ys : List X) (n : ℕ) : Type 0 where
  pub are_encoded : ListsAt At index b o xs ys n
  pub many : length xs ≡ count
  pub others : length ys ≡ other_count
  pub within : o + n ≤ length b

-- there are no two lists of `count` and `other_count` members at offset o
abbrev pub NoLists : {X : Type 0} → Member X → (X → ℕ) → List ℕ → ℕ → ℕ → ℕ → Type 0
NoLists {X} At index b o count other_count =
    (xs ys : List X) (n : ℕ) → length xs ≡ count → length ys ≡ other_count → ListsAt At index b o xs ys n → ⊥

-- ---- lists of members of a class

-- `count` members of the class were read from offset o on, in as many bytes
abbrev pub ReadsList : {X : Type 0} → OwnMember X → (X → ℕ) → ClassReader → ℕ → ℕ → Vec X × ℕ → Type 0
ReadsList At index reader o count x =
    IsListRead (At reader.pools.now reader.class) index reader.bytes.now o count x.0.items x.1

-- what is refused are such members
abbrev pub RefusesList : {X : Type 0} → OwnMember X → (X → ℕ) → ClassReader → ℕ → ℕ → ItemFault → Type 0
RefusesList At index reader o count fault =
    IsDataRefusal (NoList (At reader.pools.now reader.class) index reader.bytes.now o count) fault

-- two lists of `count` and `other_count` members of the class were read
abbrev pub ReadsLists : {X : Type 0} → OwnMember X → (X → ℕ) → ClassReader → ℕ → ℕ → ℕ → Vec X × Vec X × ℕ → Type 0
ReadsLists At index reader o count other_count x =
    AreListsRead (At reader.pools.now reader.class) index reader.bytes.now o count other_count x.0.items x.1.items x.2

-- what is refused are such lists
abbrev pub RefusesLists : {X : Type 0} → OwnMember X → (X → ℕ) → ClassReader → ℕ → ℕ → ℕ → ItemFault → Type 0
RefusesLists At index reader o count other_count fault =
    IsDataRefusal (NoLists (At reader.pools.now reader.class) index reader.bytes.now o count other_count) fault

-- ---- fields and methods

-- the index is that of a field of the pool, whose class has this number among the types
pub record IsOwnField (m : Mentions) (class i : ℕ) : Type 0 where
  pub short : i < 2 ^ 32
  pub within : i < length m.fields
  pub class_is : IsAt m.types class (field_at m i).class

-- the same for a method
pub record IsOwnMethod (m : Mentions) (class i : ℕ) : Type 0 where
  pub short : i < 2 ^ 32
  pub within : i < length m.methods
  pub class_is : IsAt m.types class (method_at m i).class

-- at offset o are the index of a member, as its difference to the one before, and access flags
pub record HeadAt (b : List ℕ) (o : ℕ) (last : Option ℕ) (index flags n : ℕ) : Type 0 where
  pub difference : ℕ
  pub index_size : ℕ
  pub flags_size : ℕ
  pub difference_is : Uleb128At b o difference index_size
  pub next : IsNextIndex last difference index
  pub flags_is : Uleb128At b (o + index_size) flags flags_size
  pub size : n ≡ index_size + flags_size

-- what is read is the only head at offset o whose index has 32 bits
abbrev pub IsOnlyHead : List ℕ → ℕ → Option ℕ → Option (ℕ × ℕ × ℕ) → Type 0
IsOnlyHead b o last read =
    (index flags size : ℕ) → index < 2 ^ 32 → HeadAt b o last index flags size → read ≡ Some (index, flags, size)

-- no index of 32 bits is so far after the index `last`
abbrev pub NoNextIndex : Option ℕ → ℕ → Type 0
NoNextIndex last difference = (i : ℕ) → i < 2 ^ 32 → IsNextIndex last difference i → ⊥

module _ (m : Mentions) (class : ℕ) where
  -- at offset o is an encoded_field of the class
  pub record FieldAt (b : List ℕ) (o : ℕ) (last : Option ℕ) (f : EncodedField) (n : ℕ) : Type 0 where
    pub head_is : HeadAt b o last f.index f.flags n
    pub own : IsOwnField m class f.index

  -- at offset o is an encoded_method of the class
  pub record MethodAt (b : List ℕ) (o : ℕ) (last : Option ℕ) (x : EncodedMethod) (n : ℕ) : Type 0 where
    pub head_size : ℕ
    pub code_size : ℕ
    pub head_is : HeadAt b o last x.index x.flags head_size
    pub own : IsOwnMethod m class x.index
    pub code_is : Uleb128At b (o + head_size) x.code_off code_size
    pub size : n ≡ head_size + code_size

-- ---- class data

-- at offset o are four counts, and after them as many static fields, instance fields, direct and virtual methods of the
-- class
pub record DataAt (m : Mentions) (class : ℕ) (b : List ℕ) (o : ℕ) (ss is : List EncodedField)
    (ds vs : List EncodedMethod) : Type 0 where
  pub counts_size : ℕ
  pub fields_size : ℕ
  pub methods_size : ℕ
  pub counts : Sequence Uleb128At b o (length ss ∷ length is ∷ length ds ∷ length vs ∷ []) counts_size
  pub fields : ListsAt (FieldAt m class) (λ f. f.index) b (o + counts_size) ss is fields_size
  pub methods : ListsAt (MethodAt m class) (λ x. x.index) b (o + counts_size + fields_size) ds vs methods_size

-- the four lists that were read are at offset o
abbrev pub IsDataAt : Mentions → ℕ → List ℕ → ℕ → ClassData → Type 0
IsDataAt m class b o d =
    DataAt m class b o d.static_fields.items d.instance_fields.items d.direct_methods.items d.virtual_methods.items

-- the four counts are at offset o, in n bytes
abbrev pub AreCountsAt : List ℕ → ℕ → ℕ × ℕ × ℕ × ℕ → ℕ → Type 0
AreCountsAt b o counts n = Sequence Uleb128At b o (counts.0 ∷ counts.1 ∷ counts.2 ∷ counts.3 ∷ []) n

-- there is no class data of the class at offset o
abbrev pub NoData : Mentions → ℕ → List ℕ → ℕ → Type 0
NoData m class b o = (ss is : List EncodedField) (ds vs : List EncodedMethod) → DataAt m class b o ss is ds vs → ⊥

-- the class data of the class were read at offset o
abbrev pub ReadsDataAt : ClassReader → ℕ → ClassData → Type 0
ReadsDataAt reader = IsDataAt reader.pools.now reader.class reader.bytes.now

-- what is refused are such class data
abbrev pub RefusesDataAt : ClassReader → ℕ → ItemFault → Type 0
RefusesDataAt reader o = IsDataRefusal (NoData reader.pools.now reader.class reader.bytes.now o)

-- ---- two lists in one pass

-- an index that is in both lists is at place i or later in the one, and at place j or later in the other
abbrev pub ArePassed : List ℕ → List ℕ → ℕ → ℕ → Type 0
ArePassed xs ys i j =
    (k l : ℕ) → k < length xs → l < length ys → slice_index_or xs k 0 ≡ slice_index_or ys l 0 → (i ≤ k) × (j ≤ l)
