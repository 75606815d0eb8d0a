-- The members that a directory names, against those that class data declares.
use Rattle.std.specs.Prelude.{ℕ, ◌+◌, ◌*◌, List, ◌++◌, map, All, Bool, IsTrue}
use Rattle.std.specs.List.{Contains}
use Rattle.dexspec.specs.Annotations.{pairs_at, fields_count, methods_count, parameters_count}
use Rattle.dexmembers.specs.Numbered.{NumbersRise}
use Rattle.dexmembers.specs.declared.class_data.EncodedField.{EncodedField as FieldRead}
use Rattle.dexmembers.specs.declared.class_data.EncodedMethod.{EncodedMethod as MethodRead}
use Rattle.dexmembers.specs.declared.class_data.ClassData.{ClassData as DataRead}
use Rattle.dexval.specs.Directories.{HasMembers}

-- the indices of fields
abbrev pub field_indices : List FieldRead → List ℕ
field_indices xs = map (λ x. x.index) xs

-- of methods
abbrev pub method_indices : List MethodRead → List ℕ
method_indices xs = map (λ x. x.index) xs

-- each of `count` pairs at an offset names one of these numbers
abbrev pub NamesOnly : List ℕ → ℕ → ℕ → List ℕ → Type 0
NamesOnly b at count numbers = All (λ p. Contains numbers p.0) (pairs_at b at count)

-- the numbers of both lists rise
pub record BothRise (xs ys : List ℕ) : Type 0 where
  pub first_rise : NumbersRise xs
  pub second_rise : NumbersRise ys

-- of the fields of class data, the static ones first
abbrev pub fields_read : DataRead → List ℕ
fields_read d = field_indices d.static_fields.items ++ field_indices d.instance_fields.items

-- of its methods, the direct ones first
abbrev pub methods_read : DataRead → List ℕ
methods_read d = method_indices d.direct_methods.items ++ method_indices d.virtual_methods.items

-- each pair of the directory at the offset names a member that is declared
pub record NamesRead (b : List ℕ) (o : ℕ) (d : DataRead) : Type 0 where
  pub fields_named : NamesOnly b (o + 16) (fields_count b o) (fields_read d)
  pub methods_named : NamesOnly b (o + 16 + 8 * fields_count b o) (methods_count b o) (methods_read d)
  pub parameters_named : NamesOnly b (o + 16 + 8 * (fields_count b o + methods_count b o)) (parameters_count b o)
      (methods_read d)

-- the indices of each list of class data rise
pub record ListsRise (d : DataRead) : Type 0 where
  pub rising_fields : BothRise (field_indices d.static_fields.items) (field_indices d.instance_fields.items)
  pub rising_methods : BothRise (method_indices d.direct_methods.items) (method_indices d.virtual_methods.items)

-- ---- what is found

-- the indices of members of two lists, the first before the second
abbrev pub both_indices : {X : Type 0} → (X → ℕ) → List X → List X → List ℕ
both_indices index xs ys = map index xs ++ map index ys

-- the answer is yes where the number is one of numbers that rise
abbrev pub FindsNumber : List ℕ → ℕ → Bool → Type 0
FindsNumber ns n answer = NumbersRise ns → Contains ns n → IsTrue answer

-- the answer is yes where the number is one of two lists that rise
abbrev pub FindsInBoth : List ℕ → List ℕ → ℕ → Bool → Type 0
FindsInBoth ns ks n answer = BothRise ns ks → Contains (ns ++ ks) n → IsTrue answer

-- the answer is yes where each of `count` pairs at an offset names a number of two lists that rise
abbrev pub FindsEach : List ℕ → List ℕ → List ℕ → ℕ → ℕ → Bool → Type 0
FindsEach ns ks b at count answer = BothRise ns ks → NamesOnly b at count (ns ++ ks) → IsTrue answer

-- the answer is yes where a directory is at the offset and names members of lists that rise
abbrev pub FindsNamed : List ℕ → ℕ → DataRead → Bool → Type 0
FindsNamed b o d answer = HasMembers b o → ListsRise d → NamesRead b o d → IsTrue answer
