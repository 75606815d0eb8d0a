-- The symbols that occur in a class, by their numbers, and classes whose numbers are those of symbols.
use Rattle.std.specs.Prelude.{◌≡◌, ℕ, ◌<◌, ◌-◌, ◌^◌, min, false, List, ◌∷◌, ◌++◌, length, map, All, option_to_list}
use Rattle.std.specs.Prelude.{slice_index_or}
use Rattle.dexspec.specs.Mentions.{Mentions}
use Rattle.dexspec.specs.Weight.{body_weight}
use Rattle.dexpool.specs.declared.symbols.SymbolKind.{SymbolKind}
use Rattle.dexpool.specs.declared.symbols.SymbolKind.TheVariants as kinds
use Rattle.dexpool.specs.declared.marks.Marks.{Marks}
use Rattle.dexpool.specs.Uses.{Use, marks_of, occurs}
use Rattle.dexmembers.specs.Numbered.{AreKnownMembers, AreOrdered, AreOfClass}
use Rattle.dexmembers.specs.Uses.{members_uses}
use Rattle.dexpool.specs.NumberedSymbols.{type_at}
use Rattle.dexclass.specs.Numbered.{NumberedClass, definition_of}

-- the numbers of its own types: its name, its superclass, its interfaces
abbrev pub type_numbers : NumberedClass → List ℕ
type_numbers c = c.name ∷ (option_to_list c.superclass ++ c.interfaces)

-- the number of its source text, if there is one
abbrev pub text_numbers : NumberedClass → List ℕ
text_numbers c = option_to_list c.source

-- a symbol of a kind that occurs
abbrev pub use_of : SymbolKind → ℕ → Use
use_of kind i = record { kind = kind; number = i }

-- a type that occurs
abbrev pub type_use : ℕ → Use
type_use i = record { kind = kinds.Typ; number = i }

-- a text that occurs
abbrev pub text_use : ℕ → Use
text_use i = record { kind = kinds.Text; number = i }

-- what occurs in a class: its own types and text, and what it declares names
abbrev pub class_uses : NumberedClass → List Use
class_uses c = map type_use (type_numbers c) ++ (map text_use (text_numbers c) ++ members_uses c.members)

-- what the class's definition weighs without the symbols that it mentions, or 2 ^ 64 - 1 where that is more
abbrev pub class_weight : Mentions → NumberedClass → ℕ
class_weight m c = min (2 ^ 64 - 1) (body_weight (definition_of m c).1)

-- the class's numbers are those of symbols, it declares members of its own, in order, and has its weight, or 2 ^ 64 - 1
-- where that is more
pub record IsKnownClass (m : Mentions) (c : NumberedClass) : Type 0 where
  pub types_in : All (λ i. i < length m.types) (type_numbers c)
  pub texts_in : All (λ i. i < length m.texts) (text_numbers c)
  pub members_known : AreKnownMembers m c.members
  pub members_ordered : AreOrdered c.members
  pub members_own : AreOfClass m (type_at m c.name) c.members
  pub weighed : c.weight ≡ class_weight m c

-- just what occurs is marked
abbrev pub HaveMarked : List Use → Marks → Type 0
HaveMarked us marks = (kind : SymbolKind) (i : ℕ) → slice_index_or (marks_of kind marks) i false ≡ occurs us kind i
