-- Marks after more symbols are marked, and after none is marked.
use Rattle.std.proofs.Common.{List, [], ◌∙◌, ◌≡◌, ◌||◌, Bool, true, false, refl}
use Rattle.dexspec.specs.Mentions.{Mentions}
use Rattle.dexpool.specs.declared.marks.Marks.{Marks}
use Rattle.dexpool.specs.declared.symbols.SymbolKind.TheVariants as kinds
use Rattle.dexpool.specs.Numberings.{AreMarksOf}
use Rattle.dexpool.specs.Uses.{Use, AreMarkedToo}

-- marking does not change the number of marks
pub as_many : (m : Mentions) (us : List Use) (old new : Marks) → AreMarksOf m old → AreMarkedToo us old new → AreMarksOf m new
as_many m us old new are more = record {
  strings_count = more.count kinds.Text ∙ are.strings_count;
  types_count = more.count kinds.Typ ∙ are.types_count;
  protos_count = more.count kinds.Proto ∙ are.protos_count;
  fields_count = more.count kinds.Field ∙ are.fields_count;
  methods_count = more.count kinds.Method ∙ are.methods_count;
}

or_not : (b : Bool) → b ≡ (b || false)
or_not true = refl
or_not false = refl

-- if no symbol occurs, the marks stay the same
pub none_more : (marks : Marks) → AreMarkedToo [] marks marks
none_more marks = record { count = λ _. refl; each = λ _ _. or_not _ }
