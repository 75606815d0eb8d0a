-- Marks of which none is set.
use Rattle.dexclass.proofs.Common.{◌≡◌, ℕ, ◌<◌, false, List, [], length, get_or, ◌∙◌, subst, arith, Contains, Symbol, TextSymbol, TypeSymbol, ProtoSymbol, FieldSymbol, MethodSymbol, Mentions, Contains-nil, SymbolKind, Marks, IsNumbered, IsOfKind, AreMarksOf, marked, marks_of, AreMarkedToo, Use, mark_within, false_from_ne_true, Field, Method, Proto}
use Rattle.dexpool.specs.declared.symbols.SymbolKind.TheVariants as kinds
use Rattle.dexpool.proofs.Numbers.{member_at}
use Rattle.dexclass.specs.{HaveMarked}
use Rattle.dexclass.proofs.Mentioned.{is_kept}

-- a symbol of a kind and a number
record HasSymbol (m : Mentions) (kind : SymbolKind) (i : ℕ) : Type 0 where
  pub symbol : Symbol
  pub number_is : IsNumbered m i symbol
  pub kind_is : IsOfKind kind symbol

module _ (m : Mentions) (marks : Marks) (are : AreMarksOf m marks) where
  -- there is one for each mark
  has_symbol : (kind : SymbolKind) (i : ℕ) → i < length (marks_of kind marks) → HasSymbol m kind i
  has_symbol kinds.Text i lt = record { symbol = TextSymbol (get_or m.texts i []); number_is = member_at m.texts i [] (omega (arith, lt, are.strings_count)); kind_is = tt }
  has_symbol kinds.Typ i lt = record { symbol = TypeSymbol (get_or m.types i []); number_is = member_at m.types i [] (omega (arith, lt, are.types_count)); kind_is = tt }
  has_symbol kinds.Proto i lt =
      let d : Proto = record { return_type = []; parameters = [] } in
      record { symbol = ProtoSymbol (get_or m.protos i d); number_is = member_at m.protos i d (omega (arith, lt, are.protos_count)); kind_is = tt }
  has_symbol kinds.Field i lt =
      let d : Field = record { class = []; name = []; type = [] } in
      record { symbol = FieldSymbol (get_or m.fields i d); number_is = member_at m.fields i d (omega (arith, lt, are.fields_count)); kind_is = tt }
  has_symbol kinds.Method i lt =
      let d : Method = record { class = []; name = []; proto = record { return_type = []; parameters = [] } } in
      record { symbol = MethodSymbol (get_or m.methods i d); number_is = member_at m.methods i d (omega (arith, lt, are.methods_count)); kind_is = tt }

  module _ (nothing : marked m marks ≡ []) where
    -- where no symbol is marked, no mark is set
    pub none_marked : HaveMarked [] marks
    none_marked kind i = false_from_ne_true (get_or (marks_of kind marks) i false) (λ e.
        let s = has_symbol kind i (mark_within (marks_of kind marks) i e) in
        Contains-nil s.symbol (subst (λ l. Contains l s.symbol) nothing (is_kept m marks kind i s.symbol e s.number_is s.kind_is)))

-- there still is a mark for each symbol
pub still_marks : (m : Mentions) (us : List Use) (a b : Marks) → AreMarksOf m a → AreMarkedToo us a b → AreMarksOf m b
still_marks m us a b are h = record {
  strings_count = h.count kinds.Text ∙ are.strings_count;
  types_count = h.count kinds.Typ ∙ are.types_count;
  protos_count = h.count kinds.Proto ∙ are.protos_count;
  fields_count = h.count kinds.Field ∙ are.fields_count;
  methods_count = h.count kinds.Method ∙ are.methods_count;
}
