-- A number and its symbol: the number is the rank of the symbol, a map keeps the symbol, the symbol occurs, and there is
-- a mark for it.
use Rattle.dexpool.proofs.Common.{◌≡◌, ℕ, ◌<◌, List, [], ◌∷◌, length, map, get_or, Option, Some, None, IsSome, refl, ap, sym, subst, ◌∙◌, All, AllZip, All-nil, All-cons, All-head, All-tail, flat_map, get_or_default, arith, Symbol, TextSymbol, TypeSymbol, ProtoSymbol, FieldSymbol, MethodSymbol, Mentions, SymbolKind, Marks, Maps, AllMapTo, AreRising, AreMarksOf, IsAt, IsNumbered, IsOfKind, marks_of, count_of, Use, IsUseOf, HasMark}
use Rattle.std.specs.Prelude.{IfSome, ◌++◌}
use Rattle.std.specs.Option.{option_map, unwrap_or}
use Rattle.dexpool.specs.Numberings.{image_of}
use Rattle.dexspec.specs.Spellings.{symbol_index}
use Rattle.dexpool.specs.declared.symbols.SymbolKind.TheVariants as kinds
use Rattle.dexpool.specs.NumberedSymbols.{no_name, name_at, symbol_at}
use Rattle.dexpool.proofs.UnionLaws.{ranks_are_numbers}

-- what is at a place is the member there
pub member_at : {X : Type 0} (xs : List X) (i : ℕ) (d : X) → i < length xs → IsAt xs i (get_or xs i d)
member_at xs i d lt = record { within = lt; is = λ e. get_or_default xs i e d lt }

-- the symbol of a number has it as its rank
pub number_ranked : (m : Mentions) → AreRising m → (kind : SymbolKind) (i : ℕ) → i < count_of kind m → symbol_index m (symbol_at m kind i) ≡ i
number_ranked m rising kinds.Text i lt = (ranks_are_numbers m rising).texts_are i (no_name kinds.Text) lt
number_ranked m rising kinds.Typ i lt = (ranks_are_numbers m rising).types_are i (no_name kinds.Typ) lt
number_ranked m rising kinds.Proto i lt = (ranks_are_numbers m rising).protos_are i (no_name kinds.Proto) lt
number_ranked m rising kinds.Field i lt = (ranks_are_numbers m rising).fields_are i (no_name kinds.Field) lt
number_ranked m rising kinds.Method i lt = (ranks_are_numbers m rising).methods_are i (no_name kinds.Method) lt

-- the image of a number has the same symbol
pub number_keeps : (m n : Mentions) (r : Maps) → AllMapTo m n r → (kind : SymbolKind) (i j : ℕ) → image_of r kind i ≡ Some j → (j < count_of kind n) × (name_at n kind j ≡ name_at m kind i)
number_keeps m n r l kinds.Text i j e = let at = l.texts_mapped.same i j (no_name kinds.Text) e in (at.within, at.is (no_name kinds.Text))
number_keeps m n r l kinds.Typ i j e = let at = l.types_mapped.same i j (no_name kinds.Typ) e in (at.within, at.is (no_name kinds.Typ))
number_keeps m n r l kinds.Proto i j e = let at = l.protos_mapped.same i j (no_name kinds.Proto) e in (at.within, at.is (no_name kinds.Proto))
number_keeps m n r l kinds.Field i j e = let at = l.fields_mapped.same i j (no_name kinds.Field) e in (at.within, at.is (no_name kinds.Field))
number_keeps m n r l kinds.Method i j e = let at = l.methods_mapped.same i j (no_name kinds.Method) e in (at.within, at.is (no_name kinds.Method))

-- an image that is there
pub some_of : {X : Type 0} (o : Option X) → IsSome o → (x : X) × (o ≡ Some x)
some_of None h = absurd cc
some_of (Some x) h = (x, refl)

-- so has what is put for a number that has one
pub number_remapped : (m n : Mentions) (r : Maps) → AllMapTo m n r → (kind : SymbolKind) (i : ℕ) → IsSome (image_of r kind i) → (unwrap_or (image_of r kind i) i < count_of kind n) × (name_at n kind (unwrap_or (image_of r kind i) i) ≡ name_at m kind i)
number_remapped m n r l kind i some =
    let image = some_of (image_of r kind i) some in
    let kept = number_keeps m n r l kind i image.0 image.1 in
    let is : unwrap_or (image_of r kind i) i ≡ image.0 = ap (λ (o : Option ℕ). unwrap_or o i) image.1 in (subst (λ k. k < count_of kind n) (sym is) kept.0, ap (name_at n kind) is ∙ kept.1)

-- the symbol of a number occurs where the number does
pub number_used : (m : Mentions) (kind : SymbolKind) (i : ℕ) → i < count_of kind m → IsUseOf m (record { kind = kind; number = i }) (symbol_at m kind i)
number_used m kinds.Text i lt = (member_at m.texts i (no_name kinds.Text) lt, tt)
number_used m kinds.Typ i lt = (member_at m.types i (no_name kinds.Typ) lt, tt)
number_used m kinds.Proto i lt = (member_at m.protos i (no_name kinds.Proto) lt, tt)
number_used m kinds.Field i lt = (member_at m.fields i (no_name kinds.Field) lt, tt)
number_used m kinds.Method i lt = (member_at m.methods i (no_name kinds.Method) lt, tt)

-- there is a mark for a symbol that occurs
number_marked : (m : Mentions) (marks : Marks) → AreMarksOf m marks → (u : Use) (s : Symbol) → IsUseOf m u s → HasMark marks u
number_marked m marks are u s h = by u.kind s h.0 h.1
  where
    by : (kind : SymbolKind) (x : Symbol) → IsNumbered m u.number x → IsOfKind kind x → u.number < length (marks_of kind marks)
    by kinds.Text (TextSymbol x) at kind = omega (arith, at.within, are.strings_count)
    by kinds.Typ (TypeSymbol x) at kind = omega (arith, at.within, are.types_count)
    by kinds.Proto (ProtoSymbol x) at kind = omega (arith, at.within, are.protos_count)
    by kinds.Field (FieldSymbol x) at kind = omega (arith, at.within, are.fields_count)
    by kinds.Method (MethodSymbol x) at kind = omega (arith, at.within, are.methods_count)
    by _ x at kind = absurd kind

-- and for each
pub all_marked : (m : Mentions) (marks : Marks) (us : List Use) (ss : List Symbol) → AreMarksOf m marks → AllZip (IsUseOf m) us ss → All (HasMark marks) us
all_marked m marks [] ss are h = All-nil (HasMark marks)
all_marked m marks (u ∷ us) [] are h = absurd h
all_marked m marks (u ∷ us) (s ∷ ss) are h = All-cons (HasMark marks) u us (number_marked m marks are u s h.0) (all_marked m marks us ss are h.1)

-- ---- lists

pub zip-append : {X Y : Type 0} (R : X → Y → Type 0) (xs : List X) (ys : List Y) (us : List X) (vs : List Y) → AllZip R xs ys → AllZip R us vs → AllZip R (xs ++ us) (ys ++ vs)
zip-append R [] [] us vs h g = g
zip-append R (x ∷ xs) (y ∷ ys) us vs h g = (h.0, zip-append R xs ys us vs h.1 g)
zip-append _ _ _ us vs h g = absurd h

-- what images give is what the members give
pub flat_mapped : {X Y Z : Type 0} (P : X → Type 0) (f : Y → List Z) (g : X → Y) (h : X → List Z) → ((x : X) → P x → f (g x) ≡ h x) → (xs : List X) → All P xs → flat_map f (map g xs) ≡ flat_map h xs
flat_mapped P f g h each [] all = refl
flat_mapped P f g h each (x ∷ xs) all = λ i. each x (All-head P x xs all) i ++ flat_mapped P f g h each xs (All-tail P x xs all) i

-- what is known of items, once they are read with symbols
module _ {X Y : Type 0} (K : X → Type 0) (f : X → Y) where
  -- the symbols that occur in each are those that occur in all
  pub all_used : (m : Mentions) (uses : X → List Use) (symbols : Y → List Symbol) → ((x : X) → K x → AllZip (IsUseOf m) (uses x) (symbols (f x))) → (xs : List X) → All K xs → AllZip (IsUseOf m) (flat_map uses xs) (flat_map symbols (map f xs))
  all_used m uses symbols each [] h = tt
  all_used m uses symbols each (x ∷ xs) h =
      zip-append (IsUseOf m) (uses x) (symbols (f x)) (flat_map uses xs) (flat_map symbols (map f xs)) (each x (All-head K x xs h)) (all_used m uses symbols each xs (All-tail K x xs h))

  -- items that their symbols determine are determined one for one
  pub all_back : (g : Y → X) → ((x : X) → K x → g (f x) ≡ x) → (xs : List X) → All K xs → map g (map f xs) ≡ xs
  all_back g each [] h = refl
  all_back g each (x ∷ xs) h = λ i. each x (All-head K x xs h) i ∷ all_back g each xs (All-tail K x xs h) i

  -- an item, if there is one
  pub one_back : (g : Y → X) → ((x : X) → K x → g (f x) ≡ x) → (o : Option X) → IfSome o K → option_map g (option_map f o) ≡ o
  one_back g each None h = refl
  one_back g each (Some x) h = ap Some (each x h)

  -- each keeps what it is read as, under other numbers
  pub all_kept : (P : X → Type 0) (renumbered : X → X) (g : X → Y) → ((x : X) → P x → K (renumbered x) × (f (renumbered x) ≡ g x)) → (xs : List X) → All P xs → All K (map renumbered xs) × (map f (map renumbered xs) ≡ map g xs)
  all_kept P renumbered g each [] h = (All-nil K, refl)
  all_kept P renumbered g each (x ∷ xs) h =
      let first = each x (All-head P x xs h) in
      let rest = all_kept P renumbered g each xs (All-tail P x xs h) in (All-cons K (renumbered x) (map renumbered xs) first.0 rest.0, λ i. first.1 i ∷ rest.1 i)

  -- an item, if there is one
  pub one_kept : (P : X → Type 0) (renumbered : X → X) (g : X → Y) → ((x : X) → P x → K (renumbered x) × (f (renumbered x) ≡ g x)) → (o : Option X) → IfSome o P → IfSome (option_map renumbered o) K × (option_map f (option_map renumbered o) ≡ option_map g o)
  one_kept P renumbered g each None h = (tt, refl)
  one_kept P renumbered g each (Some x) h = let kept = each x h in (kept.0, ap Some kept.1)
