-- A row of a pool denotes at most one symbol.
use Rattle.dexspec.proofs.Common.{◌≡◌, ℕ, inl, inr, List, [], ◌∷◌, drop, refl, sym, ◌∙◌, AllZip}
use Rattle.dexspec.specs.{OrNone, uint_at, Text, Proto, Field, Method, Symbol, TextSymbol, TypeSymbol, ProtoSymbol, FieldSymbol, MethodSymbol, pool_of, StringIds, row_at, StringRow, TypeRow, type_indices, TypeListAt, ProtoRow, FieldRow, MethodRow, SymbolRow}
use Rattle.dexspec.proofs.determined.OneText.{one_string_data}

-- row i is at most one text
pub one_string : (b : List ℕ) (i : ℕ) (s t : Text) → StringRow b i s → StringRow b i t → s ≡ t
one_string b i s t h g = (one_string_data (drop (uint_at b (row_at b StringIds i)) b) s t h.encodes.0 g.encodes.0 h.encodes.1 g.encodes.1).0

-- row i is at most one type
pub one_type : (b : List ℕ) (i : ℕ) (s t : Text) → TypeRow b i s → TypeRow b i t → s ≡ t
one_type b i s t h g = one_string b _ s t h.text g.text

-- lists that are related to one list by a function are equal
pub one_all_zip : {A X : Type 0} (R : A → X → Type 0) → ((a : A) (x y : X) → R a x → R a y → x ≡ y) → (keys : List A) (xs ys : List X) → AllZip R keys xs → AllZip R keys ys → xs ≡ ys
one_all_zip R one [] [] [] h g = refl
one_all_zip R one [] [] (y ∷ ys) h g = absurd g
one_all_zip R one [] (x ∷ xs) ys h g = absurd h
one_all_zip R one (k ∷ keys) [] ys h g = absurd h
one_all_zip R one (k ∷ keys) (x ∷ xs) [] h g = absurd g
one_all_zip R one (k ∷ keys) (x ∷ xs) (y ∷ ys) h g =
    let first = one k x y h.0 g.0 in
    let rest = one_all_zip R one keys xs ys h.1 g.1 in
    λ i. first i ∷ rest i

-- there is at most one list of types at an offset
pub one_type_list : (b : List ℕ) (o : ℕ) (ts us : List Text) → TypeListAt b o ts → TypeListAt b o us → ts ≡ us
one_type_list b o ts us h g = one_all_zip (TypeRow b) (one_type b) (type_indices b o) ts us h.types g.types

-- an optional item at an offset
pub one_or_none : {X : Type 0} (At : List ℕ → ℕ → X → Type 0) (nothing : X) (b : List ℕ) (o : ℕ) (x y : X) → (At b o x → At b o y → x ≡ y) → OrNone At nothing b o x → OrNone At nothing b o y → x ≡ y
one_or_none At nothing b o x y one (inl h) (inl g) = h.1 ∙ sym g.1
one_or_none At nothing b o x y one (inl h) (inr g) = absurd (g.0 h.0)
one_or_none At nothing b o x y one (inr h) (inl g) = absurd (h.0 g.0)
one_or_none At nothing b o x y one (inr h) (inr g) = one h.1 g.1

-- row i is at most one proto
pub one_proto : (b : List ℕ) (i : ℕ) (p q : Proto) → ProtoRow b i p → ProtoRow b i q → p ≡ q
one_proto b i p q h g =
    let return_type = one_type b _ p.return_type q.return_type h.return_type g.return_type in
    let parameters = one_or_none TypeListAt [] b _ p.parameters q.parameters (one_type_list b _ p.parameters q.parameters) h.parameters g.parameters in
    λ i. record { return_type = return_type i; parameters = parameters i }

-- row i is at most one field
pub one_field : (b : List ℕ) (i : ℕ) (x y : Field) → FieldRow b i x → FieldRow b i y → x ≡ y
one_field b i x y h g =
    let class = one_type b _ x.class y.class h.class g.class in
    let name = one_string b _ x.name y.name h.name g.name in
    let type = one_type b _ x.type y.type h.type g.type in
    λ i. record { class = class i; name = name i; type = type i }

-- row i is at most one method
pub one_method : (b : List ℕ) (i : ℕ) (x y : Method) → MethodRow b i x → MethodRow b i y → x ≡ y
one_method b i x y h g =
    let class = one_type b _ x.class y.class h.class g.class in
    let name = one_string b _ x.name y.name h.name g.name in
    let proto = one_proto b _ x.proto y.proto h.proto g.proto in
    λ i. record { class = class i; name = name i; proto = proto i }

-- rows of one pool
pub one_symbol : (b : List ℕ) (i : ℕ) (x y : Symbol) → pool_of x ≡ pool_of y → SymbolRow b i x → SymbolRow b i y → x ≡ y
one_symbol b i (TextSymbol s) (TextSymbol t) e h g = let same = one_string b i s t h g in λ i. TextSymbol (same i)
one_symbol b i (TypeSymbol s) (TypeSymbol t) e h g = let same = one_type b i s t h g in λ i. TypeSymbol (same i)
one_symbol b i (ProtoSymbol s) (ProtoSymbol t) e h g = let same = one_proto b i s t h g in λ i. ProtoSymbol (same i)
one_symbol b i (FieldSymbol s) (FieldSymbol t) e h g = let same = one_field b i s t h g in λ i. FieldSymbol (same i)
one_symbol b i (MethodSymbol s) (MethodSymbol t) e h g = let same = one_method b i s t h g in λ i. MethodSymbol (same i)
one_symbol b i x y e h g = absurd cc
