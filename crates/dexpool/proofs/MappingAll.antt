-- In a union each number of a part has an image; and where each number has one, the symbols that occur have.
use Rattle.dexpool.proofs.Common.{◌≡◌, ℕ, ◌<◌, List, [], ◌∷◌, length, get_or, Option, Some, None, IsSome, refl, subst, All, AllZip, Contains, flat_map, IsTotalOrder, IsAntisymmetric, Ordering, All-nil, All-cons, Contains-get_or, in_order, text_cmp, Symbol, TextSymbol, TypeSymbol, ProtoSymbol, FieldSymbol, MethodSymbol, proto_cmp, field_cmp, method_cmp, Mentions, Contains-first, Contains-later, Contains-flat_map, text_total, text_exact, proto_total, proto_exact, field_total, field_exact, method_total, method_exact, in_order-has, SymbolKind, Maps, image, MapsTo, AllMapTo, IsNumbered, IsOfKind, union_of, count_of, Use, IsUseOf, IsMappedUse, MapsAll}
use Rattle.dexpool.specs.declared.symbols.SymbolKind.TheVariants as kinds
use Rattle.dexpool.proofs.Unions.{some}

-- there is a value, or there is none
some_or : (o : Option ℕ) → (o ≡ None → ⊥) → IsSome o
some_or None h = absurd (h refl)
some_or (Some j) h = refl

module _ {X : Type 0} (R : X → X → Ordering) (o : IsTotalOrder R) (exact : IsAntisymmetric R) (of : Mentions → List X) where
  maps_somewhere : (ms : List Mentions) (m : Mentions) (images : List (Option ℕ)) → Contains ms m → MapsTo (of m) (in_order R (flat_map of ms)) images → (i : ℕ) → i < length (of m) → IsSome (image images i)
  maps_somewhere ms m images c l i lt =
      let d = some (of m) i lt in let x = get_or (of m) i d in some_or (image images i) (λ e. l.none i d lt e (in_order-has R o exact (flat_map of ms) x (Contains-flat_map of ms m x c (Contains-get_or (of m) i d lt))))

maps_all : (ms : List Mentions) (m : Mentions) (r : Maps) → Contains ms m → AllMapTo m (union_of ms) r → MapsAll m r
maps_all ms m r c l kinds.Text i lt = maps_somewhere text_cmp text_total text_exact (λ n. n.texts) ms m r.texts c l.texts_mapped i lt
maps_all ms m r c l kinds.Typ i lt = maps_somewhere text_cmp text_total text_exact (λ n. n.types) ms m r.types c l.types_mapped i lt
maps_all ms m r c l kinds.Proto i lt = maps_somewhere proto_cmp proto_total proto_exact (λ n. n.protos) ms m r.protos c l.protos_mapped i lt
maps_all ms m r c l kinds.Field i lt = maps_somewhere field_cmp field_total field_exact (λ n. n.fields) ms m r.fields c l.fields_mapped i lt
maps_all ms m r c l kinds.Method i lt = maps_somewhere method_cmp method_total method_exact (λ n. n.methods) ms m r.methods c l.methods_mapped i lt

-- what holds of the members that belong together
zip_members : {A B : Type 0} (R S : A → B → Type 0) (xs : List A) (ys : List B) → ((x : A) (y : B) → Contains xs x → R x y → S x y) → AllZip R xs ys → AllZip S xs ys
zip_members R S [] [] f h = tt
zip_members R S (x ∷ xs) (y ∷ ys) f h = (f x y (Contains-first x xs) h.0, zip_members R S xs ys (λ z w c. f z w (Contains-later x z xs c)) h.1)
zip_members _ _ _ _ f h = absurd h

pub all_map_to_all : (ms : List Mentions) (all : Mentions) (rs : List Maps) → all ≡ union_of ms → AllZip (λ m r. AllMapTo m all r) ms rs → AllZip MapsAll ms rs
all_map_to_all ms all rs e h = zip_members (λ m r. AllMapTo m all r) MapsAll ms rs (λ m r c l. maps_all ms m r c (subst (λ n. AllMapTo m n r) e l)) h

-- ---- the symbols that occur

number_within : (m : Mentions) (kind : SymbolKind) (i : ℕ) (s : Symbol) → IsNumbered m i s → IsOfKind kind s → i < count_of kind m
number_within m kinds.Text i (TextSymbol x) at of = at.within
number_within m kinds.Typ i (TypeSymbol x) at of = at.within
number_within m kinds.Proto i (ProtoSymbol x) at of = at.within
number_within m kinds.Field i (FieldSymbol x) at of = at.within
number_within m kinds.Method i (MethodSymbol x) at of = at.within
number_within m _ i _ at of = absurd of

-- where each number has an image, those of the symbols that occur have
pub uses_mapped : (m : Mentions) (r : Maps) → MapsAll m r → (us : List Use) (ss : List Symbol) → AllZip (IsUseOf m) us ss → All (IsMappedUse r) us
uses_mapped m r all [] ss h = All-nil (IsMappedUse r)
uses_mapped m r all (u ∷ us) [] h = absurd h
uses_mapped m r all (u ∷ us) (s ∷ ss) h = All-cons (IsMappedUse r) u us (all u.kind u.number (number_within m u.kind u.number s h.0.0 h.0.1)) (uses_mapped m r all us ss h.1)
