-- Symbols that are marked are kept, and their numbers have images.
use Rattle.dexcode.proofs.Common.{◌≡◌, ℕ, ◌<◌, Bool, List, [], ◌++◌, length, map, get_or, Option, Some, None, refl, arith, All, Contains, flat_map, IsSome, Contains-append_left, Contains-append_right, in_order, text_cmp, Symbol, TextSymbol, TypeSymbol, ProtoSymbol, FieldSymbol, MethodSymbol, proto_cmp, field_cmp, method_cmp, Mentions, closed, texts_in, types_in, protos_in, fields_in, methods_in, text_total, text_exact, proto_total, proto_exact, field_total, field_exact, method_total, method_exact, in_order-has, SymbolKind, Marks, Maps, image, image_of, MapsTo, AllMapTo, AreMarksOf, marked, marked_remapped, Use, marks_of, IsMappedUse, IsMarkedUse}
use Rattle.std.specs.Cmp.{IsTotalOrder}
use Rattle.std.specs.FinMap.{IsAntisymmetric}
use Rattle.std.specs.declared.cmp.Ordering.{Ordering}
use Rattle.dexspec.proofs.lists.Members.{Contains-first, Contains-flat_map}
use Rattle.dexspec.proofs.merge.Depths.{Contains-map}
use Rattle.dexpool.specs.Cut.{kept}
use Rattle.dexpool.specs.declared.symbols.SymbolKind.TheVariants as kinds
use Rattle.dexpool.specs.internal.Closing.{IsMarked}
use Rattle.dexpool.proofs.CutRows.{any_of}
use Rattle.dexpool.proofs.KeptRows.{mark_within, kept_has}

some_or : (o : Option ℕ) → (o ≡ None → ⊥) → IsSome o
some_or None h = absurd (h refl)
some_or (Some j) h = refl

module _ {X : Type 0} (R : X → X → Ordering) (o : IsTotalOrder R) (exact : IsAntisymmetric R) (parts : Symbol → List X) (symbol : X → Symbol) (itself_in : (x : X) → Contains (parts (symbol x)) x) where
  maps_kept : (ms : List Bool) (xs : List X) (ss : List Symbol) (images : List (Option ℕ)) (i : ℕ) → length ms ≡ length xs → IsMarked ms i → ((s : Symbol) → Contains (map symbol (kept ms xs)) s → Contains ss s) → MapsTo xs (in_order R (flat_map parts ss)) images → IsSome (image images i)
  maps_kept ms xs ss images i count mark among l =
      let lt : i < length xs = omega (arith, count, mark_within ms i mark) in
      let d = any_of xs i lt in
      let x = get_or xs i d in
      some_or (image images i) (λ e. l.none i d lt e (in_order-has R o exact (flat_map parts ss) x (Contains-flat_map parts ss (symbol x) x (among (symbol x) (Contains-map symbol (kept ms xs) x (kept_has ms xs i d mark lt))) (itself_in x))))

module _ (m : Mentions) (marks : Marks) (r : Maps) (are : AreMarksOf m marks) (l : AllMapTo m (closed (marked m marks)) r) where
  abbrev texts : List Symbol
  texts = map TextSymbol (kept marks.strings.items m.texts)

  abbrev types : List Symbol
  types = map TypeSymbol (kept marks.types.items m.types)

  abbrev protos : List Symbol
  protos = map ProtoSymbol (kept marks.protos.items m.protos)

  abbrev fields : List Symbol
  fields = map FieldSymbol (kept marks.fields.items m.fields)

  abbrev methods : List Symbol
  methods = map MethodSymbol (kept marks.methods.items m.methods)

  image_kept : (k : SymbolKind) (i : ℕ) → IsMarked (marks_of k marks) i → IsSome (image_of r k i)
  image_kept kinds.Text i mark =
      maps_kept text_cmp text_total text_exact texts_in TextSymbol (λ s. Contains-first s []) marks.strings.items m.texts (marked m marks) r.texts i are.strings_count mark
      (λ s c. Contains-append_left texts (types ++ (protos ++ (fields ++ methods))) s c) l.texts_mapped
  image_kept kinds.Typ i mark =
      maps_kept text_cmp text_total text_exact types_in TypeSymbol (λ s. Contains-first s []) marks.types.items m.types (marked m marks) r.types i are.types_count mark
      (λ s c. Contains-append_right texts (types ++ (protos ++ (fields ++ methods))) s (Contains-append_left types (protos ++ (fields ++ methods)) s c)) l.types_mapped
  image_kept kinds.Proto i mark =
      maps_kept proto_cmp proto_total proto_exact protos_in ProtoSymbol (λ s. Contains-first s []) marks.protos.items m.protos (marked m marks) r.protos i are.protos_count mark
      (λ s c. Contains-append_right texts (types ++ (protos ++ (fields ++ methods))) s (Contains-append_right types (protos ++ (fields ++ methods)) s (Contains-append_left protos (fields ++ methods) s c))) l.protos_mapped
  image_kept kinds.Field i mark =
      maps_kept field_cmp field_total field_exact fields_in FieldSymbol (λ s. Contains-first s []) marks.fields.items m.fields (marked m marks) r.fields i are.fields_count mark
      (λ s c. Contains-append_right texts (types ++ (protos ++ (fields ++ methods))) s (Contains-append_right types (protos ++ (fields ++ methods)) s (Contains-append_right protos (fields ++ methods) s (Contains-append_left fields methods s c)))) l.fields_mapped
  image_kept kinds.Method i mark =
      maps_kept method_cmp method_total method_exact methods_in MethodSymbol (λ s. Contains-first s []) marks.methods.items m.methods (marked m marks) r.methods i are.methods_count mark
      (λ s c. Contains-append_right texts (types ++ (protos ++ (fields ++ methods))) s (Contains-append_right types (protos ++ (fields ++ methods)) s (Contains-append_right protos (fields ++ methods) s (Contains-append_right fields methods s c)))) l.methods_mapped

  pub uses_kept : (us : List Use) → All (IsMarkedUse marks) us → All (IsMappedUse r) us
  uses_kept = marked_remapped marks r image_kept
