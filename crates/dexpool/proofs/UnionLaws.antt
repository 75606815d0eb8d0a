-- Ranks and counts in a union, numbers as ranks, and the union of what several lists of definitions mention.
use Rattle.dexpool.proofs.Common.{◌≡◌, ◌≤◌, true, List, length, map, sym, subst, arith, sum_by, Ordering, Contains, flat_map, IsTotalOrder, IsAntisymmetric, rises, in_order, text_cmp, Symbol, proto_cmp, field_cmp, method_cmp, Mentions, mentions, texts_in, types_in, protos_in, fields_in, methods_in, Contains-flat_map, Contains-flat_map_source, length-among, Contains-map, Contains-map_source, text_total, text_exact, proto_total, proto_exact, field_total, field_exact, method_total, method_exact, Rises, Rises-from_rises, Rises-in_order, Rises-same, AreDistinct-from_Rises, in_order-has, in_order-only, rank-among, rank-get_or, SymbolKind, count_of, AreRising, union_of, RanksGrow, AllRanksGrow, RanksArePlaces, RanksAreNumbers}
use Rattle.std.proofs.lemmas.List.Concat.{length-flat_map}
use Rattle.dexspec.specs.Classes.{Definition}
use Rattle.dexspec.proofs.merge.Growth.{mentions-rising}
use Rattle.dexspec.proofs.merge.MentionMembers.{Occurs, texts-listed, texts-source, types-listed, types-source, protos-listed, protos-source, fields-listed, fields-source, methods-listed, methods-source}
use Rattle.dexpool.specs.declared.symbols.SymbolKind.TheVariants as kinds

module _ {K : Type 0} (R : K → K → Ordering) (o : IsTotalOrder R) where
  -- ---- numbers

  ranks_are_places : (xs : List K) → rises R xs ≡ true → RanksArePlaces R xs
  ranks_are_places xs h i d lt = rank-get_or R o xs i d (Rises-from_rises R o xs h) lt

  module _ (exact : IsAntisymmetric R) (of : Mentions → List K) where
    -- ---- a part of a union

    ranks_grow : (ms : List Mentions) (m : Mentions) → Contains ms m → rises R (of m) ≡ true → RanksGrow R (of m) (in_order R (flat_map of ms))
    ranks_grow ms m c h s = rank-among R o s (of m) (in_order R (flat_map of ms)) (Rises-from_rises R o (of m) h) (λ x d. in_order-has R o exact (flat_map of ms) x (Contains-flat_map of ms m x c d))

    fewer : (ms : List Mentions) → length (in_order R (flat_map of ms)) ≤ sum_by (λ m. length (of m)) ms
    fewer ms =
        omega (arith, length-among (in_order R (flat_map of ms)) (flat_map of ms) (AreDistinct-from_Rises R o (in_order R (flat_map of ms)) (Rises-in_order R o exact (flat_map of ms))) (in_order-only R o exact (flat_map of ms)), length-flat_map of ms)

    -- ---- definitions of several lists

    module _ (parts : Symbol → List K) (rising : (D : List Definition) → Rises R (of (mentions D)))
        (listed : (D : List Definition) (x : K) → Occurs parts D x → Contains (of (mentions D)) x)
        (source : (D : List Definition) (x : K) → Contains (of (mentions D)) x → Occurs parts D x) (Ds : List (List Definition)) where
      -- a symbol of the whole occurs in a part
      down : (x : K) → Contains (of (mentions (flat_map (λ D. D) Ds))) x → Contains (flat_map of (map mentions Ds)) x
      down x c =
          let w = source (flat_map (λ D. D) Ds) x c in
          let s = Contains-flat_map_source (λ (D : List Definition). D) Ds w.definition w.member in
          Contains-flat_map of (map mentions Ds) (mentions s.0) x (Contains-map mentions Ds s.0 s.1) (listed s.0 x (record {
            definition = w.definition;
            symbol = w.symbol;
            member = s.2;
            occurs = w.occurs;
            part = w.part;
          }))

      -- a symbol of a part occurs in the whole
      up : (x : K) → Contains (flat_map of (map mentions Ds)) x → Contains (of (mentions (flat_map (λ D. D) Ds))) x
      up x c =
          let s = Contains-flat_map_source of (map mentions Ds) x c in
          let d = Contains-map_source mentions Ds s.0 s.1 in
          let w = source d.0 x (subst (λ m. Contains (of m) x) (sym d.2) s.2) in
          listed (flat_map (λ D. D) Ds) x (record {
            definition = w.definition;
            symbol = w.symbol;
            member = Contains-flat_map (λ (D : List Definition). D) Ds d.0 w.definition d.1 w.member;
            occurs = w.occurs;
            part = w.part;
          })

      joined : of (mentions (flat_map (λ D. D) Ds)) ≡ in_order R (flat_map of (map mentions Ds))
      joined = Rises-same R o (of (mentions (flat_map (λ D. D) Ds))) (in_order R (flat_map of (map mentions Ds)))
          (rising (flat_map (λ D. D) Ds)) (Rises-in_order R o exact (flat_map of (map mentions Ds)))
          (λ x c. in_order-has R o exact (flat_map of (map mentions Ds)) x (down x c))
          (λ x c. up x (in_order-only R o exact (flat_map of (map mentions Ds)) x c))

-- the rank of each symbol is its number
pub ranks_are_numbers : (m : Mentions) → AreRising m → RanksAreNumbers m
ranks_are_numbers m h = record {
  texts_are = ranks_are_places text_cmp text_total m.texts h.texts_rise;
  types_are = ranks_are_places text_cmp text_total m.types h.types_rise;
  protos_are = ranks_are_places proto_cmp proto_total m.protos h.protos_rise;
  fields_are = ranks_are_places field_cmp field_total m.fields h.fields_rise;
  methods_are = ranks_are_places method_cmp method_total m.methods h.methods_rise;
}

-- no rank is less in a union
pub all_ranks_grow : (ms : List Mentions) (m : Mentions) → Contains ms m → AreRising m → AllRanksGrow m (union_of ms)
all_ranks_grow ms m c h = record {
  texts_grow = ranks_grow text_cmp text_total text_exact (λ n. n.texts) ms m c h.texts_rise;
  types_grow = ranks_grow text_cmp text_total text_exact (λ n. n.types) ms m c h.types_rise;
  protos_grow = ranks_grow proto_cmp proto_total proto_exact (λ n. n.protos) ms m c h.protos_rise;
  fields_grow = ranks_grow field_cmp field_total field_exact (λ n. n.fields) ms m c h.fields_rise;
  methods_grow = ranks_grow method_cmp method_total method_exact (λ n. n.methods) ms m c h.methods_rise;
}

-- a union has no more symbols than the parts together
pub counts_add : (ms : List Mentions) (kind : SymbolKind) → count_of kind (union_of ms) ≤ sum_by (λ m. count_of kind m) ms
counts_add ms kinds.Text = fewer text_cmp text_total text_exact (λ n. n.texts) ms
counts_add ms kinds.Typ = fewer text_cmp text_total text_exact (λ n. n.types) ms
counts_add ms kinds.Proto = fewer proto_cmp proto_total proto_exact (λ n. n.protos) ms
counts_add ms kinds.Field = fewer field_cmp field_total field_exact (λ n. n.fields) ms
counts_add ms kinds.Method = fewer method_cmp method_total method_exact (λ n. n.methods) ms

-- two are one where their lists are
same_mentions : (m n : Mentions) → m.texts ≡ n.texts → m.types ≡ n.types → m.protos ≡ n.protos → m.fields ≡ n.fields → m.methods ≡ n.methods → m ≡ n
same_mentions m n a b c d e = λ i. record { texts = a i; types = b i; protos = c i; fields = d i; methods = e i }

-- what definitions of several lists mention
pub mentions_join : (Ds : List (List Definition)) → mentions (flat_map (λ D. D) Ds) ≡ union_of (map mentions Ds)
mentions_join Ds = same_mentions (mentions (flat_map (λ D. D) Ds)) (union_of (map mentions Ds))
    (joined text_cmp text_total text_exact (λ n. n.texts) texts_in (λ D. (mentions-rising D).texts) texts-listed texts-source Ds)
    (joined text_cmp text_total text_exact (λ n. n.types) types_in (λ D. (mentions-rising D).types) types-listed types-source Ds)
    (joined proto_cmp proto_total proto_exact (λ n. n.protos) protos_in (λ D. (mentions-rising D).protos) protos-listed protos-source Ds)
    (joined field_cmp field_total field_exact (λ n. n.fields) fields_in (λ D. (mentions-rising D).fields) fields-listed fields-source Ds)
    (joined method_cmp method_total method_exact (λ n. n.methods) methods_in (λ D. (mentions-rising D).methods) methods-listed methods-source Ds)
