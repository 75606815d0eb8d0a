-- The numbers of a row are those of its symbol's parts.
use Rattle.dexpool.proofs.Common.{◌≡◌, ℕ, ◌<◌, List, [], ◌∷◌, length, get_or, sym, ap, ◌∙◌, subst, arith, map, All, AllZip, get_or-map, get_or_default, length-map, All-head, All-tail, IsValueType, Proto, ProtoNumbers, ProtoEntry, Tables, text_of, type_of, span_of, proto_of, symbols_in, IsTypeOf, IsProtoEntry, AreTables, IsAt, DenotesProto}

module _ (t : Tables) (h : AreTables t) where
  pub text_at : (n : ℕ) → n < length t.strings.items → IsAt t.strings.items n (text_of t.strings.items n)
  text_at n lt = record { within = lt; is = λ d. get_or_default t.strings.items n d [] lt }

  pub type_at : (n : ℕ) → n < length t.types.items → IsAt (symbols_in t).types n (type_of t.strings.items t.types.items n)
  type_at n lt = record { within = omega (arith, lt, length-map t.types.items (text_of t.strings.items)); is = λ d. get_or-map (text_of t.strings.items) t.types.items n 0 d lt }

  pub types_at : (ns : List ℕ) → All (IsTypeOf IsValueType t) ns → AllZip (IsAt (symbols_in t).types) ns (map (type_of t.strings.items t.types.items) ns)
  types_at [] k = tt
  types_at (n ∷ ns) k = (type_at n (All-head (IsTypeOf IsValueType t) n ns k).type_in, types_at ns (All-tail (IsTypeOf IsValueType t) n ns k))

  -- the entry's numbers are those of its proto's parts
  pub entry_encoded : (p : ProtoEntry) → IsProtoEntry t p → DenotesProto (symbols_in t) (record { shorty = p.shorty; return_type = p.return_type; parameters = span_of t.parameters p.parameters }) (proto_of t.strings.items t.types.items t.parameters p)
  entry_encoded p k = record {
    shorty_is = subst (IsAt t.strings.items p.shorty) k.shorty_is (text_at p.shorty k.shorty_in);
    return_is = type_at p.return_type k.return_in;
    parameters_are = types_at (span_of t.parameters p.parameters) k.parameters_in;
  }

  -- and so those of the proto of its row
  pub row_encoded : (i : ℕ) (p : ProtoEntry) (r : ProtoNumbers) (d : Proto) → i < length (symbols_in t).protos → p ≡ get_or t.protos.items i p → r ≡ record { shorty = p.shorty; return_type = p.return_type; parameters = span_of t.parameters p.parameters }
      → DenotesProto (symbols_in t) r (get_or (symbols_in t).protos i d)
  row_encoded i p r d small at is =
      let lt : i < length t.protos.items = omega (arith, small, length-map t.protos.items (proto_of t.strings.items t.types.items t.parameters)) in
      let proto : proto_of t.strings.items t.types.items t.parameters p ≡ get_or (symbols_in t).protos i d = ap (proto_of t.strings.items t.types.items t.parameters) at ∙ sym (get_or-map (proto_of t.strings.items t.types.items t.parameters) t.protos.items i p d lt) in
      subst (λ (x : Proto). DenotesProto (symbols_in t) r x) proto (subst (λ (x : ProtoNumbers). DenotesProto (symbols_in t) x (proto_of t.strings.items t.types.items t.parameters p)) (sym is) (entry_encoded p (subst (IsProtoEntry t) (sym at) (h.protos_at_ranks i p lt))))
