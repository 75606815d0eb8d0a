-- Tables of the same rows denote the same.
use Rattle.dexpool.proofs.Common.{◌≡◌, subst, All, IsDescriptor, IsProto, IsField, IsMethod, Mentions, Tables, symbols_of, symbols_in, AreTables}
use Rattle.dexpool.proofs.TablesAreAt.{types_in, protos_in, fields_in, methods_in, are_numbering, tables_made}

-- the tables have the same rows
pub record HaveSameRows (t u : Tables) : Type 0 where
  pub strings : t.strings.items ≡ u.strings.items
  pub types : t.types.items ≡ u.types.items
  pub protos : t.protos.items ≡ u.protos.items
  pub parameters : t.parameters ≡ u.parameters
  pub fields : t.fields.items ≡ u.fields.items
  pub methods : t.methods.items ≡ u.methods.items

module _ (t u : Tables) (s : HaveSameRows t u) where
  pub same_symbols : symbols_in t ≡ symbols_in u
  same_symbols = λ i. symbols_of (s.strings i) (s.types i) (s.parameters i) (s.protos i) (s.fields i) (s.methods i)

  -- rows that are in range of the one are in range of the other
  pub same_tables : AreTables t → AreTables u
  same_tables h =
      let formed = are_numbering t h in
      tables_made u
      (rw (← s.strings) h.texts_rise)
      (rw (← s.types) h.types_rise)
      (rw (← s.protos, ← s.parameters) h.protos_rise)
      (rw (← s.fields) h.fields_rise)
      (rw (← s.methods) h.methods_rise)
      (rw (← s.strings, ← s.types) (types_in t h))
      (subst (λ (m : Mentions). All IsDescriptor m.types) same_symbols formed.types_formed)
      (rw (← s.strings, ← s.types, ← s.protos, ← s.parameters) (protos_in t h))
      (rw (← s.strings, ← s.types, ← s.protos, ← s.parameters) (λ k d lt. (h.protos_at_ranks k d lt).shorty_is))
      (subst (λ (m : Mentions). All IsProto m.protos) same_symbols formed.protos_formed)
      (rw (← s.strings, ← s.types, ← s.fields) (fields_in t h))
      (subst (λ (m : Mentions). All IsField m.fields) same_symbols formed.fields_formed)
      (rw (← s.strings, ← s.types, ← s.protos, ← s.methods) (methods_in t h))
      (subst (λ (m : Mentions). All IsMethod m.methods) same_symbols formed.methods_formed)
