-- A number that counts for a kind of symbol is a row of its table.
use Rattle.dexpool.proofs.Common.{◌≡◌, ◌<◌, ℕ, length, sym, subst, length-map, Mentions, SymbolKind, Tables, count_of, symbols_in}
use Rattle.dexpool.specs.declared.symbols.SymbolKind.TheVariants.{Text, Typ, Proto, Field, Method}

module _ (t : Tables) (m : Mentions) (is : symbols_in t ≡ m) (k : SymbolKind) (i : ℕ) (lt : i < count_of k m) where
  counted : (l : SymbolKind) → k ≡ l → i < count_of l (symbols_in t)
  counted l e = subst (λ (n : Mentions). i < count_of l n) (sym is) (subst (λ (j : SymbolKind). i < count_of j m) e lt)

  pub text_in : k ≡ Text → i < length t.strings.items
  text_in e = counted Text e

  pub type_in : k ≡ Typ → i < length t.types.items
  type_in e = subst (λ n. i < n) (length-map t.types.items _) (counted Typ e)

  pub proto_in : k ≡ Proto → i < length t.protos.items
  proto_in e = subst (λ n. i < n) (length-map t.protos.items _) (counted Proto e)

  pub field_in : k ≡ Field → i < length t.fields.items
  field_in e = subst (λ n. i < n) (length-map t.fields.items _) (counted Field e)

  pub method_in : k ≡ Method → i < length t.methods.items
  method_in e = subst (λ n. i < n) (length-map t.methods.items _) (counted Method e)
