-- The contents of a row of a list of bytes are well formed: texts, symbols, and a class without its members.
use Rattle.dexspec.proofs.Common.{◌≡◌, ℕ, zero, suc, ◌+◌, ◌<◌, ◌≤◌, ◌^◌, List, [], ◌∷◌, length, take, drop, get_or, All, Option, Some, None, refl, sym, ap, subst, arith, inl, inr, length-take, IfSome, Contains, AllZip, flat_map, pow-le-pow_right, All-take, All-drop, Contains-get_or}
use Rattle.dexspec.specs.{OrNone, uint_at, ushorts_at, uints_at, Text, IsClass, Symbol, TextSymbol, TypeSymbol, ProtoSymbol, FieldSymbol, MethodSymbol, StringRow, TypeRow, type_indices, ClassTypeRow, ClassListAt, IndexOrNone, texts_in, FitsUint, IsText, IsSymbol}
use Rattle.dexspec.proofs.lists.Members.{Contains-nil, Contains-flat_map_source}
use Rattle.dexspec.proofs.numbers.ByteNumbers.{number_bound}
use Rattle.dexspec.proofs.wellformed.Fitting.{HasRow, HaveRows, text_rows}

-- a property of each member holds for all
pub all_from : {X : Type 0} (P : X → Type 0) (xs : List X) → ((x : X) → Contains xs x → P x) → All P xs
all_from P xs h k d lt = h (get_or xs k d) (Contains-get_or xs k d lt)

-- four bytes encode a number of 32 bits
pub uint_bound : (b : List ℕ) (o : ℕ) → All (λ byte. byte < 256) b → FitsUint (uint_at b o)
unfolding uint_at
uint_bound b o bytes =
    let small = number_bound (take 4 (drop o b)) (All-take (λ (x : ℕ). x < 256) 4 (drop o b) (All-drop (λ (x : ℕ). x < 256) o b bytes)) in
    let size : length (take 4 (drop o b)) ≤ 4 = omega (arith, length-take 4 (drop o b)) in
    let most : 256 ^ length (take 4 (drop o b)) ≤ 256 ^ 4 = pow-le-pow_right (omega arith) size in
    omega (arith, small, most)

-- the number of ushorts that are read
pub length-ushorts_at : (b : List ℕ) (o n : ℕ) → length (ushorts_at b o n) ≡ n
length-ushorts_at b o zero = refl
length-ushorts_at b o (suc n) = omega (arith, length-ushorts_at b (o + 2) n)

-- the number of uints that are read
pub length-uints_at : (b : List ℕ) (o n : ℕ) → length (uints_at b o n) ≡ n
length-uints_at b o zero = refl
length-uints_at b o (suc n) = omega (arith, length-uints_at b (o + 4) n)

-- related lists have equal lengths
pub length-zip : {A X : Type 0} (R : A → X → Type 0) (keys : List A) (xs : List X) → AllZip R keys xs → length keys ≡ length xs
length-zip R [] [] h = refl
length-zip R (a ∷ keys) (x ∷ xs) h = omega (arith, length-zip R keys xs h.1)
length-zip _ _ _ h = absurd h

module _ (b : List ℕ) where
  -- ---- symbols

  -- a text with a row
  pub text_formed : (i : ℕ) (s : Text) → StringRow b i s → IsText s
  text_formed i s h = record { units = h.encodes.1.spelled.units; count = h.encodes.1.spelled.says.in_range }

  -- a symbol with a row
  pub symbol_formed : (s : Symbol) → HasRow b s → IsSymbol s
  symbol_formed (TextSymbol s) (i, h) = text_formed i s h
  symbol_formed (TypeSymbol t) (i, h) = h.descriptor
  symbol_formed (ProtoSymbol p) (i, h) = record { return_type = h.return_type.descriptor; parameters = h.values }
  symbol_formed (FieldSymbol f) (i, h) = h.formed
  symbol_formed (MethodSymbol m) (i, h) = h.formed

  -- symbols with rows
  pub symbols_formed : (ss : List Symbol) → HaveRows b ss → All IsSymbol ss
  symbols_formed ss h = all_from IsSymbol ss (λ s c. symbol_formed s (h s c))

  -- and the texts that they mention
  pub texts_formed : (ss : List Symbol) → HaveRows b ss → All IsText (flat_map texts_in ss)
  texts_formed ss h = all_from IsText (flat_map texts_in ss) (λ t c. let w = Contains-flat_map_source texts_in ss t c in let r = text_rows b w.0 (h w.0 w.1) t w.2 in text_formed r.0 t r.1)

  -- ---- the fields of a class row

  -- a superclass
  pub superclass_formed : (i : ℕ) (t : Option Text) → IndexOrNone ClassTypeRow b i t → IfSome t IsClass
  superclass_formed i None h = tt
  superclass_formed i (Some t) h = h.class

  -- interfaces
  pub interfaces_formed : (o : ℕ) (ts : List Text) → OrNone ClassListAt [] b o ts → All IsClass ts
  interfaces_formed o ts (inl h) = subst (λ (us : List Text). All IsClass us) (sym h.1) (all_from IsClass [] (λ t c. absurd (Contains-nil t c)))
  interfaces_formed o ts (inr h) = h.1.classes

  -- the number of interfaces
  pub interfaces_few : (o : ℕ) (ts : List Text) → All (λ byte. byte < 256) b → OrNone ClassListAt [] b o ts → FitsUint (length ts)
  interfaces_few o ts bytes (inl h) = let e : length ts ≡ 0 = ap length h.1 in omega (arith, e)
  interfaces_few o ts bytes (inr h) = omega (arith, length-zip (TypeRow b) (type_indices b o) ts h.1.list.types, length-ushorts_at b (o + 4) (uint_at b o), uint_bound b o bytes)
