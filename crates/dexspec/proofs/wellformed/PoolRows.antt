-- The rows of strings and of types are in the order of their texts, and a table has few rows.
use Rattle.dexspec.proofs.Common.{◌≡◌, ℕ, zero, suc, ◌+◌, ◌*◌, ◌<◌, ◌≤◌, List, [], ◌∷◌, refl, sym, subst, arith, inl, inr, Ordering, Less, Equal, Contains, nat_cmp, ordering_then, IsTotalOrder, ranked, cases_lt}
use Rattle.dexspec.specs.{uint_at, Text, text_cmp, Table, StringIds, TypeIds, ProtoIds, FieldIds, MethodIds, ClassDefs, tables, table_size, table_off, row_size, data_off, header_length, HasSize, HasLengths, AreLaidOut, HasLayout, row_at, StringRow, TypeRow, HasString, HasType}
use Rattle.dexspec.proofs.lists.{Contains-nil, Contains-cons_cases, irreflexive, asymmetric}
use Rattle.dexspec.proofs.merge.SymbolOrders.{text_total}
use Rattle.dexspec.proofs.determined.OneRow.{one_string, one_type}
use Rattle.dexspec.proofs.determined.OneClass.{HasFewRows}

-- ---- rows that rise

-- row i is a value, greater than that of the row before it
pub record NextRow {X : Type 0} (R : X → X → Ordering) (Row : ℕ → X → Type 0) (i : ℕ) : Type 0 where
  pub value : X
  pub is : Row i value
  pub follows : (j : ℕ) (before : X) → j + 1 ≡ i → Row j before → R before value ≡ Less

module _ {X : Type 0} (R : X → X → Ordering) (o : IsTotalOrder R) (Row : ℕ → X → Type 0) (one : (i : ℕ) (x y : X) → Row i x → Row i y → x ≡ y) (n : ℕ) (next : (i : ℕ) → i < n → NextRow R Row i) where
  -- a later row is greater
  pub rows_rise : (j i : ℕ) (x y : X) → i < j → j < n → Row i x → Row j y → R x y ≡ Less
  rows_rise zero i x y lt le h g = absurd (omega arith)
  rows_rise (suc j) i x y lt le h g =
      let w = next (suc j) le in
      let same : w.value ≡ y = one (suc j) w.value y w.is g in
      subst (λ (z : X). R x z ≡ Less) same (elim (cases_lt i j) [
        | inl less ↦ let v = next j (omega arith) in o.trans x v.value w.value (rows_rise j i x v.value less (omega arith) h v.is) (w.follows j v.value (omega arith) v.is)
        | inr last ↦ w.follows i x (omega arith) h
      ])

-- keys of one number each
pub first_less : (r : Ordering) → ordering_then r Equal ≡ Less → r ≡ Less
first_less Less e = refl
first_less _ e = absurd cc

-- the meaning of a lesser number
pub less_number : (x y : ℕ) → nat_cmp x y ≡ Less → x < y
less_number x y e = ranked x y Less (sym e)

-- ---- strings and types

-- each row of strings denotes a text, in order
abbrev pub AreStrings : List ℕ → Type 0
AreStrings b = (i : ℕ) → i < table_size b StringIds → HasString b i

-- each row of types denotes a type, in order
abbrev pub AreTypes : List ℕ → Type 0
AreTypes b = (i : ℕ) → i < table_size b TypeIds → HasType b i

module _ (b : List ℕ) (strings : AreStrings b) where
  -- a later string is greater
  pub strings_rise : (i j : ℕ) (s t : Text) → i < j → StringRow b i s → StringRow b j t → text_cmp s t ≡ Less
  strings_rise i j s t lt h g =
      rows_rise text_cmp text_total (StringRow b) (one_string b) (table_size b StringIds) (λ k less. let w = strings k less in record { value = w.text; is = w.is; follows = w.follows }) j i s t lt g.row h g

  -- a lesser string comes before
  pub string_before : (i j : ℕ) (s t : Text) → text_cmp s t ≡ Less → StringRow b i s → StringRow b j t → i < j
  string_before i j s t less h g = elim (cases_lt i j) [
    | inl lt ↦ lt
    | inr ge ↦ elim (cases_lt j i) [
      | inl gt ↦ absurd (asymmetric text_cmp text_total s t less (strings_rise j i t s gt g h))
      | inr le ↦ absurd (let e : i ≡ j = omega arith in irreflexive text_cmp text_total s t (one_string b j s t (subst (λ (k : ℕ). StringRow b k s) e h) g) less)
    ]
  ]

  module _ (types : AreTypes b) where
    -- a later type is greater
    pub types_rise : (i j : ℕ) (s t : Text) → i < j → TypeRow b i s → TypeRow b j t → text_cmp s t ≡ Less
    types_rise i j s t lt h g =
        rows_rise text_cmp text_total (TypeRow b) (one_type b) (table_size b TypeIds) (λ k less.
        let w = types k less in record {
          value = w.item;
          is = w.is;
          follows = λ l before e row.
              let before_index = uint_at b (row_at b TypeIds l) in
              let index = uint_at b (row_at b TypeIds k) in
              strings_rise before_index index before w.item (less_number before_index index (first_less (nat_cmp before_index index) (w.follows l e))) row.text w.is.text;
        }) j i s t lt g.row h g

    -- a type has one row
    pub same_type_row : (i j : ℕ) (t : Text) → TypeRow b i t → TypeRow b j t → i ≡ j
    same_type_row i j t h g = elim (cases_lt i j) [
      | inl lt ↦ absurd (irreflexive text_cmp text_total t t refl (types_rise i j t t lt h g))
      | inr ge ↦ elim (cases_lt j i) [
        | inl gt ↦ absurd (irreflexive text_cmp text_total t t refl (types_rise j i t t gt g h))
        | inr le ↦ omega arith
      ]
    ]

-- ---- the number of rows

-- a row has at least one byte
row_bytes : (t : Table) (n : ℕ) → n ≤ row_size t * n
row_bytes StringIds n = omega arith
row_bytes _ n = omega arith

-- the tables end at the start of the data
laid_within : (b : List ℕ) (from : ℕ) (ts : List Table) → AreLaidOut b from ts → from ≤ data_off b
laid_within b from [] h = h
laid_within b from (t ∷ ts) (inl h) = laid_within b from ts h.2
laid_within b from (t ∷ ts) (inr h) = omega (arith, h.2, laid_within b (table_off b t + row_size t * table_size b t) ts h.3)

-- a table has at most as many rows as there are bytes before the data
laid_size : (b : List ℕ) (from : ℕ) (ts : List Table) (t : Table) → AreLaidOut b from ts → Contains ts t → table_size b t ≤ data_off b
laid_size b from [] t h c = absurd (Contains-nil t c)
laid_size b from (u ∷ ts) t (inl h) c = elim (Contains-cons_cases u t ts c) [
  | inl e ↦ subst (λ (v : Table). table_size b v ≤ data_off b) e (omega (arith, h.0))
  | inr l ↦ laid_size b from ts t h.2 l
]
laid_size b from (u ∷ ts) t (inr h) c = elim (Contains-cons_cases u t ts c) [
  | inl e ↦ subst (λ (v : Table). table_size b v ≤ data_off b) e (omega (arith, row_bytes u (table_size b u), laid_within b (table_off b u + row_size u * table_size b u) ts h.3))
  | inr l ↦ laid_size b (table_off b u + row_size u * table_size b u) ts t h.3 l
]

-- each of the tables is laid out
is_table : (t : Table) → Contains tables t
is_table StringIds = (0, omega arith, refl)
is_table TypeIds = (1, omega arith, refl)
is_table ProtoIds = (2, omega arith, refl)
is_table FieldIds = (3, omega arith, refl)
is_table MethodIds = (4, omega arith, refl)
is_table ClassDefs = (5, omega arith, refl)

-- tables that are laid out have few rows
pub laid_few : (b : List ℕ) → HasSize b → HasLengths b → HasLayout b → HasFewRows b
laid_few b size lengths layout t = omega (arith, size.most, lengths.file, layout.data_end, laid_size b header_length tables t layout.tables (is_table t))
