-- Conditions 4 to 6 and 9 of the file of classes in order.
use Rattle.dexspec.proofs.Common.{◌≡◌, ℕ, ◌+◌, ◌*◌, ◌%◌, List, [], ◌∷◌, refl, sym, ap, subst, ◌∙◌, arith, inl, inr, ◌==◌, Bool, true, false, if◌then◌else◌, eqb-true, eqb-false}
use Rattle.dexspec.specs.{Table, StringIds, TypeIds, ProtoIds, FieldIds, MethodIds, ClassDefs, tables, header_length, row_size, table_size, table_off, data_off, MayHave, HasLengths, HasEndian, HasNoLink, AreLaidOut, HasLayout, Ordered, table_count, tables_from, placed_tables}
use Rattle.dexspec.proofs.layout.SectionPlaces.{Laid}

-- 4 Lengths
pub laid_lengths : {K : Ordered} {b : List ℕ} → Laid K b → HasLengths b
laid_lengths h = record { file = h.file; header = h.own }

-- 5 Endian
pub laid_endian : {K : Ordered} {b : List ℕ} → Laid K b → HasEndian b
laid_endian h = h.endian

-- 6 Link
pub laid_no_link : {K : Ordered} {b : List ℕ} → Laid K b → HasNoLink b
laid_no_link h = record { size = h.no_link_bytes; off = h.no_link_place }

-- ---- the layout of the tables

-- the header has the sizes and offsets of these tables
abbrev pub AreStated : List ℕ → List (Table × ℕ × ℕ) → Type 0
AreStated b [] = Unit {0}
AreStated b (e ∷ es) = (table_size b e.0 ≡ e.1) × ((table_off b e.0 ≡ e.2) × AreStated b es)

-- the end of the tables that begin at an offset
abbrev pub tables_end : Ordered → ℕ → List Table → ℕ
tables_end K from [] = from
tables_end K from (t ∷ ts) = tables_end K (from + row_size t * table_count K t) ts

-- rows keep the alignment
rows_aligned : (t : Table) (from n : ℕ) → from % 4 ≡ 0 → (from + row_size t * n) % 4 ≡ 0
rows_aligned StringIds from n e = omega (arith, e)
rows_aligned _ from n e = omega (arith, e)

-- no rows have no bytes
no_rows : (t : Table) (from n : ℕ) → n ≡ 0 → from + row_size t * n ≡ from
no_rows t from n e = ap (λ k. from + row_size t * k) e ∙ omega arith

-- one table before others that are laid out; case split on whether it is empty
one_laid : (b : List ℕ) (t : Table) (ts : List Table) (from n : ℕ) (empty : Bool) → (n == 0) ≡ empty → from % 4 ≡ 0 → table_size b t ≡ n → table_off b t ≡ (if empty then 0 else from)
    → AreLaidOut b (from + row_size t * n) ts → AreLaidOut b from (t ∷ ts)
one_laid b t ts from n true is four size off rest = let none : n ≡ 0 = eqb-true n 0 is in inl (size ∙ none, off, subst (λ k. AreLaidOut b k ts) (no_rows t from n none) rest)
one_laid b t ts from n false is four size off rest =
    inr (λ none. eqb-false n 0 is (sym size ∙ none), ap (λ k. k % 4) off ∙ four, omega (arith, off), subst (λ k. AreLaidOut b (k + row_size t * table_size b t) ts) (sym off) (subst (λ k. AreLaidOut b (from + row_size t * k) ts) (sym size) rest))

-- tables whose offsets follow one another are laid out
all_laid : (b : List ℕ) (K : Ordered) (from : ℕ) (ts : List Table) → from % 4 ≡ 0 → AreStated b (tables_from K from ts) → tables_end K from ts ≡ data_off b → AreLaidOut b from ts
all_laid b K from [] four reported end = omega (arith, end)
all_laid b K from (t ∷ ts) four reported end =
    one_laid b t ts from (table_count K t) (table_count K t == 0) refl four reported.0 reported.1.0
    (all_laid b K (from + row_size t * table_count K t) ts (rows_aligned t from (table_count K t) four) reported.1.1 end)

-- the header has those of the six tables
pub laid_stated : {K : Ordered} {b : List ℕ} → Laid K b → AreStated b (placed_tables K)
laid_stated h = (
  h.count StringIds,
  (h.place StringIds, (h.count TypeIds, (h.place TypeIds, (h.count ProtoIds, (h.place ProtoIds, (h.count FieldIds, (h.place FieldIds, (h.count MethodIds, (h.place MethodIds, (h.count ClassDefs, (h.place ClassDefs, tt))))))))))),
)

-- no pool has too many rows
abbrev pub AreFew : Ordered → Type 0
AreFew K = (t : Table) → MayHave t (table_count K t)

-- 9 Layout
pub laid_layout : {K : Ordered} {b : List ℕ} → Laid K b → AreFew K → HasLayout b
laid_layout {K} {b} h few = record {
  tables = all_laid b K header_length tables refl (laid_stated h) (omega (arith, h.data_from));
  data_end = h.data_to ∙ sym h.file;
  few = λ t. subst (MayHave t) (sym (h.count t)) (few t);
}
