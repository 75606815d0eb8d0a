-- A file whose class rows can be read denotes a collection.
use Rattle.dexspec.proofs.Common.{◌≡◌, ℕ, ◌<◌, ◌≤◌, List, sym, subst, arith, inl, inr, Contains, cases_lt}
use Rattle.std.specs.FinMap as map
use Rattle.dexspec.specs.{Text, ClassDefs, table_size, Body, Definition, ClassRow, class_idx, Collection, definitions, Defines, Denotes, AreSame, IsConsistent, Condition, HasClass, IsReadable, AreRows, HoldBelow, IsAccepted}
use Rattle.dexspec.proofs.determined.OneClass.{HasFewRows, one_class_row}
use Rattle.dexspec.proofs.wellformed.PoolRows.{AreStrings, AreTypes, same_type_row, laid_few}
use Rattle.dexspec.proofs.determined.Readable.{row_there, all_rows, row_of, member_of}
use Rattle.dexspec.proofs.merge.Collections.{collection-is, definitions-are}

-- the first sixteen conditions, for the tables and the class rows
pub record HasClasses (b : List ℕ) : Type 0 where
  pub few : HasFewRows b
  pub strings : AreStrings b
  pub types : AreTypes b
  pub classes : (r : ℕ) → r < table_size b ClassDefs → HasClass b r

-- the first sixteen conditions imply it
pub has_classes : (b : List ℕ) → HoldBelow 17 b → HasClasses b
has_classes b h = record {
  few = laid_few b (h Condition.Size (omega arith) 0 (omega arith)) (h Condition.Lengths (omega arith) 0 (omega arith)) (h Condition.Layout (omega arith) 0 (omega arith));
  strings = h Condition.Strings (omega arith);
  types = h Condition.Types (omega arith);
  classes = h Condition.Classes (omega arith);
}

-- every class row can be read
abbrev pub AreReadable : List ℕ → Type 0
AreReadable b = (r : ℕ) → r < table_size b ClassDefs → IsReadable b r

-- those of an accepted file can be read
pub accepted_readable : (b : List ℕ) → IsAccepted b → AreReadable b
accepted_readable b h r lt = record {
  members = h Condition.Members r lt;
  code = h Condition.Code r lt;
  tries = h Condition.Tries r lt;
  debug = h Condition.Debug r lt;
  values = h Condition.Values r lt;
  annotations = h Condition.Annotations r lt;
}

module _ (b : List ℕ) (h : HasClasses b) where
  -- a name has one class row
  pub same_class_row : (r s : ℕ) (name : Text) (c d : Body) → ClassRow b r name c → ClassRow b s name d → r ≡ s
  same_class_row r s name c d x y =
      let index = same_type_row b h.strings h.types (class_idx b r) (class_idx b s) name x.class.row y.class.row in
      elim (cases_lt r s) [
        | inl lt ↦ absurd ((h.classes s y.row).first r lt index)
        | inr ge ↦ elim (cases_lt s r) [ inl gt ↦ absurd ((h.classes r x.row).first s gt (sym index)) | inr le ↦ omega arith ]
      ]

  -- a name has one body
  pub same_body : (r s : ℕ) (name : Text) (c d : Body) → ClassRow b r name c → ClassRow b s name d → c ≡ d
  same_body r s name c d x y =
      (one_class_row b h.few s name name c d (subst (λ (k : ℕ). ClassRow b k name c) (same_class_row r s name c d x y) x) y).1

  -- the definitions of all rows
  module _ (D : List Definition) (rows : AreRows b (table_size b ClassDefs) D) where
    -- a member is the definition of a row
    pub rows_define : (name : Text) (c : Body) → Contains D (name, c) → Defines b name c
    rows_define name c m = let s = row_of (λ (r : ℕ) (d : Definition). ClassRow b r d.0 d.1) (table_size b ClassDefs) 0 D rows (name, c) m in (s.0, s.3)

    -- the definition of a row is a member
    pub defined_rows : (name : Text) (c : Body) → Defines b name c → Contains D (name, c)
    defined_rows name c (r, x) =
        let s = member_of (λ (k : ℕ) (d : Definition). ClassRow b k d.0 d.1) (table_size b ClassDefs) 0 D rows r (omega arith) (omega (arith, x.row)) in
        let same = one_class_row b h.few r s.0.0 name s.0.1 c s.2 x in
        subst (Contains D) (λ i. (same.0 i, same.1 i)) s.1

    -- no name has two of them
    pub rows_consistent : IsConsistent D
    rows_consistent name one other x y =
        let s = rows_define name one x in
        let t = rows_define name other y in
        same_body s.0 t.0 name one other s.1 t.1

    -- their collection is denoted by the file
    pub rows_denote : Denotes b (map.from_entries D)
    rows_denote name c =
        let is = collection-is D rows_consistent name c in
        (λ m. rows_define name c (is.0 m), λ d. is.1 (defined_rows name c d))

    -- the definitions of the denoted collection are those of the rows
    pub denoted_rows : (K : Collection) → Denotes b K → AreSame (definitions K) D
    denoted_rows K k d =
        let is = definitions-are K d.0 d.1 in
        (λ m. defined_rows d.0 d.1 ((k d.0 d.1).0 (is.1 m)), λ m. is.0 ((k d.0 d.1).1 (rows_define d.0 d.1 m)))

  -- rows that can be read are definitions
  pub readable_rows : (n : ℕ) → n ≤ table_size b ClassDefs → AreReadable b → (D : List Definition) × AreRows b n D
  readable_rows n le readable =
      all_rows (λ (r : ℕ) (d : Definition). ClassRow b r d.0 d.1) n 0 (λ r low lt. row_there b r (omega arith) (h.classes r (omega arith)) (readable r (omega arith)))

  -- a file whose rows can be read denotes a collection
  pub denotes_readable : AreReadable b → (K : Collection) × Denotes b K
  denotes_readable readable =
      let all = readable_rows (table_size b ClassDefs) (omega arith) readable in
      (map.from_entries all.0, rows_denote all.0 all.1)

-- an accepted file denotes a collection
pub denotes_some : (b : List ℕ) → IsAccepted b → (K : Collection) × Denotes b K
denotes_some b h = denotes_readable b (has_classes b (λ c lt. h c)) (accepted_readable b h)
