-- The definitions of a file have depths: a class comes after its superclass and interfaces.
use Rattle.dexspec.proofs.Common.{◌≡◌, ◌≢◌, ℕ, zero, suc, ◌<◌, true, List, [], ◌∷◌, Option, Some, None, option_to_list, sym, subst, arith, inl, inr, if◌then◌else◌, ◌==◌, Contains, filter, flat_map, same_text as texts_same, cases_lt, ne_eqb, All-contains, Contains-append_left, Contains-append_right, Contains-append_cases}
use Rattle.dexspec.specs.{OrNone, Text, same_text, TypeIds, ClassDefs, table_size, TypeRow, type_indices, Body, Definition, ClassRow, ClassTypeRow, ClassListAt, IndexOrNone, class_idx, superclass_idx, interfaces_off, no_index, Defines, parents, is_defined, above, is_below, IsAcyclic, parent_indices, IsDefinedBefore}
use Rattle.dexspec.proofs.lists.Members.{Contains-nil, Contains-first, Contains-cons_cases, Contains-filter_source, Contains-flat_map_source, list_all-from_members, list_any-source}
use Rattle.dexspec.proofs.wellformed.Fitting.{zip_source}
use Rattle.dexspec.proofs.wellformed.PoolRows.{same_type_row}
use Rattle.dexspec.proofs.determined.Denoted.{HasClasses}

module _ (b : List ℕ) (h : HasClasses b) where
  -- a row of the same type
  named_row : (i : ℕ) (s t : Text) → s ≡ t → TypeRow b i s → TypeRow b i t
  named_row i s t e row = subst (TypeRow b i) e row

  -- the same row
  moved_row : (i j : ℕ) (t : Text) → j ≡ i → TypeRow b i t → TypeRow b j t
  moved_row i j t e row = subst (λ (k : ℕ). TypeRow b k t) (sym e) row

  -- a type has one class row
  same_class_index : (r s : ℕ) → r < table_size b ClassDefs → s < table_size b ClassDefs → class_idx b r ≡ class_idx b s → r ≡ s
  same_class_index r s lt less e = elim (cases_lt r s) [
    | inl before ↦ absurd ((h.classes s less).first r before e)
    | inr ge ↦ elim (cases_lt s r) [ inl following ↦ absurd ((h.classes r lt).first s following (sym e)) | inr le ↦ omega arith ]
  ]

  -- the superclass has an index
  superclass_index : (i : ℕ) (x : Option Text) (p : Text) → IndexOrNone ClassTypeRow b i x → Contains (option_to_list x) p → (k : ℕ) × Contains (if i == no_index then [] else i ∷ []) k × TypeRow b k p
  superclass_index i None p row c = absurd (Contains-nil p c)
  superclass_index i (Some x) p row c =
      let some : i ≢ no_index = λ e. omega (arith, e, row.row.row, h.few TypeIds) in
      let own : TypeRow b i p = elim (Contains-cons_cases x p [] c) [ inl e ↦ subst (TypeRow b i) e row.row | inr l ↦ absurd (Contains-nil p l) ] in
      (i, rw (ne_eqb i no_index some) (Contains-first i []), own)

  -- each interface has an index
  interface_index : (o : ℕ) (ts : List Text) (p : Text) → OrNone ClassListAt [] b o ts → Contains ts p → (k : ℕ) × Contains (if o == 0 then [] else type_indices b o) k × TypeRow b k p
  interface_index o ts p (inl row) c = absurd (Contains-nil p (subst (λ (us : List Text). Contains us p) row.1 c))
  interface_index o ts p (inr row) c =
      let s = zip_source (TypeRow b) (type_indices b o) ts p row.1.list.types c in
      (s.0, rw (ne_eqb o 0 row.0) s.1, s.2)

  -- so each parent has an index
  parent_index : (r : ℕ) (name : Text) (c : Body) (p : Text) → ClassRow b r name c → Contains (parents c) p → (k : ℕ) × Contains (parent_indices b r) k × TypeRow b k p
  parent_index r name c p row m = elim (Contains-append_cases (option_to_list c.superclass) c.interfaces p m) [
    | inl l ↦
        let s = superclass_index (superclass_idx b r) c.superclass p row.superclass l in
        (s.0, Contains-append_left (if superclass_idx b r == no_index then [] else superclass_idx b r ∷ []) (if interfaces_off b r == 0 then [] else type_indices b (interfaces_off b r)) s.0 s.1, s.2)
    | inr l ↦
        let s = interface_index (interfaces_off b r) c.interfaces p row.interfaces l in
        (s.0, Contains-append_right (if superclass_idx b r == no_index then [] else superclass_idx b r ∷ []) (if interfaces_off b r == 0 then [] else type_indices b (interfaces_off b r)) s.0 s.1, s.2)
  ]

  module _ (D : List Definition) (rows : (d : Definition) → Contains D d → Defines b d.0 d.1) where
    -- a defined name has a class row
    defined_row : (name : Text) → is_defined D name ≡ true → (r : ℕ) × (r < table_size b ClassDefs) × TypeRow b (class_idx b r) name
    defined_row name e =
        let s = list_any-source (λ (d : Definition). same_text d.0 name) D e in
        let w = rows s.0 s.1 in
        (w.0, w.1.row, subst (TypeRow b (class_idx b w.0)) (texts_same s.0.0 name (sym s.2)) w.1.class.row)

    -- the depth of the class of row r is at most r
    below_row : (n r : ℕ) (name : Text) → r < n → r < table_size b ClassDefs → TypeRow b (class_idx b r) name → is_below D n name ≡ true
    below_row zero r name lt less row = absurd (omega arith)
    below_row (suc n) r name lt less row =
        let named = λ (d : Definition). same_text d.0 name in
        let parents_of = λ (d : Definition). parents d.1 in
        list_all-from_members (is_below D n) (above D name) (λ p m.
        let f = Contains-filter_source (is_defined D) (flat_map parents_of (filter named D)) p m in
        let s = Contains-flat_map_source parents_of (filter named D) p f.0 in
        let t = Contains-filter_source named D s.0 s.1 in
        let w = rows s.0 t.0 in
        let own = named_row (class_idx b w.0) s.0.0 name (texts_same s.0.0 name (sym t.1)) w.1.class.row in
        let same = same_class_index w.0 r w.1.row less (same_type_row b h.strings h.types (class_idx b w.0) (class_idx b r) name own row) in
        let i = parent_index w.0 s.0.0 s.0.1 p w.1 s.2 in
        let k = defined_row p f.1 in
        let before = All-contains (IsDefinedBefore b w.0) (parent_indices b w.0) i.0 (h.classes w.0 w.1.row).parents i.1 in
        let j = before k.0 k.1 (same_type_row b h.strings h.types (class_idx b k.0) i.0 p k.2 i.2) in
        below_row n j.0 p (omega (arith, j.1, same)) (omega (arith, j.1, same)) (moved_row i.0 (class_idx b j.0) p j.2 i.2))

    -- so every defined name has a depth
    pub rows_acyclic : IsAcyclic D
    rows_acyclic name e = let r = defined_row name e in (suc r.0, below_row (suc r.0) r.0 name (omega arith) r.1 r.2)
