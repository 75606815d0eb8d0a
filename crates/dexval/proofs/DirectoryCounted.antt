-- The parts of a directory of annotations, as they are counted.
use Rattle.dexval.proofs.Common.{◌≡◌, ℕ, ◌+◌, ◌-◌, ◌*◌, ◌^◌, min, List, length, map, sum_by, ap, sym, subst, arith, All, AnnotationSet, Directory, SetAt, RefListAt, DirectoryAt, PairsAt, fields_count, methods_count, parameters_count, uint_at, Mentions, FieldRow, MethodRow, set_weight, ref_list_weight, one_set, ItemFault, Budget, NumberedSet, IsKnownSet, set_in, directory_in, HasPools, IsSetOrEmptyAt, IsIndexBelow, ArePairsAt, HasMembers, directory_weight, set_weight_in, sets_weight_in, IsDirectoryAt, HasCounted, IsFaultWithin}
use Rattle.dexval.proofs.DirectoryRead.{one_set_or_empty, pairs_moved, part_moved, rows_part, rows_weigh, field_below, method_below, directory_read}
use Rattle.dexval.proofs.Keeping.{counts_as, counts_then, parts_weigh, directory_parts}
use Rattle.dexval.proofs.Refusals.{part_refused}

-- the first pairs are the second
abbrev pub AreSamePairs : ℕ → ℕ → ℕ → ℕ → ℕ → ℕ → Type 0
AreSamePairs p n limit q k most = (p ≡ q) × (n ≡ k) × (limit ≡ most)

abbrev weights : List (ℕ × AnnotationSet) → ℕ
weights = sum_by (λ e. set_weight e.1)

abbrev weights_in : Mentions → List (ℕ × NumberedSet) → ℕ
weights_in m = sum_by (λ e. set_weight_in m e.1)

module _ (b : List ℕ) (o : ℕ) (m : Mentions) (file : HasPools b m) {w0 w1 : Budget} {own_off : ℕ} {own : NumberedSet} (place : own_off ≡ uint_at b o) (own_counted : HasCounted (IsSetOrEmptyAt b own_off m) (set_weight_in m) w0 w1 own) where
  own_is : IsSetOrEmptyAt b (uint_at b o) m own
  own_is = subst (λ (n : ℕ). IsSetOrEmptyAt b n m own) place own_counted.is_read

  own_weighs : (d : Directory) → DirectoryAt b o d → set_weight d.own ≡ set_weight_in m own
  own_weighs d h = ap set_weight (one_set_or_empty b (uint_at b o) d.own (set_in m own) h.own own_is.at)

  -- the fields are not there, or too heavy after the set of the class
  pub fields_refused : {p n limit : ℕ} → AreSamePairs p n limit (o + 16) (fields_count b o) (length m.fields) → (fault : ItemFault) → IsFaultWithin (PairsAt (IsIndexBelow limit) SetAt b p n) (sum_by (λ e. set_weight e.1)) w1.weight w1.most fault
      → IsFaultWithin (DirectoryAt b o) directory_weight w0.weight w0.most fault
  fields_refused {p} {n} {limit} same =
      part_refused (DirectoryAt b o) (PairsAt (IsIndexBelow limit) SetAt b p n) directory_weight weights w0 w1 (set_weight_in m own) own_counted.counted
      (λ d h. part_moved SetAt weights b (set_weight_in m own) (directory_weight d) same.0 same.1 same.2
      (rows_part FieldRow SetAt set_weight b (o + 16) (fields_count b o) (length m.fields) (set_weight_in m own) (directory_weight d) (field_below b o m file) d.fields h.fields (omega (arith, own_weighs d h))))

  module _ {w2 : Budget} {fields : List (ℕ × NumberedSet)} {p n limit : ℕ} (same_fields : AreSamePairs p n limit (o + 16) (fields_count b o) (length m.fields)) (fields_counted : HasCounted (ArePairsAt (IsKnownSet m) (set_in m) SetAt b p n limit) (sum_by (λ e. set_weight_in m e.1)) w1 w2 fields) where
    fields_are : ArePairsAt (IsKnownSet m) (set_in m) SetAt b (o + 16) (fields_count b o) (length m.fields) fields
    fields_are = pairs_moved (IsKnownSet m) (set_in m) SetAt b same_fields.0 same_fields.1 same_fields.2 fields_counted.is_read

    fields_weigh : (d : Directory) → DirectoryAt b o d → sum_by (λ e. set_weight e.1) d.fields ≡ weights_in m fields
    fields_weigh d h = rows_weigh FieldRow (IsKnownSet m) (set_in m) SetAt set_weight one_set b (o + 16) (fields_count b o) (length m.fields) (field_below b o m file) d.fields fields h.fields fields_are

    -- the methods are not there, or too heavy after these
    pub methods_refused : {q k most : ℕ} → AreSamePairs q k most (o + 16 + 8 * fields_count b o) (methods_count b o) (length m.methods) → (fault : ItemFault) → IsFaultWithin (PairsAt (IsIndexBelow most) SetAt b q k) (sum_by (λ e. set_weight e.1)) w2.weight w2.most fault
        → IsFaultWithin (DirectoryAt b o) directory_weight w0.weight w0.most fault
    methods_refused {q} {k} {most} same =
        let before = set_weight_in m own + weights_in m fields in
        part_refused (DirectoryAt b o) (PairsAt (IsIndexBelow most) SetAt b q k) directory_weight weights w0 w2 before (counts_then own_counted.counted fields_counted.counted)
        (λ d h. part_moved SetAt weights b before (directory_weight d) same.0 same.1 same.2
        (rows_part MethodRow SetAt set_weight b (o + 16 + 8 * fields_count b o) (methods_count b o) (length m.methods) before (directory_weight d) (method_below b o m file) d.methods h.methods (omega (arith, own_weighs d h, fields_weigh d h))))

    module _ {w3 : Budget} {methods : List (ℕ × NumberedSet)} {q k most : ℕ} (same_methods : AreSamePairs q k most (o + 16 + 8 * fields_count b o) (methods_count b o) (length m.methods))
        (methods_counted : HasCounted (ArePairsAt (IsKnownSet m) (set_in m) SetAt b q k most) (sum_by (λ e. set_weight_in m e.1)) w2 w3 methods) where
      methods_are : ArePairsAt (IsKnownSet m) (set_in m) SetAt b (o + 16 + 8 * fields_count b o) (methods_count b o) (length m.methods) methods
      methods_are = pairs_moved (IsKnownSet m) (set_in m) SetAt b same_methods.0 same_methods.1 same_methods.2 methods_counted.is_read

      methods_weigh : (d : Directory) → DirectoryAt b o d → sum_by (λ e. set_weight e.1) d.methods ≡ weights_in m methods
      methods_weigh d h = rows_weigh MethodRow (IsKnownSet m) (set_in m) SetAt set_weight one_set b (o + 16 + 8 * fields_count b o) (methods_count b o) (length m.methods) (method_below b o m file) d.methods methods h.methods methods_are

      -- the lists of sets are not there, or too heavy after these
      pub parameters_refused : {r j bound : ℕ} → AreSamePairs r j bound (o + 16 + 8 * fields_count b o + 8 * methods_count b o) (parameters_count b o) (length m.methods) → (fault : ItemFault)
          → IsFaultWithin (PairsAt (IsIndexBelow bound) RefListAt b r j) (sum_by (λ e. ref_list_weight e.1)) w3.weight w3.most fault → IsFaultWithin (DirectoryAt b o) directory_weight w0.weight w0.most fault
      parameters_refused {r} {j} {bound} same =
          let before = set_weight_in m own + weights_in m fields + weights_in m methods in
          let lists = sum_by (λ (e : ℕ × List AnnotationSet). ref_list_weight e.1) in
          let all : o + 16 + 8 * (fields_count b o + methods_count b o) ≡ o + 16 + 8 * fields_count b o + 8 * methods_count b o = omega arith in
          part_refused (DirectoryAt b o) (PairsAt (IsIndexBelow bound) RefListAt b r j) directory_weight lists w0 w3 before (counts_then (counts_then own_counted.counted fields_counted.counted) methods_counted.counted)
          (λ d h. part_moved RefListAt lists b before (directory_weight d) same.0 same.1 same.2
          (rows_part MethodRow RefListAt ref_list_weight b (o + 16 + 8 * fields_count b o + 8 * methods_count b o) (parameters_count b o) (length m.methods) before (directory_weight d) (method_below b o m file) d.parameters
          (subst (λ (p : ℕ). PairsAt MethodRow RefListAt b p (parameters_count b o) d.parameters) all h.parameters) (omega (arith, own_weighs d h, fields_weigh d h, methods_weigh d h))))

      -- all parts were read
      pub directory_counted : {w4 : Budget} {parameters : List (ℕ × List NumberedSet)} {r j bound : ℕ} → HasMembers b o → AreSamePairs r j bound (o + 16 + 8 * fields_count b o + 8 * methods_count b o) (parameters_count b o) (length m.methods)
          → HasCounted (ArePairsAt (All (IsKnownSet m)) (map (set_in m)) RefListAt b r j bound) (sum_by (λ e. sets_weight_in m e.1)) w3 w4 parameters → HasCounted (IsDirectoryAt b o m) (λ d. directory_weight (directory_in m d)) w0 w4 (directory_parts own fields methods parameters)
      directory_counted {w4} {parameters} has same h = record {
        is_read = directory_read b o m file own fields methods parameters has own_is fields_are methods_are (pairs_moved (All (IsKnownSet m)) (map (set_in m)) RefListAt b same.0 same.1 same.2 h.is_read);
        counted = counts_as (ap (min (2 ^ 64 - 1)) (sym (parts_weigh m (directory_parts own fields methods parameters)))) (counts_then (counts_then (counts_then own_counted.counted fields_counted.counted) methods_counted.counted) h.counted);
      }
