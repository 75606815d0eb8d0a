-- Members put together have the indices of what was read, and are of the class of their row.
use Rattle.dexmembers.proofs.Common.{◌≡◌, ℕ, List, [], ◌∷◌, map, refl, sym, ap, subst, Option, All, AllZip, All-map, All-append, zip_with, BothOrNone, Text, EncodedField, EncodedMethod, fields_of, methods_of, ClassTypeRow, class_idx, one_type, map_both, all_prefix, all_back, Code, Mentions, NumberedItem, DenotesCode, NumberedSet, NumberedDirectory, NumberedValues, field_at, method_at}
use Rattle.dexmembers.specs.{NumberedField, NumberedMethod, AreOfClass}
use Rattle.dexmembers.specs.internal.ClassData.{encoded_field_in, encoded_method_in, class_data_in, IsDataOf}
use Rattle.dexmembers.proofs.RenumberingLists.{all_seen}
use Rattle.dexmembers.specs.internal.RowParts.{attached}
use Rattle.dexmembers.specs.internal.MethodCodes.{AreCodesAt}
use Rattle.dexmembers.specs.internal.Attaching.{field_with, method_with}
use Rattle.dexmembers.specs.declared.class_data.EncodedField.{EncodedField as FieldRead}
use Rattle.dexmembers.specs.declared.class_data.EncodedMethod.{EncodedMethod as MethodRead}
use Rattle.dexmembers.specs.declared.class_data.ClassData.{ClassData as DataRead}

-- fields keep their indices
pub field_numbers : (sets : List (ℕ × NumberedSet)) (xs : List FieldRead) → map (λ (f : NumberedField). f.number) (map (field_with sets) xs) ≡ map (λ (x : FieldRead). x.index) xs
field_numbers sets xs = map_both (field_with sets) (λ (f : NumberedField). f.number) (λ (x : FieldRead). x.index) xs (λ k d lt. refl)

-- and so do methods
pub method_numbers : (b : List ℕ) (m : Mentions) (sets : List (ℕ × NumberedSet)) (lists : List (ℕ × List NumberedSet)) (xs : List MethodRead) (codes : List (Option NumberedItem)) (symbolic : List (Option Code)) → AreCodesAt b xs symbolic → AllZip (BothOrNone (DenotesCode m)) codes symbolic
    → map (λ (y : NumberedMethod). y.number) (zip_with (method_with sets lists) xs codes) ≡ map (λ (x : MethodRead). x.index) xs
method_numbers b m sets lists [] codes symbolic h s = refl
method_numbers b m sets lists (x ∷ xs) codes [] h s = absurd h
method_numbers b m sets lists (x ∷ xs) [] (y ∷ symbolic) h s = absurd s
method_numbers b m sets lists (x ∷ xs) (c ∷ codes) (y ∷ symbolic) h s = ap (λ (l : List ℕ). x.index ∷ l) (method_numbers b m sets lists xs codes symbolic h.1 s.1)

-- the fields of a list
pub fields_of_class : (m : Mentions) (name : Text) (sets : List (ℕ × NumberedSet)) (xs : List FieldRead) → All (λ (x : EncodedField). x.field.class ≡ name) (map (encoded_field_in m) xs)
    → All (λ (f : NumberedField). (field_at m f.number).class ≡ name) (map (field_with sets) xs)
fields_of_class m name sets xs h = All-map (λ (f : NumberedField). (field_at m f.number).class ≡ name) (field_with sets) xs (all_seen (encoded_field_in m) (λ (x : EncodedField). x.field.class ≡ name) xs h)

-- the methods
pub methods_of_class : (b : List ℕ) (m : Mentions) (name : Text) (sets : List (ℕ × NumberedSet)) (lists : List (ℕ × List NumberedSet)) (xs : List MethodRead) (codes : List (Option NumberedItem)) (symbolic : List (Option Code)) → AreCodesAt b xs symbolic → AllZip (BothOrNone (DenotesCode m)) codes symbolic
    → All (λ (x : EncodedMethod). x.method.class ≡ name) (map (encoded_method_in m) xs) → All (λ (y : NumberedMethod). (method_at m y.number).class ≡ name) (zip_with (method_with sets lists) xs codes)
methods_of_class b m name sets lists xs codes symbolic at s h =
    let Of = λ (i : ℕ). (method_at m i).class ≡ name in
    all_seen (λ (y : NumberedMethod). y.number) Of (zip_with (method_with sets lists) xs codes)
    (subst (All Of) (sym (method_numbers b m sets lists xs codes symbolic at s)) (All-map Of (λ (x : MethodRead). x.index) xs (all_seen (encoded_method_in m) (λ (x : EncodedMethod). x.method.class ≡ name) xs h)))

module _ (b : List ℕ) (r : ℕ) (m : Mentions) (read : DataRead) (is : IsDataOf b r m read) (name : Text) (at : ClassTypeRow b (class_idx b r) name) where
  -- the class that the members belong to is that of the row
  name_is : is.declared.name ≡ name
  name_is = one_type b (class_idx b r) is.declared.name name is.declared.class.row at.row

  own_fields : All (λ (x : EncodedField). x.field.class ≡ name) (fields_of (class_data_in m read))
  own_fields = subst (λ (t : Text). All (λ (x : EncodedField). x.field.class ≡ t) (fields_of (class_data_in m read))) name_is is.declared.own.fields

  own_methods : All (λ (x : EncodedMethod). x.method.class ≡ name) (methods_of (class_data_in m read))
  own_methods = subst (λ (t : Text). All (λ (x : EncodedMethod). x.method.class ≡ t) (methods_of (class_data_in m read))) name_is is.declared.own.methods

  -- so are those that are put together
  pub attached_of_class : (a : NumberedDirectory) (direct virtual : List (Option NumberedItem)) (vs : NumberedValues) (direct_codes virtual_codes : List (Option Code)) → AreCodesAt b read.direct_methods.items direct_codes → AllZip (BothOrNone (DenotesCode m)) direct direct_codes
      → AreCodesAt b read.virtual_methods.items virtual_codes → AllZip (BothOrNone (DenotesCode m)) virtual virtual_codes → AreOfClass m name (attached read a direct virtual vs)
  attached_of_class a direct virtual vs direct_codes virtual_codes direct_at direct_encoded virtual_at virtual_encoded =
      let F = λ (x : EncodedField). x.field.class ≡ name in
      let M = λ (x : EncodedMethod). x.method.class ≡ name in
      let statics = map (encoded_field_in m) read.static_fields.items in
      let instances = map (encoded_field_in m) read.instance_fields.items in
      let directs = map (encoded_method_in m) read.direct_methods.items in
      let virtuals = map (encoded_method_in m) read.virtual_methods.items in
      let made = attached read a direct virtual vs in
      record {
        fields_of_class = All-append (λ (f : NumberedField). (field_at m f.number).class ≡ name) made.static_fields made.instance_fields
            (fields_of_class m name a.fields read.static_fields.items (all_prefix F statics instances own_fields)) (fields_of_class m name a.fields read.instance_fields.items (all_back F statics instances own_fields));
        methods_of_class = All-append (λ (y : NumberedMethod). (method_at m y.number).class ≡ name) made.direct_methods made.virtual_methods
            (methods_of_class b m name a.methods a.parameters read.direct_methods.items direct direct_codes direct_at direct_encoded (all_prefix M directs virtuals own_methods))
            (methods_of_class b m name a.methods a.parameters read.virtual_methods.items virtual virtual_codes virtual_at virtual_encoded (all_back M directs virtuals own_methods));
      }
