-- A class row of which all was checked.
use Rattle.dexmembers.proofs.Common.{◌≡◌, ◌≢◌, ℕ, ◌+◌, ◌-◌, ◌*◌, ◌^◌, ◌<◌, ◌≤◌, min, List, [], ◌∷◌, ◌++◌, length, false, nat_eq, refl, ap, ◌∙◌, subst, inl, inr, Option, Some, None, arith, length-map, sum_by_push, OrNone, SomeAt, CodeAt, Values, NoValues, count_values, EncodedArrayItemAt, no_directory, StaticValuesAt, annotations_off, static_values_off, Mentions, one_or_none, one_array, Refused, AreRising, ArePools, directory_in, values_in, zip_push}
use Rattle.dexcode.specs.Checking.{HasCodeOf}
use Rattle.dexval.specs.Checking.{HasStaticsOf}
use Rattle.dexval.specs.CheckedSets.{HasDirectoryOf}
use Rattle.dexval.proofs.CachedSets.{item_added}
use Rattle.dexmembers.specs.internal.ClassData.{encoded_field_in, class_data_in, IsDataOf}
use Rattle.dexmembers.specs.internal.Naming.{NamesRead}
use Rattle.dexmembers.specs.internal.MethodCodes.{HaveCodes}
use Rattle.dexmembers.specs.internal.StaticValues.{HasValuesFor, IsValuesFault}
use Rattle.dexmembers.specs.{HasCodeOrNoneOf, HaveCodesOf, coded_weight, HasAnnotationsOf, HasValuesOf, HasMembersOf}
use Rattle.dexmembers.specs.declared.class_data.EncodedMethod.{EncodedMethod}
use Rattle.dexmembers.specs.declared.class_data.ClassData.{ClassData as DataRead}
use Rattle.dexmembers.proofs.StaticValuesRead.{none_there}
use Rattle.dexmembers.proofs.NamesKept.{named_members, directory_rises}
use Rattle.dexmembers.proofs.RowAnnotations.{directory_here}
use Rattle.dexmembers.proofs.RowWeighed.{members_made, parts_sum, declared_fields_apart, declared_methods_apart}
use Rattle.dexmembers.proofs.RowsAreAt.{many_codes, row_readable, row_made}

-- ---- code

-- code was checked at one offset more
pub code_added : (b : List ℕ) (f g : ℕ → Option ℕ) (o weight : ℕ) → ((q w : ℕ) → f q ≡ Some w → HasCodeOf b q w) → HasCodeOf b o weight → g o ≡ Some weight → ((q : ℕ) → nat_eq o q ≡ false → g q ≡ f q) → (q w : ℕ) → g q ≡ Some w → HasCodeOf b q w
code_added b = item_added (HasCodeOf b)

-- code is code or none
pub some_code_of : (b : List ℕ) (off weight : ℕ) → off ≢ 0 → HasCodeOf b off weight → HasCodeOrNoneOf b off weight
some_code_of b off weight some h = record { code = Some h.code; at = inr (some, h.at); weighs = omega (arith, h.weighs) }

-- none is, at 0
pub no_code_of : (b : List ℕ) (off : ℕ) → off ≡ 0 → HasCodeOrNoneOf b off 0
no_code_of b off is = record { code = None; at = inl (is, refl); weighs = refl }

-- of no methods
pub no_codes_of : (b : List ℕ) → HaveCodesOf b [] 0
no_codes_of b = record { item = []; is_read = tt; weight_is = omega arith }

-- of one more
pub one_more_code : (b : List ℕ) (xs : List EncodedMethod) (x : EncodedMethod) (old one new : ℕ) → HaveCodesOf b xs old → HasCodeOrNoneOf b x.code_off one → new ≡ min (2 ^ 64 - 1) (min (2 ^ 64 - 1) (old + 31) + one) → HaveCodesOf b (xs ++ x ∷ []) new
one_more_code b xs x old one new h is sum = record {
  item = h.item ++ is.code ∷ [];
  is_read = zip_push (λ (x : EncodedMethod) c. OrNone (SomeAt CodeAt) None b x.code_off c) xs h.item x is.code h.is_read is.at;
  weight_is = omega (arith, sum, h.weight_is, is.weighs, sum_by_push coded_weight h.item is.code);
}

-- ---- annotations

module _ (b : List ℕ) (r : ℕ) (m : Mentions) (read : DataRead) (is : IsDataOf b r m read) where
  -- of a row that has none
  pub no_annotations : annotations_off b r ≡ 0 → HasAnnotationsOf b r m read 0
  no_annotations none = record {
    item = no_directory;
    is_read = record { at = inl (none, refl); named = record { fields = λ i d lt. absurd (omega (arith, lt)); methods = λ i d lt. absurd (omega (arith, lt)); parameters = λ i d lt. absurd (omega (arith, lt)) } };
    weight_is = refl;
  }

  -- of one that has some
  pub annotations_of : (off : ℕ) → off ≡ annotations_off b r → off ≢ 0 → ArePools b m → AreRising m → NamesRead b off read → (weight : ℕ) → HasDirectoryOf b off m weight → HasAnnotationsOf b r m read weight
  annotations_of off off_is some pools rising names weight h =
      let a = directory_in m h.item in
      record {
        item = a;
        is_read = record { at = directory_here b r m read is off off_is some a h.is_read.at; named = named_members b m pools rising off a h.is_read.at r read is names };
        weight_is = h.weight_is;
      }

-- ---- static values

module _ (b : List ℕ) (r : ℕ) where
  -- of a row that has none
  pub no_values : static_values_off b r ≡ 0 → (fields : ℕ) → HasValuesOf b r fields 0
  no_values none fields = record { values = NoValues; are = record { at = inl (none, refl); few = omega arith }; weighs = refl }

  module _ (off : ℕ) (at : off ≡ static_values_off b r) (some : off ≢ 0) (m : Mentions) (count n weight : ℕ) (h : HasStaticsOf b off m count n weight) where
    abbrev found : Values
    found = values_in m h.values

    statics_here : OrNone StaticValuesAt NoValues b (static_values_off b r) found
    statics_here = inr (λ e. some (at ∙ e), (n, subst (λ (o : ℕ). EncodedArrayItemAt b o found n) at h.at))

    same_values : (vs : Values) → OrNone StaticValuesAt NoValues b (static_values_off b r) vs → vs ≡ found
    same_values vs is = one_or_none StaticValuesAt NoValues b (static_values_off b r) vs found (λ s t. (one_array b (static_values_off b r) vs found s.0 t.0 s.1.array t.1.array).0) is statics_here

    -- more than there are fields
    pub too_many_values : (fields : ℕ) → fields < count → IsValuesFault b r fields (Refused 21)
    too_many_values fields more = none_there b r off at some fields 21 refl (λ vs has. let same = ap count_values (same_values vs has.at) in absurd (omega (arith, more, has.few, same, h.counted)))

    -- no more than there are
    pub values_of : (fields : ℕ) → count ≤ fields → HasValuesOf b r fields weight
    values_of fields few = record { values = found; are = record { at = statics_here; few = omega (arith, few, h.counted) }; weighs = h.weighs }

-- ---- all of it

module _ (b : List ℕ) (r : ℕ) (m : Mentions) (pools : ArePools b m) (rising : AreRising m) (read : DataRead) (is : IsDataOf b r m read) where
  pub members_of : (fields annotations direct virtual values weight : ℕ) → fields ≡ min (2 ^ 64 - 1) (18 * (length read.static_fields.items + length read.instance_fields.items))
      → HasAnnotationsOf b r m read annotations → HaveCodesOf b read.direct_methods.items direct → HaveCodesOf b read.virtual_methods.items virtual → HasValuesOf b r (length read.static_fields.items) values
      → weight ≡ min (2 ^ 64 - 1) (min (2 ^ 64 - 1) (min (2 ^ 64 - 1) (min (2 ^ 64 - 1) (fields + annotations) + direct) + virtual) + values) → HasMembersOf b r weight
  members_of fields annotations direct virtual values weight fields_are a ds vs xs sum =
      let d = class_data_in m read in
      let direct_codes : HaveCodes b read.direct_methods.items = (ds.item, ds.is_read) in
      let virtual_codes : HaveCodes b read.virtual_methods.items = (vs.item, vs.is_read) in
      let statics : (x : Values) × HasValuesFor b r (length read.static_fields.items) x = (xs.values, xs.are) in
      let rise = directory_rises b m pools rising (annotations_off b r) a.item a.is_read.at in
      record {
        readable = row_readable b r m read is a.item a.is_read direct_codes virtual_codes statics;
        members = members_made d a.item ds.item vs.item xs.values;
        row = row_made b r m read is a.item a.is_read direct_codes virtual_codes statics;
        weight_is = omega (
          arith,
          sum,
          fields_are,
          a.weight_is,
          ds.weight_is,
          vs.weight_is,
          xs.weighs,
          length-map read.static_fields.items (encoded_field_in m),
          length-map read.instance_fields.items (encoded_field_in m),
          parts_sum d a.item ds.item vs.item xs.values (many_codes b m read.direct_methods.items ds.item ds.is_read) (many_codes b m read.virtual_methods.items vs.item vs.is_read)
              a.is_read.named rise.0 rise.1 rise.2 (declared_fields_apart b r m rising read is) (declared_methods_apart b r m rising read is),
        );
      }
