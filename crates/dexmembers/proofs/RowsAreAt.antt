-- A class row of which all is there: it is readable, and declares what its parts make.
use Rattle.dexmembers.proofs.Common.{◌≡◌, ◌≢◌, ℕ, ◌<◌, ◌≤◌, List, [], ◌∷◌, length, map, refl, sym, subst, ◌∙◌, arith, inl, inr, Option, Some, None, All, sum_by, AllZip, cases_eq, length-map, All-head, All-tail, OrNone, SomeAt, zip_with, Code, CodeAt, Values, count_values, Directory, ClassData, EncodedMethod, MakesMethod, annotations_off, Condition, NamesDeclared, HasPiecesAt, HasTriesAt, HasDebugAt, IsReadable, Mentions, static_values_weight, ItemFault, Refused, Memory, AreRising, ArePools, all_prefix, all_back, zip_length}
use Rattle.dexspec.proofs.determined.Readable.{code_there}
use Rattle.dexmembers.specs.{IsDirectoryOf, MembersRow, AreHeavyMembers, IsMembersFault}
use Rattle.dexmembers.specs.internal.ClassData.{encoded_field_in, encoded_method_in, class_data_in, IsDataOf}
use Rattle.dexmembers.specs.internal.MethodCodes.{optional_code_weight, AreCodesAt, HaveCodes, IsCodesFaultWithin}
use Rattle.dexmembers.specs.internal.RowParts.{IsAnnotationsFault, IsAnnotationsFaultWithin, IsPartFault}
use Rattle.dexmembers.specs.internal.StaticValues.{HasValuesFor, IsValuesFault, IsValuesFaultWithin}
use Rattle.dexmembers.specs.declared.class_data.EncodedMethod.{EncodedMethod as MethodRead}
use Rattle.dexmembers.specs.declared.class_data.ClassData.{ClassData as DataRead}
use Rattle.dexmembers.proofs.DirectoryCache.{declared_is, code_holds, direct_refused, virtual_refused}
use Rattle.dexmembers.proofs.NamesKept.{directory_rises}
use Rattle.dexmembers.proofs.RowWeighed.{method_made, members_made, made_weight, code_within, annotations_within}

-- ---- refusals

-- where condition 22 fails
pub annotations_refused : (b : List ℕ) (r : ℕ) (fault : ItemFault) → IsAnnotationsFault b r fault → IsMembersFault b r fault
annotations_refused b r Memory h = tt
annotations_refused b r (Refused n) h = (Condition.Annotations, h.0, omega (arith, h.0), omega (arith, h.0), h.1)

-- where condition 21 fails
pub values_refused : (b : List ℕ) (r : ℕ) (m : Mentions) (read : DataRead) → IsDataOf b r m read → (fault : ItemFault) → IsValuesFault b r (length read.static_fields.items) fault → IsMembersFault b r fault
values_refused b r m read is Memory h = tt
values_refused b r m read is (Refused n) h = (Condition.Values, h.0, omega (arith, h.0), omega (arith, h.0), h.2 (class_data_in m read) is.declared (length-map read.static_fields.items (encoded_field_in m)))

-- ---- what is there

-- code is there for a method, if it has some
abbrev IsCoded : (ℕ → Type 0) → EncodedMethod → Type 0
IsCoded Is y = y.code_off ≢ 0 → Is y.code_off

optional_code : (b : List ℕ) (o : ℕ) → (o ≢ 0 → (c : Code) × CodeAt b o c) → (c : Option Code) × OrNone (SomeAt CodeAt) None b o c
optional_code b o h = elim (cases_eq o 0) [
  | inl e ↦ (None, inl (e, refl))
  | inr n ↦ let c = h n in (Some c.0, inr (n, c.1))
]

-- the code of methods whose code is there
codes_there : (b : List ℕ) (m : Mentions) (xs : List MethodRead) → All (IsCoded (HasPiecesAt b)) (map (encoded_method_in m) xs) → All (IsCoded (HasTriesAt b)) (map (encoded_method_in m) xs) → All (IsCoded (HasDebugAt b)) (map (encoded_method_in m) xs) → HaveCodes b xs
codes_there b m [] pieces tries debug = ([], tt)
codes_there b m (x ∷ xs) pieces tries debug =
    let y = encoded_method_in m x in
    let ys = map (encoded_method_in m) xs in
    let P = IsCoded (HasPiecesAt b) in
    let T = IsCoded (HasTriesAt b) in
    let D = IsCoded (HasDebugAt b) in
    let first = optional_code b x.code_off (λ some. code_there b x.code_off (All-head P y ys pieces some) (All-head T y ys tries some) (All-head D y ys debug some)) in
    let rest = codes_there b m xs (All-tail P y ys pieces) (All-tail T y ys tries) (All-tail D y ys debug) in
    (first.0 ∷ rest.0, (first.1, rest.1))

-- ---- all of it

-- methods are what their parts make
methods_make : (b : List ℕ) (m : Mentions) (a : Directory) (xs : List MethodRead) (cs : List (Option Code)) → AreCodesAt b xs cs → AllZip (MakesMethod b a) (map (encoded_method_in m) xs) (zip_with (method_made a) (map (encoded_method_in m) xs) cs)
methods_make b m a [] [] h = tt
methods_make b m a [] (c ∷ cs) h = absurd h
methods_make b m a (x ∷ xs) [] h = absurd h
methods_make b m a (x ∷ xs) (c ∷ cs) h = (record { name = refl; proto = refl; flags = refl; code = h.0; annotations = refl; parameter_annotations = refl }, methods_make b m a xs cs h.1)

-- there is code or none for each of them
pub many_codes : (b : List ℕ) (m : Mentions) (xs : List MethodRead) (cs : List (Option Code)) → AreCodesAt b xs cs → length (map (encoded_method_in m) xs) ≡ length cs
many_codes b m xs cs at = length-map xs (encoded_method_in m) ∙ zip_length _ xs cs at

module _ (b : List ℕ) (r : ℕ) (m : Mentions) (read : DataRead) (is : IsDataOf b r m read) (a : Directory) (has : IsDirectoryOf b r m read a) (direct : HaveCodes b read.direct_methods.items) (virtual : HaveCodes b read.virtual_methods.items)
    (vs : (x : Values) × HasValuesFor b r (length read.static_fields.items) x) where
  -- the row is readable
  pub row_readable : IsReadable b r
  row_readable =
      let codes = code_holds b r m read is direct.0 virtual.0 direct.1 virtual.1 in
      record {
        members = (class_data_in m read, is.declared);
        code = codes.0;
        tries = codes.1;
        debug = codes.2;
        values = λ d declares. (
          vs.0,
          vs.1.at,
          subst (λ (x : ClassData). count_values vs.0 ≤ length x.static_fields) (declared_is b r m read is d declares) (subst (λ (k : ℕ). count_values vs.0 ≤ k) (sym (length-map read.static_fields.items (encoded_field_in m))) vs.1.few),
        );
        annotations = λ d declares. (a, has.at, subst (NamesDeclared a) (declared_is b r m read is d declares) has.named);
      }

  -- it declares what its parts make
  pub row_made : MembersRow b r (members_made (class_data_in m read) a direct.0 virtual.0 vs.0)
  row_made = record {
    directory = a;
    directory_is = has.at;
    declared = class_data_in m read;
    declared_is = is.declared.is;
    annotations = refl;
    static_fields = refl;
    instance_fields = refl;
    direct_methods = methods_make b m a read.direct_methods.items direct.0 direct.1;
    virtual_methods = methods_make b m a read.virtual_methods.items virtual.0 virtual.1;
    static_values = vs.1.at;
  }

-- ---- a readable row has all its parts, and weighs too much where one of them does

module _ (b : List ℕ) (r : ℕ) (m : Mentions) (read : DataRead) (is : IsDataOf b r m read) (most : ℕ) where
  -- where what its parts make does
  heavy_made : ((a : Directory) → IsDirectoryOf b r m read a → (direct : HaveCodes b read.direct_methods.items) (virtual : HaveCodes b read.virtual_methods.items) (vs : Values) → HasValuesFor b r (length read.static_fields.items) vs
      → most < made_weight (class_data_in m read) a direct.0 virtual.0 vs) → IsReadable b r → AreHeavyMembers b r most
  heavy_made heavy readable =
      let d = class_data_in m read in
      let xs = map (encoded_method_in m) read.direct_methods.items in
      let ys = map (encoded_method_in m) read.virtual_methods.items in
      let P = IsCoded (HasPiecesAt b) in
      let T = IsCoded (HasTriesAt b) in
      let D = IsCoded (HasDebugAt b) in
      let pieces = readable.code d is.declared in
      let tries = readable.tries d is.declared in
      let debug = readable.debug d is.declared in
      let direct = codes_there b m read.direct_methods.items (all_prefix P xs ys pieces) (all_prefix T xs ys tries) (all_prefix D xs ys debug) in
      let virtual = codes_there b m read.virtual_methods.items (all_back P xs ys pieces) (all_back T xs ys tries) (all_back D xs ys debug) in
      let a = readable.annotations d is.declared in
      let has : IsDirectoryOf b r m read a.0 = record { at = a.1; named = a.2 } in
      let v = readable.values d is.declared in
      let vs : HasValuesFor b r (length read.static_fields.items) v.0 = record { at = v.1; few = subst (λ (k : ℕ). count_values v.0 ≤ k) (length-map read.static_fields.items (encoded_field_in m)) v.2 } in
      record { readable = readable; members = members_made d a.0 direct.0 virtual.0 v.0; row = row_made b r m read is a.0 has direct virtual (v.0, vs); heavy = heavy a.0 has direct virtual v.0 vs }

  -- its annotations
  pub annotations_part : ArePools b m → AreRising m → (fault : ItemFault) → IsAnnotationsFaultWithin b r most fault → IsPartFault b r most fault
  annotations_part pools rising Memory h = tt
  annotations_part pools rising (Refused n) (inl h) = inl (annotations_refused b r (Refused n) h)
  annotations_part pools rising (Refused n) (inr h) = inr (
    h.0,
    heavy_made (λ a has ds vs xs are.
        let up = directory_rises b m pools rising (annotations_off b r) a has.at in
        let within = annotations_within (class_data_in m read) a ds.0 vs.0 xs (many_codes b m read.direct_methods.items ds.0 ds.1) (many_codes b m read.virtual_methods.items vs.0 vs.1) has.named up.0 up.1 up.2 in
        omega (arith, h.1 a has.at, within)),
  )

  -- what code and static values weigh
  within : (a : Directory) (ds : HaveCodes b read.direct_methods.items) (vs : HaveCodes b read.virtual_methods.items) (xs : Values)
      → (sum_by optional_code_weight ds.0 ≤ made_weight (class_data_in m read) a ds.0 vs.0 xs) × (sum_by optional_code_weight vs.0 ≤ made_weight (class_data_in m read) a ds.0 vs.0 xs) × (static_values_weight xs ≤ made_weight (class_data_in m read) a ds.0 vs.0 xs)
  within a ds vs xs = code_within (class_data_in m read) a ds.0 vs.0 xs (many_codes b m read.direct_methods.items ds.0 ds.1) (many_codes b m read.virtual_methods.items vs.0 vs.1)

  -- the code of its direct methods
  pub direct_part : (fault : ItemFault) → IsCodesFaultWithin b read.direct_methods.items most fault → IsPartFault b r most fault
  direct_part Memory h = tt
  direct_part (Refused n) (inl h) = inl (direct_refused b r m read is (Refused n) h)
  direct_part (Refused n) (inr h) = inr (h.0, heavy_made (λ a has ds vs xs are. omega (arith, h.1 ds.0 ds.1, (within a ds vs xs).0)))

  -- that of its virtual ones
  pub virtual_part : (fault : ItemFault) → IsCodesFaultWithin b read.virtual_methods.items most fault → IsPartFault b r most fault
  virtual_part Memory h = tt
  virtual_part (Refused n) (inl h) = inl (virtual_refused b r m read is (Refused n) h)
  virtual_part (Refused n) (inr h) = inr (h.0, heavy_made (λ a has ds vs xs are. omega (arith, h.1 vs.0 vs.1, (within a ds vs xs).1)))

  -- its static values
  pub values_part : (fault : ItemFault) → IsValuesFaultWithin b r (length read.static_fields.items) most fault → IsPartFault b r most fault
  values_part Memory h = tt
  values_part (Refused n) (inl h) = inl (values_refused b r m read is (Refused n) h)
  values_part (Refused n) (inr h) = inr (h.0, heavy_made (λ a has ds vs xs are. omega (arith, h.1 xs are, (within a ds vs xs).2)))
