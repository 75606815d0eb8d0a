-- Members put together denote what the row declares.
use Rattle.dexmembers.proofs.Common.{◌≡◌, ℕ, ◌<◌, Bool, true, false, cond, List, [], ◌∷◌, length, get_or, map, refl, sym, ap, ◌∙◌, subst, Option, Some, None, Ordering, All, IfSome, unwrap_or, AllZip, option_map, nat_cmp, is_eq, IsTotalOrder, All-head, All-tail, All-nil, All-cons, All-map, All-contains, rises, zip_with, OrNone, SomeAt, BothOrNone, field_cmp, method_cmp, annotated, field_def, MakesMethod, Code, CodeAt, Mentions, field_total, method_total, AreRising, places_agree, NumberedItem, DenotesCode, code_in, IsKnownCode, IsKnownAnnotation, IsKnownSet, NumberedDirectory, IsKnownDirectory, annotation_in, set_in, directory_in, field_at, method_at}
use Rattle.std.specs.FinMap.Entries.{find}
use Rattle.dexspec.proofs.lists.Sources.{annotated_source}
use Rattle.dexmembers.specs.{IsKnownField, IsKnownMethod, field_in, method_in}
use Rattle.dexmembers.specs.internal.ClassData.{encoded_field_in, encoded_method_in}
use Rattle.dexmembers.proofs.RenumberingLists.{both_where}
use Rattle.dexmembers.specs.internal.MethodCodes.{AreCodesAt}
use Rattle.dexmembers.specs.internal.Attaching.{field_with, method_with}
use Rattle.dexmembers.specs.declared.class_data.EncodedField.{EncodedField as FieldRead}
use Rattle.dexmembers.specs.declared.class_data.EncodedMethod.{EncodedMethod as MethodRead}

-- ---- what entries have for a member

-- what they have for its number means what they have for it
pub look_meant : {K X Y : Type 0} (R : K → K → Ordering) → IsTotalOrder R → (ks : List K) → rises R ks ≡ true → (none : K) (g : X → Y) (es : List (ℕ × List X)) (n : ℕ) → All (λ (e : ℕ × List X). e.0 < length ks) es → n < length ks
    → annotated R (map (λ (e : ℕ × List X). (get_or ks e.0 none, map g e.1)) es) (get_or ks n none) ≡ map g (annotated nat_cmp es n)
look_meant R o ks rise none g [] n below lt = refl
look_meant {K} {X} {Y} R o ks rise none g (e ∷ es) n below lt =
    let here : e.0 < length ks = All-head (λ (x : ℕ × List X). x.0 < length ks) e es below in
    let same : R (get_or ks n none) (get_or ks e.0 none) ≡ nat_cmp n e.0 = sym (places_agree R o ks rise n e.0 none none lt here) in
    let rest = look_meant R o ks rise none g es n (All-tail (λ (x : ℕ × List X). x.0 < length ks) e es below) lt in
    ap (λ (r : Ordering). unwrap_or (cond (is_eq r) (Some (map g e.1)) (find R (get_or ks n none) (map (λ (x : ℕ × List X). (get_or ks x.0 none, map g x.1)) es))) []) same
    ∙ step (is_eq (nat_cmp n e.0)) rest
  where
    step : (b : Bool) → annotated R (map (λ (x : ℕ × List X). (get_or ks x.0 none, map g x.1)) es) (get_or ks n none) ≡ map g (annotated nat_cmp es n)
        → unwrap_or (cond b (Some (map g e.1)) (find R (get_or ks n none) (map (λ (x : ℕ × List X). (get_or ks x.0 none, map g x.1)) es))) [] ≡ map g (unwrap_or (cond b (Some e.1) (find nat_cmp n es)) [])
    step true r = refl
    step false r = r

-- what holds of the sets of entries holds of that for a number
pub look_known : {X : Type 0} (P : List X → Type 0) → P [] → (es : List (ℕ × List X)) (n : ℕ) → All (λ (e : ℕ × List X). P e.1) es → P (annotated nat_cmp es n)
look_known P nothing es n h = annotated_source nat_cmp n P es nothing (λ e c. All-contains (λ (x : ℕ × List _). P x.1) es e h c)

-- ---- members

module _ (m : Mentions) (rising : AreRising m) (dir : NumberedDirectory) (known : IsKnownDirectory m dir) where
  -- the set of a field
  field_set : (n : ℕ) → n < length m.fields → set_in m (annotated nat_cmp dir.fields n) ≡ annotated field_cmp ((directory_in m dir).fields) (field_at m n)
  field_set n lt =
      sym (look_meant field_cmp field_total m.fields rising.fields_rise (record { class = []; name = []; type = [] }) (annotation_in m) dir.fields n
      (λ i e le. (known.fields_known i e le).0) lt)

  -- the set of a method
  method_set : (n : ℕ) → n < length m.methods → set_in m (annotated nat_cmp dir.methods n) ≡ annotated method_cmp ((directory_in m dir).methods) (method_at m n)
  method_set n lt =
      sym (look_meant method_cmp method_total m.methods rising.methods_rise (record { class = []; name = []; proto = record { return_type = []; parameters = [] } }) (annotation_in m) dir.methods n
      (λ i e le. (known.methods_known i e le).0) lt)

  -- the sets of its parameters
  method_list : (n : ℕ) → n < length m.methods → map (set_in m) (annotated nat_cmp dir.parameters n) ≡ annotated method_cmp ((directory_in m dir).parameters) (method_at m n)
  method_list n lt =
      sym (look_meant method_cmp method_total m.methods rising.methods_rise (record { class = []; name = []; proto = record { return_type = []; parameters = [] } }) (set_in m) dir.parameters n
      (λ i e le. (known.parameters_known i e le).0) lt)

  -- a field means what its index and its set make
  pub field_meant : (x : FieldRead) → x.index < length m.fields → field_in m (field_with dir.fields x) ≡ field_def (directory_in m dir) (encoded_field_in m x)
  field_meant x lt =
      λ i. record { name = (field_at m x.index).name; type = (field_at m x.index).type; flags = x.flags; annotations = field_set x.index lt i }

  -- so do the fields of a list
  pub fields_meant : (xs : List FieldRead) → All (λ (x : FieldRead). x.index < length m.fields) xs
      → map (field_in m) (map (field_with dir.fields) xs) ≡ map (field_def (directory_in m dir)) (map (encoded_field_in m) xs)
  fields_meant = both_where (field_with dir.fields) (field_in m) (encoded_field_in m) (field_def (directory_in m dir)) (λ (x : FieldRead). x.index < length m.fields) field_meant

  -- and their numbers are those of symbols
  pub fields_known : (xs : List FieldRead) → All (λ (x : FieldRead). x.index < length m.fields) xs → All (IsKnownField m) (map (field_with dir.fields) xs)
  fields_known xs h =
      All-map (IsKnownField m) (field_with dir.fields) xs
      (λ k d lt. record { number_in = h k d lt; annotations_known = look_known (IsKnownSet m) (All-nil (IsKnownAnnotation m)) dir.fields (get_or xs k d).index (λ i e le. (known.fields_known i e le).1) })

  module _ (b : List ℕ) (is_known : (c : NumberedItem) (x : Code) → DenotesCode m c x → IsKnownCode m c) (is_meant : (c : NumberedItem) (x : Code) → DenotesCode m c x → x ≡ code_in m c) where
    -- the code of a method
    code_meant : (o : ℕ) (c : Option NumberedItem) (x : Option Code) → OrNone (SomeAt CodeAt) None b o x → BothOrNone (DenotesCode m) c x → OrNone (SomeAt CodeAt) None b o (option_map (code_in m) c)
    code_meant o None None h s = h
    code_meant o None (Some x) h s = absurd s
    code_meant o (Some c) None h s = absurd s
    code_meant o (Some c) (Some x) h s = subst (λ (y : Code). OrNone (SomeAt CodeAt) None b o (Some y)) (is_meant c x s) h

    code_known : (c : Option NumberedItem) (x : Option Code) → BothOrNone (DenotesCode m) c x → IfSome c (IsKnownCode m)
    code_known None None s = tt
    code_known None (Some x) s = absurd s
    code_known (Some c) None s = absurd s
    code_known (Some c) (Some x) s = is_known c x s

    -- methods mean what their indices, code and sets make
    pub methods_meant : (xs : List MethodRead) (codes : List (Option NumberedItem)) (symbolic : List (Option Code)) → All (λ (x : MethodRead). x.index < length m.methods) xs → AreCodesAt b xs symbolic → AllZip (BothOrNone (DenotesCode m)) codes symbolic
        → AllZip (MakesMethod b (directory_in m dir)) (map (encoded_method_in m) xs) (map (method_in m) (zip_with (method_with dir.methods dir.parameters) xs codes))
    methods_meant [] codes symbolic h at s = tt
    methods_meant (x ∷ xs) codes [] h at s = absurd at
    methods_meant (x ∷ xs) [] (y ∷ symbolic) h at s = absurd s
    methods_meant (x ∷ xs) (c ∷ codes) (y ∷ symbolic) h at s =
        let lt = All-head (λ (z : MethodRead). z.index < length m.methods) x xs h in (
          record {
            name = refl;
            proto = refl;
            flags = refl;
            code = code_meant x.code_off c y at.0 s.0;
            annotations = method_set x.index lt;
            parameter_annotations = method_list x.index lt;
          },
          methods_meant xs codes symbolic (All-tail (λ (z : MethodRead). z.index < length m.methods) x xs h) at.1 s.1,
        )

    -- and their numbers are those of symbols
    pub methods_known : (xs : List MethodRead) (codes : List (Option NumberedItem)) (symbolic : List (Option Code)) → All (λ (x : MethodRead). x.index < length m.methods) xs → AreCodesAt b xs symbolic → AllZip (BothOrNone (DenotesCode m)) codes symbolic
        → All (IsKnownMethod m) (zip_with (method_with dir.methods dir.parameters) xs codes)
    methods_known [] codes symbolic h at s = All-nil (IsKnownMethod m)
    methods_known (x ∷ xs) codes [] h at s = absurd at
    methods_known (x ∷ xs) [] (y ∷ symbolic) h at s = absurd s
    methods_known (x ∷ xs) (c ∷ codes) (y ∷ symbolic) h at s =
        let es = dir.methods in
        let fs = dir.parameters in
        let first : IsKnownMethod m (method_with dir.methods dir.parameters x c) = record {
          number_in = All-head (λ (z : MethodRead). z.index < length m.methods) x xs h;
          code_known = code_known c y s.0;
          annotations_known = look_known (IsKnownSet m) (All-nil (IsKnownAnnotation m)) es x.index (λ i e le. (known.methods_known i e le).1);
          parameters_known = look_known (All (IsKnownSet m)) (All-nil (IsKnownSet m)) fs x.index (λ i e le. (known.parameters_known i e le).1);
        } in
        All-cons (IsKnownMethod m) (method_with dir.methods dir.parameters x c) (zip_with (method_with dir.methods dir.parameters) xs codes) first
        (methods_known xs codes symbolic (All-tail (λ (z : MethodRead). z.index < length m.methods) x xs h) at.1 s.1)
