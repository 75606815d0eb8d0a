-- The symbols that occur in members are those of what the numbers denote.
use Rattle.dexmembers.proofs.Common.{◌≡◌, ℕ, ◌<◌, List, [], ◌∷◌, ◌++◌, length, map, Option, Some, None, option_to_list, refl, ◌∙◌, subst, arith, IfSome, All, AllZip, flat_map, option_map, map-append, get_or_default, All-nil, All-cons, All-head, All-tail, All-append, append_assoc, ap, Text, Mentions, set_symbols, field_symbols, method_symbols, code_symbols, values_symbols, IsAt, AreMarksOf, Use, HasMark, IsUseOf, NumberedSet, set_in, values_in, field_at, method_at, IsKnownSet, set_uses, values_uses, NumberedItem, code_in, IsKnownCode, item_uses}
use Rattle.dexpool.specs.declared.symbols.SymbolKind.TheVariants as kinds
use Rattle.dexpool.specs.declared.marks.Marks.{Marks}
use Rattle.dexval.proofs.Meanings.{set_encoded, values_encoded, set_marks, values_marks}
use Rattle.dexmembers.specs.{NumberedField, NumberedMethod, NumberedMembers, field_in, method_in, members_in, fields_of, methods_of, IsKnownField, IsKnownMethod, AreKnownMembers, AreOfClass, declared_uses, field_uses, method_uses, members_uses, members_symbols}
pub use Rattle.dexpool.proofs.Numbers.{zip-append}

-- ---- parts

-- what members give goes together where that of each does
pub parts_zip : {X Y U S : Type 0} (R : U → S → Type 0) (P Q : X → Type 0) (f : X → List U) (g : Y → List S) (h : X → Y) → ((x : X) → P x → Q x → AllZip R (f x) (g (h x))) → (xs : List X) → All P xs → All Q xs → AllZip R (flat_map f xs) (flat_map g (map h xs))
parts_zip R P Q f g h step [] all also = tt
parts_zip R P Q f g h step (x ∷ xs) all also =
    zip-append R (f x) (g (h x)) (flat_map f xs) (flat_map g (map h xs)) (step x (All-head P x xs all) (All-head Q x xs also)) (parts_zip R P Q f g h step xs (All-tail P x xs all) (All-tail Q x xs also))

-- what each gives holds of all that they give
parts_all : {X U : Type 0} (P : X → Type 0) (Q : U → Type 0) (f : X → List U) → ((x : X) → P x → All Q (f x)) → (xs : List X) → All P xs → All Q (flat_map f xs)
parts_all P Q f step [] all = All-nil Q
parts_all P Q f step (x ∷ xs) all = All-append Q (f x) (flat_map f xs) (step x (All-head P x xs all)) (parts_all P Q f step xs (All-tail P x xs all))

-- ---- the symbols

-- those of what is declared, and then those of the static values
pub declared_then : (x : NumberedMembers) → declared_uses x ++ values_uses x.static_values ≡ members_uses x
declared_then x =
    let own = set_uses x.annotations in
    let fields = flat_map field_uses (fields_of x) in
    let methods = flat_map method_uses (methods_of x) in
    let values = values_uses x.static_values in
    append_assoc own (fields ++ methods) values ∙ ap (λ us. own ++ us) (append_assoc fields methods values)

module _ (m : Mentions) where
  set_used : (s : NumberedSet) → IsKnownSet m s → AllZip (IsUseOf m) (set_uses s) (set_symbols (set_in m s))
  set_used s known = set_encoded m s (set_in m s) (record { known = known; means = refl })

  sets_used : (ss : List NumberedSet) → All (IsKnownSet m) ss → AllZip (IsUseOf m) (flat_map set_uses ss) (flat_map set_symbols (map (set_in m) ss))
  sets_used ss known = parts_zip (IsUseOf m) (IsKnownSet m) (IsKnownSet m) set_uses set_symbols (set_in m) (λ s k l. set_used s k) ss known known

  field_there : (class : Text) (i : ℕ) → i < length m.fields → (field_at m i).class ≡ class → IsAt m.fields i (record { class = class; name = (field_at m i).name; type = (field_at m i).type })
  field_there class i lt e =
      let whole : field_at m i ≡ record { class = class; name = (field_at m i).name; type = (field_at m i).type } = λ k. record { class = e k; name = (field_at m i).name; type = (field_at m i).type } in
      record { within = lt; is = λ d. get_or_default m.fields i d (record { class = []; name = []; type = [] }) lt ∙ whole }

  method_there : (class : Text) (i : ℕ) → i < length m.methods → (method_at m i).class ≡ class → IsAt m.methods i (record { class = class; name = (method_at m i).name; proto = (method_at m i).proto })
  method_there class i lt e =
      let whole : method_at m i ≡ record { class = class; name = (method_at m i).name; proto = (method_at m i).proto } = λ k. record { class = e k; name = (method_at m i).name; proto = (method_at m i).proto } in
      record { within = lt; is = λ d. get_or_default m.methods i d (record { class = []; name = []; proto = record { return_type = []; parameters = [] } }) lt ∙ whole }

  field_used : (class : Text) (f : NumberedField) → IsKnownField m f → (field_at m f.number).class ≡ class → AllZip (IsUseOf m) (field_uses f) (field_symbols class (field_in m f))
  field_used class f known e = ((field_there class f.number known.number_in e, tt), set_used f.annotations known.annotations_known)

module _ (m : Mentions) (code_used : (c : NumberedItem) → IsKnownCode m c → AllZip (IsUseOf m) (item_uses c) (code_symbols (code_in m c))) where
  optional_used : (o : Option NumberedItem) → IfSome o (IsKnownCode m) → AllZip (IsUseOf m) (flat_map item_uses (option_to_list o)) (flat_map code_symbols (option_to_list (option_map (code_in m) o)))
  optional_used None known = tt
  optional_used (Some c) known = zip-append (IsUseOf m) (item_uses c) (code_symbols (code_in m c)) [] [] (code_used c known) tt

  method_used : (class : Text) (x : NumberedMethod) → IsKnownMethod m x → (method_at m x.number).class ≡ class → AllZip (IsUseOf m) (method_uses x) (method_symbols class (method_in m x))
  method_used class x known e =
      let sets = sets_used m x.parameter_annotations known.parameters_known in
      let own = set_used m x.annotations known.annotations_known in
      let code = optional_used x.code known.code_known in
      let both = zip-append (IsUseOf m) (set_uses x.annotations) (set_symbols (set_in m x.annotations)) (flat_map set_uses x.parameter_annotations) (flat_map set_symbols (map (set_in m) x.parameter_annotations)) own sets in (
        (method_there m class x.number known.number_in e, tt),
        zip-append (IsUseOf m) (flat_map item_uses (option_to_list x.code)) (flat_map code_symbols (option_to_list (option_map (code_in m) x.code)))
            (set_uses x.annotations ++ flat_map set_uses x.parameter_annotations) (set_symbols (set_in m x.annotations) ++ flat_map set_symbols (map (set_in m) x.parameter_annotations)) code both,
      )

  -- those of members, one for one
  pub members_used : (class : Text) (x : NumberedMembers) → AreKnownMembers m x → AreOfClass m class x → AllZip (IsUseOf m) (members_uses x) (members_symbols class (members_in m x))
  members_used class x known of =
      let s = set_used m x.annotations known.annotations_known in
      let fs = parts_zip (IsUseOf m) (IsKnownField m) (λ f. (field_at m f.number).class ≡ class) field_uses (field_symbols class) (field_in m) (field_used m class) (fields_of x)
      (All-append (IsKnownField m) x.static_fields x.instance_fields known.static_fields_known known.instance_fields_known) of.fields_of_class in
      let gs = subst (λ l. AllZip (IsUseOf m) (flat_map field_uses (fields_of x)) (flat_map (field_symbols class) l)) (map-append (field_in m) x.static_fields x.instance_fields) fs in
      let ds = parts_zip (IsUseOf m) (IsKnownMethod m) (λ y. (method_at m y.number).class ≡ class) method_uses (method_symbols class) (method_in m) (method_used class) (methods_of x)
      (All-append (IsKnownMethod m) x.direct_methods x.virtual_methods known.direct_methods_known known.virtual_methods_known) of.methods_of_class in
      let es = subst (λ l. AllZip (IsUseOf m) (flat_map method_uses (methods_of x)) (flat_map (method_symbols class) l)) (map-append (method_in m) x.direct_methods x.virtual_methods) ds in
      let vs = values_encoded m x.static_values (values_in m x.static_values) (record { known = known.values_known; mean = refl }) in
      let fields_meant = map (field_in m) x.static_fields ++ map (field_in m) x.instance_fields in
      let methods_meant = map (method_in m) x.direct_methods ++ map (method_in m) x.virtual_methods in
      let last = zip-append (IsUseOf m) (flat_map method_uses (methods_of x)) (flat_map (method_symbols class) methods_meant) (values_uses x.static_values) (values_symbols (values_in m x.static_values)) es vs in
      let later = zip-append (IsUseOf m) (flat_map field_uses (fields_of x)) (flat_map (field_symbols class) fields_meant)
      (flat_map method_uses (methods_of x) ++ values_uses x.static_values) (flat_map (method_symbols class) methods_meant ++ values_symbols (values_in m x.static_values)) gs last in
      zip-append (IsUseOf m) (set_uses x.annotations) (set_symbols (set_in m x.annotations))
      (flat_map field_uses (fields_of x) ++ (flat_map method_uses (methods_of x) ++ values_uses x.static_values))
      (flat_map (field_symbols class) fields_meant ++ (flat_map (method_symbols class) methods_meant ++ values_symbols (values_in m x.static_values))) s later

-- ---- marks

module _ (m : Mentions) (marks : Marks) (are : AreMarksOf m marks) (code_marked : (c : NumberedItem) → IsKnownCode m c → All (HasMark marks) (item_uses c)) where
  set_marked : (s : NumberedSet) → IsKnownSet m s → All (HasMark marks) (set_uses s)
  set_marked s known = set_marks m marks s are known

  optional_marked : (o : Option NumberedItem) → IfSome o (IsKnownCode m) → All (HasMark marks) (flat_map item_uses (option_to_list o))
  optional_marked None known = All-nil (HasMark marks)
  optional_marked (Some c) known = All-append (HasMark marks) (item_uses c) [] (code_marked c known) (All-nil (HasMark marks))

  field_marked : (f : NumberedField) → IsKnownField m f → All (HasMark marks) (field_uses f)
  field_marked f known =
      let u : Use = record { kind = kinds.Field; number = f.number } in
      All-cons (HasMark marks) u (set_uses f.annotations) (omega (arith, known.number_in, are.fields_count)) (set_marked f.annotations known.annotations_known)

  method_marked : (x : NumberedMethod) → IsKnownMethod m x → All (HasMark marks) (method_uses x)
  method_marked x known =
      let u : Use = record { kind = kinds.Method; number = x.number } in
      let sets = parts_all (IsKnownSet m) (HasMark marks) set_uses set_marked x.parameter_annotations known.parameters_known in
      let both = All-append (HasMark marks) (set_uses x.annotations) (flat_map set_uses x.parameter_annotations) (set_marked x.annotations known.annotations_known) sets in
      let code = All-append (HasMark marks) (flat_map item_uses (option_to_list x.code)) (set_uses x.annotations ++ flat_map set_uses x.parameter_annotations) (optional_marked x.code known.code_known) both in
      All-cons (HasMark marks) u (flat_map item_uses (option_to_list x.code) ++ (set_uses x.annotations ++ flat_map set_uses x.parameter_annotations)) (omega (arith, known.number_in, are.methods_count)) code

  -- there is a mark for each symbol of members
  pub members_marked : (x : NumberedMembers) → AreKnownMembers m x → All (HasMark marks) (members_uses x)
  members_marked x known =
      let fs = parts_all (IsKnownField m) (HasMark marks) field_uses field_marked (fields_of x) (All-append (IsKnownField m) x.static_fields x.instance_fields known.static_fields_known known.instance_fields_known) in
      let ds = parts_all (IsKnownMethod m) (HasMark marks) method_uses method_marked (methods_of x) (All-append (IsKnownMethod m) x.direct_methods x.virtual_methods known.direct_methods_known known.virtual_methods_known) in
      let last = All-append (HasMark marks) (flat_map method_uses (methods_of x)) (values_uses x.static_values) ds (values_marks m marks x.static_values are known.values_known) in
      let later = All-append (HasMark marks) (flat_map field_uses (fields_of x)) (flat_map method_uses (methods_of x) ++ values_uses x.static_values) fs last in
      All-append (HasMark marks) (set_uses x.annotations) (flat_map field_uses (fields_of x) ++ (flat_map method_uses (methods_of x) ++ values_uses x.static_values)) (set_marked x.annotations known.annotations_known) later
