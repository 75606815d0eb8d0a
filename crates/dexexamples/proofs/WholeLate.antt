-- The whole file is accepted, and denotes its class: conditions 17 to 23, and the definition of its class row.
use Rattle.dexexamples.proofs.Common.{◌≡◌, ℕ, zero, suc, ◌<◌, inl, inr, List, [], ◌∷◌, refl, ap, subst, sym, ◌∙◌, arith, ◌≢◌, ◌≤◌, Bool, true, false, cond, map, Option, Some, None, codes, AllZip, All-nil, All-same, OrNone, number_of, uint_at, ClassDefs, table_size, Text, text_cmp, NoValues, Directory, DirectoryAt, no_directory, ClassData, ClassDataAt, EncodedMethod, no_class_data, methods_of, StringRow, Definition, Body, MethodDef, ClassTypeRow, ClassListAt, IndexOrNone, StaticValuesAt, MakesMethod, ClassRow, field_def, Defines, Denotes, mentions, symbols_of, weight, most_weight, Condition, HoldsThroughout, IsAccepted, Declares, AllCode, HasPiecesAt, HasTriesAt, HasDebugAt, AreRows, one_type, text_total, text_exact}
use Rattle.std.specs.Ordering.{eq_by_cmp}
use Rattle.std.specs.FinMap as finmap
use Rattle.std.specs.FinMap.Entries.{find}
use Rattle.std.proofs.lemmas.Map.Views.{tells_apart}
use Rattle.dexexamples.specs.{object, body_under, class_a, whole_a}
use Rattle.dexexamples.proofs.WholeFrame.{frame}
use Rattle.dexexamples.proofs.WholeRows.{class_of_a, type_0, type_1, strings, types, protos, fields, methods, class_row, classes}

-- an item at offset 0 has the value of nothing
left_out : {X : Type 0} (At : List ℕ → ℕ → X → Type 0) (none x : X) (b : List ℕ) (o : ℕ) → o ≡ 0 → OrNone At none b o x → x ≡ none
left_out At none x b o e (inl h) = h.1
left_out At none x b o e (inr h) = absurd (h.0 e)

-- the class declares no members
declares : (d : ClassData) → Declares whole_a 0 d → d ≡ no_class_data
unfolding whole_a uint_at number_of
declares d h = left_out ClassDataAt no_class_data d whole_a 0 refl h.is

-- condition 17
members : HoldsThroughout Condition.Members whole_a
unfolding whole_a uint_at number_of
members zero row = (
  no_class_data,
  record {
    name = codes "LA;";
    class = record { row = type_0; class = class_of_a };
    is = inl (refl, refl);
    own = record {
      fields = All-nil (λ x. x.field.class ≡ codes "LA;");
      methods = All-nil (λ x. x.method.class ≡ codes "LA;");
      fields_apart = λ x h g. absurd (let lt = h.1 in omega arith);
      methods_apart = λ x h g. absurd (let lt = h.1 in omega arith);
    };
  },
)
members (suc r) row = absurd (omega arith)

-- so there is no code
no_code : (P : List ℕ → ℕ → Type 0) (r : ℕ) → r < table_size whole_a ClassDefs → AllCode P whole_a r
unfolding whole_a uint_at number_of
no_code P zero row d h = All-same (λ m. m.code_off ≢ 0 → P whole_a m.code_off) (methods_of d) [] (ap methods_of (declares d h)) (All-nil (λ m. m.code_off ≢ 0 → P whole_a m.code_off))
no_code P (suc r) row d h = absurd (omega arith)

-- no values and no annotations either
values : HoldsThroughout Condition.Values whole_a
unfolding whole_a uint_at number_of
values zero row d h = (NoValues, inl (refl, refl), omega arith)
values (suc r) row d h = absurd (omega arith)

annotations : HoldsThroughout Condition.Annotations whole_a
unfolding whole_a uint_at number_of
annotations zero row d h = (no_directory, inl (refl, refl), record { fields = All-nil _; methods = All-nil _; parameters = All-nil _ })
annotations (suc r) row d h = absurd (omega arith)

-- ---- the class row is one definition

-- its superclass, and no source file
superclass_is : (t : Option Text) → IndexOrNone ClassTypeRow whole_a 1 t → t ≡ Some object
superclass_is None h = absurd (omega arith)
superclass_is (Some t) h = ap Some (one_type whole_a 1 t object h.row type_1)

source_is : (s : Option Text) → IndexOrNone StringRow whole_a 0xffffffff s → s ≡ None
unfolding whole_a uint_at number_of
source_is None h = refl
source_is (Some s) h = absurd (let lt = h.row in omega arith)

-- the empty list is related to the empty list alone
no_methods : (R : EncodedMethod → MethodDef → Type 0) (xs : List EncodedMethod) (ms : List MethodDef) → xs ≡ [] → AllZip R xs ms → ms ≡ []
no_methods R [] [] e h = refl
no_methods R [] (m ∷ ms) e h = absurd h
no_methods R (x ∷ xs) ms e h = absurd cc

-- the definition of class row 0
pub one_class : (name : Text) (c : Body) → ClassRow whole_a 0 name c → (name ≡ codes "LA;") × (c ≡ body_under object)
unfolding whole_a uint_at number_of
one_class name c h =
    let directory = left_out DirectoryAt no_directory h.directory whole_a 0 refl h.directory_is in
    let members = left_out ClassDataAt no_class_data h.members whole_a 0 refl h.members_are in
    let superclass = superclass_is c.superclass h.superclass in
    let interfaces = left_out ClassListAt [] c.interfaces whole_a 0 refl h.interfaces in
    let source = source_is c.source h.source in
    let own : c.annotations ≡ [] = h.annotations ∙ ap (λ (d : Directory). d.own) directory in
    let statics : c.static_fields ≡ [] = h.static_fields ∙ ap (λ (d : ClassData). map (field_def h.directory) d.static_fields) members in
    let instances : c.instance_fields ≡ [] = h.instance_fields ∙ ap (λ (d : ClassData). map (field_def h.directory) d.instance_fields) members in
    let directs = no_methods (MakesMethod whole_a h.directory) h.members.direct_methods c.direct_methods (ap (λ (d : ClassData). d.direct_methods) members) h.direct_methods in
    let virtuals = no_methods (MakesMethod whole_a h.directory) h.members.virtual_methods c.virtual_methods (ap (λ (d : ClassData). d.virtual_methods) members) h.virtual_methods in
    let values = left_out StaticValuesAt NoValues c.static_values whole_a 0 refl h.static_values in
    let flags = h.flags in (
      one_type whole_a 0 name (codes "LA;") h.class.row type_0,
      λ i. record {
        flags = flags i;
        superclass = superclass i;
        interfaces = interfaces i;
        source = source i;
        annotations = own i;
        static_fields = statics i;
        instance_fields = instances i;
        direct_methods = directs i;
        virtual_methods = virtuals i;
        static_values = values i;
      },
    )

-- as a definition
one_definition : (d : Definition) → ClassRow whole_a 0 d.0 d.1 → d ≡ class_a
one_definition d h = let e = one_class d.0 d.1 h in λ i. (e.0 i, e.1 i)

-- ---- condition 23

-- the rows before row 1 are the class alone
rows_are : (D : List Definition) → AreRows whole_a 1 D → D ≡ class_a ∷ []
rows_are [] h = absurd h
rows_are (d ∷ []) h = ap (λ (x : Definition). x ∷ []) (one_definition d h.0)
rows_are (d ∷ x ∷ D) h = absurd h.1

weight_of_a : weight (class_a ∷ []) ≤ most_weight
unfolding weight mentions symbols_of
weight_of_a = omega arith

weighs : HoldsThroughout Condition.Weight whole_a
unfolding whole_a uint_at number_of
weighs zero row D readable are = subst (λ (E : List Definition). weight E ≤ most_weight) (sym (rows_are D are)) weight_of_a
weighs (suc r) row D readable are = absurd (omega arith)

-- all 23 conditions
pub accepted : IsAccepted whole_a
accepted Condition.Strings r row = strings r row
accepted Condition.Types r row = types r row
accepted Condition.Protos r row = protos r row
accepted Condition.Fields r row = fields r row
accepted Condition.Methods r row = methods r row
accepted Condition.Classes r row = classes r row
accepted Condition.Members r row = members r row
accepted Condition.Code r row = no_code HasPiecesAt r row
accepted Condition.Tries r row = no_code HasTriesAt r row
accepted Condition.Debug r row = no_code HasDebugAt r row
accepted Condition.Values r row = values r row
accepted Condition.Annotations r row = annotations r row
accepted Condition.Weight r row = weighs r row
accepted c r row = frame c (omega arith) r row

-- ---- what the file denotes

-- lookup in the one definition
found : (name : Text) (c : Body) (same : Bool) → eq_by_cmp text_cmp name (codes "LA;") ≡ same → cond same (Some (body_under object)) None ≡ Some c → Defines whole_a name c
found name c true e h =
    let named = sym (tells_apart text_exact name (codes "LA;") e) in
    let is : body_under object ≡ c = cc in
    (0, subst (λ (d : Definition). ClassRow whole_a 0 d.0 d.1) (λ i. (named i, is i)) class_row)
found name c false e h = absurd cc

-- there is no other row
is_named : (k : ℕ) (name : Text) (c : Body) → ClassRow whole_a k name c → (name ≡ codes "LA;") × (c ≡ body_under object)
unfolding whole_a uint_at number_of
is_named zero name c h = one_class name c h
is_named (suc k) name c h = absurd (let lt = h.row in omega arith)

-- the collection of the class alone
pub denotes : Denotes whole_a (finmap.from_entries (class_a ∷ []))
denotes name c = (
  λ member. found name c (eq_by_cmp text_cmp name (codes "LA;")) refl (sym (finmap.get-from_entries text_total (class_a ∷ []) name) ∙ member),
  λ defined. let e = is_named defined.0 name c defined.1 in finmap.get-from_entries text_total (class_a ∷ []) name
      ∙ ap (λ (t : Text). find text_cmp t (class_a ∷ [])) e.0 ∙ ap Some (sym e.1),
)
