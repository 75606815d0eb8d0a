-- The numbers of a class row denote the definition that the row is.
use Rattle.dexclass.proofs.Common.{◌≡◌, ℕ, ◌+◌, ◌*◌, ◌<◌, Bool, true, false, List, [], ◌∷◌, ◌++◌, length, refl, sym, ap, ◌∙◌, subst, arith, inl, inr, sum_by, ◌==◌, if◌then◌else◌, map, Option, Some, None, option_map, AllZip, eqb-true, false≢true, length-map, OrNone, Text, ClassDefs, table_size, StringRow, TypeRow, type_indices, Body, ClassRow, ClassTypeRow, ClassListAt, IndexOrNone, class_idx, access_flags, superclass_idx, interfaces_off, source_file_idx, no_index, Mentions, set_weight, field_weight, method_weight, static_values_weight, body_weight, HasClass, one_string, one_type, ArePools, Members, members_weight, MembersRow, members_of, text_at, type_at}
use Rattle.dexids.specs.Reading.{listed}
use Rattle.dexclass.specs.{number_of}
use Rattle.dexclass.proofs.Interfaces.{listed_interfaces}

-- the body of a row that declares this
abbrev pub row_body : List ℕ → Mentions → ℕ → Members → Body
row_body b m r z = record {
  flags = access_flags b r;
  superclass = option_map (type_at m) (number_of (superclass_idx b r));
  interfaces = map (type_at m) (listed b (interfaces_off b r));
  source = option_map (text_at m) (number_of (source_file_idx b r));
  annotations = z.annotations;
  static_fields = z.static_fields;
  instance_fields = z.instance_fields;
  direct_methods = z.direct_methods;
  virtual_methods = z.virtual_methods;
  static_values = z.static_values;
}

-- what a body weighs besides its interfaces is what it declares
pub body_weighs : (c : Body) → body_weight c ≡ 96 + 2 * length c.interfaces + members_weight (members_of c)
body_weighs c =
    let parts : body_weight c ≡ 96 + 2 * length c.interfaces + set_weight c.annotations + sum_by field_weight (c.static_fields ++ c.instance_fields) + sum_by method_weight (c.direct_methods ++ c.virtual_methods) + static_values_weight c.static_values = refl in
    omega (arith, parts)

-- what it weighs
pub row_weight : (b : List ℕ) (m : Mentions) (r : ℕ) (z : Members) → body_weight (row_body b m r z) ≡ 96 + 2 * length (listed b (interfaces_off b r)) + members_weight z
row_weight b m r z = omega (arith, body_weighs (row_body b m r z), length-map (listed b (interfaces_off b r)) (type_at m))

module _ (b : List ℕ) (m : Mentions) (pools : ArePools b m) where
  -- a type row is that of its number
  pub type_is : (i : ℕ) (t : Text) → TypeRow b i t → t ≡ type_at m i
  type_is i t row = one_type b i t (type_at m i) row (pools.types_are.each i [] row.row)

  -- an index that may be none
  optional_encoded : (Row : List ℕ → ℕ → Text → Type 0) (at : ℕ → Text) → ((i : ℕ) (t : Text) → Row b i t → t ≡ at i) → (i : ℕ) (v : Bool) → (i == no_index) ≡ v
      → (t : Option Text) → IndexOrNone Row b i t → IndexOrNone Row b i (option_map at (if v then None else Some i))
  optional_encoded Row at one i true e t h = eqb-true i no_index e
  optional_encoded Row at one i false e None h = absurd (false≢true (sym e ∙ ap (λ (k : ℕ). k == no_index) h))
  optional_encoded Row at one i false e (Some t) h = subst (Row b i) (one i t h) h

  -- a list of types
  listed_is : (is : List ℕ) (ts : List Text) → AllZip (TypeRow b) is ts → ts ≡ map (type_at m) is
  listed_is [] [] h = refl
  listed_is (i ∷ is) (t ∷ ts) h = ap (λ (s : Text). s ∷ ts) (type_is i t h.0) ∙ ap (λ (l : List Text). type_at m i ∷ l) (listed_is is ts h.1)
  listed_is x v h = absurd h

  interfaces_encoded : (o : ℕ) (ts : List Text) → OrNone ClassListAt [] b o ts → OrNone ClassListAt [] b o (map (type_at m) (listed b o))
  interfaces_encoded o ts (inl none) = inl (none.0, ap (λ (k : ℕ). map (type_at m) (listed b k)) none.0)
  interfaces_encoded o ts (inr list) =
      inr (list.0, subst (ClassListAt b o) (listed_is (type_indices b o) ts list.1.list.types ∙ ap (map (type_at m)) (sym (listed_interfaces b o list.0))) list.1)

  -- the row's name is the type of its number
  pub row_name : (r : ℕ) → HasClass b r → ClassTypeRow b (class_idx b r) (type_at m (class_idx b r))
  row_name r h = subst (ClassTypeRow b (class_idx b r)) (type_is (class_idx b r) h.name h.is.row) h.is

  -- the row is this definition
  pub row_encoded : (r : ℕ) (z : Members) → r < table_size b ClassDefs → HasClass b r → MembersRow b r z → ClassRow b r (type_at m (class_idx b r)) (row_body b m r z)
  row_encoded r z lt h y = record {
    row = lt;
    class = row_name r h;
    flags = refl;
    superclass = optional_encoded ClassTypeRow (type_at m) (λ i t row. type_is i t row.row) (superclass_idx b r) (superclass_idx b r == no_index) refl h.superclass.0 h.superclass.1;
    interfaces = interfaces_encoded (interfaces_off b r) h.interfaces.0 h.interfaces.1;
    source = optional_encoded StringRow (text_at m) (λ i s row. one_string b i s (text_at m i) row (pools.texts_are.each i [] row.row)) (source_file_idx b r) (source_file_idx b r == no_index) refl h.source.0 h.source.1;
    directory = y.directory;
    directory_is = y.directory_is;
    members = y.declared;
    members_are = y.declared_is;
    annotations = y.annotations;
    static_fields = y.static_fields;
    instance_fields = y.instance_fields;
    direct_methods = y.direct_methods;
    virtual_methods = y.virtual_methods;
    static_values = y.static_values;
  }
