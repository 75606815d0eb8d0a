-- A class row whose items can all be read is a definition.
use Rattle.dexspec.proofs.Common.{◌≢◌, ℕ, zero, suc, ◌+◌, ◌<◌, ◌≤◌, List, [], ◌∷◌, map, Option, Some, None, refl, subst, arith, inl, inr, Contains, AllZip, range_with_len, cases_eq, All-contains, Contains-append_left, Contains-append_right, Code}
use Rattle.dexspec.specs.{OrNone, SomeAt, uint_at, ushort_at, method_cmp, ClassDefs, table_size, DebugAt, CodeAt, Directory, annotated, EncodedMethod, methods_of, MethodDef, Definition, access_flags, field_def, MakesMethod, ClassRow, HasClass, HasPiecesAt, HasTriesAt, HasDebugAt, IsReadable}
use Rattle.dexspec.proofs.lists.Members.{Contains-nil, Contains-first, Contains-later, Contains-cons_cases}

-- ---- code

-- nothing at offset 0, and otherwise the item at the offset
some_or_none_at : {X : Type 0} (At : List ℕ → ℕ → X → Type 0) (b : List ℕ) (o : ℕ) → (o ≢ 0 → (x : X) × At b o x) → (x : Option X) × OrNone (SomeAt At) None b o x
some_or_none_at At b o h = elim (cases_eq o 0) [
  | inl e ↦ (None, inl (e, refl))
  | inr n ↦ let x = h n in (Some x.0, inr (n, x.1))
]

-- pieces, tries and a debug program make a code item
pub code_there : (b : List ℕ) (o : ℕ) → HasPiecesAt b o → HasTriesAt b o → HasDebugAt b o → (c : Code) × CodeAt b o c
code_there b o p t d =
    let tries = t p.0 p.1 p.2 in
    let debug = some_or_none_at DebugAt b (uint_at b (o + 8)) (d p.0 p.1 p.2) in (
      record { registers = ushort_at b o; ins = ushort_at b (o + 2); outs = ushort_at b (o + 4); pieces = p.1; tries = tries.0; debug = debug.0 },
      record { registers = record { registers_size = refl; ins_size = refl; outs_size = refl }; cuts = p.0; pieces = p.2; tries = tries.1; debug = debug.1 },
    )

-- ---- methods

-- a method whose code can be read
method_there : (b : List ℕ) (d : Directory) (x : EncodedMethod) → (x.code_off ≢ 0 → (c : Code) × CodeAt b x.code_off c) → (m : MethodDef) × MakesMethod b d x m
method_there b d x h =
    let code = some_or_none_at CodeAt b x.code_off h in (
      record {
        name = x.method.name;
        proto = x.method.proto;
        flags = x.flags;
        code = code.0;
        annotations = annotated method_cmp d.methods x.method;
        parameter_annotations = annotated method_cmp d.parameters x.method;
      },
      record { name = refl; proto = refl; flags = refl; code = code.1; annotations = refl; parameter_annotations = refl },
    )

-- methods whose code can be read
methods_there : (b : List ℕ) (d : Directory) (xs : List EncodedMethod) → ((x : EncodedMethod) → Contains xs x → x.code_off ≢ 0 → (c : Code) × CodeAt b x.code_off c) → (ms : List MethodDef) × AllZip (MakesMethod b d) xs ms
methods_there b d [] h = ([], tt)
methods_there b d (x ∷ xs) h =
    let first = method_there b d x (h x (Contains-first x xs)) in
    let rest = methods_there b d xs (λ y c. h y (Contains-later x y xs c)) in
    (first.0 ∷ rest.0, (first.1, rest.1))

-- ---- class rows

-- the row is a definition
pub row_there : (b : List ℕ) (r : ℕ) → r < table_size b ClassDefs → HasClass b r → IsReadable b r → (d : Definition) × ClassRow b r d.0 d.1
row_there b r lt class readable =
    let declared = readable.members.0 in
    let declares = readable.members.1 in
    let directory = readable.annotations declared declares in
    let values = readable.values declared declares in
    let code = λ (x : EncodedMethod) (m : Contains (methods_of declared) x) (some : x.code_off ≢ 0).
    code_there b x.code_off
    (All-contains (λ (y : EncodedMethod). y.code_off ≢ 0 → HasPiecesAt b y.code_off) (methods_of declared) x (readable.code declared declares) m some)
    (All-contains (λ (y : EncodedMethod). y.code_off ≢ 0 → HasTriesAt b y.code_off) (methods_of declared) x (readable.tries declared declares) m some)
    (All-contains (λ (y : EncodedMethod). y.code_off ≢ 0 → HasDebugAt b y.code_off) (methods_of declared) x (readable.debug declared declares) m some) in
    let direct = methods_there b directory.0 declared.direct_methods (λ x c. code x (Contains-append_left declared.direct_methods declared.virtual_methods x c)) in
    let virtual = methods_there b directory.0 declared.virtual_methods (λ x c. code x (Contains-append_right declared.direct_methods declared.virtual_methods x c)) in (
      (
        class.name,
        record {
          flags = access_flags b r;
          superclass = class.superclass.0;
          interfaces = class.interfaces.0;
          source = class.source.0;
          annotations = directory.0.own;
          static_fields = map (field_def directory.0) declared.static_fields;
          instance_fields = map (field_def directory.0) declared.instance_fields;
          direct_methods = direct.0;
          virtual_methods = virtual.0;
          static_values = values.0;
        },
      ),
      record {
        row = lt;
        class = class.is;
        flags = refl;
        superclass = class.superclass.1;
        interfaces = class.interfaces.1;
        source = class.source.1;
        directory = directory.0;
        directory_is = directory.1;
        members = declared;
        members_are = declares.is;
        annotations = refl;
        static_fields = refl;
        instance_fields = refl;
        direct_methods = direct.1;
        virtual_methods = virtual.1;
        static_values = values.1;
      },
    )

-- ---- a value for each row

module _ {X : Type 0} (P : ℕ → X → Type 0) where
  -- the values of rows a to a + n
  pub all_rows : (n a : ℕ) → ((r : ℕ) → a ≤ r → r < a + n → (x : X) × P r x) → (xs : List X) × AllZip P (range_with_len a n) xs
  all_rows zero a h = ([], tt)
  all_rows (suc n) a h =
      let first = h a (omega arith) (omega arith) in
      let rest = all_rows n (a + 1) (λ r le lt. h r (omega arith) (omega arith)) in
      (first.0 ∷ rest.0, (first.1, rest.1))

  -- each member is the value of a row
  pub row_of : (n a : ℕ) (xs : List X) → AllZip P (range_with_len a n) xs → (x : X) → Contains xs x → (r : ℕ) × (a ≤ r) × (r < a + n) × P r x
  row_of zero a [] h x c = absurd (Contains-nil x c)
  row_of (suc n) a (y ∷ xs) h x c = elim (Contains-cons_cases y x xs c) [
    | inl e ↦ (a, omega arith, omega arith, subst (P a) e h.0)
    | inr l ↦ let s = row_of n (a + 1) xs h.1 x l in (s.0, omega (arith, s.1), omega (arith, s.2), s.3)
  ]
  row_of _ a _ h x c = absurd h

  -- each row has a value
  pub member_of : (n a : ℕ) (xs : List X) → AllZip P (range_with_len a n) xs → (r : ℕ) → a ≤ r → r < a + n → (x : X) × Contains xs x × P r x
  member_of zero a xs h r le lt = absurd (omega arith)
  member_of (suc n) a [] h r le lt = absurd h
  member_of (suc n) a (y ∷ xs) h r le lt = elim (cases_eq a r) [
    | inl e ↦ (y, Contains-first y xs, subst (λ (k : ℕ). P k y) e h.0)
    | inr d ↦ let s = member_of n (a + 1) xs h.1 r (omega arith) (omega arith) in (s.0, Contains-later y s.0 xs s.1, s.2)
  ]
