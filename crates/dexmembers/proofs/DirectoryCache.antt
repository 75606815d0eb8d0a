-- The conditions of class data and code at a row: what was read meets them, and what was refused fails one.
use Rattle.dexmembers.proofs.Common.{◌≡◌, ◌≢◌, ℕ, ◌+◌, List, [], ◌∷◌, map, subst, arith, inl, inr, Option, Some, None, All, Contains, All-nil, All-cons, All-append, All-contains, Contains-append_left, Contains-append_right, OrNone, SomeAt, uint_at, Code, CodeAt, TriesAt, ClassData, ClassDataAt, no_class_data, EncodedMethod, methods_of, class_data_off, Condition, Declares, AllCode, HasPiecesAt, HasTriesAt, HasDebugAt, HasCode, HasTries, HasDebug, Mentions, Contains-map, one_or_none, one_pieces, ItemFault, Refused, Memory, IsCodeFault}
use Rattle.dexspec.specs.Pieces.{Cut}
use Rattle.dexspec.specs.Debug.{DebugAt}
use Rattle.dexspec.proofs.determined.OneClass.{one_class_data}
use Rattle.dexmembers.specs.internal.ClassData.{encoded_method_in, class_data_in, IsDataOf, IsDataFault}
use Rattle.dexmembers.specs.internal.MethodCodes.{AreCodesAt, IsCodesFault}
use Rattle.dexmembers.specs.{IsMembersFault}
use Rattle.dexmembers.specs.declared.class_data.EncodedMethod.{EncodedMethod as MethodRead}
use Rattle.dexmembers.specs.declared.class_data.ClassData.{ClassData as DataRead}

-- ---- class data

-- a row declares one thing at most
pub one_declared : (b : List ℕ) (r : ℕ) (x y : ClassData) → Declares b r x → Declares b r y → x ≡ y
one_declared b r x y h g = one_or_none ClassDataAt no_class_data b (class_data_off b r) x y (one_class_data b (class_data_off b r) x y) h.is g.is

-- where it declares none, condition 17 fails
pub data_refused : (b : List ℕ) (r : ℕ) (fault : ItemFault) → IsDataFault b r fault → IsMembersFault b r fault
data_refused b r Memory h = tt
data_refused b r (Refused n) h = (Condition.Members, h.0, omega (arith, h.0), omega (arith, h.0), h.1)

-- ---- code

-- what is at an offset that is not 0
some_there : {X : Type 0} (At : List ℕ → ℕ → X → Type 0) (b : List ℕ) (o : ℕ) (x : Option X) → OrNone (SomeAt At) None b o x → o ≢ 0 → (y : X) × At b o y
some_there At b o x (inl h) some = absurd (some h.0)
some_there At b o None (inr h) some = absurd h.1
some_there At b o (Some y) (inr h) some = (y, h.1)

pieces_hold : (b : List ℕ) (o : ℕ) (k : Code) → CodeAt b o k → HasPiecesAt b o
pieces_hold b o k h = (h.cuts, k.pieces, h.pieces)

tries_hold : (b : List ℕ) (o : ℕ) (k : Code) → CodeAt b o k → HasTriesAt b o
tries_hold b o k h = λ cuts ps g. (k.tries, subst (λ (cs : List Cut). TriesAt b o cs k.tries) (one_pieces b o h.cuts cuts k.pieces ps h.pieces g).0 h.tries)

debug_holds : (b : List ℕ) (o : ℕ) (k : Code) → CodeAt b o k → HasDebugAt b o
debug_holds b o k h = λ cuts ps g some. some_there DebugAt b (uint_at b (o + 8)) k.debug h.debug some

-- the code of each method of a list
list_coded : (P : List ℕ → ℕ → Type 0) (b : List ℕ) (m : Mentions) → ((o : ℕ) (k : Code) → CodeAt b o k → P b o) → (xs : List MethodRead) (codes : List (Option Code)) → AreCodesAt b xs codes
    → All (λ (y : EncodedMethod). y.code_off ≢ 0 → P b y.code_off) (map (encoded_method_in m) xs)
list_coded P b m holds [] codes h = All-nil (λ (y : EncodedMethod). y.code_off ≢ 0 → P b y.code_off)
list_coded P b m holds (x ∷ xs) [] h = absurd h
list_coded P b m holds (x ∷ xs) (c ∷ codes) h =
    All-cons (λ (y : EncodedMethod). y.code_off ≢ 0 → P b y.code_off) (encoded_method_in m x) (map (encoded_method_in m) xs)
    (λ some. let k = some_there CodeAt b x.code_off c h.0 some in holds x.code_off k.0 k.1) (list_coded P b m holds xs codes h.1)

module _ (b : List ℕ) (r : ℕ) (m : Mentions) (read : DataRead) (is : IsDataOf b r m read) where
  -- what the row declares is what was read
  pub declared_is : (d : ClassData) → Declares b r d → class_data_in m read ≡ d
  declared_is d h = one_declared b r (class_data_in m read) d is.declared h

  all_coded : (P : List ℕ → ℕ → Type 0) → ((o : ℕ) (k : Code) → CodeAt b o k → P b o) → (direct virtual : List (Option Code)) → AreCodesAt b read.direct_methods.items direct → AreCodesAt b read.virtual_methods.items virtual → AllCode P b r
  all_coded P holds direct virtual h g = λ d declares.
      subst (λ (x : ClassData). All (λ (y : EncodedMethod). y.code_off ≢ 0 → P b y.code_off) (methods_of x)) (declared_is d declares)
      (All-append (λ (y : EncodedMethod). y.code_off ≢ 0 → P b y.code_off) (map (encoded_method_in m) read.direct_methods.items) (map (encoded_method_in m) read.virtual_methods.items)
      (list_coded P b m holds read.direct_methods.items direct h) (list_coded P b m holds read.virtual_methods.items virtual g))

  -- if there is code for each method, conditions 18 to 20 hold
  pub code_holds : (direct virtual : List (Option Code)) → AreCodesAt b read.direct_methods.items direct → AreCodesAt b read.virtual_methods.items virtual → HasCode b r × HasTries b r × HasDebug b r
  code_holds direct virtual h g = (
    all_coded HasPiecesAt (pieces_hold b) direct virtual h g,
    all_coded HasTriesAt (tries_hold b) direct virtual h g,
    all_coded HasDebugAt (debug_holds b) direct virtual h g,
  )

  -- a method of the row whose code is refused fails one of them
  code_fails : (n : ℕ) (x : MethodRead) → Contains (methods_of (class_data_in m read)) (encoded_method_in m x) → x.code_off ≢ 0 → IsCodeFault b x.code_off (Refused n) → IsMembersFault b r (Refused n)
  code_fails n x c coded (inl h) = (
    Condition.Code,
    h.0,
    omega (arith, h.0),
    omega (arith, h.0),
    λ holds. let p = All-contains (λ (y : EncodedMethod). y.code_off ≢ 0 → HasPiecesAt b y.code_off) (methods_of (class_data_in m read)) (encoded_method_in m x) (holds (class_data_in m read) is.declared) c coded in
        h.1 (record { cuts = p.0; pieces = p.1; at = p.2 }),
  )
  code_fails n x c coded (inr (inl h)) = (
    Condition.Tries,
    h.0,
    omega (arith, h.0),
    omega (arith, h.0),
    λ holds. let t = All-contains (λ (y : EncodedMethod). y.code_off ≢ 0 → HasTriesAt b y.code_off) (methods_of (class_data_in m read)) (encoded_method_in m x) (holds (class_data_in m read) is.declared) c coded h.1.cuts h.1.pieces h.1.at in
        h.2 h.1.cuts h.1.pieces t.0 h.1.at t.1,
  )
  code_fails n x c coded (inr (inr h)) = (
    Condition.Debug,
    h.0,
    omega (arith, h.0),
    omega (arith, h.0),
    λ holds. let d = All-contains (λ (y : EncodedMethod). y.code_off ≢ 0 → HasDebugAt b y.code_off) (methods_of (class_data_in m read)) (encoded_method_in m x) (holds (class_data_in m read) is.declared) c coded h.1.cuts h.1.pieces h.1.at h.2 in
        h.3 d.0 d.1,
  )

  -- so do those of the direct methods
  pub direct_refused : (fault : ItemFault) → IsCodesFault b read.direct_methods.items fault → IsMembersFault b r fault
  direct_refused Memory h = tt
  direct_refused (Refused n) h =
      code_fails n h.method (Contains-append_left (map (encoded_method_in m) read.direct_methods.items) (map (encoded_method_in m) read.virtual_methods.items) (encoded_method_in m h.method) (Contains-map (encoded_method_in m) read.direct_methods.items h.method h.among)) h.coded h.failed

  -- and of the virtual ones
  pub virtual_refused : (fault : ItemFault) → IsCodesFault b read.virtual_methods.items fault → IsMembersFault b r fault
  virtual_refused Memory h = tt
  virtual_refused (Refused n) h =
      code_fails n h.method (Contains-append_right (map (encoded_method_in m) read.direct_methods.items) (map (encoded_method_in m) read.virtual_methods.items) (encoded_method_in m h.method) (Contains-map (encoded_method_in m) read.virtual_methods.items h.method h.among)) h.coded h.failed
