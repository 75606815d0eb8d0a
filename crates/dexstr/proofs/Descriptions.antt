-- The kind of a descriptor, from its units and from its bytes.
use Rattle.dexstr.proofs.Common.{◌≡◌, ℕ, zero, suc, ◌+◌, ◌/◌, ◌%◌, ◌^◌, ◌<◌, ◌≤◌, true, false, List, [], ◌∷◌, ◌++◌, ◌⊎◌, inl, inr, refl, ap, sym, ◌∙◌, drop, Option, Some, None, arith, IfSome, replicate, is_some, ◌↔◌, ◌&&◌, ◌==◌, nat_le, Contains, cases_eq, cases_Bool, eqb-true, eq-eqb, ne_eqb, le-leb, leb-true, and_parts, false≢true, All-drop, Text, form, spelling, AreUnits, TypeKind, VoidType, PrimitiveType, ClassType, ArrayType, IsVoid, IsPrimitive, IsClass, IsArray, HasKind, IsDescriptor, primitive_letters, shorty_letter, Shape, One, Two, Three, shape_of, units_of, IsSpelling, type_kind, ends_class, is_end, is_primitive_letter, element_kind, dimensions, is_void, kind_of}
use Rattle.dexstr.specs.declared.descriptors.Kind.{Kind}
use Rattle.dexstr.specs.declared.descriptors.Kind.TheVariants.{Void, Primitive, Class, Array}
use Rattle.dexstr.proofs.ClassNames.{end_is, class_from, class_to, is_end-spelling, ends_class-spelling}

-- ---- letters

letter_to : (u : ℕ) → Contains primitive_letters u → (element_kind (u ∷ []) ≡ Some Primitive) × (dimensions (u ∷ []) ≡ 0) × (is_void (u ∷ []) ≡ false)
letter_to u (zero, lt, e) = rw (← e) (refl, refl, refl)
letter_to u (suc zero, lt, e) = rw (← e) (refl, refl, refl)
letter_to u (suc (suc zero), lt, e) = rw (← e) (refl, refl, refl)
letter_to u (suc (suc (suc zero)), lt, e) = rw (← e) (refl, refl, refl)
letter_to u (suc (suc (suc (suc zero))), lt, e) = rw (← e) (refl, refl, refl)
letter_to u (suc (suc (suc (suc (suc zero)))), lt, e) = rw (← e) (refl, refl, refl)
letter_to u (suc (suc (suc (suc (suc (suc zero))))), lt, e) = rw (← e) (refl, refl, refl)
letter_to u (suc (suc (suc (suc (suc (suc (suc zero)))))), lt, e) = rw (← e) (refl, refl, refl)
letter_to u (suc (suc (suc (suc (suc (suc (suc (suc k))))))), lt, e) = absurd (omega arith)

letter_from : (u : ℕ) → is_primitive_letter u ≡ true → Contains primitive_letters u
letter_from u e = elim (cases_eq u 0x5a) [
  | inl is ↦ (0, omega arith, sym is)
  | inr no0 ↦ elim (cases_eq u 0x42) [
    | inl is ↦ (1, omega arith, sym is)
    | inr no1 ↦ elim (cases_eq u 0x53) [
      | inl is ↦ (2, omega arith, sym is)
      | inr no2 ↦ elim (cases_eq u 0x43) [
        | inl is ↦ (3, omega arith, sym is)
        | inr no3 ↦ elim (cases_eq u 0x4a) [
          | inl is ↦ (4, omega arith, sym is)
          | inr no4 ↦ elim (cases_eq u 0x49) [
            | inl is ↦ (5, omega arith, sym is)
            | inr no5 ↦ elim (cases_eq u 0x46) [
              | inl is ↦ (6, omega arith, sym is)
              | inr no6 ↦ elim (cases_eq u 0x44) [
                | inl is ↦ (7, omega arith, sym is)
                | inr no7 ↦ absurd (false≢true (rw (ne_eqb u 0x5a no0, ne_eqb u 0x42 no1, ne_eqb u 0x53 no2, ne_eqb u 0x43 no3, ne_eqb u 0x4a no4, ne_eqb u 0x49 no5, ne_eqb u 0x46 no6, ne_eqb u 0x44 no7) at e))
              ]
            ]
          ]
        ]
      ]
    ]
  ]
]

-- ---- from the kind that is returned

element_from : (s : List ℕ) (k : Kind) → element_kind s ≡ Some k → HasKind (type_kind k) s × ((k ≡ Primitive) ⊎ (k ≡ Class))
element_from [] k e = absurd (cc)
element_from (u ∷ s) k e = elim (cases_eq u 0x4c) [
  | inl letter ↦ elim (cases_Bool (ends_class false s)) [
    | inl ends ↦
        let is : Class ≡ k = let some = rw (letter, ends) at e in cc in
        let named = class_from s ends in
        rw (← is, letter) (record { name = named.name; is = ap (λ (x : List ℕ). 0x4c ∷ x) named.is; named = named.named }, inr refl)
    | inr no_class ↦ absurd (let none = rw (letter, no_class) at e in cc)
  ]
  | inr other ↦ elim (cases_Bool (is_primitive_letter u && is_end s)) [
    | inl alone ↦
        let is : Primitive ≡ k = let some = rw (ne_eqb u 0x4c other, alone) at e in cc in
        let both = and_parts (is_primitive_letter u) (is_end s) alone in
        rw (← is, end_is s both.1) (record { letter = u; is = refl; known = letter_from u both.0 }, inl refl)
    | inr no_letter ↦ absurd (let none = rw (ne_eqb u 0x4c other, no_letter) at e in cc)
  ]
]

void_from : (s : List ℕ) → is_void s ≡ true → IsVoid s
void_from [] e = absurd (false≢true e)
void_from (u ∷ s) e =
    let both = and_parts (u == 0x56) (is_end s) e in
    rw (eqb-true u 0x56 both.0, end_is s both.1) refl

brackets : (s : List ℕ) → s ≡ replicate (dimensions s) 0x5b ++ drop (dimensions s) s
brackets [] = refl
brackets (u ∷ s) = elim (cases_eq u 0x5b) [
  | inl bracket ↦ rw bracket (ap (λ (x : List ℕ). 0x5b ∷ x) (brackets s))
  | inr other ↦ rw (ne_eqb u 0x5b other) refl
]

array_of : (s : List ℕ) (k : Kind) → 1 ≤ dimensions s → dimensions s ≤ 255 → HasKind (type_kind k) (drop (dimensions s) s) × ((k ≡ Primitive) ⊎ (k ≡ Class)) → IsArray s
array_of s k some few (has, inl primitive) = record { dimensions = dimensions s; element = drop (dimensions s) s; is = brackets s; some = some; few = few; held = inl (rw primitive at has) }
array_of s k some few (has, inr class) = record { dimensions = dimensions s; element = drop (dimensions s) s; is = brackets s; some = some; few = few; held = inr (rw class at has) }

array_by : (s : List ℕ) (r : Option Kind) → element_kind (drop (dimensions s) s) ≡ r → 1 ≤ dimensions s → dimensions s ≤ 255 → is_some r ≡ true → IsArray s
array_by s None e some few is = absurd (false≢true is)
array_by s (Some k) e some few is = array_of s k some few (element_from (drop (dimensions s) s) k e)

pub kind_from : (s : List ℕ) (k : Kind) → kind_of s ≡ Some k → HasKind (type_kind k) s
kind_from s k e = elim (cases_Bool (is_void s)) [
  | inl void ↦ let is : Void ≡ k = let some = rw void at e in cc in rw (← is) (void_from s void)
  | inr no_void ↦ elim (cases_eq (dimensions s) 0) [
    | inl none ↦ (element_from s k (rw (no_void, eq-eqb (dimensions s) 0 none) at e)).0
    | inr some ↦ elim (cases_Bool (nat_le (dimensions s) 255 && is_some (element_kind (drop (dimensions s) s)))) [
      | inl array ↦
          let is : Array ≡ k = let found = rw (no_void, ne_eqb (dimensions s) 0 some, array) at e in cc in
          let both = and_parts (nat_le (dimensions s) 255) (is_some (element_kind (drop (dimensions s) s))) array in
          rw (← is) (array_by s (element_kind (drop (dimensions s) s)) refl (omega arith) (leb-true (dimensions s) 255 both.0) both.1)
      | inr no_array ↦ absurd (let none = rw (no_void, ne_eqb (dimensions s) 0 some, no_array) at e in cc)
    ]
  ]
]

-- ---- to the kind that is returned

-- what an array may hold
record IsElement (s : List ℕ) : Type 0 where
  kind : Kind
  reported : element_kind s ≡ Some kind
  flat : dimensions s ≡ 0
  no_void : is_void s ≡ false

primitive_element : (s : List ℕ) → IsPrimitive s → (element_kind s ≡ Some Primitive) × (dimensions s ≡ 0) × (is_void s ≡ false)
primitive_element s is = rw is.is (letter_to is.letter is.known)

class_element : (s : List ℕ) → IsClass s → (element_kind s ≡ Some Class) × (dimensions s ≡ 0) × (is_void s ≡ false)
class_element s is = rw (is.is, class_to is.name is.named) (refl, refl, refl)

element : (s : List ℕ) → IsPrimitive s ⊎ IsClass s → IsElement s
element s (inl is) = let facts = primitive_element s is in record { kind = Primitive; reported = facts.0; flat = facts.1; no_void = facts.2 }
element s (inr is) = let facts = class_element s is in record { kind = Class; reported = facts.0; flat = facts.1; no_void = facts.2 }

flat_kind : (s : List ℕ) (k : Kind) → (element_kind s ≡ Some k) × (dimensions s ≡ 0) × (is_void s ≡ false) → kind_of s ≡ Some k
flat_kind s k facts = rw (facts.2, facts.1) facts.0

dimensions-brackets : (d : ℕ) (s : List ℕ) → dimensions s ≡ 0 → dimensions (replicate d 0x5b ++ s) ≡ d
dimensions-brackets zero s flat = flat
dimensions-brackets (suc d) s flat = ap suc (dimensions-brackets d s flat)

drop-brackets : (d : ℕ) (s : List ℕ) → drop d (replicate d 0x5b ++ s) ≡ s
drop-brackets zero s = refl
drop-brackets (suc d) s = drop-brackets d s

no_void-brackets : (d : ℕ) (s : List ℕ) → 1 ≤ d → is_void (replicate d 0x5b ++ s) ≡ false
no_void-brackets zero s some = absurd (omega arith)
no_void-brackets (suc d) s some = refl

array_kind : (d : ℕ) (s : List ℕ) → 1 ≤ d → d ≤ 255 → IsElement s → kind_of (replicate d 0x5b ++ s) ≡ Some Array
array_kind d s some few is = rw (no_void-brackets d s some, dimensions-brackets d s is.flat, ne_eqb d 0 (omega arith), le-leb d 255 few, drop-brackets d s, is.reported) refl

pub kind_to : (s : List ℕ) (k : Kind) → HasKind (type_kind k) s → kind_of s ≡ Some k
kind_to s Void has = rw has refl
kind_to s Primitive has = flat_kind s Primitive (primitive_element s has)
kind_to s Class has = flat_kind s Class (class_element s has)
kind_to s Array has = rw has.is (array_kind has.dimensions has.element has.some has.few (element has.element has.held))

-- ---- in bytes

no_letter : (u : ℕ) → (u ≡ 0) ⊎ (0x80 ≤ u) → is_primitive_letter u ≡ false
no_letter u (inl none) = rw none refl
no_letter u (inr more) = rw (ne_eqb u 0x5a (omega arith), ne_eqb u 0x42 (omega arith), ne_eqb u 0x53 (omega arith), ne_eqb u 0x43 (omega arith), ne_eqb u 0x4a (omega arith), ne_eqb u 0x49 (omega arith), ne_eqb u 0x46 (omega arith), ne_eqb u 0x44 (omega arith)) refl

-- nothing that a descriptor may begin with
no_element : (u : ℕ) (s : List ℕ) → (u ≡ 0) ⊎ (0x80 ≤ u) → element_kind (u ∷ s) ≡ None
no_element u s (inl none) = rw none refl
no_element u s (inr more) = rw (ne_eqb u 0x4c (omega arith), no_letter u (inr more)) refl

no_brackets : (u : ℕ) (s : List ℕ) → (u ≡ 0) ⊎ (0x80 ≤ u) → dimensions (u ∷ s) ≡ 0
no_brackets u s (inl none) = rw none refl
no_brackets u s (inr more) = rw (ne_eqb u 0x5b (omega arith)) refl

not_void : (u : ℕ) (s : List ℕ) → (u ≡ 0) ⊎ (0x80 ≤ u) → is_void (u ∷ s) ≡ false
not_void u s (inl none) = rw none refl
not_void u s (inr more) = rw (ne_eqb u 0x56 (omega arith)) refl

element_step : (bytes : List ℕ) (u : ℕ) (rest s : List ℕ) → Shape bytes u rest → ends_class false rest ≡ ends_class false s → is_end rest ≡ is_end s → element_kind bytes ≡ element_kind (u ∷ s)
element_step bytes u rest s (One some small e) same end = rw (e, same, end) refl
element_step bytes u rest s (Two which small e) same end = rw (e, no_element (0xc0 + u / 64) ((0x80 + u % 64) ∷ rest) (inr (omega arith))) (sym (no_element u s which))
element_step bytes u rest s (Three large small e) same end = rw (e, no_element (0xe0 + u / 4096) ((0x80 + u / 64 % 64) ∷ (0x80 + u % 64) ∷ rest) (inr (omega arith))) (sym (no_element u s (inr (omega arith))))

element_kind-spelling : (s : List ℕ) → AreUnits s → element_kind (spelling s) ≡ element_kind s
element_kind-spelling [] units = refl
element_kind-spelling (u ∷ s) units =
    let rest : AreUnits s = λ k d lt. units (suc k) d (omega arith) in
    element_step (form u ++ spelling s) u (spelling s) s (shape_of u (spelling s) (units 0 0 (omega arith))) (ends_class-spelling s rest false) (is_end-spelling s rest)

void_step : (bytes : List ℕ) (u : ℕ) (rest s : List ℕ) → Shape bytes u rest → is_end rest ≡ is_end s → is_void bytes ≡ is_void (u ∷ s)
void_step bytes u rest s (One some small e) end = rw (e, end) refl
void_step bytes u rest s (Two which small e) end = rw (e, not_void (0xc0 + u / 64) ((0x80 + u % 64) ∷ rest) (inr (omega arith))) (sym (not_void u s which))
void_step bytes u rest s (Three large small e) end = rw (e, not_void (0xe0 + u / 4096) ((0x80 + u / 64 % 64) ∷ (0x80 + u % 64) ∷ rest) (inr (omega arith))) (sym (not_void u s (inr (omega arith))))

is_void-spelling : (s : List ℕ) → AreUnits s → is_void (spelling s) ≡ is_void s
is_void-spelling [] units = refl
is_void-spelling (u ∷ s) units = void_step (form u ++ spelling s) u (spelling s) s (shape_of u (spelling s) (units 0 0 (omega arith))) (is_end-spelling s (λ k d lt. units (suc k) d (omega arith)))

-- as many brackets, and the same after them
record SameBrackets (bytes s : List ℕ) : Type 0 where
  count : dimensions bytes ≡ dimensions s
  following : drop (dimensions s) bytes ≡ spelling (drop (dimensions s) s)

brackets_one : (u : ℕ) (rest s : List ℕ) → spelling (u ∷ s) ≡ u ∷ rest → SameBrackets rest s → SameBrackets (u ∷ rest) (u ∷ s)
brackets_one u rest s whole same = elim (cases_eq u 0x5b) [
  | inl bracket ↦ rw bracket (record { count = ap suc same.count; following = same.following })
  | inr other ↦ record { count = rw (ne_eqb u 0x5b other) refl; following = rw (ne_eqb u 0x5b other) (sym whole) }
]

brackets_none : (u b : ℕ) (bs s : List ℕ) → spelling (u ∷ s) ≡ b ∷ bs → (u ≡ 0) ⊎ (0x80 ≤ u) → 0x80 ≤ b → SameBrackets (b ∷ bs) (u ∷ s)
brackets_none u b bs s whole which high = record { count = no_brackets b bs (inr high) ∙ sym (no_brackets u s which); following = rw (no_brackets u s which) (sym whole) }

brackets_step : (bytes : List ℕ) (u : ℕ) (rest s : List ℕ) → spelling (u ∷ s) ≡ bytes → Shape bytes u rest → SameBrackets rest s → SameBrackets bytes (u ∷ s)
brackets_step bytes u rest s whole (One some small e) same = rw e (brackets_one u rest s (whole ∙ e) same)
brackets_step bytes u rest s whole (Two which small e) same = rw e (brackets_none u (0xc0 + u / 64) ((0x80 + u % 64) ∷ rest) s (whole ∙ e) which (omega arith))
brackets_step bytes u rest s whole (Three large small e) same = rw e (brackets_none u (0xe0 + u / 4096) ((0x80 + u / 64 % 64) ∷ (0x80 + u % 64) ∷ rest) s (whole ∙ e) (inr (omega arith)) (omega arith))

same_brackets : (s : List ℕ) → AreUnits s → SameBrackets (spelling s) s
same_brackets [] units = record { count = refl; following = refl }
same_brackets (u ∷ s) units = brackets_step (form u ++ spelling s) u (spelling s) s refl (shape_of u (spelling s) (units 0 0 (omega arith))) (same_brackets s (λ k d lt. units (suc k) d (omega arith)))

-- the bytes of a text are of the kind that its units are
pub kind_of-spelling : (s : List ℕ) → AreUnits s → kind_of (spelling s) ≡ kind_of s
kind_of-spelling s units =
    let following : AreUnits (drop (dimensions s) s) = All-drop (λ u. u < 2 ^ 16) (dimensions s) s units in
    rw (is_void-spelling s units, (same_brackets s units).count, (same_brackets s units).following, element_kind-spelling s units, element_kind-spelling (drop (dimensions s) s) following) refl

-- ---- what the call returns

kind_in : (bytes s : List ℕ) → IsSpelling bytes → units_of bytes ≡ s → kind_of bytes ≡ kind_of s
kind_in bytes s spelled is =
    let same : spelling s ≡ bytes = rw (← is) spelled.parts in
    rw (← same) (kind_of-spelling s (rw is at spelled.units))

-- what a result says of a text
pub record Reports (r : Option Kind) (s : Text) : Type 0 where
  pub found : IfSome r (λ kind. HasKind (type_kind kind) s)
  pub some : (kind : Kind) → (r ≡ Some kind) ↔ HasKind (type_kind kind) s
  pub none : (r ≡ None) ↔ (¬ IsDescriptor s)

named_kind : (s : Text) (t : TypeKind) → HasKind t s → (k : Kind) × (kind_of s ≡ Some k)
named_kind s VoidType has = (Void, kind_to s Void has)
named_kind s PrimitiveType has = (Primitive, kind_to s Primitive has)
named_kind s ClassType has = (Class, kind_to s Class has)
named_kind s ArrayType has = (Array, kind_to s Array has)

not_both : (k : Kind) (r : Option Kind) → r ≡ None → r ≡ Some k → ⊥
not_both k r none some = cc

reports_by : (r : Option Kind) (s : Text) → r ≡ kind_of s → Reports r s
reports_by None s e = record {
  found = tt;
  some = λ kind. (λ is. kind_from s kind (sym e ∙ is), λ has. e ∙ kind_to s kind has);
  none = (λ no is. let named = named_kind s is.0 is.1 in not_both named.0 None refl (e ∙ named.1), λ no. refl);
}
reports_by (Some k) s e = record {
  found = kind_from s k (sym e);
  some = λ kind. (λ is. kind_from s kind (sym e ∙ is), λ has. e ∙ kind_to s kind has);
  none = (λ no is. not_both k (Some k) no refl, λ no. absurd (no (type_kind k, kind_from s k (sym e))));
}

pub reports : (r : Option Kind) (bytes s : List ℕ) → IsSpelling bytes → units_of bytes ≡ s → r ≡ kind_of bytes → Reports r s
reports r bytes s spelled is e = reports_by r s (e ∙ kind_in bytes s spelled is)

-- ---- letters of a shorty

bracket_letter : (d : ℕ) (s : Text) → 1 ≤ d → shorty_letter (replicate d 0x5b ++ s) ≡ 0x4c
bracket_letter zero s some = absurd (omega arith)
bracket_letter (suc d) s some = refl

class_letter : (s : Text) → IsClass s → shorty_letter s ≡ 0x4c
class_letter s is = rw is.is refl

array_letter : (s : Text) → IsArray s → shorty_letter s ≡ 0x4c
array_letter s is = rw is.is (bracket_letter is.dimensions is.element is.some)

pub reference_letter : (k : Kind) (s : Text) → HasKind (type_kind k) s → (k ≡ Class) ⊎ (k ≡ Array) → 0x4c ≡ shorty_letter s
reference_letter k s has (inl class) = sym (class_letter s (rw class at has))
reference_letter k s has (inr array) = sym (array_letter s (rw array at has))
