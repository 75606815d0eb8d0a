-- A class's descriptor after its `L`, unit by unit, and names of members.
use Rattle.dexstr.proofs.Common.{◌≡◌, ℕ, suc, ◌+◌, ◌/◌, ◌%◌, ◌<◌, ◌≤◌, Bool, true, false, List, [], ◌∷◌, ◌++◌, ◌⊎◌, inl, inr, refl, ap, sym, ◌∙◌, length, All, arith, join_with_byte, cases_eq, ne_eqb, and_parts, true≢false, false≢true, All-cons, Text, form, spelling, AreUnits, IsNameUnit, IsMemberName, IsClassName, Shape, One, Two, Three, shape_of, ◌↔◌, ends_class, is_end, units_of, IsSpelling}

-- a unit of a name goes on
step_name : (u : ℕ) → IsNameUnit u → (begun : Bool) (s : List ℕ) → ends_class begun (u ∷ s) ≡ ends_class true s
step_name u is begun s = rw (ne_eqb u 0x3b is.1, ne_eqb u 0x2f is.3, ne_eqb u 0x2e is.0, ne_eqb u 0x5b is.2) refl

pub end_is : (s : List ℕ) → is_end s ≡ true → s ≡ []
end_is [] e = refl
end_is (u ∷ s) e = absurd (false≢true e)

-- what is left of a part, the other parts, and `;`
record Ends (begun : Bool) (s : List ℕ) : Type 0 where
  part : Text
  parts : List Text
  units : All IsNameUnit part
  some : begun ≡ false → 0 < length part
  names : All IsMemberName parts
  is : s ≡ join_with_byte 0x2f (part ∷ parts) ++ 0x3b ∷ []

join_cons : (u : ℕ) (p : Text) (ps : List Text) → join_with_byte 0x2f ((u ∷ p) ∷ ps) ≡ u ∷ join_with_byte 0x2f (p ∷ ps)
join_cons u p [] = refl
join_cons u p (q ∷ qs) = refl

ends_semicolon : (begun : Bool) (s : List ℕ) → (begun ≡ true) × (is_end s ≡ true) → Ends begun (0x3b ∷ s)
ends_semicolon begun s e = record {
  part = [];
  parts = [];
  units = λ k d lt. absurd (omega arith);
  some = λ no. absurd (true≢false (sym e.0 ∙ no));
  names = λ k d lt. absurd (omega arith);
  is = ap (λ (x : List ℕ). 0x3b ∷ x) (end_is s e.1);
}

ends_slash : (begun : Bool) (s : List ℕ) → begun ≡ true → Ends false s → Ends begun (0x2f ∷ s)
ends_slash begun s is ends = record {
  part = [];
  parts = ends.part ∷ ends.parts;
  units = λ k d lt. absurd (omega arith);
  some = λ no. absurd (true≢false (sym is ∙ no));
  names = All-cons IsMemberName ends.part ends.parts (record { some = ends.some refl; units = ends.units }) ends.names;
  is = ap (λ (x : List ℕ). 0x2f ∷ x) ends.is;
}

ends_name : (begun : Bool) (u : ℕ) (s : List ℕ) → IsNameUnit u → Ends true s → Ends begun (u ∷ s)
ends_name begun u s is ends = record {
  part = u ∷ ends.part;
  parts = ends.parts;
  units = All-cons IsNameUnit u ends.part is ends.units;
  some = λ no. omega arith;
  names = ends.names;
  is = rw join_cons (ap (λ (x : List ℕ). u ∷ x) ends.is);
}

ends_from : (begun : Bool) (s : List ℕ) → ends_class begun s ≡ true → Ends begun s
ends_from begun [] e = absurd (false≢true e)
ends_from begun (u ∷ s) e = elim (cases_eq u 0x3b) [
  | inl semicolon ↦ rw semicolon (ends_semicolon begun s (and_parts begun (is_end s) (rw semicolon at e)))
  | inr no_semicolon ↦ elim (cases_eq u 0x2f) [
    | inl slash ↦ let both = and_parts begun (ends_class false s) (rw slash at e) in rw slash (ends_slash begun s both.0 (ends_from false s both.1))
    | inr no_slash ↦ elim (cases_eq u 0x2e) [
      | inl dot ↦ absurd (false≢true (rw dot at e))
      | inr no_dot ↦ elim (cases_eq u 0x5b) [
        | inl bracket ↦ absurd (false≢true (rw bracket at e))
        | inr no_bracket ↦
            let is : IsNameUnit u = (no_dot, no_semicolon, no_bracket, no_slash) in
            ends_name begun u s is (ends_from true s (sym (step_name u is begun s) ∙ e))
      ]
    ]
  ]
]

ends_to : (begun : Bool) (p : Text) (ps : List Text) → All IsNameUnit p → (begun ≡ false → 0 < length p) → All IsMemberName ps → ends_class begun (join_with_byte 0x2f (p ∷ ps) ++ 0x3b ∷ []) ≡ true
ends_to false [] ps units some names = absurd (omega (arith, some refl))
ends_to true [] [] units some names = refl
ends_to true [] (q ∷ qs) units some names =
    let first = names 0 q (omega arith) in
    ends_to false q qs first.units (λ no. first.some) (λ k d lt. names (suc k) d (omega arith))
ends_to begun (u ∷ p) ps units some names = rw join_cons (step_name u (units 0 0 (omega arith)) begun (join_with_byte 0x2f (p ∷ ps) ++ 0x3b ∷ []) ∙ ends_to true p ps (λ k d lt. units (suc k) d (omega arith)) (λ no. absurd (true≢false no)) names)

-- the name of a class and `;`
pub record Named (s : List ℕ) : Type 0 where
  pub name : Text
  pub is : s ≡ name ++ 0x3b ∷ []
  pub named : IsClassName name

pub class_from : (s : List ℕ) → ends_class false s ≡ true → Named s
class_from s e =
    let ends = ends_from false s e in
    record {
      name = join_with_byte 0x2f (ends.part ∷ ends.parts);
      is = ends.is;
      named = record {
        parts = ends.part ∷ ends.parts;
        some = omega arith;
        names = All-cons IsMemberName ends.part ends.parts (record { some = ends.some refl; units = ends.units }) ends.names;
        joined = refl;
      };
    }

class_parts : (parts : List Text) → 0 < length parts → All IsMemberName parts → ends_class false (join_with_byte 0x2f parts ++ 0x3b ∷ []) ≡ true
class_parts [] some names = absurd (omega arith)
class_parts (p ∷ ps) some names =
    let first = names 0 p (omega arith) in
    ends_to false p ps first.units (λ no. first.some) (λ k d lt. names (suc k) d (omega arith))

pub class_to : (name : Text) → IsClassName name → ends_class false (name ++ 0x3b ∷ []) ≡ true
class_to name is = rw is.joined (class_parts is.parts is.some is.names)

-- ---- in bytes

-- a byte of a longer spelling may be part of a name
pub high_byte : (b : ℕ) → 0x80 ≤ b → IsNameUnit b
high_byte b high = (omega arith, omega arith, omega arith, omega arith)

-- and so may a unit that has one
pub long_unit : (u : ℕ) → (u ≡ 0) ⊎ (0x80 ≤ u) → IsNameUnit u
long_unit u (inl none) = (omega arith, omega arith, omega arith, omega arith)
long_unit u (inr more) = high_byte u more

class_step : (begun : Bool) (bytes : List ℕ) (u : ℕ) (rest s : List ℕ) → Shape bytes u rest → ((b : Bool) → ends_class b rest ≡ ends_class b s) → is_end rest ≡ is_end s → ends_class begun bytes ≡ ends_class begun (u ∷ s)
class_step begun bytes u rest s (One some small e) same end = rw (e, same false, same true, end) refl
class_step begun bytes u rest s (Two which small e) same end =
    rw (e, step_name (0xc0 + u / 64) (high_byte (0xc0 + u / 64) (omega arith)) begun ((0x80 + u % 64) ∷ rest), step_name (0x80 + u % 64) (high_byte (0x80 + u % 64) (omega arith)) true rest, same true)
    (sym (step_name u (long_unit u which) begun s))
class_step begun bytes u rest s (Three large small e) same end =
    rw (e, step_name (0xe0 + u / 4096) (high_byte (0xe0 + u / 4096) (omega arith)) begun ((0x80 + u / 64 % 64) ∷ (0x80 + u % 64) ∷ rest), step_name (0x80 + u / 64 % 64) (high_byte (0x80 + u / 64 % 64) (omega arith)) true ((0x80 + u % 64) ∷ rest), step_name (0x80 + u % 64) (high_byte (0x80 + u % 64) (omega arith)) true rest, same true)
    (sym (step_name u (long_unit u (inr (omega arith))) begun s))

some_bytes : (bytes : List ℕ) (u : ℕ) (rest : List ℕ) → Shape bytes u rest → is_end bytes ≡ false
some_bytes bytes u rest (One some small e) = rw e refl
some_bytes bytes u rest (Two which small e) = rw e refl
some_bytes bytes u rest (Three large small e) = rw e refl

pub is_end-spelling : (s : List ℕ) → AreUnits s → is_end (spelling s) ≡ is_end s
is_end-spelling [] units = refl
is_end-spelling (u ∷ s) units = some_bytes (form u ++ spelling s) u (spelling s) (shape_of u (spelling s) (units 0 0 (omega arith)))

-- the bytes of a text end a class's descriptor where its units do
pub ends_class-spelling : (s : List ℕ) → AreUnits s → (begun : Bool) → ends_class begun (spelling s) ≡ ends_class begun s
ends_class-spelling [] units begun = refl
ends_class-spelling (u ∷ s) units begun =
    let rest : AreUnits s = λ k d lt. units (suc k) d (omega arith) in
    class_step begun (form u ++ spelling s) u (spelling s) s (shape_of u (spelling s) (units 0 0 (omega arith))) (ends_class-spelling s rest) (is_end-spelling s rest)

-- ---- a text may name a member where its bytes, as units, may

name_to : (bytes : List ℕ) (u : ℕ) (rest s : List ℕ) → Shape bytes u rest → All IsNameUnit (u ∷ s) → All IsNameUnit rest → All IsNameUnit bytes
name_to bytes u rest s (One some small e) units tail = rw e (All-cons IsNameUnit u rest (units 0 0 (omega arith)) tail)
name_to bytes u rest s (Two which small e) units tail = rw e (All-cons IsNameUnit (0xc0 + u / 64) ((0x80 + u % 64) ∷ rest) (high_byte (0xc0 + u / 64) (omega arith)) (All-cons IsNameUnit (0x80 + u % 64) rest (high_byte (0x80 + u % 64) (omega arith)) tail))
name_to bytes u rest s (Three large small e) units tail =
    rw e (All-cons IsNameUnit (0xe0 + u / 4096) ((0x80 + u / 64 % 64) ∷ (0x80 + u % 64) ∷ rest) (high_byte (0xe0 + u / 4096) (omega arith)) (All-cons IsNameUnit (0x80 + u / 64 % 64) ((0x80 + u % 64) ∷ rest) (high_byte (0x80 + u / 64 % 64) (omega arith)) (All-cons IsNameUnit (0x80 + u % 64) rest (high_byte (0x80 + u % 64) (omega arith)) tail)))

-- the first unit may be part of a name, and the rest of the bytes too
record FirstNamed (u : ℕ) (rest : List ℕ) : Type 0 where
  first : IsNameUnit u
  tail : All IsNameUnit rest

name_from : (bytes : List ℕ) (u : ℕ) (rest : List ℕ) → Shape bytes u rest → All IsNameUnit bytes → FirstNamed u rest
name_from bytes u rest (One some small e) units = let all = rw e at units in record { first = all 0 0 (omega arith); tail = λ k d lt. all (suc k) d (omega arith) }
name_from bytes u rest (Two which small e) units = let all = rw e at units in record { first = long_unit u which; tail = λ k d lt. all (suc (suc k)) d (omega arith) }
name_from bytes u rest (Three large small e) units = let all = rw e at units in record { first = long_unit u (inr (omega arith)); tail = λ k d lt. all (suc (suc (suc k))) d (omega arith) }

names_to : (s : List ℕ) → AreUnits s → All IsNameUnit s → All IsNameUnit (spelling s)
names_to [] units all = all
names_to (u ∷ s) units all = name_to (form u ++ spelling s) u (spelling s) s (shape_of u (spelling s) (units 0 0 (omega arith))) all (names_to s (λ k d lt. units (suc k) d (omega arith)) (λ k d lt. all (suc k) d (omega arith)))

names_from : (s : List ℕ) → AreUnits s → All IsNameUnit (spelling s) → All IsNameUnit s
names_from [] units all = all
names_from (u ∷ s) units all =
    let named = name_from (form u ++ spelling s) u (spelling s) (shape_of u (spelling s) (units 0 0 (omega arith))) all in
    All-cons IsNameUnit u s named.first (names_from s (λ k d lt. units (suc k) d (omega arith)) named.tail)

some_length : (bytes : List ℕ) (u : ℕ) (rest : List ℕ) → Shape bytes u rest → 0 < length bytes
some_length bytes u rest (One some small e) = rw e (omega arith)
some_length bytes u rest (Two which small e) = rw e (omega arith)
some_length bytes u rest (Three large small e) = rw e (omega arith)

some_to : (s : List ℕ) → AreUnits s → 0 < length s → 0 < length (spelling s)
some_to [] units some = some
some_to (u ∷ s) units some = some_length (form u ++ spelling s) u (spelling s) (shape_of u (spelling s) (units 0 0 (omega arith)))

some_from : (s : List ℕ) → 0 < length (spelling s) → 0 < length s
some_from [] some = some
some_from (u ∷ s) some = omega arith

pub member_name : (bytes s : List ℕ) → IsSpelling bytes → units_of bytes ≡ s → IsMemberName bytes ↔ IsMemberName s
member_name bytes s spelled is =
    let same : spelling s ≡ bytes = rw (← is) spelled.parts in
    let units : AreUnits s = rw is at spelled.units in
    rw (← same) (λ named. record { some = some_from s named.some; units = names_from s units named.units }, λ named. record { some = some_to s units named.some; units = names_to s units named.units })
