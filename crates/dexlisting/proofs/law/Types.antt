-- Type descriptors of a listing are read back: none begins another.
use Rattle.dexspec.proofs.Common.{◌≡◌, ◌≢◌, ℕ, zero, suc, ◌^◌, ◌<◌, ◌⊎◌, ◌&&◌, ◌==◌, and_parts, Bool, true, false, List, [], ◌∷◌, ◌++◌, if◌then◌else◌, refl, sym, ap, subst, ◌∙◌, true≢false, AllByRecursion, All-contains, AllPass-from_list_all, inl, inr, arith, codes, replicate, join_with_byte}
use Rattle.std.proofs.Common.{nat_le, ap₂, ne_eqb, append_assoc, eqb-true, leb-true, ◌≤◌}
use Rattle.dexspec.specs.Texts.{Text, AreUnits}
use Rattle.dexspec.specs.Names.{IsNameUnit, IsMemberName, primitive_letters, IsPrimitive, IsClass, HasKind, TypeKind, VoidType, PrimitiveType, ClassType, ArrayType, IsDescriptor, IsValueType, IsReferenceType}
use Rattle.dexout.specs.Printed.{unit_text, shown}
use Rattle.dexlisting.specs.FullListing.{text_or_dash}
use Rattle.dexlisting.proofs.law.Reads.{Reads, Anything, IfAny, part, reads_option}
use Rattle.dexlisting.proofs.law.Lists.{each_from_all, each_so, each_joined}
use Rattle.dexlisting.proofs.law.Texts.{reads_unit, unit_begins}

-- ---- where a descriptor ends

-- no units
abbrev pub is_over : Text → Bool
is_over [] = true
is_over (u ∷ s) = false

-- the first `;` is the last unit
abbrev pub closes : Text → Bool
closes [] = false
closes (u ∷ s) = if u == 0x3b then is_over s else closes s

-- after the `[`, one letter, or what begins with `L` and closes
abbrev pub is_whole : Text → Bool
is_whole [] = false
is_whole (u ∷ s) = if u == 0x5b then is_whole s else (if u == 0x4c then closes s else nat_le 0x41 u && is_over s)

-- nothing is left of two such texts
over : (s : Text) → is_over s ≡ true → s ≡ []
over [] e = refl
over (u ∷ s) e = absurd (true≢false (sym e))

-- so what follows them is equal
both_over : (s t r q : List ℕ) → is_over s ≡ true → is_over t ≡ true → shown s ++ r ≡ shown t ++ q → (s ≡ t) × (r ≡ q)
both_over s t r q es et e =
    let a = over s es in
    let b = over t et in
    (a ∙ sym b, sym (ap (λ z. shown z ++ r) a) ∙ e ∙ ap (λ z. shown z ++ q) b)

-- both of two tests that are the same way
both_ways : (A : Type 0) (c x y z w : Bool) → (if c then x else y) ≡ true → (if c then z else w) ≡ true
    → (x ≡ true → z ≡ true → A) → (y ≡ true → w ≡ true → A) → A
both_ways A true x y z w e f one other = one e f
both_ways A false x y z w e f one other = other e f

-- the tail of two texts of which the heads are the same
module _ (u v : ℕ) (s t r q : List ℕ) (same : u ≡ v) where
  -- with the heads before them
  headed : (s ≡ t) × (r ≡ q) → (u ∷ s ≡ v ∷ t) × (r ≡ q)
  headed p = (ap₂ ◌∷◌ same p.0, p.1)

-- unit by unit, up to the `;`
closes_from : (s t r q : List ℕ) → AllByRecursion (λ u. u < 2 ^ 16) s → AllByRecursion (λ u. u < 2 ^ 16) t → closes s ≡ true → closes t ≡ true
    → shown s ++ r ≡ shown t ++ q → (s ≡ t) × (r ≡ q)
closes_from [] t r q gs gt cs ct e = absurd (true≢false (sym cs))
closes_from (u ∷ s) [] r q gs gt cs ct e = absurd (true≢false (sym ct))
closes_from (u ∷ s) (v ∷ t) r q gs gt cs ct e =
    let p = part reads_unit u v (shown s) (shown t) r q gs.0 gt.0 tt tt e in
    let rec = λ (a : closes s ≡ true) (b : closes t ≡ true). closes_from s t r q gs.1 gt.1 a b p.1 in
    headed u v s t r q p.0 (both_ways ((s ≡ t) × (r ≡ q)) (u == 0x3b) (is_over s) (closes s) (is_over t) (closes t) cs
    (subst (λ w. closes (w ∷ t) ≡ true) (sym p.0) ct) (λ a b. both_over s t r q a b p.1) rec)

-- unit by unit, to the end of the descriptor
whole_from : (s t r q : List ℕ) → AllByRecursion (λ u. u < 2 ^ 16) s → AllByRecursion (λ u. u < 2 ^ 16) t → is_whole s ≡ true → is_whole t ≡ true
    → shown s ++ r ≡ shown t ++ q → (s ≡ t) × (r ≡ q)
whole_from [] t r q gs gt cs ct e = absurd (true≢false (sym cs))
whole_from (u ∷ s) [] r q gs gt cs ct e = absurd (true≢false (sym ct))
whole_from (u ∷ s) (v ∷ t) r q gs gt cs ct e =
    let p = part reads_unit u v (shown s) (shown t) r q gs.0 gt.0 tt tt e in
    let rec = λ (a : is_whole s ≡ true) (b : is_whole t ≡ true). whole_from s t r q gs.1 gt.1 a b p.1 in
    let A = (s ≡ t) × (r ≡ q) in
    headed u v s t r q p.0 (both_ways A (u == 0x5b) (is_whole s) (if u == 0x4c then closes s else nat_le 0x41 u && is_over s)
    (is_whole t) (if u == 0x4c then closes t else nat_le 0x41 u && is_over t) cs (subst (λ w. is_whole (w ∷ t) ≡ true) (sym p.0) ct) rec
    (λ a b. both_ways A (u == 0x4c) (closes s) (nat_le 0x41 u && is_over s) (closes t) (nat_le 0x41 u && is_over t) a b
    (λ x y. closes_from s t r q gs.1 gt.1 x y p.1)
    (λ x y. both_over s t r q (and_parts (nat_le 0x41 u) (is_over s) x).1 (and_parts (nat_le 0x41 u) (is_over t) y).1 p.1)))

-- ---- descriptors end so

-- the `;` after a name with none is the first
closes_at_end : (name : Text) → AllByRecursion (λ u. u ≢ 0x3b) name → closes (name ++ 0x3b ∷ []) ≡ true
closes_at_end [] all = refl
closes_at_end (u ∷ name) all = rw (ne_eqb u 0x3b all.0) (closes_at_end name all.1)

-- what holds of the units of each part, and of the sign between them, holds of all
joined_all : (P : ℕ → Type 0) (c : ℕ) (parts : List Text) → P c → AllByRecursion (AllByRecursion P) parts → AllByRecursion P (join_with_byte c parts)
joined_all P c [] pc all = tt
joined_all P c (x ∷ []) pc all = all.0
joined_all P c (x ∷ y ∷ xs) pc all = each_joined P x (c ∷ join_with_byte c (y ∷ xs)) all.0 (pc, joined_all P c (y ∷ xs) pc all.1)

-- a class ends with its `;`
class_whole : (s : Text) → IsClass s → is_whole s ≡ true
class_whole s h =
    let parts = each_so IsMemberName (λ part m. each_so IsNameUnit (λ u n. n.1) part (each_from_all IsNameUnit part m.units)) h.named.parts (each_from_all IsMemberName h.named.parts h.named.names) in
    let name = subst (AllByRecursion (λ u. u ≢ 0x3b)) (sym h.named.joined) (joined_all (λ u. u ≢ 0x3b) 0x2f h.named.parts (λ e. omega (arith, e)) parts) in
    ap is_whole h.is ∙ closes_at_end h.name name

-- a letter ends itself
primitive_whole : (s : Text) → IsPrimitive s → is_whole s ≡ true
primitive_whole s h = ap is_whole h.is
    ∙ All-contains (λ l. is_whole (l ∷ []) ≡ true) primitive_letters h.letter (AllPass-from_list_all (λ l. is_whole (l ∷ [])) primitive_letters refl) h.known

-- an array ends with its element
array_whole : (n : ℕ) (element : Text) → is_whole element ≡ true → is_whole (replicate n 0x5b ++ element) ≡ true
array_whole zero element e = e
array_whole (suc n) element e = array_whole n element e

-- which is a letter or a class
held_whole : (element : Text) → IsPrimitive element ⊎ IsClass element → is_whole element ≡ true
held_whole element (inl p) = primitive_whole element p
held_whole element (inr c) = class_whole element c

-- each descriptor ends so
descriptor_whole : (s : Text) (kind : TypeKind) → HasKind kind s → is_whole s ≡ true
descriptor_whole s VoidType h = ap is_whole h
descriptor_whole s PrimitiveType h = primitive_whole s h
descriptor_whole s ClassType h = class_whole s h
descriptor_whole s ArrayType h = ap is_whole h.is ∙ array_whole h.dimensions h.element (held_whole h.element h.held)

-- a descriptor of units of 16 bits
abbrev pub KnownType : Text → Type 0
KnownType t = IsDescriptor t × AreUnits t

-- a descriptor is read back
pub reads_type : Reads KnownType Anything shown
reads_type = record {
  read = λ x y r s gx gy fr fs e. whole_from x y r s (each_from_all (λ u. u < 2 ^ 16) x gx.1) (each_from_all (λ u. u < 2 ^ 16) y gy.1)
      (descriptor_whole x gx.0.0 gx.0.1) (descriptor_whole y gy.0.0 gy.0.1) e;
}

-- ---- the first sign of a descriptor

-- its first unit is a letter or a bracket
letter_first : (u : ℕ) (s : Text) → is_whole (u ∷ s) ≡ true → 0x41 ≤ u
letter_first u s = go (u == 0x5b) (u == 0x4c) refl refl
  where
    go : (array class : Bool) → (u == 0x5b) ≡ array → (u == 0x4c) ≡ class
        → (if array then is_whole s else (if class then closes s else nat_le 0x41 u && is_over s)) ≡ true → 0x41 ≤ u
    go true class f g e = omega (arith, eqb-true u 0x5b f)
    go false true f g e = omega (arith, eqb-true u 0x4c g)
    go false false f g e = leb-true 0x41 u (and_parts (nat_le 0x41 u) (is_over s) e).0

-- and so is its first sign
whole_begins : (t : Text) (w : ℕ) (r s : List ℕ) → is_whole t ≡ true → shown t ++ r ≡ w ∷ s → 0x41 ≤ w
whole_begins [] w r s h e = absurd (true≢false (sym h))
whole_begins (u ∷ t) w r s h e = elim (unit_begins u w (shown t ++ r) s (sym (append_assoc (unit_text u) (shown t) r) ∙ e)) [
  | inl mark ↦ omega (arith, mark)
  | inr plain ↦ omega (arith, plain.0, letter_first u t h)
]

-- a descriptor begins with a letter or a bracket
pub type_begins : (t : Text) (w : ℕ) (r s : List ℕ) → KnownType t → shown t ++ r ≡ w ∷ s → 0x41 ≤ w
type_begins t w r s g e = whole_begins t w r s (descriptor_whole t g.0.0 g.0.1) e

-- a type, or a dash for none, is read back
pub reads_type_or_dash : Reads (IfAny KnownType) Anything (text_or_dash shown)
reads_type_or_dash = reads_option (codes "-") reads_type (λ x r s g fr fs e. omega (arith, type_begins x 0x2d r s g e))

-- the descriptor of a class is known
pub known_class : (t : Text) → IsClass t → AreUnits t → KnownType t
known_class t h units = ((ClassType, h), units)

-- so is the type of a value
pub known_value : (t : Text) → IsValueType t → AreUnits t → KnownType t
known_value t (inl p) units = ((PrimitiveType, p), units)
known_value t (inr (inl c)) units = ((ClassType, c), units)
known_value t (inr (inr a)) units = ((ArrayType, a), units)

-- and a type that may have methods
pub known_reference : (t : Text) → IsReferenceType t → AreUnits t → KnownType t
known_reference t (inl c) units = ((ClassType, c), units)
known_reference t (inr a) units = ((ArrayType, a), units)
