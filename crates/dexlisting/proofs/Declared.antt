-- What classes declare in a full listing, by its numbers.
use Rattle.std.proofs.Common.{ℕ, suc, zero, ◌≡◌, ◌+◌, ◌<◌, ◌≤◌, Some, None, Option, List, [], ◌∷◌, ◌++◌, length, map, drop, get_or, refl, ap, sym, ◌∙◌, subst, arith, append_assoc}
use Rattle.std.specs.Prelude.{All, IfSome, MatchOption, codes}
use Rattle.std.specs.Borrow.{Bor}
use Rattle.std.specs.List.{flat_map}
use Rattle.std.specs.Option.{option_map, option_map_or}
use Rattle.std.specs.Slice.{IsItemAt}
use Rattle.std.proofs.lemmas.List.{get_or-map, length-map, drop_more}
use Rattle.std.proofs.lemmas.List.Elements.{All-head, All-tail}
use Rattle.dexspec.specs.Texts.{Text}
use Rattle.dexspec.specs.Mentions.{Mentions}
use Rattle.dexspec.specs.Values.{Values, NoValues, ThenValue}
use Rattle.dexspec.specs.Classes.{FieldDef, MethodDef}
use Rattle.dexval.specs.declared.value.Value.{Value}
use Rattle.dexval.specs.declared.annotation.Annotation.{Annotation}
use Rattle.dexval.specs.declared.set.AnnotationSet.{AnnotationSet}
use Rattle.dexval.specs.Code.{value_of, annotation_of, set_of}
use Rattle.dexval.specs.Numbered.{NumberedSet, NumberedValue, values_of_list, value_in, values_in, annotation_in, set_in, method_at, IsKnown, AreKnown, IsKnownAnnotation, IsKnownSet}
use Rattle.dexout.specs.Printed.{count_text}
use Rattle.dexdebug.specs.Debug.{NumberedDebug}
use Rattle.dexdebug.specs.Meaning.{debug_in, IsKnownDebug}
use Rattle.dexmembers.specs.Borrowed.{IsBorrowedSet}
use Rattle.dexmembers.specs.Numbered.{NumberedField, NumberedMethod, field_in, method_in}
use Rattle.dexlisting.proofs.ValueTexts.{value_known}
use Rattle.dexlisting.specs.FullListing.{debug_lines, annotation_line, set_lines, parameter_lines, full_field_lines, static_field_lines, instance_field_lines, full_method_lines}
use Rattle.dexlisting.specs.internal.Known.{meant_value, field_lines}

-- ---- sets

-- a set is borrowed as one alone
pub one_set : (o : Option (Bor AnnotationSet)) (s t : NumberedSet) → IsBorrowedSet o s → IsBorrowedSet o t → s ≡ t
one_set None s t is too = is ∙ sym too
one_set (Some set) s t is too = sym is ∙ too

pub set_shown : (m : Mentions) (blanks : List ℕ) (xs : List Annotation) → flat_map (λ x. annotation_line blanks (annotation_in m (annotation_of x))) xs ≡ set_lines blanks (set_in m (map annotation_of xs))
set_shown m blanks [] = refl
set_shown m blanks (x ∷ xs) = ap (λ r. annotation_line blanks (annotation_in m (annotation_of x)) ++ r) (set_shown m blanks xs)

pub set_known : (m : Mentions) (xs : List Annotation) → IsKnownSet m (map annotation_of xs) → All (λ x. IsKnownAnnotation m (annotation_of x)) xs
set_known m xs known = λ k d lt. subst (IsKnownAnnotation m) (get_or-map annotation_of xs k d (annotation_of d) lt) (known k (annotation_of d) (omega (arith, length-map xs annotation_of, lt)))

-- ---- values of fields

-- a value that is lent from a place of the values, or none past their end
pub lent : (vs : List Value) (i : ℕ) (r : Option (Bor Value)) → IsItemAt vs i r → MatchOption r (length vs ≤ i) (λ x. (i < length vs) × (x.now ≡ get_or vs i x.now))
lent vs i None h = h.3
lent vs i (Some x) h = (h.3.0, h.1)

abbrev pub values_from : Mentions → List Value → Values
values_from m vs = values_in m (values_of_list (map value_of vs))

nothing_left : (i : ℕ) → drop {A = Value} i [] ≡ []
nothing_left zero = refl
nothing_left (suc i) = refl

fewer : (r : Option (Bor Value)) (i : ℕ) → MatchOption r (length {A = Value} [] ≤ suc i) (λ x. (suc i < length {A = Value} []) × (x.now ≡ get_or [] (suc i) x.now)) → MatchOption r (length {A = Value} [] ≤ i) (λ x. (i < length {A = Value} []) × (x.now ≡ get_or [] i x.now))
fewer None i h = omega arith
fewer (Some y) i h = absurd (omega (arith, h.0))

within : (r : Option (Bor Value)) (i : ℕ) (vs : List Value) (v : Value) → MatchOption r (length (v ∷ vs) ≤ suc i) (λ x. (suc i < length (v ∷ vs)) × (x.now ≡ get_or (v ∷ vs) (suc i) x.now)) → MatchOption r (length vs ≤ i) (λ x. (i < length vs) × (x.now ≡ get_or vs i x.now))
within None i vs v h = omega (arith, h)
within (Some y) i vs v h = (omega (arith, h.0), h.1)

-- the lines of the fields from one on are its own and those of the fields after it
pub field_next : (m : Mentions) (words : List ℕ) (fs : List NumberedField) (vs : List Value) (i : ℕ) (f : NumberedField) (r : Option (Bor Value)) → i < length fs → f ≡ get_or fs i f
    → MatchOption r (length vs ≤ i) (λ x. (i < length vs) × (x.now ≡ get_or vs i x.now))
    → field_lines words (map (field_in m) (drop i fs)) (values_from m (drop i vs))
    ≡ full_field_lines words (field_in m f) (option_map (meant_value m) r) ++ field_lines words (map (field_in m) (drop (i + 1) fs)) (values_from m (drop (i + 1) vs))
field_next m words [] vs i f r lt is lends = absurd (omega (arith, lt))
field_next m words (x ∷ xs) [] zero f None lt is lends = ap (λ y. full_field_lines words (field_in m y) None ++ field_lines words (map (field_in m) xs) NoValues) (sym is)
field_next m words (x ∷ xs) [] zero f (Some y) lt is lends = absurd (omega (arith, lends.0))
field_next m words (x ∷ xs) (v ∷ vs) zero f None lt is lends = absurd (omega (arith, lends))
field_next m words (x ∷ xs) (v ∷ vs) zero f (Some y) lt is lends =
    ap (λ z. full_field_lines words (field_in m z) (Some (value_in m (value_of v))) ++ field_lines words (map (field_in m) xs) (values_from m vs)) (sym is)
    ∙ ap (λ z. full_field_lines words (field_in m f) (Some (value_in m (value_of z))) ++ field_lines words (map (field_in m) xs) (values_from m vs)) (sym lends.1)
field_next m words (x ∷ xs) [] (suc i) f r lt is lends = let next : suc i + 1 ≡ suc (i + 1) = omega arith in rw next (ap (λ vs. field_lines words (map (field_in m) (drop i xs)) (values_from m vs)) (sym (nothing_left i)) ∙ field_next m words xs [] i f r (omega (arith, lt)) is (fewer r i lends)
    ∙ ap (λ vs. full_field_lines words (field_in m f) (option_map (meant_value m) r) ++ field_lines words (map (field_in m) (drop (i + 1) xs)) (values_from m vs)) (nothing_left (i + 1)))
field_next m words (x ∷ xs) (v ∷ vs) (suc i) f r lt is lends = let next : suc i + 1 ≡ suc (i + 1) = omega arith in rw next (field_next m words xs vs i f r (omega (arith, lt)) is (within r i vs v lends))

-- the lines of the sets from one on are its own and those of the sets after it
pub parameter_next : (m : Mentions) (sets : List NumberedSet) (i : ℕ) (s : NumberedSet) → i < length sets → s ≡ get_or sets i s
    → parameter_lines i (map (set_in m) (drop i sets)) ≡ (count_text (codes "    parameter ") i ++ (codes "\n" ++ set_lines (codes "      ") (set_in m s))) ++ parameter_lines (i + 1) (map (set_in m) (drop (i + 1) sets))
parameter_next m [] i s lt is = absurd (omega (arith, lt))
parameter_next m (x ∷ xs) i s lt is =
    let parts : drop i (x ∷ xs) ≡ s ∷ drop (i + 1) (x ∷ xs) = drop_more (x ∷ xs) i s lt ∙ ap (λ y. y ∷ drop (i + 1) (x ∷ xs)) (sym is) in
    let rest = parameter_lines (i + 1) (map (set_in m) (drop (i + 1) (x ∷ xs))) in
    ap (λ ys. parameter_lines i (map (set_in m) ys)) parts
    ∙ ap (λ r. count_text (codes "    parameter ") i ++ r) (sym (append_assoc (codes "\n") (set_lines (codes "      ") (set_in m s)) rest))
    ∙ sym (append_assoc (count_text (codes "    parameter ") i) (codes "\n" ++ set_lines (codes "      ") (set_in m s)) rest)

-- ---- members

-- the lines of static fields
pub static_fields_are : (fs : List FieldDef) (vs : Values) → field_lines (codes "  static-field ") fs vs ≡ static_field_lines fs vs
static_fields_are [] vs = refl
static_fields_are (f ∷ fs) NoValues = ap (λ r. full_field_lines (codes "  static-field ") f None ++ r) (static_fields_are fs NoValues)
static_fields_are (f ∷ fs) (ThenValue v vs) = ap (λ r. full_field_lines (codes "  static-field ") f (Some v) ++ r) (static_fields_are fs vs)

-- the lines of instance fields
pub instance_fields_are : (fs : List FieldDef) → field_lines (codes "  instance-field ") fs NoValues ≡ flat_map instance_field_lines fs
instance_fields_are [] = refl
instance_fields_are (f ∷ fs) = ap (λ r. instance_field_lines f ++ r) (instance_fields_are fs)

-- the lines of methods of a class
pub methods_are : (m : Mentions) (class : Text) (words : List ℕ) (xs : List NumberedMethod) → All (λ x. (method_at m x.number).class ≡ class) xs
    → flat_map (λ x. full_method_lines (method_at m x.number).class words (method_in m x)) xs ≡ flat_map (full_method_lines class words) (map (method_in m) xs)
methods_are m class words [] own = refl
methods_are m class words (x ∷ xs) own =
    ap (λ c. full_method_lines c words (method_in m x) ++ flat_map (λ y. full_method_lines (method_at m y.number).class words (method_in m y)) xs) (All-head (λ y. (method_at m y.number).class ≡ class) x xs own)
    ∙ ap (λ r. full_method_lines class words (method_in m x) ++ r) (methods_are m class words xs (All-tail (λ y. (method_at m y.number).class ≡ class) x xs own))

-- ---- what is lent

pub lent_known : (m : Mentions) (vs : List Value) (i : ℕ) (r : Option (Bor Value)) → MatchOption r (length vs ≤ i) (λ x. (i < length vs) × (x.now ≡ get_or vs i x.now)) → AreKnown m (values_of_list (map value_of vs)) → IfSome r (λ v. IsKnown m (value_of v.now))
lent_known m vs i None h known = tt
lent_known m vs i (Some x) h known = value_known m vs i x.now h.0 h.1 known

pub debug_known : (m : Mentions) (d : Option NumberedDebug) (r : Option (Bor NumberedDebug)) → MatchOption r (d ≡ None) (λ x. d ≡ Some x.now) → IfSome d (IsKnownDebug m) → IfSome r (λ x. IsKnownDebug m x.now)
debug_known m d None h known = tt
debug_known m d (Some x) h known = subst (λ o. IfSome o (IsKnownDebug m)) h known

pub debug_shown : (m : Mentions) (d : Option NumberedDebug) (r : Option (Bor NumberedDebug)) → MatchOption r (d ≡ None) (λ x. d ≡ Some x.now)
    → option_map_or (λ x. debug_lines (debug_in m x.now)) r [] ≡ option_map_or debug_lines (option_map (debug_in m) d) []
debug_shown m d None h = ap (λ o. option_map_or debug_lines (option_map (debug_in m) o) []) (sym h)
debug_shown m d (Some x) h = ap (λ o. option_map_or debug_lines (option_map (debug_in m) o) []) (sym h)
