-- The bytes of values and elements in sequence.
use Rattle.dexval.proofs.Common.{◌≡◌, ℕ, zero, suc, ◌+◌, ◌<◌, ◌≤◌, List, [], ◌∷◌, ◌++◌, get_or, length, map, sum_by, refl, sym, ap, ◌∙◌, subst, arith, append_assoc, length-map, get_or-map, sum_by-cons, flat_map, uleb128, Value, Element, value_of, element_of, NumberedValue, values_of_list, elements_of_list, values_count, elements_count, numbered_weight, numbered_values_weight, numbered_elements_weight, numbered_bytes, numbered_values_bytes, numbered_elements_bytes, Box, Vec, ℤ, EncodedAnnotation, NumberedAnnotation, NoElement, Plain, Named, Array, Annotated, ByteLiteral, ShortLiteral, CharLiteral, IntLiteral, LongLiteral, FloatLiteral, DoubleLiteral, StringReference, TypeReference, FieldReference, MethodReference, EnumReference, value_step, element_step, annotation_step, encoded_of, encoded_elements}
use Rattle.dexval.specs.declared.value.Value.TheVariants as variants
use Rattle.dexval.specs.declared.value.Value.TheOpen as layers
use Rattle.dexval.specs.declared.value.Value.TheFolds.{fold-roll-Value, fold_out-Element, fold_out-EncodedAnnotation}

-- ---- Each variant of a value of the code, as contracts see it

pub byte_is : (z : ℤ) → value_of (variants.Byte z) ≡ Plain (ByteLiteral z)
byte_is z = ap value_of (sym (variants.rolls-Byte z)) ∙ fold-roll-Value NumberedValue (ℕ × NumberedValue) NumberedValue value_step element_step annotation_step (layers.Byte z)

pub short_is : (z : ℤ) → value_of (variants.Short z) ≡ Plain (ShortLiteral z)
short_is z = ap value_of (sym (variants.rolls-Short z)) ∙ fold-roll-Value NumberedValue (ℕ × NumberedValue) NumberedValue value_step element_step annotation_step (layers.Short z)

pub char_is : (u : ℕ) → value_of (variants.Char u) ≡ Plain (CharLiteral u)
char_is u = ap value_of (sym (variants.rolls-Char u)) ∙ fold-roll-Value NumberedValue (ℕ × NumberedValue) NumberedValue value_step element_step annotation_step (layers.Char u)

pub int_is : (z : ℤ) → value_of (variants.Int z) ≡ Plain (IntLiteral z)
int_is z = ap value_of (sym (variants.rolls-Int z)) ∙ fold-roll-Value NumberedValue (ℕ × NumberedValue) NumberedValue value_step element_step annotation_step (layers.Int z)

pub long_is : (z : ℤ) → value_of (variants.Long z) ≡ Plain (LongLiteral z)
long_is z = ap value_of (sym (variants.rolls-Long z)) ∙ fold-roll-Value NumberedValue (ℕ × NumberedValue) NumberedValue value_step element_step annotation_step (layers.Long z)

pub float_is : (bits : ℕ) → value_of (variants.Float bits) ≡ Plain (FloatLiteral bits)
float_is bits = ap value_of (sym (variants.rolls-Float bits)) ∙ fold-roll-Value NumberedValue (ℕ × NumberedValue) NumberedValue value_step element_step annotation_step (layers.Float bits)

pub double_is : (bits : ℕ) → value_of (variants.Double bits) ≡ Plain (DoubleLiteral bits)
double_is bits = ap value_of (sym (variants.rolls-Double bits)) ∙ fold-roll-Value NumberedValue (ℕ × NumberedValue) NumberedValue value_step element_step annotation_step (layers.Double bits)

pub string_is : (i : ℕ) → value_of (variants.String i) ≡ Named StringReference i
string_is i = ap value_of (sym (variants.rolls-String i)) ∙ fold-roll-Value NumberedValue (ℕ × NumberedValue) NumberedValue value_step element_step annotation_step (layers.String i)

pub typ_is : (i : ℕ) → value_of (variants.Typ i) ≡ Named TypeReference i
typ_is i = ap value_of (sym (variants.rolls-Typ i)) ∙ fold-roll-Value NumberedValue (ℕ × NumberedValue) NumberedValue value_step element_step annotation_step (layers.Typ i)

pub field_is : (i : ℕ) → value_of (variants.Field i) ≡ Named FieldReference i
field_is i = ap value_of (sym (variants.rolls-Field i)) ∙ fold-roll-Value NumberedValue (ℕ × NumberedValue) NumberedValue value_step element_step annotation_step (layers.Field i)

pub method_is : (i : ℕ) → value_of (variants.Method i) ≡ Named MethodReference i
method_is i = ap value_of (sym (variants.rolls-Method i)) ∙ fold-roll-Value NumberedValue (ℕ × NumberedValue) NumberedValue value_step element_step annotation_step (layers.Method i)

pub enum_is : (i : ℕ) → value_of (variants.Enum i) ≡ Named EnumReference i
enum_is i = ap value_of (sym (variants.rolls-Enum i)) ∙ fold-roll-Value NumberedValue (ℕ × NumberedValue) NumberedValue value_step element_step annotation_step (layers.Enum i)

pub array_is : (values : Box (Vec Value)) → value_of (variants.Array values) ≡ Array (values_of_list (map value_of values.value.items))
array_is values = ap value_of (sym (variants.rolls-Array values)) ∙ fold-roll-Value NumberedValue (ℕ × NumberedValue) NumberedValue value_step element_step annotation_step (layers.Array values)

pub annotation_is : (annotation : Box EncodedAnnotation) → value_of (variants.Annotation annotation) ≡ encoded_of annotation.value
annotation_is annotation =
    ap value_of (sym (variants.rolls-Annotation annotation)) ∙ fold-roll-Value NumberedValue (ℕ × NumberedValue) NumberedValue value_step element_step annotation_step (layers.Annotation annotation)
    ∙ fold_out-EncodedAnnotation NumberedValue (ℕ × NumberedValue) NumberedValue value_step element_step annotation_step annotation.value

-- the annotation of a visibility
abbrev pub annotation_with : ℕ → NumberedValue → NumberedAnnotation
annotation_with visibility (Annotated t es) = record { visibility = visibility; type = t; elements = es }
annotation_with visibility _ = record { visibility = visibility; type = 0; elements = NoElement }

-- an element is its name and its value
pub element_is : (e : Element) → element_of e ≡ (e.name, value_of e.value)
element_is e = fold_out-Element NumberedValue (ℕ × NumberedValue) NumberedValue value_step element_step annotation_step e

-- ---- values

-- the bytes of a value of the code
abbrev pub value_spelled : Value → List ℕ
value_spelled v = numbered_bytes (value_of v)

pub values_are_spelled : (xs : List Value) → flat_map value_spelled xs ≡ numbered_values_bytes (values_of_list (map value_of xs))
values_are_spelled [] = refl
values_are_spelled (x ∷ xs) = ap (λ (l : List ℕ). value_spelled x ++ l) (values_are_spelled xs)

pub count_of_list : (ys : List NumberedValue) → values_count (values_of_list ys) ≡ length ys
count_of_list [] = refl
count_of_list (y ∷ ys) = omega (arith, count_of_list ys)

-- the number of values
pub count_values_is : (xs : List Value) → values_count (values_of_list (map value_of xs)) ≡ length xs
count_values_is xs = count_of_list (map value_of xs) ∙ length-map xs value_of

-- ---- elements

-- the bytes of an element of the code
abbrev pub element_spelled : Element → List ℕ
element_spelled e = uleb128 e.name ++ value_spelled e.value

pub elements_are_spelled : (xs : List Element) → flat_map element_spelled xs ≡ numbered_elements_bytes (elements_of_list (map element_of xs))
elements_are_spelled [] = refl
elements_are_spelled (x ∷ xs) =
    ap (λ (l : List ℕ). element_spelled x ++ l) (elements_are_spelled xs) ∙ append_assoc (uleb128 x.name) (value_spelled x.value) (numbered_elements_bytes (elements_of_list (map element_of xs)))
    ∙ ap (λ (e : ℕ × NumberedValue). numbered_elements_bytes (elements_of_list (e ∷ map element_of xs))) (sym (element_is x))

elements_count_of_list : (ys : List (ℕ × NumberedValue)) → elements_count (elements_of_list ys) ≡ length ys
elements_count_of_list [] = refl
elements_count_of_list ((n, y) ∷ ys) = omega (arith, elements_count_of_list ys)

-- the number of elements
pub count_elements_is : (xs : List Element) → elements_count (elements_of_list (map element_of xs)) ≡ length xs
count_elements_is xs = elements_count_of_list (map element_of xs) ∙ length-map xs element_of

-- ---- weights of members

light_at : (ys : List NumberedValue) (i : ℕ) (y : NumberedValue) → i < length ys → numbered_weight (get_or ys i y) ≤ numbered_values_weight (values_of_list ys)
light_at [] i y lt = absurd (omega arith)
light_at (x ∷ xs) zero y lt = omega arith
light_at (x ∷ xs) (suc i) y lt = omega (arith, light_at xs i y (omega arith))

-- a value weighs at most as much as all values
pub value_lighter : (xs : List Value) (i : ℕ) (d : Value) → i < length xs → d ≡ get_or xs i d → numbered_weight (value_of d) ≤ numbered_values_weight (values_of_list (map value_of xs))
value_lighter xs i d lt e =
    subst (λ (x : NumberedValue). numbered_weight x ≤ numbered_values_weight (values_of_list (map value_of xs))) (get_or-map value_of xs i d (value_of d) lt ∙ ap value_of (sym e))
    (light_at (map value_of xs) i (value_of d) (omega (arith, length-map xs value_of)))

light_element_at : (ys : List (ℕ × NumberedValue)) (i : ℕ) (y : ℕ × NumberedValue) → i < length ys → numbered_weight (get_or ys i y).1 ≤ numbered_elements_weight (elements_of_list ys)
light_element_at [] i y lt = absurd (omega arith)
light_element_at ((n, x) ∷ xs) zero y lt = omega arith
light_element_at ((n, x) ∷ xs) (suc i) y lt = omega (arith, light_element_at xs i y (omega arith))

-- the value of an element weighs at most as much as all elements
pub element_lighter : (xs : List Element) (i : ℕ) (d : Element) → i < length xs → d ≡ get_or xs i d → numbered_weight (value_of d.value) ≤ numbered_elements_weight (elements_of_list (map element_of xs))
element_lighter xs i d lt e =
    subst (λ (x : ℕ × NumberedValue). numbered_weight x.1 ≤ numbered_elements_weight (elements_of_list (map element_of xs))) (get_or-map element_of xs i d (element_of d) lt ∙ ap element_of (sym e) ∙ element_is d)
    (light_element_at (map element_of xs) i (element_of d) (omega (arith, length-map xs element_of)))

-- ---- weights of lists

-- the weight of a value of the code
abbrev pub value_weighs : Value → ℕ
value_weighs v = numbered_weight (value_of v)

-- of an element
abbrev pub element_weighs : Element → ℕ
element_weighs e = 5 + value_weighs e.value

pub values_weigh : (xs : List Value) → sum_by value_weighs xs ≡ numbered_values_weight (values_of_list (map value_of xs))
values_weigh [] = refl
values_weigh (x ∷ xs) = omega (arith, sum_by-cons value_weighs x xs, values_weigh xs)

pub elements_weigh : (xs : List Element) → sum_by element_weighs xs ≡ numbered_elements_weight (elements_of_list (map element_of xs))
elements_weigh [] = refl
elements_weigh (x ∷ xs) = omega (arith, sum_by-cons element_weighs x xs, elements_weigh xs, ap (λ (e : ℕ × NumberedValue). numbered_elements_weight (elements_of_list (e ∷ map element_of xs))) (element_is x))

-- ---- The weights of what arrays and annotations of the code hold

-- the values of an array
pub array_lighter : (v : Value) (values : Box (Vec Value)) {xs : List Value} → v ≡ variants.Array values → xs ≡ values.value.items → numbered_values_weight (values_of_list (map value_of xs)) + 2 < numbered_weight (value_of v)
array_lighter v values {xs} e same = omega (arith, ap numbered_weight (ap value_of e ∙ array_is values), ap (λ (l : List Value). numbered_values_weight (values_of_list (map value_of l))) same)

-- the elements of an annotation
pub annotation_lighter : (v : Value) (annotation : Box EncodedAnnotation) → v ≡ variants.Annotation annotation → numbered_elements_weight (encoded_elements annotation.value) + 11 < numbered_weight (value_of v)
annotation_lighter v annotation e = omega (arith, ap numbered_weight (ap value_of e ∙ annotation_is annotation))
