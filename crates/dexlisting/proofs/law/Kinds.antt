-- The word that a value begins with is that of its kind.
use Rattle.dexspec.proofs.Common.{◌≡◌, ℕ, ◌<◌, Bool, true, false, List, [], ◌∷◌, ◌++◌, get_or, refl, sym, ap, ◌∙◌, arith, codes, append_assoc}
use Rattle.std.proofs.Common.{min}
use Rattle.dexspec.specs.Symbols.{FieldSymbol, MethodSymbol}
use Rattle.dexspec.specs.Values.{Value, ByteValue, ShortValue, CharValue, IntValue, LongValue, FloatValue, DoubleValue, StringValue, TypeValue, FieldValue, MethodValue, EnumValue, ArrayValue, AnnotationValue, NullValue, BooleanValue}
use Rattle.dexout.specs.Printed.{shown, quoted, place_text}
use Rattle.dexlisting.specs.Listing.{symbol_text}
use Rattle.dexlisting.specs.FullListing.{plain, literal_text, value_text, values_text, elements_text}
use Rattle.dexlisting.proofs.law.Words.{one_word}

-- the words that values begin with
abbrev kind_words : List (List ℕ)
kind_words = codes "byte " ∷ codes "short " ∷ codes "char " ∷ codes "int " ∷ codes "long " ∷ codes "float-bits " ∷ codes "double-bits " ∷ codes "string "
    ∷ codes "type " ∷ codes "field " ∷ codes "method " ∷ codes "enum " ∷ codes "array {" ∷ codes "annotation " ∷ codes "null" ∷ codes "true" ∷ codes "false" ∷ []

-- the place of its word in this list
abbrev word_of : Value → ℕ
word_of (ByteValue z) = 0
word_of (ShortValue z) = 1
word_of (CharValue u) = 2
word_of (IntValue z) = 3
word_of (LongValue z) = 4
word_of (FloatValue bits) = 5
word_of (DoubleValue bits) = 6
word_of (StringValue s) = 7
word_of (TypeValue t) = 8
word_of (FieldValue f) = 9
word_of (MethodValue m) = 10
word_of (EnumValue f) = 11
word_of (ArrayValue vs) = 12
word_of (AnnotationValue t es) = 13
word_of NullValue = 14
word_of (BooleanValue true) = 15
word_of (BooleanValue false) = 16

-- the kinds of values, by number
abbrev pub kind_of : Value → ℕ
kind_of (BooleanValue is) = 15
kind_of v = word_of v

-- what follows the word
abbrev after_word : Value → List ℕ
after_word (ByteValue z) = literal_text z
after_word (ShortValue z) = literal_text z
after_word (CharValue u) = place_text u
after_word (IntValue z) = literal_text z
after_word (LongValue z) = literal_text z
after_word (FloatValue bits) = place_text bits
after_word (DoubleValue bits) = place_text bits
after_word (StringValue s) = quoted s
after_word (TypeValue t) = shown t
after_word (FieldValue f) = symbol_text plain (FieldSymbol f)
after_word (MethodValue m) = symbol_text plain (MethodSymbol m)
after_word (EnumValue f) = symbol_text plain (FieldSymbol f)
after_word (ArrayValue vs) = values_text vs
after_word (AnnotationValue t es) = shown t ++ (codes " {" ++ elements_text es)
after_word NullValue = []
after_word (BooleanValue is) = []

-- a value begins with its word
spelled : (v : Value) → value_text v ≡ get_or kind_words (word_of v) [] ++ after_word v
spelled (BooleanValue true) = refl
spelled (BooleanValue false) = refl
spelled _ = refl

-- that is one of the list
few_words : (v : Value) → word_of v < 17
few_words (BooleanValue true) = omega arith
few_words (BooleanValue false) = omega arith
few_words _ = omega arith

-- the kind of its word
capped : (v : Value) → min 15 (word_of v) ≡ kind_of v
capped (BooleanValue true) = refl
capped (BooleanValue false) = refl
capped _ = refl

-- equal texts begin with the same word
same_word : (v w : Value) (r s : List ℕ) → value_text v ++ r ≡ value_text w ++ s → word_of v ≡ word_of w
same_word v w r s e = (one_word kind_words refl (word_of v) (word_of w) (few_words v) (few_words w) (after_word v ++ r) (after_word w ++ s)
    (sym (append_assoc (get_or kind_words (word_of v) []) (after_word v) r) ∙ sym (ap (λ t. t ++ r) (spelled v)) ∙ e
    ∙ ap (λ t. t ++ s) (spelled w) ∙ append_assoc (get_or kind_words (word_of w) []) (after_word w) s)).0

-- two values with the same text at the head are of one kind
pub same_kind : (v w : Value) (r s : List ℕ) → value_text v ++ r ≡ value_text w ++ s → kind_of v ≡ kind_of w
same_kind v w r s e = sym (capped v) ∙ ap (min 15) (same_word v w r s e) ∙ capped w

-- and truth values are equal
pub same_boolean : (a b : Bool) (r s : List ℕ) → value_text (BooleanValue a) ++ r ≡ value_text (BooleanValue b) ++ s → a ≡ b
same_boolean true true r s e = refl
same_boolean false false r s e = refl
same_boolean true false r s e = absurd (omega (arith, same_word (BooleanValue true) (BooleanValue false) r s e))
same_boolean false true r s e = absurd (omega (arith, same_word (BooleanValue false) (BooleanValue true) r s e))

-- no value begins with the bracket after values
pub not_closed : (v : Value) (r s : List ℕ) → value_text v ++ r ≡ 0x7d ∷ s → ⊥
not_closed (BooleanValue true) r s e = omega (arith, ap (λ t. get_or t 0 0) e)
not_closed (BooleanValue false) r s e = omega (arith, ap (λ t. get_or t 0 0) e)
not_closed _ r s e = omega (arith, ap (λ t. get_or t 0 0) e)
