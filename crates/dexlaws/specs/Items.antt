-- What the bytes determine, and how items are shared.
use Rattle.std.specs.Prelude.{◌≡◌, ◌↔◌, ℕ, ℤ, suc, ◌+◌, ◌-◌, ◌*◌, ◌/◌, ◌^◌, ◌<◌, ◌≤◌, Bool, true, List, length, All}
use Rattle.std.specs.Prelude.{Option, None, Some, slice_index_or}
use Rattle.std.specs.List.{Contains}
use Rattle.dexspec.specs.Lists.{Item, AreDistinct}
use Rattle.dexspec.specs.Bytes.{number_of, bytes_of, signed_in, BytesAt}
use Rattle.dexspec.specs.Numbers.{magnitude}
use Rattle.dexspec.specs.Texts.{Text}
use Rattle.dexspec.specs.Symbols.{Symbol, pool_of}
use Rattle.dexspec.specs.Rows.{SymbolRow}
use Rattle.dexspec.specs.Header.{data_off}
use Rattle.dexspec.specs.Values.{Value, Elements, ValueAt, value_depth, most_depth, EncodedAnnotationAt, UnsignedAt}
use Rattle.dexspec.specs.Values.{SignedAt, BitsAt}
use Rattle.dexspec.specs.Spellings.{unsigned_width, signed_width, bits_width, complement, unsigned_bytes, signed_bytes}
use Rattle.dexspec.specs.Spellings.{bits_bytes}
use Rattle.dexspec.specs.Placing.{Items}

-- the bytes determine the item at an offset, and its size
abbrev pub IsDetermined : {X : Type 0} → Item X → Type 0
IsDetermined {X} At = (b : List ℕ) (o : ℕ) (x y : X) (n k : ℕ) → At b o x n → At b o y k → (x ≡ y) × (n ≡ k)

-- the bytes determine the item of a row or an offset
abbrev pub IsOne : {X : Type 0} → (List ℕ → ℕ → X → Type 0) → Type 0
IsOne {X} Row = (b : List ℕ) (i : ℕ) (x y : X) → Row b i x → Row b i y → x ≡ y

-- at most one value has the property
abbrev pub HasAtMostOne : {X : Type 0} → (X → Type 0) → Type 0
HasAtMostOne {X} P = (x y : X) → P x → P y → x ≡ y

-- the bytes determine the item with a given number of members at an offset, and its size
abbrev pub IsDeterminedByCount : {X : Type 0} → (X → ℕ) → Item X → Type 0
IsDeterminedByCount {X} count At =
    (b : List ℕ) (o : ℕ) (x y : X) (n k : ℕ) → count x ≡ count y → At b o x n → At b o y k
    → (x ≡ y) × (n ≡ k)

-- at most one symbol of each pool has this row
abbrev pub HasOneSymbolEach : List ℕ → ℕ → Type 0
HasOneSymbolEach b i = (x y : Symbol) → pool_of x ≡ pool_of y → SymbolRow b i x → SymbolRow b i y → x ≡ y

-- an encoded_value that nests at most `most_depth` deep is at offset o of the data
abbrev pub EncodedValueInDataAt : Item Value
EncodedValueInDataAt b o v n = (data_off b ≤ o) × ValueAt b o v n × (value_depth v ≤ most_depth)

-- at most one encoded annotation is at the offset, of one type and in one size
abbrev pub IsAnnotationDetermined : List ℕ → ℕ → Type 0
IsAnnotationDetermined b o = (t u : Text) (es fs : Elements) (n k : ℕ) → EncodedAnnotationAt t b o es n
    → EncodedAnnotationAt u b o fs k → (t ≡ u) × (es ≡ fs) × (n ≡ k)

-- a pattern of one to eight bytes fits the width: then the fact holds
abbrev pub OnWidth : ℕ → ℕ → Type 0 → Type 0
OnWidth width v fact = 1 ≤ width → width ≤ 8 → v < 256 ^ width → fact

-- what is read from the bytes of a signed number in its least width
abbrev pub signed_read_back : ℤ → ℤ
signed_read_back z = signed_in (signed_width z) (number_of (bytes_of (signed_width z) (complement (signed_width z) z)))

-- what is read from the bytes of a bit pattern in its least width
abbrev pub bits_read_back : ℕ → ℕ → ℕ
bits_read_back width v =
    256 ^ (width - bits_width width v)
    * number_of (bytes_of (bits_width width v) (v / 256 ^ (width - bits_width width v)))

-- the signed number that the bytes encode
abbrev pub signed_of : List ℕ → ℤ
signed_of bytes = signed_in (length bytes) (number_of bytes)

-- one or more bytes from which the value is read are no fewer than its width
abbrev pub IsLeastWidth : {X : Type 0} → (X → ℕ) → (List ℕ → X) → X → List ℕ → Type 0
IsLeastWidth width read x bytes =
    All (λ byte. byte < 256) bytes → 0 < length bytes → read bytes ≡ x → width x ≤ length bytes

-- one or more bytes from which the bit pattern is read are no fewer than its width
abbrev pub IsLeastBitsWidth : ℕ → ℕ → List ℕ → Type 0
IsLeastBitsWidth width v bytes = 0 < length bytes → 256 ^ (width - length bytes) * number_of bytes ≡ v
    → bits_width width v ≤ length bytes

-- the bytes that are written for a number that fits the width encode it
abbrev pub UnsignedIsWritten : ℕ → ℕ → List ℕ → Type 0
UnsignedIsWritten code width b = (o v : ℕ) → OnWidth width v (BytesAt b o (unsigned_bytes code v)
    → UnsignedAt code width b o v (1 + unsigned_width v))

-- the bytes that are written for a signed number that fits the width encode it
abbrev pub SignedIsWritten : ℕ → ℕ → List ℕ → Type 0
SignedIsWritten code width b = (o : ℕ) (z : ℤ) → OnWidth width (2 * magnitude z) (BytesAt b o (signed_bytes code z)
    → SignedAt code width b o z (1 + signed_width z))

-- the bytes that are written for a bit pattern that fits the width encode it
abbrev pub AreBitsWritten : ℕ → ℕ → List ℕ → Type 0
AreBitsWritten code width b = (o v : ℕ) → OnWidth width v (BytesAt b o (bits_bytes code width v)
    → BitsAt code width b o v (1 + bits_width width v))

-- the test passes exactly if the values are equal
abbrev pub ReportsEqual : {X : Type 0} → (X → X → Bool) → Type 0
ReportsEqual {X} same = (x y : X) → (same x y ≡ true) ↔ (x ≡ y)

-- an empty use has no number; another use has the number of the item that equals it
abbrev pub PointsTo : {X : Type 0} → List X → Option X → Option ℕ → Type 0
PointsTo written None number = number ≡ None
PointsTo written (Some x) number = (i : ℕ) × (i < length written) × (number ≡ Some i) × (slice_index_or written i x ≡ x)

-- each use has the number of an item that equals it, and no two items are equal
pub record AreShared {X : Type 0} (uses : List (Option X)) (items : Items X) : Type 0 where
  pub distinct : AreDistinct items.written
  pub used : (x : X) → Contains items.written x → Contains uses (Some x)
  pub count : length items.numbers ≡ length uses
  pub are_mapped : (k : ℕ) → k < length uses
      → PointsTo items.written (slice_index_or uses k None) (slice_index_or items.numbers k None)
  -- before a use of an item there is a use of the item before it
  pub in_order : (k i : ℕ) → k < length uses → slice_index_or items.numbers k None ≡ Some (suc i)
      → (j : ℕ) × (j < k) × (slice_index_or items.numbers j None ≡ Some i)
