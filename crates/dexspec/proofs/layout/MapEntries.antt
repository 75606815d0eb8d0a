-- Lists of map entries: read back from their bytes, without some entries, with different kinds, with rising offsets.
use Rattle.dexspec.proofs.Common.{◌≡◌, ◌≢◌, ℕ, zero, suc, ◌+◌, ◌*◌, ◌^◌, ◌<◌, ◌≤◌, List, [], ◌∷◌, ◌++◌, length, get_or, map, refl, sym, ap, ◌∙◌, arith, ◌==◌, ◌&&◌, not, Bool, true, false, if◌then◌else◌, nat_lt, IsTrue, flat_map, All, list_all, Contains, nat_cmp, is_lt, Less, length-append, All-nil, All-cons, All-head, All-tail, All-map, true≢false, cond-true, lt-ltb, eqb-false, not-true}
use Rattle.std.proofs.lemmas.List.Kept.{AllPairs-cons}
use Rattle.dexspec.specs.{rises, AreDistinct, ushort, uint, ushort_at, uint_at, BytesAt, StringIds, TypeIds, ProtoIds, FieldIds, MethodIds, ClassDefs, Section, HeaderItem, TableOf, MapList, TypeLists, AnnotationSetRefLists, AnnotationSets, ClassDataItems, CodeItems, StringDataItems, DebugInfoItems, AnnotationItems, EncodedArrayItems, AnnotationsDirectories, type_code, MapEntry, entries_at, map_entry_bytes, map_bytes}
use Rattle.dexspec.proofs.written.PlacedBytes.{is_at, length_rows}
use Rattle.dexspec.proofs.numbers.ByteNumbers.{length-uint, length-ushort, ushort_at-encodes, uint_at-encodes}
use Rattle.dexspec.proofs.lists.Members.{and_first, and_second, and_both}
use Rattle.dexspec.proofs.layout.Tables.{is_at_here, is_at_end}

-- ---- read back

-- a kind of section, a number of items and an offset as an entry
abbrev pub entry_of : Section × ℕ × ℕ → MapEntry
entry_of e = record { kind = type_code e.0; size = e.1; off = e.2 }

-- a type code has two bytes
pub type_code_small : (s : Section) → type_code s < 2 ^ 16
type_code_small HeaderItem = omega arith
type_code_small (TableOf StringIds) = omega arith
type_code_small (TableOf TypeIds) = omega arith
type_code_small (TableOf ProtoIds) = omega arith
type_code_small (TableOf FieldIds) = omega arith
type_code_small (TableOf MethodIds) = omega arith
type_code_small (TableOf ClassDefs) = omega arith
type_code_small MapList = omega arith
type_code_small TypeLists = omega arith
type_code_small AnnotationSetRefLists = omega arith
type_code_small AnnotationSets = omega arith
type_code_small ClassDataItems = omega arith
type_code_small CodeItems = omega arith
type_code_small StringDataItems = omega arith
type_code_small DebugInfoItems = omega arith
type_code_small AnnotationItems = omega arith
type_code_small EncodedArrayItems = omega arith
type_code_small AnnotationsDirectories = omega arith

-- an entry has 12 bytes
pub length-map_entry_bytes : (e : Section × ℕ × ℕ) → length (map_entry_bytes e) ≡ 12
length-map_entry_bytes e = omega (arith, length-append {A = ℕ}, length-uint, length-ushort)

-- a map has 4 bytes and its entries
pub length-map_bytes : (es : List (Section × ℕ × ℕ)) → length (map_bytes es) ≡ 4 + 12 * length es
length-map_bytes es = length-append (uint (length es)) (flat_map map_entry_bytes es) ∙ omega (arith, length-uint (length es), length_rows map_entry_bytes 12 length-map_entry_bytes es)

-- its numbers fit four bytes
pub record IsSmall (e : Section × ℕ × ℕ) : Type 0 where
  pub count : e.1 < 2 ^ 32
  pub place : e.2 < 2 ^ 32

-- equal fields make equal entries
same_entries : (kind kind' size size' off off' : ℕ) (es fs : List MapEntry) → kind ≡ kind' → size ≡ size' → off ≡ off' → es ≡ fs
    → record { kind = kind; size = size; off = off } ∷ es ≡ record { kind = kind'; size = size'; off = off' } ∷ fs
same_entries kind kind' size size' off off' es fs a b c d = cc

-- the entries that were written are read
pub entries_at-encodes : {b : List ℕ} (o : ℕ) (es : List (Section × ℕ × ℕ)) → All IsSmall es → BytesAt b o (flat_map map_entry_bytes es) → entries_at b o (length es) ≡ map entry_of es
entries_at-encodes o [] small h = refl
entries_at-encodes {b} o (e ∷ es) small h0 =
    let rest = flat_map map_entry_bytes es in
    let s = All-head IsSmall e es small in
    let here : BytesAt b o (map_entry_bytes e) = is_at_here (map_entry_bytes e) rest h0 in
    let h1 : BytesAt b (o + 2) (ushort 0 ++ (uint e.1 ++ uint e.2)) = is_at_end (ushort (type_code e.0)) (ushort 0 ++ (uint e.1 ++ uint e.2)) 2 (length-ushort (type_code e.0)) here in
    let h2 : BytesAt b (o + 4) (uint e.1 ++ uint e.2) = is_at (omega arith) (is_at_end (ushort 0) (uint e.1 ++ uint e.2) 2 (length-ushort 0) h1) in
    let h3 : BytesAt b (o + 8) (uint e.2) = is_at (omega arith) (is_at_end (uint e.1) (uint e.2) 4 (length-uint e.1) h2) in
    same_entries (ushort_at b o) (type_code e.0) (uint_at b (o + 4)) e.1 (uint_at b (o + 8)) e.2 (entries_at b (o + 12) (length es)) (map entry_of es)
    (ushort_at-encodes (type_code_small e.0) (is_at_here (ushort (type_code e.0)) (ushort 0 ++ (uint e.1 ++ uint e.2)) here))
    (uint_at-encodes s.count (is_at_here (uint e.1) (uint e.2) h2)) (uint_at-encodes s.place h3)
    (entries_at-encodes (o + 12) es (All-tail IsSmall e es small) (is_at_end (map_entry_bytes e) rest 12 (length-map_entry_bytes e) h0))

-- ---- optional entries

-- an entry, and whether it is left out
abbrev pub Candidate : Type 0
Candidate = Bool × (Section × ℕ × ℕ)

-- the entry, or nothing
abbrev pub pick : Candidate → List (Section × ℕ × ℕ)
pick x = if x.0 then [] else x.1 ∷ []

-- the entries that are not left out
abbrev pub picked : List Candidate → List (Section × ℕ × ℕ)
picked xs = flat_map pick xs

-- the code of its kind
abbrev pub code_of : Candidate → ℕ
code_of x = type_code x.1.0

-- a property of each entry that is not left out
pub picked_all : (P : Section × ℕ × ℕ → Type 0) (xs : List Candidate) → All (λ x. x.0 ≡ false → P x.1) xs → All P (picked xs)
picked_all P [] h = All-nil P
picked_all P ((true, e) ∷ xs) h = picked_all P xs (All-tail (λ x. x.0 ≡ false → P x.1) (true, e) xs h)
picked_all P ((false, e) ∷ xs) h = All-cons P e (picked xs) (All-head (λ x. x.0 ≡ false → P x.1) (false, e) xs h refl) (picked_all P xs (All-tail (λ x. x.0 ≡ false → P x.1) (false, e) xs h))

-- an entry that is not left out is in the list
pub picked_there : (xs : List Candidate) (i : ℕ) (e : Section × ℕ × ℕ) → i < length xs → get_or xs i (true, e) ≡ (false, e) → Contains (picked xs) e
picked_there [] i e lt is = absurd (omega arith)
picked_there ((true, f) ∷ xs) zero e lt is = absurd (true≢false (ap (λ (x : Candidate). x.0) is))
picked_there ((false, f) ∷ xs) zero e lt is = (0, omega arith, ap (λ (x : Candidate). x.1) is)
picked_there ((true, f) ∷ xs) (suc i) e lt is = picked_there xs i e (omega arith) is
picked_there ((false, f) ∷ xs) (suc i) e lt is = let c = picked_there xs i e (omega arith) is in (suc c.0, omega (arith, c.1), c.2)

-- ---- different kinds

-- no number occurs twice
abbrev pub differ : List ℕ → Bool
differ [] = true
differ (x ∷ xs) = list_all (λ y. not (x == y)) xs && differ xs

-- by a test, none of the codes is x
others_differ : (x : ℕ) (xs : List Candidate) → list_all (λ y. not (x == y)) (map code_of xs) ≡ true → All (λ y. x ≢ code_of y) xs
others_differ x [] t = All-nil (λ y. x ≢ code_of y)
others_differ x (y ∷ ys) t =
    let here = not-true (x == code_of y) (and_first (not (x == code_of y)) (list_all (λ y. not (x == y)) (map code_of ys)) t) in
    All-cons (λ y. x ≢ code_of y) y ys (eqb-false x (code_of y) here) (others_differ x ys (and_second (not (x == code_of y)) (list_all (λ y. not (x == y)) (map code_of ys)) t))

-- codes that are different stay so without some entries
pub picked_differ : (xs : List Candidate) → differ (map code_of xs) ≡ true → AreDistinct (map (λ e. e.kind) (map entry_of (picked xs)))
picked_differ [] t = λ i j d lt less. absurd (omega arith)
picked_differ ((true, e) ∷ xs) t = picked_differ xs (and_second (list_all (λ y. not (type_code e.0 == y)) (map code_of xs)) (differ (map code_of xs)) t)
picked_differ ((false, e) ∷ xs) t =
    let x = type_code e.0 in
    let apart : All (λ y. x ≢ code_of y) xs = others_differ x xs (and_first (list_all (λ y. not (x == y)) (map code_of xs)) (differ (map code_of xs)) t) in
    let others : All (λ f. x ≢ type_code f.0) (picked xs) = picked_all (λ f. x ≢ type_code f.0) xs (λ k d lt is. apart k d lt) in
    AllPairs-cons (λ y z. y ≢ z) x (map (λ e. e.kind) (map entry_of (picked xs)))
    (All-map (λ y. x ≢ y) (λ (e : MapEntry). e.kind) (map entry_of (picked xs)) (All-map (λ (e : MapEntry). x ≢ e.kind) entry_of (picked xs) others))
    (picked_differ xs (and_second (list_all (λ y. not (x == y)) (map code_of xs)) (differ (map code_of xs)) t))

-- the kind of an entry that is left out does not occur
pub left_out : (xs : List Candidate) (i : ℕ) (d : Candidate) → differ (map code_of xs) ≡ true → i < length xs → (get_or xs i d).0 ≡ true → All (λ e. type_code e.0 ≢ code_of (get_or xs i d)) (picked xs)
left_out [] i d t lt is = absurd (omega arith)
left_out ((true, e) ∷ xs) zero d t lt is =
    let x = type_code e.0 in
    let apart : All (λ y. x ≢ code_of y) xs = others_differ x xs (and_first (list_all (λ y. not (x == y)) (map code_of xs)) (differ (map code_of xs)) t) in
    picked_all (λ f. type_code f.0 ≢ x) xs (λ k d lt out same. apart k d lt (sym same))
left_out ((false, e) ∷ xs) zero d t lt is = absurd cc
left_out ((true, e) ∷ xs) (suc i) d t lt is = left_out xs i d (and_second (list_all (λ y. not (type_code e.0 == y)) (map code_of xs)) (differ (map code_of xs)) t) (omega arith) is
left_out ((false, e) ∷ xs) (suc i) d t lt is =
    let x = type_code e.0 in
    let apart : All (λ y. x ≢ code_of y) xs = others_differ x xs (and_first (list_all (λ y. not (x == y)) (map code_of xs)) (differ (map code_of xs)) t) in
    All-cons (λ f. type_code f.0 ≢ code_of (get_or xs i d)) e (picked xs) (apart i d (omega arith))
    (left_out xs i d (and_second (list_all (λ y. not (x == y)) (map code_of xs)) (differ (map code_of xs)) t) (omega arith) is)

-- ---- rising offsets

-- the offsets rise strictly, from a number and below a number
abbrev pub RisesTo : ℕ → List (Section × ℕ × ℕ) → ℕ → Type 0
RisesTo low [] high = low ≤ high
RisesTo low (e ∷ es) high = (low ≤ e.2) × RisesTo (e.2 + 1) es high

-- from a lesser number too
pub rises_from_less : (low low' : ℕ) (es : List (Section × ℕ × ℕ)) (high : ℕ) → low' ≤ low → RisesTo low es high → RisesTo low' es high
rises_from_less low low' [] high le h = omega (arith, h)
rises_from_less low low' (e ∷ es) high le h = (omega (arith, h.0), h.1)

-- one list, then another
pub rises_append : (low : ℕ) (es : List (Section × ℕ × ℕ)) (mid : ℕ) (fs : List (Section × ℕ × ℕ)) (high : ℕ) → RisesTo low es mid → RisesTo mid fs high → RisesTo low (es ++ fs) high
rises_append low [] mid fs high h k = rises_from_less mid low fs high h k
rises_append low (e ∷ es) mid fs high h k = (h.0, rises_append (e.2 + 1) es mid fs high h.1 k)

-- the ends
pub rises_ends : (low : ℕ) (es : List (Section × ℕ × ℕ)) (high : ℕ) → RisesTo low es high → low ≤ high
rises_ends low [] high h = h
rises_ends low (e ∷ es) high h = omega (arith, h.0, rises_ends (e.2 + 1) es high h.1)

-- each offset is between the ends
pub record IsBetween (low high : ℕ) (e : Section × ℕ × ℕ) : Type 0 where
  pub least : low ≤ e.2
  pub most : e.2 < high

-- of all offsets
pub rises_between : (low : ℕ) (es : List (Section × ℕ × ℕ)) (high : ℕ) → RisesTo low es high → All (IsBetween low high) es
rises_between low [] high h = All-nil (IsBetween low high)
rises_between low (e ∷ es) high h =
    let rest = rises_between (e.2 + 1) es high h.1 in
    All-cons (IsBetween low high) e es (record { least = h.0; most = omega (arith, rises_ends (e.2 + 1) es high h.1) })
    (λ k d lt. record { least = omega (arith, h.0, (rest k d lt).least); most = (rest k d lt).most })

-- a lesser number is less by order
nat_less : (x y : ℕ) → x < y → is_lt (nat_cmp x y) ≡ true
nat_less x y lt = ap is_lt (cond-true (nat_lt x y) Less _ (lt-ltb x y lt))

-- they rise strictly
pub rises_strictly : (low : ℕ) (es : List (Section × ℕ × ℕ)) (high : ℕ) → RisesTo low es high → IsTrue (rises nat_cmp (map (λ e. e.off) (map entry_of es)))
rises_strictly low [] high h = refl
rises_strictly low (e ∷ []) high h = refl
rises_strictly low (e ∷ f ∷ es) high h =
    and_both (is_lt (nat_cmp e.2 f.2)) (rises nat_cmp (map (λ e. e.off) (map entry_of (f ∷ es)))) (nat_less e.2 f.2 (omega (arith, h.1.0))) (rises_strictly (e.2 + 1) (f ∷ es) high h.1)
