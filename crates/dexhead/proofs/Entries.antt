-- The entries of a map, one by one.
use Rattle.dexhead.proofs.Common.{◌≡◌, ◌≢◌, ◌⊎◌, inl, inr, ◌↔◌, ℕ, zero, suc, ◌+◌, ◌-◌, ◌*◌, ◌<◌, ◌≤◌, List, [], ◌∷◌, ◌++◌, length, map, take, get_or, Bool, false, and_from, and_parts, IsTrue, All, refl, subst, sym, ap, ◌∙◌, arith, Contains, take_more, take_all, map-append, length-map, length-take-le, get_or-map, get_or-take, All-more, All-map, All-get_or, Contains-get_or, ushort_at, uint_at, table_size, StringIds, TypeIds, ProtoIds, FieldIds, MethodIds, ClassDefs, MapEntry, Section, HeaderItem, TableOf, MapList, TypeLists, AnnotationSetRefLists, AnnotationSets, ClassDataItems, CodeItems, StringDataItems, DebugInfoItems, AnnotationItems, EncodedArrayItems, AnnotationsDirectories, type_code, entries_at, IsKnown, IsPlaced, HasTable, HasMap, map_entries, entries, read, entry_of, IsCode, IsNext, AreInOrder, BeginsWithHeader, IsThere, HaveTables, AreRight, IsInPlace, range_with_len, get_or-range_with_len}
use Rattle.std.specs.Prelude.{nat_lt}
use Rattle.std.specs.Ordering.{nat_cmp, is_lt}
use Rattle.std.proofs.lemmas.List.Quantifiers.{all_pairs_push}
use Rattle.std.proofs.lemmas.Bool.Decides.{nat_tests}
use Rattle.dexspec.specs.Lists.{rises, AreDistinct}
use Rattle.dexspec.specs.Header as header
use Rattle.dexhead.specs.declared.map.Entry.{Entry}
use Rattle.dexhead.specs.declared.map.Map.{Map}

abbrev none : MapEntry
none = record { kind = 0; size = 0; off = 0 }

abbrev kind : MapEntry → ℕ
kind e = e.kind

abbrev off : MapEntry → ℕ
off e = e.off

-- ---- which entry is at which offset

abbrev pub entry_at : List ℕ → ℕ → MapEntry
entry_at b o = record { kind = ushort_at b o; size = uint_at b (o + 4); off = uint_at b (o + 8) }

length-entries_at : (b : List ℕ) (o n : ℕ) → length (entries_at b o n) ≡ n
length-entries_at b o zero = refl
length-entries_at b o (suc n) = ap (λ k. suc k) (length-entries_at b (o + 12) n)

entry_of-entries_at : (b : List ℕ) (o n i : ℕ) → i < n → entry_of (entries_at b o n) i ≡ entry_at b (o + 12 * i)
entry_of-entries_at b o zero i lt = absurd (omega arith)
entry_of-entries_at b o (suc n) zero lt = ap (entry_at b) (let e : o ≡ o + 12 * 0 = omega arith in e)
entry_of-entries_at b o (suc n) (suc i) lt = entry_of-entries_at b (o + 12) n i (omega arith) ∙ ap (entry_at b) (let e : o + 12 + 12 * i ≡ o + 12 * suc i = omega arith in e)

pub length-entries : (m : Map) → length (entries m) ≡ m.count
unfolding entries
length-entries m = length-entries_at m.bytes.now m.from m.count

pub entry_of-entries : (m : Map) (i : ℕ) → i < m.count → entry_of (entries m) i ≡ entry_at m.bytes.now (m.from + 12 * i)
unfolding entries
entry_of-entries m i lt = entry_of-entries_at m.bytes.now m.from m.count i lt

pub entry_is : {k k' s s' o o' : ℕ} → k ≡ k' → s ≡ s' → o ≡ o' → ◌≡◌ {A = MapEntry} (record { kind = k; size = s; off = o }) (record { kind = k'; size = s'; off = o' })
entry_is p q r = cc

-- entries that read the same are the same
abbrev entry_again : MapEntry → Entry
entry_again m = record { kind = m.kind; size = m.size; off = m.off }

pub read_same : {d e : Entry} → read d ≡ read e → d ≡ e
read_same p = ap entry_again p

-- ---- type codes

-- the section of a code among those of codes that follow one another
of_codes : (xs : List Section) (from n : ℕ) → map type_code xs ≡ range_with_len from (length xs) → n < length xs → (s : Section) × (from + n ≡ type_code s)
of_codes xs from n codes lt = (get_or xs n HeaderItem, sym (get_or-range_with_len from (length xs) n 0 lt) ∙ ap (λ l. get_or l n 0) (sym codes) ∙ get_or-map type_code xs n HeaderItem 0 lt)

known_code : (n : ℕ) → IsCode n → (s : Section) × (n ≡ type_code s)
known_code n (inl h) =
    let s = of_codes (HeaderItem ∷ TableOf StringIds ∷ TableOf TypeIds ∷ TableOf ProtoIds ∷ TableOf FieldIds ∷ TableOf MethodIds ∷ TableOf ClassDefs ∷ []) 0 n refl (omega (arith, h)) in (s.0, omega (arith, s.1))
known_code n (inr (inl h)) =
    let s = of_codes (MapList ∷ TypeLists ∷ AnnotationSetRefLists ∷ AnnotationSets ∷ []) 0x1000 (n - 0x1000) refl (omega (arith, h.0, h.1)) in (s.0, omega (arith, s.1, h.0))
known_code n (inr (inr h)) =
    let s = of_codes (ClassDataItems ∷ CodeItems ∷ StringDataItems ∷ DebugInfoItems ∷ AnnotationItems ∷ EncodedArrayItems ∷ AnnotationsDirectories ∷ []) 0x2000 (n - 0x2000) refl (omega (arith, h.0, h.1)) in (s.0, omega (arith, s.1, h.0))

code_of : (s : Section) → IsCode (type_code s)
code_of HeaderItem = inl (omega arith)
code_of (TableOf StringIds) = inl (omega arith)
code_of (TableOf _) = inl (omega arith)
code_of MapList = inr (inl (omega arith, omega arith))
code_of TypeLists = inr (inl (omega arith, omega arith))
code_of AnnotationSetRefLists = inr (inl (omega arith, omega arith))
code_of AnnotationSets = inr (inl (omega arith, omega arith))
code_of _ = inr (inr (omega arith, omega arith))

-- ---- truth

pub never : IsTrue false → ⊥
never e = cc

pub not_above : (n : ℕ) → n ≤ 0 → IsTrue (nat_lt 0 n) → ⊥
not_above zero le x = never x
not_above (suc n) le x = absurd (omega (arith, le))

-- ---- lists that rise

cmp_less : (x y : ℕ) → x < y → IsTrue (is_lt (nat_cmp x y))
cmp_less x y lt = grind (arith, nat_tests)

less_cmp : (x y : ℕ) → IsTrue (is_lt (nat_cmp x y)) → x < y
less_cmp x y h = grind (arith, nat_tests)

rises_push : (xs : List ℕ) (y : ℕ) → IsTrue (rises nat_cmp xs) → ((k : ℕ) → suc k ≡ length xs → get_or xs k 0 < y) → IsTrue (rises nat_cmp (xs ++ y ∷ []))
rises_push [] y h last = refl
rises_push (x ∷ []) y h last = and_from _ _ (cmp_less x y (last 0 refl)) refl
rises_push (x ∷ z ∷ xs) y h last = and_from (is_lt (nat_cmp x z)) _ (and_parts _ _ h).0 (rises_push (z ∷ xs) y (and_parts (is_lt (nat_cmp x z)) _ h).1 (λ k e. last (suc k) (ap (λ n. suc n) e)))

rises_at : (xs : List ℕ) (k : ℕ) → IsTrue (rises nat_cmp xs) → suc k < length xs → get_or xs k 0 < get_or xs (suc k) 0
rises_at (x ∷ y ∷ xs) zero h lt = less_cmp x y (and_parts _ _ h).0
rises_at (x ∷ y ∷ xs) (suc k) h lt = rises_at (y ∷ xs) k (and_parts (is_lt (nat_cmp x y)) _ h).1 (omega arith)
rises_at _ k h lt = absurd (omega arith)

-- ---- the walk

map-take_more : (f : MapEntry → ℕ) (es : List MapEntry) (i : ℕ) → i < length es → map f (take (i + 1) es) ≡ map f (take i es) ++ f (entry_of es i) ∷ []
map-take_more f es i lt = ap (map f) (take_more es i none lt) ∙ map-append f (take i es) (entry_of es i ∷ [])

last_off : (es : List MapEntry) (i k : ℕ) → i < length es → (i ≡ 0) ⊎ ((entry_of es (i - 1)).off < (entry_of es i).off) → suc k ≡ length (map off (take i es)) → get_or (map off (take i es)) k 0 < (entry_of es i).off
last_off es i k lt h e =
    let n : length (map off (take i es)) ≡ i = length-map (take i es) off ∙ length-take-le i es (omega arith) in
    let m : length (take i es) ≡ i = length-take-le i es (omega arith) in
    let at : get_or (map off (take i es)) k 0 ≡ (entry_of es k).off
    = get_or-map off (take i es) k none 0 (omega arith) ∙ ap off (get_or-take i es k none (omega arith)) in
    let j : k ≡ i - 1 = omega arith in
    elim h [ inl z ↦ absurd (omega arith) | inr l ↦ subst (λ x. x < (entry_of es i).off) (sym (at ∙ ap (λ i. (entry_of es i).off) j)) l ]

pub order_none : {b : List ℕ} (es : List MapEntry) → AreInOrder b (take 0 es)
order_none es = record { known = λ k d lt. absurd (omega arith); once = λ i j d lt le. absurd (omega arith); rise = refl; others = λ k d lt. absurd (omega arith) }

pub order_more : {b : List ℕ} (es : List MapEntry) (i : ℕ) → i < length es → AreInOrder b (take i es) → IsNext b es i → AreInOrder b (take (i + 1) es)
order_more {b = b} es i lt h next = record {
  known = All-more IsKnown es i none lt h.known (known_code _ next.known);
  once = subst AreDistinct (sym (map-take_more kind es i lt))
      (all_pairs_push (λ x y. x ≢ y) (map kind (take i es)) (kind (entry_of es i)) h.once
      (λ k d le. All-map (λ x. x ≢ kind (entry_of es i)) kind (take i es) next.new k d le));
  rise = subst (λ xs. IsTrue (rises nat_cmp xs)) (sym (map-take_more off es i lt))
      (rises_push (map off (take i es)) (off (entry_of es i)) h.rise (λ k e. last_off es i k lt next.above e));
  others = All-more (IsPlaced b) es i none lt h.others next.placed;
}

above_at : (es : List MapEntry) (i : ℕ) → i < length es → IsTrue (rises nat_cmp (map off es)) → (i ≡ 0) ⊎ ((entry_of es (i - 1)).off < (entry_of es i).off)
above_at es zero lt h = inl refl
above_at es (suc k) lt h =
    let n : length (map off es) ≡ length es = length-map es off in
    let j : suc k - 1 ≡ k = omega arith in
    inr (omega (arith, rises_at (map off es) k h (omega arith), get_or-map off es k none 0 (omega arith), get_or-map off es (suc k) none 0 lt, ap (λ i. (entry_of es i).off) j))

new_at : (es : List MapEntry) (i : ℕ) → i < length es → AreDistinct (map kind es) → All (λ e. e.kind ≢ (entry_of es i).kind) (take i es)
new_at es i lt h k d le same =
    let m : length (take i es) ≡ i = length-take-le i es (omega arith) in
    let n : length (map kind es) ≡ length es = length-map es kind in
    h k i 0 (omega arith) (omega arith) (get_or-map kind es k d 0 (omega arith) ∙ sym (ap kind (get_or-take i es k d (omega arith))) ∙ same ∙ sym (get_or-map kind es i none 0 lt))

pub next_at : {b : List ℕ} (es : List MapEntry) (i : ℕ) → i < length es → AreInOrder b es → IsNext b es i
next_at {b = b} es i lt h =
    let s = All-get_or IsKnown es i none lt h.known in
    record {
      known = subst IsCode (sym s.1) (code_of s.0);
      new = new_at es i lt h.once;
      above = above_at es i lt h.rise;
      placed = All-get_or (IsPlaced b) es i none lt h.others;
    }

-- ---- the first entry

begins : (es : List MapEntry) (h : MapEntry) → 0 < length es → entry_of es 0 ≡ h → (rest : List MapEntry) × (es ≡ h ∷ rest)
begins [] h lt e = absurd (omega arith)
begins (x ∷ es) h lt e = (es, ap (λ y. y ∷ es) e)

abbrev header_entry : MapEntry
header_entry = record { kind = 0; size = 1; off = 0 }

pub begins_with : (es : List MapEntry) → 0 < length es → entry_of es 0 ≡ header_entry → BeginsWithHeader es
begins_with es lt e = record { begins = begins es header_entry lt e }

pub begins_first : (es : List MapEntry) → BeginsWithHeader es → (0 < length es) × (entry_of es 0 ≡ header_entry)
begins_first es h =
    let e : length es ≡ suc (length h.begins.0) = ap length h.begins.1 in
    (omega arith, ap (λ xs. entry_of xs 0) h.begins.1)

-- ---- the kinds that are there

pub kind_lacks : (es : List MapEntry) (k n i : ℕ) → i < n → n ≤ length es → (entry_of es i).kind ≡ k → All (λ e. e.kind ≢ k) (take n es) → ⊥
kind_lacks es k n i lt le e h =
    let m : length (take n es) ≡ n = length-take-le n es le in
    h i none (omega arith) (ap kind (get_or-take n es i none lt) ∙ e)

pub found : (es : List MapEntry) (x : MapEntry) (i : ℕ) → i < length es → entry_of es i ≡ x → Contains es x
found es x i lt e = subst (Contains es) e (Contains-get_or es i none lt)

-- ---- the tables, and the whole map

pub empty_table : {b : List ℕ} (es : List MapEntry) (t : header.Table) (n k : ℕ) (r : Bool) → n ≡ length es → table_size b t ≡ 0 → k ≡ type_code (TableOf t) → (IsTrue r ↔ All (λ e. e.kind ≢ k) (take n es)) → IsTrue r ↔ IsThere b es t
empty_table {b = b} es t n k r len empty code h =
    let same : take n es ≡ es = take_all n es (omega arith) in
    let p : (IsTrue r ↔ All (λ e. e.kind ≢ type_code (TableOf t)) es) = subst (λ k. IsTrue r ↔ All (λ e. e.kind ≢ k) es) code (subst (λ xs. IsTrue r ↔ All (λ e. e.kind ≢ k) xs) same h) in (λ x. record { there = inl (empty, p.0 x) }, λ there. elim there.there [ inl l ↦ p.1 l.1 | inr f ↦ absurd (f.0 empty) ])

has_table : {b : List ℕ} {es : List MapEntry} → HaveTables b es → (t : header.Table) → HasTable b es t
has_table h StringIds = h.strings.there
has_table h TypeIds = h.types.there
has_table h ProtoIds = h.protos.there
has_table h FieldIds = h.fields.there
has_table h MethodIds = h.methods.there
has_table h ClassDefs = h.classes.there

have_tables : {b : List ℕ} {es : List MapEntry} → ((t : header.Table) → HasTable b es t) → HaveTables b es
have_tables h = record {
  strings = record { there = h StringIds };
  types = record { there = h TypeIds };
  protos = record { there = h ProtoIds };
  fields = record { there = h FieldIds };
  methods = record { there = h MethodIds };
  classes = record { there = h ClassDefs };
}

pub has_map : {b : List ℕ} → IsInPlace b → AreRight b (map_entries b) → HasMap b
has_map place right = record {
  in_data = place.in_data;
  aligned = place.aligned;
  known = right.order.known;
  once = right.order.once;
  rise = right.order.rise;
  header = right.header.begins;
  tables = has_table right.tables;
  itself = right.itself.itself;
  others = right.order.others;
}

pub are_right : {b : List ℕ} → HasMap b → AreRight b (map_entries b)
are_right h = record {
  order = record { known = h.known; once = h.once; rise = h.rise; others = h.others };
  header = record { begins = h.header };
  tables = have_tables h.tables;
  itself = record { itself = h.itself };
}

pub map_is_right : {b b' : List ℕ} {es : List MapEntry} (r : Bool) → IsInPlace b → b' ≡ b → es ≡ map_entries b → (IsTrue r ↔ AreRight b' es) → IsTrue r ↔ HasMap b
map_is_right {b = b} {es = es} r place e f h =
    let p : (IsTrue r ↔ AreRight b (map_entries b)) = subst (λ es. IsTrue r ↔ AreRight b es) f (subst (λ b. IsTrue r ↔ AreRight b es) e h) in
    (λ x. has_map place (p.0 x), λ m. p.1 (are_right m))
