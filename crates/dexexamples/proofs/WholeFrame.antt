-- Conditions 1 to 10 at the whole file, by computation.
use Rattle.dexexamples.proofs.Common.{◌≢◌, ℕ, inl, inr, List, [], ◌∷◌, drop, refl, arith, map, All, AllByRecursion, All-from_recursion, sha1, digest_bytes, hash_after, compress, rounds, schedule, first_words, AreDistinct, number_of, uint_at, ushort_at, Table, StringIds, TypeIds, ProtoIds, FieldIds, MethodIds, ClassDefs, table_size, MayHave, HasSize, IsDigit, HasMagic, HasVersion, HasLengths, HasEndian, HasNoLink, HasChecksum, HasSignature, adler_32, Condition, IsFrame}
use Rattle.std.proofs.lemmas.List.Kept.{AllPairs-cons}
use Rattle.dexspec.specs.Sections.{HasLayout, HeaderItem, TableOf, MapList, StringDataItems, map_entries, type_code, IsKnown, HasTable, IsPlaced, HasMap}
use Rattle.dexexamples.specs.{whole_a}

has_size : HasSize whole_a
unfolding whole_a
has_size = record { least = omega arith; most = omega arith }

has_magic : HasMagic whole_a
unfolding whole_a
has_magic = record { word = refl; digits = All-from_recursion IsDigit (0x30 ∷ 0x33 ∷ 0x35 ∷ []) ((omega arith, omega arith), ((omega arith, omega arith), ((omega arith, omega arith), tt))); end = refl }

has_version : HasVersion whole_a
unfolding whole_a
has_version = refl

has_lengths : HasLengths whole_a
unfolding whole_a uint_at number_of
has_lengths = record { file = refl; header = refl }

has_endian : HasEndian whole_a
unfolding whole_a uint_at number_of
has_endian = refl

has_no_link : HasNoLink whole_a
unfolding whole_a uint_at number_of
has_no_link = record { size = refl; off = refl }

has_checksum : HasChecksum whole_a
unfolding whole_a uint_at number_of adler_32
has_checksum = refl

has_signature : HasSignature whole_a
unfolding whole_a sha1 digest_bytes hash_after compress rounds schedule first_words
has_signature = refl

-- ---- layout

few_rows : (t : Table) → MayHave t (table_size whole_a t)
unfolding whole_a uint_at number_of
few_rows StringIds = tt
few_rows TypeIds = omega arith
few_rows ProtoIds = omega arith
few_rows FieldIds = omega arith
few_rows MethodIds = omega arith
few_rows ClassDefs = tt

has_layout : HasLayout whole_a
unfolding whole_a uint_at number_of
has_layout = record {
  tables = inr (omega arith, refl, omega arith, inr (omega arith, refl, omega arith, inl (refl, refl, inl (refl, refl, inl (refl, refl, inr (omega arith, refl, omega arith, omega arith))))));
  data_end = refl;
  few = few_rows;
}

-- ---- the map

known : All IsKnown (map_entries whole_a)
unfolding whole_a uint_at ushort_at number_of
known = All-from_recursion IsKnown (map_entries whole_a)
    ((HeaderItem, refl), ((TableOf StringIds, refl), ((TableOf TypeIds, refl), ((TableOf ClassDefs, refl), ((StringDataItems, refl), ((MapList, refl), tt))))))

-- one more value that is different from the others
by_cons : (x : ℕ) (xs : List ℕ) → AllByRecursion (λ y. x ≢ y) xs → AreDistinct xs → AreDistinct (x ∷ xs)
by_cons x xs h rest = AllPairs-cons (λ x y. x ≢ y) x xs (All-from_recursion (λ y. x ≢ y) xs h) rest

once : AreDistinct (map (λ e. e.kind) (map_entries whole_a))
unfolding whole_a uint_at ushort_at number_of
once = by_cons 0 (1 ∷ 2 ∷ 6 ∷ 0x2002 ∷ 0x1000 ∷ []) (omega arith, (omega arith, (omega arith, (omega arith, (omega arith, tt)))))
    (by_cons 1 (2 ∷ 6 ∷ 0x2002 ∷ 0x1000 ∷ []) (omega arith, (omega arith, (omega arith, (omega arith, tt))))
    (by_cons 2 (6 ∷ 0x2002 ∷ 0x1000 ∷ []) (omega arith, (omega arith, (omega arith, tt)))
    (by_cons 6 (0x2002 ∷ 0x1000 ∷ []) (omega arith, (omega arith, tt))
    (by_cons 0x2002 (0x1000 ∷ []) (omega arith, tt) (by_cons 0x1000 [] tt (λ i j d lt within. absurd (omega arith)))))))

-- no entry has the code
none : (t : Table) → AllByRecursion (λ e. e.kind ≢ type_code (TableOf t)) (map_entries whole_a) → All (λ e. e.kind ≢ type_code (TableOf t)) (map_entries whole_a)
none t h = All-from_recursion (λ e. e.kind ≢ type_code (TableOf t)) (map_entries whole_a) h

has_table : (t : Table) → HasTable whole_a (map_entries whole_a) t
unfolding whole_a uint_at ushort_at number_of
has_table StringIds = inr (omega arith, (1, omega arith, refl))
has_table TypeIds = inr (omega arith, (2, omega arith, refl))
has_table ProtoIds = inl (refl, none ProtoIds (omega arith, (omega arith, (omega arith, (omega arith, (omega arith, (omega arith, tt)))))))
has_table FieldIds = inl (refl, none FieldIds (omega arith, (omega arith, (omega arith, (omega arith, (omega arith, (omega arith, tt)))))))
has_table MethodIds = inl (refl, none MethodIds (omega arith, (omega arith, (omega arith, (omega arith, (omega arith, (omega arith, tt)))))))
has_table ClassDefs = inr (omega arith, (3, omega arith, refl))

placed : All (IsPlaced whole_a) (map_entries whole_a)
unfolding whole_a uint_at ushort_at number_of
placed = All-from_recursion (IsPlaced whole_a) (map_entries whole_a)
    (inl (omega arith), (inl (omega arith), (inl (omega arith), (inl (omega arith), (inr (omega arith, omega arith), (inr (omega arith, omega arith), tt))))))

has_map : HasMap whole_a
unfolding whole_a uint_at ushort_at number_of
has_map = record {
  in_data = record { following = omega arith; within = omega arith };
  aligned = refl;
  known = known;
  once = once;
  rise = refl;
  header = (drop 1 (map_entries whole_a), refl);
  tables = has_table;
  itself = (5, omega arith, refl);
  others = placed;
}

-- conditions 1 to 10
pub frame : IsFrame whole_a
frame Condition.Size below r row = has_size
frame Condition.Magic below r row = has_magic
frame Condition.Version below r row = has_version
frame Condition.Lengths below r row = has_lengths
frame Condition.Endian below r row = has_endian
frame Condition.Link below r row = has_no_link
frame Condition.Checksum below r row = has_checksum
frame Condition.Signature below r row = has_signature
frame Condition.Layout below r row = has_layout
frame Condition.Map below r row = has_map
frame _ below r row = absurd (omega arith)
