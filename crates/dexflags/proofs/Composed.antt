-- The names of flags, one after another.
use Rattle.std.proofs.Common.{ℕ, Bool, true, false, refl, get_or, drop, [], ◌∷◌, ◌<◌, ◌≡◌, ◌≤◌, ◌+◌, ◌∙◌, List, ◌++◌, length, map, sym, ap, arith}
use Rattle.std.proofs.lemmas.List.{append-nil, drop_more, drop-map, drop_all, length-map}
use Rattle.std.proofs.Math.ListN.{get_or-map}
use Rattle.std.specs.List.{join_with_byte}
use Rattle.bitflags.specs.Sets.{Row}
use Rattle.dexflags.specs.Flags.{has_bit}
use Rattle.dexflags.specs.internal.FlagNames.{listed, set_names, shown_name}

-- ---- the names of a table

-- the text of the names that are left
abbrev pub rest_text : Bool → List (List ℕ) → List ℕ
rest_text true names = join_with_byte 0x2c names
rest_text false [] = []
rest_text false (name ∷ names) = 0x2c ∷ join_with_byte 0x2c (name ∷ names)

-- one name, then the others
rest_one : (is_first : Bool) (name : List ℕ) (names : List (List ℕ)) → rest_text is_first (name ∷ names) ≡ listed is_first name ++ rest_text false names
rest_one true name [] = sym (append-nil name)
rest_one true name (other ∷ names) = refl
rest_one false name [] = sym (append-nil (0x2c ∷ name))
rest_one false name (other ∷ names) = refl

skipped : (row : Row) (rows : List Row) (n : ℕ) → has_bit n row.1 ≡ false → set_names (row ∷ rows) n ≡ set_names rows n
skipped row rows n e = rw e refl

taken : (row : Row) (rows : List Row) (n : ℕ) → has_bit n row.1 ≡ true → set_names (row ∷ rows) n ≡ shown_name row ∷ set_names rows n
taken row rows n e = rw e refl

rest_none : (is_first : Bool) → rest_text is_first [] ≡ []
rest_none true = refl
rest_none false = refl

-- the row of the flag at a place
pub row_at : {X : Type 0} (f : X → Row) (flags : List X) (table : List Row) (i : ℕ) (x : X) → map f flags ≡ table → i < length flags → get_or flags i x ≡ x
    → drop i table ≡ f x ∷ drop (i + 1) table
row_at f flags table i x rows within at_place =
    rw (sym rows, drop-map f i flags, drop-map f (i + 1) flags, drop_more flags i x within, at_place) refl

-- the row at that place
pub get_row : {X : Type 0} (f : X → Row) (flags : List X) (table : List Row) (i : ℕ) (x : X) → map f flags ≡ table → i < length flags → get_or flags i x ≡ x
    → (i < length table) × (get_or table i (f x) ≡ f x)
get_row f flags table i x rows within at_place = rw (sym rows) (omega (arith, within, length-map flags f), get_or-map f flags i x ∙ ap f at_place)

pub all_rows : {X : Type 0} (f : X → Row) (flags : List X) (table : List Row) (i : ℕ) → map f flags ≡ table → length flags ≤ i → length table ≤ i
all_rows f flags table i rows all = rw (sym rows) (omega (arith, all, length-map flags f))

-- a name that is not set
pub left_skipped : (row : Row) (rows : List Row) (n : ℕ) (is_first : Bool) (left : List Row) → left ≡ row ∷ rows → has_bit n row.1 ≡ false → rest_text is_first (set_names left n) ≡ rest_text is_first (set_names rows n)
left_skipped row rows n is_first left is e = ap (λ rs. rest_text is_first (set_names rs n)) is ∙ ap (λ names. rest_text is_first names) (skipped row rows n e)

-- a name that is set
pub left_taken : (row : Row) (rows : List Row) (n : ℕ) (is_first : Bool) (left : List Row) → left ≡ row ∷ rows → has_bit n row.1 ≡ true → rest_text is_first (set_names left n) ≡ listed is_first (shown_name row) ++ rest_text false (set_names rows n)
left_taken row rows n is_first left is e = ap (λ rs. rest_text is_first (set_names rs n)) is ∙ ap (λ names. rest_text is_first names) (taken row rows n e) ∙ rest_one is_first (shown_name row) (set_names rows n)

-- no name is left
pub left_none : (is_first : Bool) (table : List Row) (i n : ℕ) → length table ≤ i → rest_text is_first (set_names (drop i table) n) ≡ []
left_none is_first table i n all = rw (drop_all i table all) (rest_none is_first)
