-- Texts and names of a listing are read back, sign by sign.
use Rattle.dexspec.proofs.Common.{◌≡◌, ◌≢◌, ℕ, ◌/◌, ◌^◌, ◌<◌, ◌||◌, ◌==◌, list_any, Bool, true, false, List, [], ◌∷◌, ◌++◌, get_or, drop, if◌then◌else◌, refl, sym, ap, ◌∙◌, true≢false, arith, codes, inl, inr, ◌⊎◌}
use Rattle.std.proofs.Common.{nat_lt}
use Rattle.std.specs.Char.{digit_value}
use Rattle.dexspec.specs.Texts.{AreUnits}
use Rattle.dexstr.specs.Escapes.{escaped}
use Rattle.dexout.specs.Printed.{needs_backslash, unit_text, shown, quoted}
use Rattle.dexlisting.specs.FullListing.{is_plain, plain_unit, plain, text_or_dash}
use Rattle.dexlisting.proofs.law.Reads.{Reads, Anything, begins, Ends, IfAny, after, part, reads_list, reads_option, reads_weaker}
use Rattle.dexlisting.proofs.law.Lists.{each_from_all}
use Rattle.dexlisting.proofs.law.Numbers.{value_of}

-- ---- units

-- numbers of 16 bits with the same digits
same_unit : (u v : ℕ) (r s : List ℕ) → u < 2 ^ 16 → v < 2 ^ 16 → escaped u ++ r ≡ escaped v ++ s → u ≡ v
same_unit u v r s gu gv e =
    let digit = λ (k : ℕ). ap (λ t. digit_value (get_or t k 0)) e in
    let one = sym (value_of (u / 4096)) ∙ digit 2 ∙ value_of (v / 4096) in
    let two = sym (value_of (u / 256)) ∙ digit 3 ∙ value_of (v / 256) in
    let three = sym (value_of (u / 16)) ∙ digit 4 ∙ value_of (v / 16) in
    let four = sym (value_of u) ∙ digit 5 ∙ value_of v in
    omega (arith, one, two, three, four, gu, gv)

-- how a unit is written: by its number, after a backslash, or as it is
data Shape (u : ℕ) (t : List ℕ) : Type 0 where
  ByNumber : t ≡ escaped u → Shape u t
  Marked : t ≡ 0x5c ∷ u ∷ [] → u ≢ 0x75 → Shape u t
  Plain : t ≡ u ∷ [] → u ≢ 0x5c → Shape u t

-- no shape begins another
by_shape : (u v : ℕ) (t w r s : List ℕ) → Shape u t → Shape v w → u < 2 ^ 16 → v < 2 ^ 16 → t ++ r ≡ w ++ s → (u ≡ v) × (r ≡ s)
by_shape u v t w r s (ByNumber a) (ByNumber b) gu gv e =
    let f : escaped u ++ r ≡ escaped v ++ s = sym (ap (λ x. x ++ r) a) ∙ e ∙ ap (λ x. x ++ s) b in
    (same_unit u v r s gu gv f, ap (drop 6) f)
by_shape u v t w r s (ByNumber a) (Marked b other) gu gv e =
    let f : escaped u ++ r ≡ 0x5c ∷ v ∷ s = sym (ap (λ x. x ++ r) a) ∙ e ∙ ap (λ x. x ++ s) b in
    absurd (other (sym (ap (λ x. get_or x 1 0) f)))
by_shape u v t w r s (ByNumber a) (Plain b other) gu gv e =
    let f : escaped u ++ r ≡ v ∷ s = sym (ap (λ x. x ++ r) a) ∙ e ∙ ap (λ x. x ++ s) b in
    absurd (other (sym (ap (λ x. get_or x 0 0) f)))
by_shape u v t w r s (Marked a other) (ByNumber b) gu gv e =
    let f : 0x5c ∷ u ∷ r ≡ escaped v ++ s = sym (ap (λ x. x ++ r) a) ∙ e ∙ ap (λ x. x ++ s) b in
    absurd (other (ap (λ x. get_or x 1 0) f))
by_shape u v t w r s (Marked a other) (Marked b more) gu gv e =
    let f : 0x5c ∷ u ∷ r ≡ 0x5c ∷ v ∷ s = sym (ap (λ x. x ++ r) a) ∙ e ∙ ap (λ x. x ++ s) b in
    (ap (λ x. get_or x 1 0) f, ap (drop 2) f)
by_shape u v t w r s (Marked a other) (Plain b more) gu gv e =
    let f : 0x5c ∷ u ∷ r ≡ v ∷ s = sym (ap (λ x. x ++ r) a) ∙ e ∙ ap (λ x. x ++ s) b in
    absurd (more (sym (ap (λ x. get_or x 0 0) f)))
by_shape u v t w r s (Plain a other) (ByNumber b) gu gv e =
    let f : u ∷ r ≡ escaped v ++ s = sym (ap (λ x. x ++ r) a) ∙ e ∙ ap (λ x. x ++ s) b in
    absurd (other (ap (λ x. get_or x 0 0) f))
by_shape u v t w r s (Plain a other) (Marked b more) gu gv e =
    let f : u ∷ r ≡ 0x5c ∷ v ∷ s = sym (ap (λ x. x ++ r) a) ∙ e ∙ ap (λ x. x ++ s) b in
    absurd (other (ap (λ x. get_or x 0 0) f))
by_shape u v t w r s (Plain a other) (Plain b more) gu gv e =
    let f : u ∷ r ≡ v ∷ s = sym (ap (λ x. x ++ r) a) ∙ e ∙ ap (λ x. x ++ s) b in
    (ap (λ x. get_or x 0 0) f, ap (drop 1) f)

-- the shape of a unit of a text
unit_shape : (u : ℕ) → Shape u (unit_text u)
unit_shape u = go (nat_lt u 0x20) (nat_lt 0x7e u) (needs_backslash u) refl
  where
    go : (low high mark : Bool) → needs_backslash u ≡ mark
        → Shape u (if low then escaped u else if high then escaped u else if mark then 0x5c ∷ u ∷ [] else u ∷ [])
    go true high mark e = ByNumber refl
    go false true mark e = ByNumber refl
    go false false true e = Marked refl (λ same. true≢false (sym e ∙ ap needs_backslash same))
    go false false false e = Plain refl (λ same. true≢false (sym (ap needs_backslash same) ∙ e))

-- a unit of a text is read back
pub reads_unit : Reads (λ u. u < 2 ^ 16) Anything unit_text
reads_unit = record { read = λ x y r s gx gy fr fs e. by_shape x y (unit_text x) (unit_text y) r s (unit_shape x) (unit_shape y) gx gy e }

-- the shape of a unit of a name
plain_shape : (u : ℕ) → Shape u (plain_unit u)
plain_shape u = go (is_plain u) refl
  where
    go : (plain : Bool) → is_plain u ≡ plain → Shape u (if plain then u ∷ [] else escaped u)
    go true e = Plain refl (λ same. true≢false (sym e ∙ ap is_plain same))
    go false e = ByNumber refl

-- a unit of a name is read back
reads_plain_unit : Reads (λ u. u < 2 ^ 16) Anything plain_unit
reads_plain_unit = record { read = λ x y r s gx gy fr fs e. by_shape x y (plain_unit x) (plain_unit y) r s (plain_shape x) (plain_shape y) gx gy e }

-- ---- texts

-- a unit is written with a backslash first, or as it is and is no quotation mark
pub unit_begins : (u w : ℕ) (r s : List ℕ) → unit_text u ++ r ≡ w ∷ s → (w ≡ 0x5c) ⊎ ((w ≡ u) × (u ≢ 0x22))
unit_begins u w r s = go (nat_lt u 0x20) (nat_lt 0x7e u) (needs_backslash u) refl
  where
    go : (low high mark : Bool) → needs_backslash u ≡ mark
        → (if low then escaped u else if high then escaped u else if mark then 0x5c ∷ u ∷ [] else u ∷ []) ++ r ≡ w ∷ s → (w ≡ 0x5c) ⊎ ((w ≡ u) × (u ≢ 0x22))
    go true high mark f e = inl (sym (ap (λ x. get_or x 0 0) e))
    go false true mark f e = inl (sym (ap (λ x. get_or x 0 0) e))
    go false false true f e = inl (sym (ap (λ x. get_or x 0 0) e))
    go false false false f e = inr (sym (ap (λ x. get_or x 0 0) e), λ same. true≢false (sym (ap needs_backslash same) ∙ f))

-- no unit begins with a quotation mark
unquoted : (u : ℕ) (r s : List ℕ) → unit_text u ++ r ≡ 0x22 ∷ s → ⊥
unquoted u r s e = elim (unit_begins u 0x22 r s e) [ inl mark ↦ omega (arith, mark) | inr plain ↦ plain.1 (sym plain.0) ]

-- what begins with a quotation mark
abbrev pub BeginsQuoted : List ℕ → Type 0
BeginsQuoted r = (s : List ℕ) × (r ≡ 0x22 ∷ s)

-- units are read back in front of a quotation mark
reads_shown : Reads AreUnits BeginsQuoted shown
reads_shown = reads_weaker (each_from_all (λ u. u < 2 ^ 16)) (λ r f. (tt, f)) (reads_list BeginsQuoted reads_unit (λ x r g. tt)
    (λ x r s g f e. unquoted x r f.0 (e ∙ f.1)))

-- a quoted text is read back
pub reads_quoted : Reads AreUnits Anything quoted
reads_quoted = record {
  read = λ x y r s gx gy fr fs e.
      let p = part reads_shown x y (codes "\"") (codes "\"") r s gx gy (r, refl) (s, refl) (after (codes "\"") e) in
      (p.0, after (codes "\"") p.1);
}

-- a sign of a name of a member
abbrev pub is_name_sign : ℕ → Bool
is_name_sign u = is_plain u || list_any (λ sign. u == sign) (0x5c ∷ [])

-- the first sign of a unit of such a name is one
pub name_sign : (u : ℕ) (r : List ℕ) → begins is_name_sign (plain_unit u ++ r) ≡ true
name_sign u r = go (is_plain u) refl
  where
    go : (plain : Bool) → is_plain u ≡ plain → begins is_name_sign ((if plain then u ∷ [] else escaped u) ++ r) ≡ true
    go true e = rw e refl
    go false e = refl

-- the name of a member is read back, where no sign of a name follows
pub reads_plain : Reads AreUnits (Ends is_name_sign) plain
reads_plain = reads_weaker (each_from_all (λ u. u < 2 ^ 16)) (λ r f. (tt, f)) (reads_list (Ends is_name_sign) reads_plain_unit (λ x r g. tt)
    (λ x r s g f e. true≢false (sym (name_sign x r) ∙ ap (begins is_name_sign) e ∙ f)))

-- a text, or a dash for none, is read back
pub reads_text_or_dash : Reads (IfAny AreUnits) Anything (text_or_dash quoted)
reads_text_or_dash = reads_option (codes "-") reads_quoted (λ x r s g fr fs e. omega (arith, ap (λ t. get_or t 0 0) e))
