-- The text of a const-string that is not a jumbo one has a row below 65536; so the collection that an accepted file
-- denotes is good.
use Rattle.dexspec.proofs.Common.{◌≡◌, ℕ, zero, suc, ◌+◌, ◌/◌, ◌%◌, ◌<◌, ◌≤◌, ◌^◌, Bool, true, false, List, length, take, drop, slice_index, All, Option, Some, None, refl, sym, ap, ◌∙◌, subst, arith, inl, inr, length-take, if◌then◌else◌, ◌==◌, slice_set, Contains, pow-le-pow_right, get_or-eq_default, cases_lt, get_or-set_other, All-take, All-drop, Contains-append_cases, Code}
use Rattle.dexspec.specs.{OrNone, SomeAt, uint_at, ushort_at, ushorts_at, Text, TextSymbol, StringRow, SymbolRow, Cut, Piece, Instruction, DenotesPiece, cut_units, index_in, is_wide_index, with_index, two_units, low_byte, CodeAt, code_units, EncodedMethod, MethodDef, Body, ClassRow, MakesMethod, declared_methods, Collection, definitions, Denotes, IsGood, greatest_caps, Condition, IsAccepted}
use Rattle.dexspec.proofs.numbers.ByteNumbers.{number_bound}
use Rattle.dexspec.proofs.wellformed.Fitting.{zip_source}
use Rattle.dexspec.proofs.wellformed.SymbolRows.{row_symbols}
use Rattle.dexspec.proofs.wellformed.DenotedGood.{accepted_classes, member_row, good_from_rows}

-- ---- units

-- two bytes encode a number of 16 bits
pub ushort_bound : (b : List ℕ) (o : ℕ) → All (λ byte. byte < 256) b → ushort_at b o < 65536
unfolding ushort_at
ushort_bound b o bytes =
    let small = number_bound (take 2 (drop o b)) (All-take (λ (x : ℕ). x < 256) 2 (drop o b) (All-drop (λ (x : ℕ). x < 256) o b bytes)) in
    let size : length (take 2 (drop o b)) ≤ 2 = omega (arith, length-take 2 (drop o b)) in
    let most : 256 ^ length (take 2 (drop o b)) ≤ 256 ^ 2 = pow-le-pow_right (omega arith) size in
    omega (arith, small, most)

-- bytes encode numbers of 16 bits
pub ushorts_bound : (b : List ℕ) (o n : ℕ) → All (λ byte. byte < 256) b → All (λ u. u < 65536) (ushorts_at b o n)
ushorts_bound b o zero bytes k d lt = absurd (omega arith)
ushorts_bound b o (suc n) bytes zero d lt = ushort_bound b o bytes
ushorts_bound b o (suc n) bytes (suc k) d lt = ushorts_bound b (o + 2) n bytes k d (omega arith)

-- a unit at a place, or zero
unit_bound : (us : List ℕ) (i : ℕ) → All (λ u. u < 65536) us → slice_index us i < 65536
unit_bound us i h = elim (cases_lt i (length us)) [
  | inl lt ↦ h i 0 lt
  | inr ge ↦ omega (arith, get_or-eq_default us 0 ge)
]

-- ---- the index of a const-string

-- the first unit is unchanged when an index is set
pub first_kept : (us : List ℕ) (w : Bool) → slice_index (if w then slice_set (slice_set us 1 (0 % 65536)) 2 (0 / 65536) else slice_set us 1 0) 0 ≡ slice_index us 0
first_kept us true = get_or-set_other (slice_set us 1 (0 % 65536)) 2 0 (0 / 65536) 0 (omega arith) ∙ get_or-set_other us 1 0 (0 % 65536) 0 (omega arith)
first_kept us false = get_or-set_other us 1 0 0 0 (omega arith)

index_by : (us : List ℕ) (w : Bool) → is_wide_index us ≡ w → low_byte (slice_index us 0) ≡ 0x1a → index_in us ≡ slice_index us 1
index_by us true e low = absurd (let f : (0x1a == 0x1b) ≡ true = sym (ap (λ (x : ℕ). x == 0x1b) low) ∙ e in cc)
index_by us false e low = ap (λ (t : Bool). if t then two_units us 1 else slice_index us 1) e

-- units with a narrow index
narrow_index : (us xs : List ℕ) → xs ≡ with_index 0 us → low_byte (slice_index xs 0) ≡ 0x1a → All (λ u. u < 65536) us → index_in us < 65536
narrow_index us xs same low units =
    let kept : slice_index xs 0 ≡ slice_index us 0 = ap (λ (ys : List ℕ). slice_index ys 0) same ∙ first_kept us (is_wide_index us) in
    let e = index_by us (is_wide_index us) refl (ap low_byte (sym kept) ∙ low) in
    omega (arith, e, unit_bound us 1 units)

-- ---- the code that has the const-string

module _ (b : List ℕ) (bytes : All (λ byte. byte < 256) b) where
  in_code : (o : ℕ) (k : Code) (xs : List ℕ) (s : Text) → CodeAt b o k → Contains k.pieces (Instruction xs (Some (TextSymbol s))) → low_byte (slice_index xs 0) ≡ 0x1a → (i : ℕ) × (i < 65536) × StringRow b i s
  in_code o k xs s h c low =
      let units = code_units b o in
      let w = zip_source (λ (cut : Cut) (q : Piece). DenotesPiece (SymbolRow b) (cut_units units cut) q) h.cuts k.pieces (Instruction xs (Some (TextSymbol s))) h.pieces.pieces c in
      let us = cut_units units w.0 in
      let small = λ (x : ℕ). x < 65536 in
      let all = All-take small w.0.units (drop w.0.unit units) (All-drop small w.0.unit units (ushorts_bound b (o + 16) (uint_at b (o + 12)) bytes)) in
      (index_in us, narrow_index us xs w.2.2 low all, w.2.1)

  in_some_code : (o : ℕ) (m : Option Code) (k : Code) → m ≡ Some k → OrNone (SomeAt CodeAt) None b o m → CodeAt b o k
  in_some_code o m k e (inl h) = absurd (let f : Some k ≡ None = sym e ∙ h.1 in cc)
  in_some_code o m k e (inr h) = subst (SomeAt CodeAt b o) e h.1

  -- the short strings of a class row's definition
  row_short : (r : ℕ) (name : Text) (c : Body) (m : MethodDef) (k : Code) (xs : List ℕ) (s : Text) → ClassRow b r name c → Contains (declared_methods c) m → m.code ≡ Some k
      → Contains k.pieces (Instruction xs (Some (TextSymbol s))) → low_byte (slice_index xs 0) ≡ 0x1a → (i : ℕ) × (i < 65536) × StringRow b i s
  row_short r name c m k xs s h d e p low =
      let made = λ (x : EncodedMethod) (makes : MakesMethod b h.directory x m). in_code x.code_off k xs s (in_some_code x.code_off m.code k e makes.code) p low in
      elim (Contains-append_cases c.direct_methods c.virtual_methods m d) [
        | inl l ↦ let w = zip_source (MakesMethod b h.directory) h.members.direct_methods c.direct_methods m h.direct_methods l in made w.0 w.2
        | inr l ↦ let w = zip_source (MakesMethod b h.directory) h.members.virtual_methods c.virtual_methods m h.virtual_methods l in made w.0 w.2
      ]

  -- the collection that an accepted file denotes is good
  pub denoted_good : IsAccepted b → (K : Collection) → Denotes b K → IsGood greatest_caps (definitions K)
  denoted_good h K denotes =
      good_from_rows b h K denotes
      (λ d c. let w = member_row b h K denotes d c in row_symbols b (accepted_classes b h).few w.0 d.0 d.1 w.1 (h Condition.Members w.0 w.1.row))
      (λ s x. let w = member_row b h K denotes x.definition x.member in row_short w.0 x.definition.0 x.definition.1 x.method x.code x.units s w.1 x.declared x.has_code x.piece x.short)
