-- Fields, with their values and annotations, are read back.
use Rattle.dexspec.proofs.Common.{◌≡◌, ℕ, ◌<◌, ◌≤◌, ◌^◌, List, [], ◌∷◌, ◌++◌, length, map, Option, Some, None, refl, sym, ap, ◌∙◌, All, AllByRecursion, flat_map, arith, codes, option_map_or}
use Rattle.dexspec.specs.Texts.{Text, AreUnits}
use Rattle.dexspec.specs.Classes.{FieldDef}
use Rattle.dexspec.specs.Values.{Value, Values, NoValues, ThenValue, count_values}
use Rattle.dexspec.specs.Mentions.{field_symbols, value_symbols, values_symbols}
use Rattle.dexspec.specs.WellFormed.{IsFieldDef}
use Rattle.dexflags.specs.Flags.{OfField, flags_text}
use Rattle.dexlisting.specs.Listing.{own_field_text}
use Rattle.dexlisting.specs.FullListing.{plain, value_text, set_lines, full_field_lines, static_field_lines, instance_field_lines}
use Rattle.dexlisting.proofs.law.Reads.{Reads, Lacks, IfAny, after, skip, part, reads_lines, reads_optional, reads_words}
use Rattle.dexlisting.proofs.law.Numbers.{reads_flags}
use Rattle.dexlisting.proofs.law.Types.{KnownType}
use Rattle.dexlisting.proofs.law.Symbols.{KnownSymbol, reads_own_field}
use Rattle.dexlisting.proofs.law.Goods.{Knows, each_append, each_flat_map, each_from_all, each_both, each_so}
use Rattle.dexlisting.proofs.law.Values.{Breaks, KnownValue, KnownValues, reads_value}
use Rattle.dexlisting.proofs.law.Annotations.{KnownSet, known_set, reads_set}

-- ---- a field

-- a field that some file can have, of which all symbols are known
pub record KnownFieldDef (f : FieldDef) : Type 0 where
  pub name : AreUnits f.name
  pub type : KnownType f.type
  pub flags : f.flags < 2 ^ 64
  pub annotations : KnownSet f.annotations

-- a field of a well-formed class is one
pub known_field_def : (class : Text) (f : FieldDef) → IsFieldDef f → Knows (field_symbols class f) → KnownFieldDef f
known_field_def class f h knows = record {
  name = knows.0.name;
  type = knows.0.type;
  flags = omega (arith, h.flags);
  annotations = known_set f.annotations h.annotations knows.1;
}

-- each of the fields of such a class
pub known_field_defs : (class : Text) (fs : List FieldDef) → All IsFieldDef fs → Knows (flat_map (field_symbols class) fs) → AllByRecursion KnownFieldDef fs
known_field_defs class fs h knows = each_so (λ f. IsFieldDef f × Knows (field_symbols class f)) (λ f both. known_field_def class f both.0 both.1) fs
    (each_both IsFieldDef (λ f. Knows (field_symbols class f)) fs (each_from_all IsFieldDef fs h) (each_flat_map KnownSymbol (field_symbols class) fs knows))

-- a field with its value, if it has one
abbrev pub KnownFieldPair : FieldDef × Option Value → Type 0
KnownFieldPair p = KnownFieldDef p.0 × IfAny KnownValue p.1

-- the value of a field is read back, if it has one
reads_set_value : Reads (IfAny KnownValue) (λ r. Breaks r × Lacks (codes " value=") r) (λ x. option_map_or (λ v. codes " value=" ++ value_text v) x [])
reads_set_value = reads_optional (codes " value=") value_text (λ x. refl) (reads_words (codes " value=") reads_value)

-- the parts of a field, one after the other
field_from : (words : List ℕ) (x y : FieldDef × Option Value) (r s : List ℕ) → KnownFieldPair x → KnownFieldPair y
    → Lacks (codes "    annotation ") r → Lacks (codes "    annotation ") s
    → full_field_lines words x.0 x.1 ++ r ≡ full_field_lines words y.0 y.1 ++ s → (x ≡ y) × (r ≡ s)
unfolding full_field_lines
field_from words x y r s gx gy fr fs e =
    let lines = λ (p : FieldDef × Option Value). codes "\n" ++ set_lines (codes "    ") p.0.annotations in
    let value = λ (p : FieldDef × Option Value). option_map_or (λ v. codes " value=" ++ value_text v) p.1 [] ++ lines p in
    let flags = λ (p : FieldDef × Option Value). codes " flags=" ++ (flags_text OfField p.0.flags ++ value p) in
    let own = λ (p : FieldDef × Option Value). own_field_text plain p.0.name p.0.type ++ flags p in
    let n = part reads_own_field (x.0.name, x.0.type) (y.0.name, y.0.type) (flags x) (flags y) r s (gx.0.name, gx.0.type) (gy.0.name, gy.0.type) tt tt (skip words (own x) (own y) r s e) in
    let f = part (reads_flags OfField) x.0.flags y.0.flags (value x) (value y) r s gx.0.flags gy.0.flags tt tt (after (codes " flags=") n.1) in
    let v = part reads_set_value x.1 y.1 (lines x) (lines y) r s gx.1 gy.1 (refl, refl) (refl, refl) f.1 in
    let a = (reads_set (codes "    ")).read x.0.annotations y.0.annotations r s gx.0.annotations gy.0.annotations fr fs (after (codes "\n") v.1) in
    (λ i. (record { name = (n.0 i).0; type = (n.0 i).1; flags = f.0 i; annotations = a.0 i }, v.0 i), a.1)

-- the lines of a field are read back
pub reads_field_lines : (words : List ℕ) → Reads KnownFieldPair (Lacks (codes "    annotation ")) (λ (p : FieldDef × Option Value). full_field_lines words p.0 p.1)
reads_field_lines words = record { read = field_from words }

-- what follows the first words in the line of a field
abbrev after_field_words : FieldDef × Option Value → List ℕ
after_field_words p = own_field_text plain p.0.name p.0.type ++ (codes " flags=" ++ (flags_text OfField p.0.flags
    ++ (option_map_or (λ v. codes " value=" ++ value_text v) p.1 [] ++ (codes "\n" ++ set_lines (codes "    ") p.0.annotations))))

-- they begin with the words
field_words : (words : List ℕ) (p : FieldDef × Option Value) → full_field_lines words p.0 p.1 ≡ words ++ after_field_words p
unfolding full_field_lines
field_words words p = refl

-- ---- instance fields

-- what may follow the instance fields
abbrev pub AfterInstanceFields : List ℕ → Type 0
AfterInstanceFields r = Lacks (codes "    annotation ") r × Lacks (codes "  instance-field ") r

-- an instance field has no value
reads_instance_field : Reads KnownFieldDef (Lacks (codes "    annotation ")) instance_field_lines
reads_instance_field = record {
  read = λ x y r s gx gy fr fs e.
      let p = field_from (codes "  instance-field ") (x, None) (y, None) r s (gx, tt) (gy, tt) fr fs e in
      (ap (λ q. q.0) p.0, p.1);
}

-- the instance fields are read back
pub reads_instance_fields : Reads (AllByRecursion KnownFieldDef) AfterInstanceFields (flat_map instance_field_lines)
reads_instance_fields = reads_lines (codes "  instance-field ") (λ f. after_field_words (f, None)) (λ f. field_words (codes "  instance-field ") (f, None)) (λ r. refl) reads_instance_field

-- ---- static fields

-- the static fields with their values, of which there may be fewer
abbrev pub paired : List FieldDef → Values → List (FieldDef × Option Value)
paired [] vs = []
paired (f ∷ fs) NoValues = (f, None) ∷ paired fs NoValues
paired (f ∷ fs) (ThenValue v vs) = (f, Some v) ∷ paired fs vs

-- the values that are there
abbrev values_in : List (FieldDef × Option Value) → Values
values_in [] = NoValues
values_in ((f, None) ∷ ps) = NoValues
values_in ((f, Some v) ∷ ps) = ThenValue v (values_in ps)

-- the fields of the pairs
paired_fields : (fs : List FieldDef) (vs : Values) → map (λ p. p.0) (paired fs vs) ≡ fs
paired_fields [] vs = refl
paired_fields (f ∷ fs) NoValues = ap (λ t. f ∷ t) (paired_fields fs NoValues)
paired_fields (f ∷ fs) (ThenValue v vs) = ap (λ t. f ∷ t) (paired_fields fs vs)

-- their values, if there are not too many
paired_values : (fs : List FieldDef) (vs : Values) → count_values vs ≤ length fs → values_in (paired fs vs) ≡ vs
paired_values [] NoValues few = refl
paired_values [] (ThenValue v vs) few = absurd (omega (arith, few))
paired_values (f ∷ fs) NoValues few = refl
paired_values (f ∷ fs) (ThenValue v vs) few = ap (ThenValue v) (paired_values fs vs (omega (arith, few)))

-- the lines of the pairs
paired_lines : (fs : List FieldDef) (vs : Values) → static_field_lines fs vs ≡ flat_map (λ p. full_field_lines (codes "  static-field ") p.0 p.1) (paired fs vs)
paired_lines [] vs = refl
paired_lines (f ∷ fs) NoValues = ap (λ t. full_field_lines (codes "  static-field ") f None ++ t) (paired_lines fs NoValues)
paired_lines (f ∷ fs) (ThenValue v vs) = ap (λ t. full_field_lines (codes "  static-field ") f (Some v) ++ t) (paired_lines fs vs)

-- the pairs are known
known_pairs : (fs : List FieldDef) (vs : Values) → AllByRecursion KnownFieldDef fs → KnownValues vs → AllByRecursion KnownFieldPair (paired fs vs)
known_pairs [] vs gf gv = tt
known_pairs (f ∷ fs) NoValues gf gv = ((gf.0, tt), known_pairs fs NoValues gf.1 gv)
known_pairs (f ∷ fs) (ThenValue v vs) gf gv =
    let k = each_append KnownSymbol (value_symbols v) (values_symbols vs) gv.1 in
    ((gf.0, (gv.0.0, k.0)), known_pairs fs vs gf.1 (gv.0.1, k.1))

-- static fields and at most as many values, all of which are known
pub record KnownStatics (p : List FieldDef × Values) : Type 0 where
  pub fields : AllByRecursion KnownFieldDef p.0
  pub values : KnownValues p.1
  pub few : count_values p.1 ≤ length p.0

-- what may follow the static fields
abbrev pub AfterStaticFields : List ℕ → Type 0
AfterStaticFields r = Lacks (codes "    annotation ") r × Lacks (codes "  static-field ") r

-- the pairs are read back
reads_pairs : Reads (AllByRecursion KnownFieldPair) AfterStaticFields (flat_map (λ (p : FieldDef × Option Value). full_field_lines (codes "  static-field ") p.0 p.1))
reads_pairs = reads_lines (codes "  static-field ") after_field_words (field_words (codes "  static-field ")) (λ r. refl) (reads_field_lines (codes "  static-field "))

-- the static fields and their values are read back
pub reads_static_fields : Reads KnownStatics AfterStaticFields (λ (p : List FieldDef × Values). static_field_lines p.0 p.1)
reads_static_fields = record {
  read = λ x y r s gx gy fr fs e.
      let p = reads_pairs.read (paired x.0 x.1) (paired y.0 y.1) r s (known_pairs x.0 x.1 gx.fields gx.values) (known_pairs y.0 y.1 gy.fields gy.values) fr fs
      (sym (ap (λ t. t ++ r) (paired_lines x.0 x.1)) ∙ e ∙ ap (λ t. t ++ s) (paired_lines y.0 y.1)) in
      let fields : x.0 ≡ y.0 = sym (paired_fields x.0 x.1) ∙ ap (map (λ p. p.0)) p.0 ∙ paired_fields y.0 y.1 in
      let values : x.1 ≡ y.1 = sym (paired_values x.0 x.1 gx.few) ∙ ap values_in p.0 ∙ paired_values y.0 y.1 gy.few in
      (λ i. (fields i, values i), p.1);
}
