-- The canonical file of a collection is accepted and denotes it, if the items of its classes are valid.
use Rattle.dexspec.proofs.Common.{◌≡◌, ℕ, zero, suc, ◌+◌, ◌<◌, List, [], ◌∷◌, length, get_or, refl, sym, ap, ◌∙◌, subst, arith, AllZip, Contains, range_with_len, get_or_default, Contains-get_or, None}
use Rattle.dexspec.specs.{NoValues, ClassDefs, table_size, Definition, ClassRow, Collection, definitions, Denotes, in_class_order, AreWellFormed, AreCaps, greatest_caps, Fits, IsGood, Condition, IsReadable, HasWeight, HoldBelow, IsFrame, IsAccepted, canonical}
use Rattle.dexspec.proofs.determined.OneClass.{HasFewRows, one_class_row}
use Rattle.dexspec.proofs.merge.Collections.{definitions-are}
use Rattle.dexspec.proofs.normal.ClassOrder.{definitions-distinct}
use Rattle.dexspec.proofs.size.SizeFile.{canonical-has_size}
use Rattle.dexspec.proofs.layout.Frames.{fits_few, canonical_laid, canonical_frame}
use Rattle.dexspec.proofs.wellformed.Formed.{mentions-pools}
use Rattle.dexspec.proofs.normal.NormalRows.{IsNormal, count_small, has_string, has_type, has_proto, has_field, has_method}
use Rattle.dexspec.proofs.normal.ClassPlaces.{in_class_order-only, in_class_order-has, class_names-apart}
use Rattle.dexspec.proofs.normal.NormalClasses.{BelongsAt, AreNormal, class_encoded, has_class}

-- a definition for places past the end
abbrev pub some_class : Definition
some_class = ([], record { flags = 0; superclass = None; interfaces = []; source = None; annotations = []; static_fields = []; instance_fields = []; direct_methods = []; virtual_methods = []; static_values = NoValues })

-- a list that is related to the numbers from one on
abbrev RelatedFrom : {X : Type 0} → (ℕ → X → Type 0) → ℕ → ℕ → List X → Type 0
RelatedFrom {X} R from n xs = (k : ℕ) (d : X) → k < n → R (from + k) (get_or xs k d)

-- from the first and the rest
related : {X : Type 0} (R : ℕ → X → Type 0) (from n : ℕ) (x : X) (xs : List X) → R from x → RelatedFrom R (from + 1) n xs → RelatedFrom R from (suc n) (x ∷ xs)
related R from n x xs h rest zero d lt = let e : from ≡ from + 0 = omega arith in subst (λ i. R i x) e h
related R from n x xs h rest (suc k) d lt = let e : from + 1 + k ≡ from + suc k = omega arith in subst (λ i. R i (get_or xs k d)) e (rest k d (omega arith))

-- a list that is related to numbers is related at each place
rows_at : {X : Type 0} (R : ℕ → X → Type 0) (from n : ℕ) (xs : List X) → AllZip R (range_with_len from n) xs → (length xs ≡ n) × RelatedFrom R from n xs
rows_at R from zero [] h = (refl, λ k d lt. absurd (omega arith))
rows_at R from (suc n) (x ∷ xs) h = let rest = rows_at R (from + 1) n xs h.1 in (ap suc rest.0, related R from n x xs h.0 rest.1)
rows_at _ from _ _ h = absurd h

-- the conditions on the items of classes: the items of each class are at the offsets of its row, and each row is
-- readable
pub record ItemsAreRight (D : List Definition) (b : List ℕ) : Type 0 where
  pub belong : (r : ℕ) (e : Definition) → r < length (in_class_order D) → BelongsAt b r (get_or (in_class_order D) r e).1
  pub readable : (r : ℕ) → r < table_size b ClassDefs → IsReadable b r

module _ (D : List Definition) (b : List ℕ) (n : AreNormal D b) (items : ItemsAreRight D b) where
  -- row r is the r-th class
  pub class_row_is : (r : ℕ) (e : Definition) → r < length (in_class_order D) → ClassRow b r (get_or (in_class_order D) r e).0 (get_or (in_class_order D) r e).1
  class_row_is r e lt = class_encoded D b n r e lt (items.belong r e lt)

  -- and no other class
  pub only_class : (r : ℕ) (d : Definition) → ClassRow b r d.0 d.1 → (r < length (in_class_order D)) × (get_or (in_class_order D) r d ≡ d)
  only_class r d h =
      let lt : r < length (in_class_order D) = omega (arith, h.row, n.file.laid.count ClassDefs) in
      let few : HasFewRows b = λ t. omega (arith, n.file.laid.count t, count_small D b n.file t) in
      let same = one_class_row b few r (get_or (in_class_order D) r d).0 d.0 (get_or (in_class_order D) r d).1 d.1 (class_row_is r d lt) h in
      (lt, λ i. (same.0 i, same.1 i))

  -- 23 Weight
  has_weight : Fits greatest_caps D → (r : ℕ) → HasWeight b r
  has_weight fits r E readable rows =
      let at = rows_at (λ k (d : Definition). ClassRow b k d.0 d.1) 0 (r + 1) E rows in
      let is : (k : ℕ) (d : Definition) → k < length E → (k < length (in_class_order D)) × (get_or (in_class_order D) k (get_or E k d) ≡ get_or E k d) =
      λ k d lt. let zero_more : 0 + k ≡ k = omega arith in only_class k (get_or E k d) (subst (λ i. ClassRow b i (get_or E k d).0 (get_or E k d).1) zero_more (at.1 k d (omega (arith, lt, at.0)))) in
      fits.weight E
      (λ i j d ij lt same.
      let x = is i d (omega (arith, ij, lt)) in
      let y = is j d lt in
      let one : get_or (in_class_order D) i d ≡ get_or E i d = get_or_default (in_class_order D) i d (get_or E i d) x.0 ∙ x.1 in
      let other : get_or (in_class_order D) j d ≡ get_or E j d = get_or_default (in_class_order D) j d (get_or E j d) y.0 ∙ y.1 in
      class_names-apart D i j d ij y.0 (ap (λ (z : Definition). z.0) (one ∙ same ∙ sym other)))
      (λ d c. let x = is c.0 d c.1 in in_class_order-only D d (subst (Contains (in_class_order D)) (x.1 ∙ c.2) (Contains-get_or (in_class_order D) c.0 (get_or E c.0 d) x.0)))

  -- all 23 conditions, if the first 16 hold
  accepted : Fits greatest_caps D → HoldBelow 17 b → IsAccepted b
  accepted fits first Condition.Size = first Condition.Size (omega arith)
  accepted fits first Condition.Magic = first Condition.Magic (omega arith)
  accepted fits first Condition.Version = first Condition.Version (omega arith)
  accepted fits first Condition.Lengths = first Condition.Lengths (omega arith)
  accepted fits first Condition.Endian = first Condition.Endian (omega arith)
  accepted fits first Condition.Link = first Condition.Link (omega arith)
  accepted fits first Condition.Checksum = first Condition.Checksum (omega arith)
  accepted fits first Condition.Signature = first Condition.Signature (omega arith)
  accepted fits first Condition.Layout = first Condition.Layout (omega arith)
  accepted fits first Condition.Map = first Condition.Map (omega arith)
  accepted fits first Condition.Strings = first Condition.Strings (omega arith)
  accepted fits first Condition.Types = first Condition.Types (omega arith)
  accepted fits first Condition.Protos = first Condition.Protos (omega arith)
  accepted fits first Condition.Fields = first Condition.Fields (omega arith)
  accepted fits first Condition.Methods = first Condition.Methods (omega arith)
  accepted fits first Condition.Classes = first Condition.Classes (omega arith)
  accepted fits first Condition.Members = λ r lt. (items.readable r lt).members
  accepted fits first Condition.Code = λ r lt. (items.readable r lt).code
  accepted fits first Condition.Tries = λ r lt. (items.readable r lt).tries
  accepted fits first Condition.Debug = λ r lt. (items.readable r lt).debug
  accepted fits first Condition.Values = λ r lt. (items.readable r lt).values
  accepted fits first Condition.Annotations = λ r lt. (items.readable r lt).annotations
  accepted fits first Condition.Weight = λ r lt. has_weight fits r

-- ---- canonical files

-- the greatest caps are caps
greatest_are : AreCaps greatest_caps
greatest_are = record { types = omega arith; protos = omega arith; fields = omega arith; methods = omega arith; short_strings = omega arith; weight = omega arith }

-- a canonical file has the bytes of its definitions
pub canonical_normal : (K : Collection) → Fits greatest_caps (definitions K) → AreWellFormed (definitions K) → IsNormal (definitions K) (canonical K)
canonical_normal K fits formed =
    let size = canonical-has_size greatest_caps K greatest_are fits in
    record {
      laid = canonical_laid K (omega (arith, size.most));
      few = fits_few greatest_caps K greatest_are fits;
      pools = mentions-pools (definitions K) formed;
    }

-- and the bytes of definitions that can be in one file
pub canonical_all_normal : (K : Collection) → IsGood greatest_caps (definitions K) → AreWellFormed (definitions K) → AreNormal (definitions K) (canonical K)
canonical_all_normal K good formed = record { file = canonical_normal K good.fits formed; formed = formed; names = definitions-distinct K; acyclic = good.acyclic }

-- it meets conditions 1 to 16
pub canonical_rows_hold : (K : Collection) → IsGood greatest_caps (definitions K) → AreWellFormed (definitions K) → HoldBelow 17 (canonical K)
canonical_rows_hold K good formed = each
  where
    n : AreNormal (definitions K) (canonical K)
    n = canonical_all_normal K good formed

    frame : IsFrame (canonical K)
    frame = canonical_frame K (fits_few greatest_caps K greatest_are good.fits) (canonical-has_size greatest_caps K greatest_are good.fits).most

    each : HoldBelow 17 (canonical K)
    each Condition.Size lt = frame Condition.Size (omega arith)
    each Condition.Magic lt = frame Condition.Magic (omega arith)
    each Condition.Version lt = frame Condition.Version (omega arith)
    each Condition.Lengths lt = frame Condition.Lengths (omega arith)
    each Condition.Endian lt = frame Condition.Endian (omega arith)
    each Condition.Link lt = frame Condition.Link (omega arith)
    each Condition.Checksum lt = frame Condition.Checksum (omega arith)
    each Condition.Signature lt = frame Condition.Signature (omega arith)
    each Condition.Layout lt = frame Condition.Layout (omega arith)
    each Condition.Map lt = frame Condition.Map (omega arith)
    each Condition.Strings lt = has_string (definitions K) (canonical K) n.file
    each Condition.Types lt = has_type (definitions K) (canonical K) n.file
    each Condition.Protos lt = has_proto (definitions K) (canonical K) n.file
    each Condition.Fields lt = has_field (definitions K) (canonical K) n.file
    each Condition.Methods lt = has_method (definitions K) (canonical K) n.file
    each Condition.Classes lt = λ r within. has_class (definitions K) (canonical K) n r some_class within
    each _ lt = absurd (omega (arith, lt))

-- the bytes are accepted, and denote the collection
pub record IsFileOf (K : Collection) (b : List ℕ) : Type 0 where
  pub accepted : IsAccepted b
  pub denotes : Denotes b K

-- the canonical file has this property, if the items are valid
pub normal_form : (K : Collection) → IsGood greatest_caps (definitions K) → AreWellFormed (definitions K) → ItemsAreRight (definitions K) (canonical K) → IsFileOf K (canonical K)
normal_form K good formed items =
    let D = definitions K in
    let b = canonical K in
    let n = canonical_all_normal K good formed in
    record {
      accepted = accepted D b n items good.fits (canonical_rows_hold K good formed);
      denotes = λ name c. (
        (λ m. let in_order = in_class_order-has D (name, c) n.names ((definitions-are K name c).0 m) in
            (in_order.0, subst (λ (d : Definition). ClassRow b in_order.0 d.0 d.1) in_order.2 (class_row_is D b n items in_order.0 (name, c) in_order.1))),
        (λ w. let x = only_class D b n items w.0 (name, c) w.1 in
            (definitions-are K name c).1 (in_class_order-only D (name, c) (w.0, x.0, x.1))),
      );
    }
