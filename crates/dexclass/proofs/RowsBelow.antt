-- The class rows of a file, the definitions that they are, and what these weigh.
use Rattle.dexclass.proofs.Common.{◌≡◌, ℕ, ◌+◌, ◌<◌, ◌≤◌, List, [], ◌∷◌, ◌++◌, length, get_or, sym, ap, subst, arith, refl, AllZip, range_with_len, below_more, sum_by_push, length-range_with_len, get_or-range_with_len, AreDistinct, ClassDefs, table_size, Definition, ClassRow, Collection, Denotes, IsCollectionOf, mentions, weight, body_weight, mentions_weight, most_weight, Condition, HoldBelow, IsReadable, AreRows, FailsAt, IsAccepted, row_of, weight-within, HasClasses, has_classes, AreReadable, same_class_row, rows_define, defined_rows, zip_length, zip_at, zip_push}
use Rattle.dexspec.specs.Files.{AreWithin}
use Rattle.dexclass.specs.internal.Reading.{bodies_weight}
use Rattle.dexclass.proofs.Arranged.{one_more}

-- the definition is what a row is
abbrev pub IsRow : List ℕ → ℕ → Definition → Type 0
IsRow b r d = ClassRow b r d.0 d.1

-- ---- what they weigh

-- the parts of the weight
pub weight_is : (D : List Definition) → weight D ≡ 1024 + mentions_weight (mentions D) + bodies_weight D
unfolding weight
weight_is D = refl

-- one definition more
pub bodies_more : (D : List Definition) (d : Definition) → bodies_weight (D ++ d ∷ []) ≡ bodies_weight D + body_weight d.1
bodies_more D d = sum_by_push (λ (x : Definition). body_weight x.1) D d

-- ---- values of a run of rows

-- the value of a row
at_row : {X : Type 0} (P : ℕ → X → Type 0) (n a : ℕ) (xs : List X) → AllZip P (range_with_len a n) xs → (i : ℕ) (d : X) → i < length xs → P (a + i) (get_or xs i d)
at_row P n a xs h i d lt =
    let many = zip_length P (range_with_len a n) xs h in
    subst (λ (k : ℕ). P k (get_or xs i d)) (get_or-range_with_len a n i 0 (omega (arith, lt, many, length-range_with_len a n))) (zip_at P (range_with_len a n) xs i 0 d h (omega (arith, lt, many)))

-- the definitions of one row more
pub rows_more : (b : List ℕ) (r : ℕ) (D : List Definition) (d : Definition) → AreRows b r D → IsRow b r d → AreRows b (r + 1) (D ++ d ∷ [])
rows_more b r D d rows row = subst (λ (l : List ℕ). AllZip (IsRow b) l (D ++ d ∷ [])) (sym (one_more r)) (zip_push (IsRow b) (range_with_len 0 r) D r d rows row)

-- ---- rows of a file that meets conditions 1 to 16

module _ (b : List ℕ) (classes : HasClasses b) where
  -- a name is in one row
  pub one_name : (n : ℕ) (D : List Definition) → AreRows b n D → (i j : ℕ) (d : Definition) → i < length D → j < length D → (get_or D i d).0 ≡ (get_or D j d).0 → i ≡ j
  one_name n D rows i j d li lj e = omega (arith, (same_class_row b classes (0 + i) (0 + j) (get_or D j d).0 (get_or D i d).1 (get_or D j d).1 (subst (λ (name : List ℕ). ClassRow b (0 + i) name (get_or D i d).1) e (at_row (IsRow b) n 0 D rows i d li)) (at_row (IsRow b) n 0 D rows j d lj)))

  -- so no two rows are the same
  pub rows_distinct : (n : ℕ) (D : List Definition) → AreRows b n D → AreDistinct D
  rows_distinct n D rows i j d less lt e = omega (arith, (one_name n D rows i j d (omega (arith, less, lt)) lt (ap (λ (x : Definition). x.0) e)), less)

  module _ (D : List Definition) (rows : AreRows b (table_size b ClassDefs) D) where
    -- fewer rows weigh no more
    pub light_rows : weight D ≤ most_weight → (n : ℕ) (E : List Definition) → AreRows b n E → weight E ≤ most_weight
    light_rows light n E part =
        let within : AreWithin E D = λ d c. let s = row_of (IsRow b) n 0 E part d c in defined_rows b classes D rows d.0 d.1 (s.0, s.3) in
        omega (arith, light, weight-within E D (rows_distinct n E part) within)

    -- their collection is what the file denotes
    pub collection_denoted : (K : Collection) → IsCollectionOf D K → Denotes b K
    collection_denoted K is = λ name c. (
      λ member. rows_define b classes D rows name c ((is name c).0 member),
      λ row. (is name c).1 (defined_rows b classes D rows name c row),
    )

-- ---- condition 23

module _ (b : List ℕ) (h : HoldBelow 17 b) where
  -- where readable rows up to a row weigh too much, it fails there
  pub too_heavy : (r : ℕ) (D : List Definition) → r < table_size b ClassDefs → ((k : ℕ) → k < r + 1 → IsReadable b k) → AreRows b (r + 1) D → most_weight < weight D → FailsAt Condition.Weight b r
  too_heavy r D lt readable rows more = record { before = h; late = omega arith; row = lt; fails = λ light. absurd (omega (arith, more, light D (λ k le. readable k (omega (arith, le))) rows)) }

  -- so it does where the bodies alone do
  pub heavy_row : (r : ℕ) (D : List Definition) (d : Definition) → r < table_size b ClassDefs → ((k : ℕ) → k < r → IsReadable b k) → AreRows b r D → IsReadable b r → IsRow b r d → most_weight < bodies_weight D + body_weight d.1 → FailsAt Condition.Weight b r
  heavy_row r D d lt readable rows is row heavy = too_heavy r (D ++ d ∷ []) lt (below_more (IsReadable b) r readable is) (rows_more b r D d rows row) (omega (arith, heavy, weight_is (D ++ d ∷ []), bodies_more D d))

  module _ (D : List Definition) (readable : AreReadable b) (rows : AreRows b (table_size b ClassDefs) D) (light : weight D ≤ most_weight) where
    -- where all rows are readable and do not weigh too much, the file is accepted
    pub light_accepted : IsAccepted b
    light_accepted Condition.Members = λ r lt. (readable r lt).members
    light_accepted Condition.Code = λ r lt. (readable r lt).code
    light_accepted Condition.Tries = λ r lt. (readable r lt).tries
    light_accepted Condition.Debug = λ r lt. (readable r lt).debug
    light_accepted Condition.Values = λ r lt. (readable r lt).values
    light_accepted Condition.Annotations = λ r lt. (readable r lt).annotations
    light_accepted Condition.Weight = λ r lt E some part. light_rows b (has_classes b h) D rows light (r + 1) E part
    light_accepted c = h c (omega arith)
