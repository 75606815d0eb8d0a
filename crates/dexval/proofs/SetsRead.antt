-- The annotations of a set that are read one after the other: the numbers of their types rise as the types do, the
-- annotations that were read are in the file, and the other annotations come after them.
use Rattle.dexval.proofs.Common.{◌≡◌, ℕ, zero, suc, ◌+◌, ◌-◌, ◌*◌, ◌<◌, ◌≤◌, true, List, [], ◌∷◌, ◌++◌, length, map, refl, ap, sym, subst, ◌∙◌, arith, slice_index, AllZip, is_lt, map-append, All-append, All-cons, All-nil, rises, uint_at, uints_at, data_off, Text, text_cmp, TypeRow, most_depth, AnnotationSet, AnnotationAt, SetAt, Mentions, and_first, and_second, one_annotation_item, one_type, NumberedAnnotation, NumberedElements, IsKnownSet, IsKnownAnnotation, annotation_in, set_in, type_at, HasPools, NoAnnotationAt, IsAnnotationReadAt, IsItemAt, NoItemAt, NoSetAt, HasOffsets, IsSetAt}
use Rattle.dexspec.specs.Annotations.{Annotation}
use Rattle.dexval.proofs.ElementsRead.{type_within}
use Rattle.dexval.proofs.Rising.{is_less, is_greater, one_number, rises_more}
use Rattle.dexval.proofs.Shapes.{first_is, is_at_byte}

-- ---- one annotation

module _ (b : List ℕ) (off : ℕ) (m : Mentions) where
  pub item_read : (visibility t : ℕ) (es : NumberedElements) (n : ℕ) → data_off b ≤ off → off < length b → slice_index b off ≡ visibility → visibility ≤ 2 → IsAnnotationReadAt b (off + 1) m most_depth t es n → IsItemAt b off m (record { visibility = visibility; type = t; elements = es })
  item_read visibility t es n in_data lt is known r = record {
    known = record { type_in = r.type_known; elements_known = r.known };
    at = record { in_data = in_data; known = known; visibility = is_at_byte b off visibility lt is; annotation = (n, r.encodes); shallow = r.shallow };
  }

  pub no_visibility : (v : ℕ) → slice_index b off ≡ v → 2 < v → NoItemAt b off
  no_visibility v is lt a h = omega (arith, h.known, first_is b off a.visibility [] h.visibility)

  pub no_item : NoAnnotationAt b (off + 1) most_depth → NoItemAt b off
  no_item none a h = none a.type a.elements h.annotation.0 h.annotation.1 h.shallow

-- ---- lists of offsets

pub uints_more : (b : List ℕ) (p k : ℕ) → uints_at b p (suc k) ≡ uints_at b p k ++ uint_at b (p + 4 * k) ∷ []
uints_more b p zero = ap (λ (x : ℕ). uint_at b x ∷ []) (omega arith)
uints_more b p (suc k) =
    let place : p + 4 + 4 * k ≡ p + 4 * suc k = omega arith in ap (λ (l : List ℕ). uint_at b p ∷ l) (uints_more b (p + 4) k) ∙ ap (λ (x : ℕ). uint_at b p ∷ (uints_at b (p + 4) k ++ uint_at b x ∷ [])) place

pub zip_more : {A X : Type 0} (R : A → X → Type 0) (keys : List A) (xs : List X) (a : A) (x : X) → AllZip R keys xs → R a x → AllZip R (keys ++ a ∷ []) (xs ++ x ∷ [])
zip_more R [] [] a x h r = (r, tt)
zip_more R (c ∷ cs) (y ∷ ys) a x h r = (h.0, zip_more R cs ys a x h.1 r)
zip_more R v w a x h r = absurd h

-- the type of the first annotation, if there is one, has at least this number
abbrev pub IsAbove : List ℕ → ℕ → AnnotationSet → Type 0
IsAbove b least [] = Unit {0}
IsAbove b least (a ∷ s) = (index : ℕ) → TypeRow b index a.type → least ≤ index

-- `count` annotations are at the offsets from here on, and their types rise from `least` on
pub record RestOf (b : List ℕ) (p count least : ℕ) : Type 0 where
  pub set : AnnotationSet
  pub are_encoded : AllZip (AnnotationAt b) (uints_at b p count) set
  pub rise : rises text_cmp (map (λ a. a.type) set) ≡ true
  pub above : IsAbove b least set

-- the first i of `count` annotations were read, and the numbers of their types are below `least`; if `count`
-- annotations are in the file, the other annotations come after these
pub record HaveReadSet (b : List ℕ) (p : ℕ) (m : Mentions) (count i least : ℕ) (xs : List NumberedAnnotation) : Type 0 where
  pub known : IsKnownSet m xs
  pub are_encoded : AllZip (AnnotationAt b) (uints_at b p i) (set_in m xs)
  pub rise : rises text_cmp (map (λ x. type_at m x.type) xs) ≡ true
  pub below : (index : ℕ) → least ≤ index → index < length m.types → rises text_cmp (map (λ x. type_at m x.type) xs ++ type_at m index ∷ []) ≡ true
  pub rest : RestOf b p count 0 → RestOf b (p + 4 * i) (count - i) least

module _ (b : List ℕ) (m : Mentions) (file : HasPools b m) where
  row_type : (index : ℕ) (t : Text) → TypeRow b index t → t ≡ type_at m index
  row_type index t r = one_type b index t (type_at m index) r (file.pools.types_are.each index [] (omega (arith, type_within b m file index t r, file.pools.types_are.count)))

  above_next : (index : ℕ) (t : Text) (s : AnnotationSet) → TypeRow b index t → rises text_cmp (t ∷ map (λ a. a.type) s) ≡ true → IsAbove b (index + 1) s
  above_next index t [] r h = tt
  above_next index t (a ∷ s) r h = λ other row.
      let texts : is_lt (text_cmp (type_at m index) (type_at m other)) ≡ true = ap is_lt (ap (λ (x : Text). text_cmp x (type_at m other)) (sym (row_type index t r)) ∙ ap (text_cmp t) (sym (row_type other a.type row))) ∙ (and_first (is_lt (text_cmp t a.type)) (rises text_cmp (a.type ∷ map (λ a. a.type) s)) h) in
      omega (arith, is_greater m.types file.rising.types_rise index other (type_within b m file index t r) (type_within b m file other a.type row) texts)

  rise_next : (t : Text) (s : AnnotationSet) → rises text_cmp (t ∷ map (λ a. a.type) s) ≡ true → rises text_cmp (map (λ a. a.type) s) ≡ true
  rise_next t [] h = refl
  rise_next t (a ∷ s) h = and_second (is_lt (text_cmp t a.type)) (rises text_cmp (a.type ∷ map (λ a. a.type) s)) h

  -- the next annotation, and the annotations after it
  record Next (p left least : ℕ) : Type 0 where
    first : Annotation
    index : ℕ
    encodes : AnnotationAt b (uint_at b p) first
    row : TypeRow b index first.type
    above : least ≤ index
    following : RestOf b (p + 4) (left - 1) (index + 1)

  next_of : (p left least : ℕ) (s : AnnotationSet) → AllZip (AnnotationAt b) (uints_at b p (suc left)) s → rises text_cmp (map (λ a. a.type) s) ≡ true → IsAbove b least s → Next p (suc left) least
  next_of p left least [] h r a = absurd h
  next_of p left least (x ∷ s) h r a =
      let one : left ≡ suc left - 1 = omega arith in
      record {
        first = x;
        index = h.0.annotation.1.3;
        encodes = h.0;
        row = h.0.annotation.1.5;
        above = a h.0.annotation.1.3 h.0.annotation.1.5;
        following = record {
          set = s;
          are_encoded = subst (λ (n : ℕ). AllZip (AnnotationAt b) (uints_at b (p + 4) n) s) one h.1;
          rise = rise_next x.type s r;
          above = above_next h.0.annotation.1.3 x.type s h.0.annotation.1.5 r;
        };
      }

  next : (p left least : ℕ) → 0 < left → RestOf b p left least → Next p left least
  next p zero least lt r = absurd (omega arith)
  next p (suc left) least lt r = next_of p left least r.set r.are_encoded r.rise r.above

  pub none_read : (p count : ℕ) → HaveReadSet b p m count 0 0 []
  none_read p count = record {
    known = All-nil (IsKnownAnnotation m);
    are_encoded = tt;
    rise = refl;
    below = λ index le lt. refl;
    rest = λ r. let at : p ≡ p + 4 * 0 = omega arith in let left : count ≡ count - 0 = omega arith in subst (λ (o : ℕ). RestOf b o (count - 0) 0) at (subst (λ (c : ℕ). RestOf b p c 0) left r);
  }

  -- one more annotation was read
  pub one_more : (p count i least : ℕ) (xs : List NumberedAnnotation) (x : NumberedAnnotation) → i < count → least ≤ x.type → HaveReadSet b p m count i least xs → IsItemAt b (uint_at b (p + 4 * i)) m x → HaveReadSet b p m count (i + 1) (x.type + 1) (xs ++ x ∷ [])
  one_more p count i least xs x lt le h r =
      let types = map (λ (y : NumberedAnnotation). type_at m y.type) in
      let more : types (xs ++ x ∷ []) ≡ types xs ++ type_at m x.type ∷ [] = map-append (λ (y : NumberedAnnotation). type_at m y.type) xs (x ∷ []) in
      let risen : rises text_cmp (types xs ++ type_at m x.type ∷ []) ≡ true = h.below x.type le r.known.type_in in
      let count_more : i + 1 ≡ suc i = omega arith in
      record {
        known = All-append (IsKnownAnnotation m) xs (x ∷ []) h.known (All-cons (IsKnownAnnotation m) x [] r.known (All-nil (IsKnownAnnotation m)));
        are_encoded = subst (λ (l : List ℕ). AllZip (AnnotationAt b) l (set_in m (xs ++ x ∷ []))) (sym (ap (uints_at b p) count_more ∙ uints_more b p i))
            (subst (λ (s : AnnotationSet). AllZip (AnnotationAt b) (uints_at b p i ++ uint_at b (p + 4 * i) ∷ []) s) (sym (map-append (annotation_in m) xs (x ∷ []))) (zip_more (AnnotationAt b) (uints_at b p i) (set_in m xs) (uint_at b (p + 4 * i)) (annotation_in m x) h.are_encoded r.at));
        rise = ap (rises text_cmp) more ∙ risen;
        below = λ index above within. ap (λ (l : List Text). rises text_cmp (l ++ type_at m index ∷ [])) more ∙ rises_more text_cmp (types xs) (type_at m x.type) (type_at m index) risen (is_less m.types file.rising.types_rise x.type index (omega (arith, above)) within);
        rest = λ all.
            let n = next (p + 4 * i) (count - i) least (omega arith) (h.rest all) in
            let same = one_annotation_item b (uint_at b (p + 4 * i)) n.first (annotation_in m x) n.encodes r.at in
            let name : n.index ≡ x.type = one_number m.types file.rising.types_rise n.index x.type (type_within b m file n.index n.first.type n.row) r.known.type_in (sym (row_type n.index n.first.type n.row) ∙ ap (λ (a : Annotation). a.type) same) in
            let place : p + 4 * i + 4 ≡ p + 4 * (i + 1) = omega arith in
            let left : count - i - 1 ≡ count - (i + 1) = omega arith in
            subst (λ (k : ℕ). RestOf b (p + 4 * (i + 1)) (count - (i + 1)) (k + 1)) name
            (subst (λ (c : ℕ). RestOf b (p + 4 * (i + 1)) c (n.index + 1)) left (subst (λ (o : ℕ). RestOf b o (count - i - 1) (n.index + 1)) place n.following));
      }

  all_above : (s : AnnotationSet) → IsAbove b 0 s
  all_above [] = tt
  all_above (a ∷ s) = λ index row. omega arith

  rest_of : (o : ℕ) (s : AnnotationSet) → SetAt b o s → RestOf b (o + 4) (uint_at b o) 0
  rest_of o s h = record { set = s; are_encoded = h.annotations; rise = h.rise; above = all_above s }

  -- the next item is no annotation
  pub no_next : (o i least : ℕ) (xs : List NumberedAnnotation) → i < uint_at b o → HaveReadSet b (o + 4) m (uint_at b o) i least xs → NoItemAt b (uint_at b (o + 4 + 4 * i)) → NoSetAt b o
  no_next o i least xs lt h none s set = let n = next (o + 4 + 4 * i) (uint_at b o - i) least (omega arith) (h.rest (rest_of o s set)) in none n.first n.encodes

  -- or its type is not greater
  pub no_order : (o i least : ℕ) (xs : List NumberedAnnotation) (x : NumberedAnnotation) → i < uint_at b o → HaveReadSet b (o + 4) m (uint_at b o) i least xs → IsItemAt b (uint_at b (o + 4 + 4 * i)) m x → x.type < least → NoSetAt b o
  no_order o i least xs x lt h r less s set =
      let n = next (o + 4 + 4 * i) (uint_at b o - i) least (omega arith) (h.rest (rest_of o s set)) in
      let row : TypeRow b n.index (type_at m x.type) = subst (TypeRow b n.index) (ap (λ (a : Annotation). a.type) (one_annotation_item b (uint_at b (o + 4 + 4 * i)) n.first (annotation_in m x) n.encodes r.at)) n.row in
      omega (arith, n.above, one_number m.types file.rising.types_rise x.type n.index r.known.type_in (type_within b m file n.index (type_at m x.type) row) (row_type n.index (type_at m x.type) row), less)

  -- all were read
  pub all_read : (o i least : ℕ) (xs : List NumberedAnnotation) → HasOffsets b o → i ≡ uint_at b o → HaveReadSet b (o + 4) m (uint_at b o) i least xs → IsSetAt b o m xs
  all_read o i least xs has e h = record {
    known = h.known;
    at = record {
      in_data = has.in_data;
      aligned = has.aligned;
      annotations = subst (λ (n : ℕ). AllZip (AnnotationAt b) (uints_at b (o + 4) n) (set_in m xs)) e h.are_encoded;
      rise = ap (rises text_cmp) (types_of xs) ∙ h.rise;
    };
  }
    where
      types_of : (ys : List NumberedAnnotation) → map (λ a. a.type) (set_in m ys) ≡ map (λ y. type_at m y.type) ys
      types_of [] = refl
      types_of (y ∷ ys) = ap (λ (l : List Text). type_at m y.type ∷ l) (types_of ys)

-- without room for the offsets there is no set
pub no_room : (b : List ℕ) (o : ℕ) → (HasOffsets b o → ⊥) → NoSetAt b o
no_room b o none s h = none (record { in_data = h.in_data; aligned = h.aligned })
