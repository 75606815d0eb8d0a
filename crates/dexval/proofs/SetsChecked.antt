-- The annotations of a set, checked one after the other.
use Rattle.dexval.proofs.Common.{◌≡◌, ℕ, ◌+◌, ◌*◌, ◌<◌, ◌≤◌, List, [], ◌∷◌, ◌++◌, length, sum_by, refl, sym, subst, ◌∙◌, arith, length-map, sum_by-append, sum_by-cons, slice_index, uint_at, uints_at, data_off, most_depth, AnnotationAt, Mentions, length-uints_at, length-zip, HasAnnotation, HasItem, HasSetOf, NoItemAt, NoSetAt, HasOffsets, HasPools, NumberedAnnotation, NumberedSet, annotation_in, set_in, numbered_annotation_weight, numbered_set_weight}
use Rattle.dexval.proofs.SetsRead.{HaveReadSet, item_read, none_read, one_more, no_next, no_order, all_read}
use Rattle.dexval.proofs.Weights.{set_weight_is}

-- an annotation_item is at the offset; its weight
pub item_checked : (b : List ℕ) (off : ℕ) (m : Mentions) (visibility typ n weight : ℕ) → data_off b ≤ off → off < length b → slice_index b off ≡ visibility → visibility ≤ 2 → HasAnnotation b (off + 1) m most_depth typ n weight → HasItem b off m typ weight
item_checked b off m visibility typ n weight in_data lt is known h = record {
  item = record { visibility = visibility; type = typ; elements = h.elements };
  is_item = item_read b off m visibility typ h.elements n in_data lt is known h.read;
  typed = refl;
  weighs = h.weighs;
}

-- the weight of an annotation in a set, with its offset
abbrev pub listed : NumberedAnnotation → ℕ
listed a = 4 + numbered_annotation_weight a

-- the first i of `count` annotations were checked, and the numbers of their types are below `least`
pub record SetChecked (b : List ℕ) (p : ℕ) (m : Mentions) (count i least weight : ℕ) : Type 0 where
  pub annotations : NumberedSet
  pub so_far : HaveReadSet b p m count i least annotations
  pub weighed : 8 + sum_by listed annotations ≡ weight

some_weight : (xs : NumberedSet) → 0 < length xs → numbered_set_weight xs ≡ 8 + sum_by listed xs
some_weight [] some = absurd (omega arith)
some_weight (x ∷ xs) some = refl

no_weight : (xs : NumberedSet) → length xs ≡ 0 → numbered_set_weight xs ≡ 0
no_weight [] none = refl
no_weight (x ∷ xs) none = absurd (omega (arith, none))

module _ (b : List ℕ) (m : Mentions) (file : HasPools b m) where
  pub none_checked : (p count : ℕ) → SetChecked b p m count 0 0 8
  none_checked p count = record { annotations = []; so_far = none_read b m file p count; weighed = refl }

  pub one_checked : (p count i least weight typ item : ℕ) → i < count → least ≤ typ → SetChecked b p m count i least weight → HasItem b (uint_at b (p + 4 * i)) m typ item → SetChecked b p m count (i + 1) (typ + 1) (weight + (4 + item))
  one_checked p count i least weight typ item lt le h r = record {
    annotations = h.annotations ++ r.item ∷ [];
    so_far = subst (λ (t : ℕ). HaveReadSet b p m count (i + 1) (t + 1) (h.annotations ++ r.item ∷ [])) r.typed (one_more b m file p count i least h.annotations r.item lt (omega (arith, r.typed, le)) h.so_far r.is_item);
    weighed = omega (arith, sum_by-append listed h.annotations (r.item ∷ []), sum_by-cons listed r.item [], h.weighed, r.weighs);
  }

  -- if the next is no annotation, or its type is not greater, there is no set
  pub no_item_next : (o i least weight : ℕ) → i < uint_at b o → SetChecked b (o + 4) m (uint_at b o) i least weight → NoItemAt b (uint_at b (o + 4 + 4 * i)) → NoSetAt b o
  no_item_next o i least weight lt h none = no_next b m file o i least h.annotations lt h.so_far none

  pub no_item_order : (o i least weight typ item : ℕ) → i < uint_at b o → SetChecked b (o + 4) m (uint_at b o) i least weight → HasItem b (uint_at b (o + 4 + 4 * i)) m typ item → typ < least → NoSetAt b o
  no_item_order o i least weight typ item lt h r less = no_order b m file o i least h.annotations r.item lt h.so_far r.is_item (omega (arith, r.typed, less))

  -- all were checked
  how_many : (o i least weight : ℕ) (h : SetChecked b (o + 4) m (uint_at b o) i least weight) → length h.annotations ≡ i
  how_many o i least weight h = omega (arith, length-zip (AnnotationAt b) (uints_at b (o + 4) i) (set_in m h.annotations) h.so_far.are_encoded, length-uints_at b (o + 4) i, length-map h.annotations (annotation_in m))

  pub some_set_checked : (o i least weight count : ℕ) → HasOffsets b o → i ≡ uint_at b o → i ≡ count → 0 < i → SetChecked b (o + 4) m (uint_at b o) i least weight → HasSetOf b o m count weight
  some_set_checked o i least weight count has all is some h =
      let many = how_many o i least weight h in
      record {
        set = h.annotations;
        at = all_read b m file o i least h.annotations has all h.so_far;
        counted = omega (arith, many, is);
        weighs = sym (set_weight_is m h.annotations) ∙ some_weight h.annotations (omega (arith, many, some)) ∙ h.weighed;
      }

  pub empty_set_checked : (o i least weight count : ℕ) → HasOffsets b o → i ≡ uint_at b o → i ≡ count → count ≡ 0 → SetChecked b (o + 4) m (uint_at b o) i least weight → HasSetOf b o m count 0
  empty_set_checked o i least weight count has all is none h =
      let many = how_many o i least weight h in
      record {
        set = h.annotations;
        at = all_read b m file o i least h.annotations has all h.so_far;
        counted = omega (arith, many, is);
        weighs = sym (set_weight_is m h.annotations) ∙ no_weight h.annotations (omega (arith, many, is, none));
      }
