-- Values that are read one after the other: the values that were read are in the file, and the other values come after
-- them.
use Rattle.dexval.proofs.Common.{◌≡◌, ◌∙◌, ℕ, ◌+◌, ◌-◌, ◌<◌, ◌≤◌, max, List, [], ◌∷◌, ◌++◌, length, refl, sym, subst, arith, length-append, Uleb128At, Values, NoValues, ThenValue, ValueAt, ValuesAt, value_depth, values_depth, count_values, Mentions, one_uleb128, one_value, NumberedValue, NumberedValues, AreKnown, IsKnown, values_in, value_in, values_of_list, NoValueAt, IsReadAt, NoArrayAt, AreReadAt, NoValuesAt, AreValuesReadAt}
use Rattle.dexspec.specs.Values.{Value}

-- `count` values are at the offset, and nest at most `depth` deep
pub record Rest (b : List ℕ) (o depth count : ℕ) : Type 0 where
  pub values : Values
  pub size : ℕ
  pub are_encoded : ValuesAt b o values size
  pub number : count_values values ≡ count
  pub shallow : values_depth values ≤ depth

-- the first i of `count` values were read; if `count` values are in the file, the other values come after these
pub record HaveRead (b : List ℕ) (o : ℕ) (m : Mentions) (depth count i : ℕ) (xs : List NumberedValue) (k : ℕ) : Type 0 where
  pub number : length xs ≡ i
  pub known : AreKnown m (values_of_list xs)
  pub are_encoded : ValuesAt b o (values_in m (values_of_list xs)) k
  pub shallow : values_depth (values_in m (values_of_list xs)) ≤ depth
  pub rest : Rest b o depth count → Rest b (o + k) depth (count - i)

module _ (b : List ℕ) (m : Mentions) where
  known_more : (xs : List NumberedValue) (x : NumberedValue) → AreKnown m (values_of_list xs) → IsKnown m x → AreKnown m (values_of_list (xs ++ x ∷ []))
  known_more [] x h k = (k, tt)
  known_more (y ∷ ys) x h k = (h.0, known_more ys x h.1 k)

  depth_more : (xs : List NumberedValue) (x : NumberedValue) → values_depth (values_in m (values_of_list (xs ++ x ∷ []))) ≡ max (values_depth (values_in m (values_of_list xs))) (value_depth (value_in m x))
  depth_more [] x = omega arith
  depth_more (y ∷ ys) x = omega (arith, depth_more ys x)

  encoded_more : (o : ℕ) (xs : List NumberedValue) (x : NumberedValue) (k j : ℕ) → ValuesAt b o (values_in m (values_of_list xs)) k → ValueAt b (o + k) (value_in m x) j → ValuesAt b o (values_in m (values_of_list (xs ++ x ∷ []))) (k + j)
  encoded_more o [] x k j h v = (j, 0, subst (λ (p : ℕ). ValueAt b p (value_in m x) j) (omega (arith, h)) v, refl, omega (arith, h))
  encoded_more o (y ∷ ys) x k j h v = (h.0, h.1 + j, h.2, encoded_more (o + h.0) ys x h.1 j h.3 (subst (λ (p : ℕ). ValueAt b p (value_in m x) j) (omega (arith, h.4)) v), omega (arith, h.4))

  count_is : (xs : List NumberedValue) → count_values (values_in m (values_of_list xs)) ≡ length xs
  count_is [] = refl
  count_is (x ∷ xs) = omega (arith, count_is xs)

  -- the next value, and the values after it
  record Next (o depth left : ℕ) : Type 0 where
    value : Value
    size : ℕ
    encodes : ValueAt b o value size
    shallow : value_depth value ≤ depth
    following : Rest b (o + size) depth (left - 1)

  next_of : (o depth left n : ℕ) (vs : Values) → 0 < left → ValuesAt b o vs n → count_values vs ≡ left → values_depth vs ≤ depth → Next o depth left
  next_of o depth left n NoValues lt h e d = absurd (omega (arith, e, lt))
  next_of o depth left n (ThenValue v vs) lt h e d = record {
    value = v;
    size = h.0;
    encodes = h.2;
    shallow = omega (arith, d);
    following = record { values = vs; size = h.1; are_encoded = h.3; number = omega (arith, e); shallow = omega (arith, d) };
  }

  next : (o depth left : ℕ) → 0 < left → Rest b o depth left → Next o depth left
  next o depth left lt r = next_of o depth left r.size r.values lt r.are_encoded r.number r.shallow

  -- no value was read yet
  pub none_read : (o depth count : ℕ) → HaveRead b o m depth count 0 [] 0
  none_read o depth count = record {
    number = refl;
    known = tt;
    are_encoded = refl;
    shallow = omega arith;
    rest = λ r. let at : o ≡ o + 0 = omega arith in let left : count ≡ count - 0 = omega arith in subst (λ (p : ℕ). Rest b p depth (count - 0)) at (subst (λ (c : ℕ). Rest b o depth c) left r);
  }

  -- one more value was read
  pub one_more : (o depth count i : ℕ) (xs : List NumberedValue) (k : ℕ) (x : NumberedValue) (j : ℕ) → i < count → HaveRead b o m depth count i xs k → IsReadAt b (o + k) m depth x j → HaveRead b o m depth count (i + 1) (xs ++ x ∷ []) (k + j)
  one_more o depth count i xs k x j lt h r = record {
    number = simp length-append (omega (arith, h.number));
    known = known_more xs x h.known r.known;
    are_encoded = encoded_more o xs x k j h.are_encoded r.encodes;
    shallow = omega (arith, depth_more xs x, h.shallow, r.shallow);
    rest = λ all.
        let n = next (o + k) depth (count - i) (omega arith) (h.rest all) in
        let place : o + k + n.size ≡ o + (k + j) = omega (arith, (one_value b (o + k) n.value (value_in m x) n.size j n.encodes r.encodes).1) in
        let left : count - i - 1 ≡ count - (i + 1) = omega arith in
        subst (λ (c : ℕ). Rest b (o + (k + j)) depth c) left (subst (λ (p : ℕ). Rest b p depth (count - i - 1)) place n.following);
  }

  -- if the next bytes are no value, there are no `count` values
  pub no_next : (o depth count i : ℕ) (xs : List NumberedValue) (k : ℕ) → i < count → HaveRead b o m depth count i xs k → NoValueAt b (o + k) depth → NoValuesAt b o depth count
  no_next o depth count i xs k lt h none vs n are_encoded number shallow =
      let all : Rest b o depth count = record { values = vs; size = n; are_encoded = are_encoded; number = number; shallow = shallow } in
      let x = next (o + k) depth (count - i) (omega arith) (h.rest all) in none x.value x.size x.encodes x.shallow

  -- all of them were read
  pub all_read : (o depth count i : ℕ) (xs : List NumberedValue) (k : ℕ) → i ≡ count → HaveRead b o m depth count i xs k → AreValuesReadAt b o m depth count (values_of_list xs) k
  all_read o depth count i xs k e h = record { known = h.known; encodes = h.are_encoded; number = count_is xs ∙ h.number ∙ e; shallow = h.shallow }

  -- without a count there is no array
  pub no_count : (o depth : ℕ) → ((count i : ℕ) → Uleb128At b o count i → ⊥) → NoArrayAt b o depth
  no_count o depth none vs n h shallow = none (count_values vs) h.0 h.2

  -- without `count` values after the count there is no array
  pub no_values : (o depth count head : ℕ) → Uleb128At b o count head → NoValuesAt b (o + head) depth count → NoArrayAt b o depth
  no_values o depth count head u none vs n h shallow =
      let same = one_uleb128 b o (count_values vs) count h.0 head h.2 u in none vs h.1 (subst (λ (i : ℕ). ValuesAt b (o + i) vs h.1) same.1 h.3) same.0 shallow

  -- a count and the values after it
  pub array_read : (o depth count head : ℕ) (xs : NumberedValues) (k : ℕ) → Uleb128At b o count head → AreValuesReadAt b (o + head) m depth count xs k → AreReadAt b o m depth xs (head + k)
  array_read o depth count head xs k u r = record { known = r.known; encodes = (head, k, subst (λ (c : ℕ). Uleb128At b o c head) (sym r.number) u, r.encodes, refl); shallow = r.shallow }
