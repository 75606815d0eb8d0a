-- There is at most one member at an offset of class data, and indices rise.
use Rattle.dexmembers.proofs.Common.{◌≡◌, ℕ, ◌+◌, ◌<◌, List, Option, Some, None, sym, subst, ◌∙◌, arith, Uleb128At, IsNextIndex, Mentions, one_uleb128}
use Rattle.dexmembers.specs.declared.class_data.EncodedField.{EncodedField}
use Rattle.dexmembers.specs.declared.class_data.EncodedMethod.{EncodedMethod}
use Rattle.dexmembers.specs.internal.EncodedMembers.{IsOwnField, IsOwnMethod, HeadAt, FieldAt, MethodAt}

-- one index follows
pub one_next : (last : Option ℕ) (d e i j : ℕ) → d ≡ e → IsNextIndex last d i → IsNextIndex last e j → i ≡ j
one_next None d e i j same h g = h ∙ same ∙ sym g
one_next (Some last) d e i j same h g = omega (arith, same, h.1, g.1)

module _ (b : List ℕ) (o : ℕ) (last : Option ℕ) where
  -- one index, and one number of access flags
  pub one_head : (i j f g n k : ℕ) → HeadAt b o last i f n → HeadAt b o last j g k → (i ≡ j) × (f ≡ g) × (n ≡ k)
  one_head i j f g n k h e =
      let d = one_uleb128 b o h.difference e.difference h.index_size e.index_size h.difference_is e.difference_is in
      let flags = one_uleb128 b (o + e.index_size) f g h.flags_size e.flags_size (subst (λ (s : ℕ). Uleb128At b (o + s) f h.flags_size) d.1 h.flags_is) e.flags_is in
      (one_next last h.difference e.difference i j d.0 h.next e.next, flags.0, omega (arith, d.1, flags.1, h.size, e.size))

  -- without access flags there is no member
  pub no_flags : (difference size : ℕ) → Uleb128At b o difference size → ((v n : ℕ) → Uleb128At b (o + size) v n → ⊥) → (i f n : ℕ) → HeadAt b o last i f n → ⊥
  no_flags difference size read none i f n h =
      let d = one_uleb128 b o h.difference difference h.index_size size h.difference_is read in
      none f h.flags_size (subst (λ (s : ℕ). Uleb128At b (o + s) f h.flags_size) d.1 h.flags_is)

module _ (m : Mentions) (class : ℕ) (b : List ℕ) (o : ℕ) where
  -- one field
  pub one_field : (last : Option ℕ) (x y : EncodedField) (n k : ℕ) → FieldAt m class b o last x n → FieldAt m class b o last y k → (x ≡ y) × (n ≡ k)
  one_field last x y n k h g =
      let same = one_head b o last x.index y.index x.flags y.flags n k h.head_is g.head_is in
      ((λ i. record { index = same.0 i; flags = same.1 i }), same.2)

  -- one method
  pub one_method : (last : Option ℕ) (x y : EncodedMethod) (n k : ℕ) → MethodAt m class b o last x n → MethodAt m class b o last y k → (x ≡ y) × (n ≡ k)
  one_method last x y n k h g =
      let same = one_head b o last x.index y.index x.flags y.flags h.head_size g.head_size h.head_is g.head_is in
      let code = one_uleb128 b (o + g.head_size) x.code_off y.code_off h.code_size g.code_size (subst (λ (s : ℕ). Uleb128At b (o + s) x.code_off h.code_size) same.2 h.code_is) g.code_is in
      ((λ i. record { index = same.0 i; flags = same.1 i; code_off = code.0 i }), omega (arith, same.2, code.1, h.size, g.size))

  -- a field after another one
  pub field_follows : (i : ℕ) (x : EncodedField) (n : ℕ) → FieldAt m class b o (Some i) x n → i < x.index
  field_follows i x n h = let next = h.head_is.next in omega (arith, next.0, next.1)

  -- a method
  pub method_follows : (i : ℕ) (x : EncodedMethod) (n : ℕ) → MethodAt m class b o (Some i) x n → i < x.index
  method_follows i x n h = let next = h.head_is.next in omega (arith, next.0, next.1)

  -- without the offset of its code there is no method
  pub no_code : (last : Option ℕ) (index flags size : ℕ) → HeadAt b o last index flags size → ((v n : ℕ) → Uleb128At b (o + size) v n → ⊥) → (x : EncodedMethod) (n : ℕ) → MethodAt m class b o last x n → ⊥
  no_code last index flags size read none x n h =
      let same = one_head b o last x.index index x.flags flags h.head_size size h.head_is read in
      none x.code_off h.code_size (subst (λ (s : ℕ). Uleb128At b (o + s) x.code_off h.code_size) same.2 h.code_is)

  -- a member of another class is no field of this one
  pub other_field : (last : Option ℕ) (index flags size : ℕ) → HeadAt b o last index flags size → (IsOwnField m class index → ⊥) → (x : EncodedField) (n : ℕ) → FieldAt m class b o last x n → ⊥
  other_field last index flags size read other x n h = other (subst (IsOwnField m class) (one_head b o last x.index index x.flags flags n size h.head_is read).0 h.own)

  -- nor a method
  pub other_method : (last : Option ℕ) (index flags size : ℕ) → HeadAt b o last index flags size → (IsOwnMethod m class index → ⊥) → (x : EncodedMethod) (n : ℕ) → MethodAt m class b o last x n → ⊥
  other_method last index flags size read other x n h = other (subst (IsOwnMethod m class) (one_head b o last x.index index x.flags flags h.head_size size h.head_is read).0 h.own)
