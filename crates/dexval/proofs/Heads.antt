-- A value is determined by its head and its contents.
use Rattle.dexval.proofs.Common.{◌≡◌, ℕ, ℤ, pos, negsuc, true, false, ◌+◌, ◌<◌, refl, ap, sym, ◌∙◌, arith, Maps, head_of, held_values, held_elements, NumberedValue, NumberedValues, NumberedElements, Plain, Named, Array, Annotated, ByteLiteral, ShortLiteral, CharLiteral, IntLiteral, LongLiteral, FloatLiteral, DoubleLiteral, NullLiteral, BooleanLiteral, StringReference, TypeReference, FieldReference, MethodReference, EnumReference, renumbered, renumbered_values, renumbered_elements, numbered_weight, numbered_values_weight, numbered_elements_weight}
use Rattle.std.specs.Prelude.{◌==◌, if◌then◌else◌}

abbrev natural : ℤ → ℕ
natural (pos n) = n
natural (negsuc n) = 0

-- the value of a type code and a number, and of contents
abbrev made : ℕ × ℤ → NumberedValues → NumberedElements → NumberedValue
made (code, z) xs es =
    if code == 0x00 then Plain (ByteLiteral z)
    else if code == 0x02 then Plain (ShortLiteral z)
    else if code == 0x03 then Plain (CharLiteral (natural z))
    else if code == 0x04 then Plain (IntLiteral z)
    else if code == 0x06 then Plain (LongLiteral z)
    else if code == 0x10 then Plain (FloatLiteral (natural z))
    else if code == 0x11 then Plain (DoubleLiteral (natural z))
    else if code == 0x17 then Named StringReference (natural z)
    else if code == 0x18 then Named TypeReference (natural z)
    else if code == 0x19 then Named FieldReference (natural z)
    else if code == 0x1a then Named MethodReference (natural z)
    else if code == 0x1b then Named EnumReference (natural z)
    else if code == 0x1c then Array xs
    else if code == 0x1d then Annotated (natural z) es
    else if code == 0x1e then Plain NullLiteral
    else Plain (BooleanLiteral (natural z == 1))

made_again : (x : NumberedValue) → made (head_of x) (held_values x) (held_elements x) ≡ x
made_again (Plain (BooleanLiteral true)) = refl
made_again (Plain (BooleanLiteral false)) = refl
made_again (Plain literal) = refl
made_again (Named StringReference i) = refl
made_again x = refl

-- values with equal heads and equal contents are equal
same_parts : (x y : NumberedValue) → head_of x ≡ head_of y → held_values x ≡ held_values y → held_elements x ≡ held_elements y → x ≡ y
same_parts x y h v e =
    sym (made_again x) ∙ ap (λ (k : ℕ × ℤ). made k (held_values x) (held_elements x)) h ∙ ap (λ (xs : NumberedValues). made (head_of y) xs (held_elements x)) v ∙ ap (made (head_of y) (held_values y)) e ∙ made_again y

-- ---- the contents of a value, remapped

values_remapped : (r : Maps) (x : NumberedValue) → held_values (renumbered r x) ≡ renumbered_values r (held_values x)
values_remapped r (Plain literal) = refl
values_remapped r x = refl

elements_remapped : (r : Maps) (x : NumberedValue) → held_elements (renumbered r x) ≡ renumbered_elements r (held_elements x)
elements_remapped r (Plain literal) = refl
elements_remapped r x = refl

module _ (r q : Maps) (x y : NumberedValue) where
  -- values that are equal once remapped hold equal values
  pub held_values_same : (xs ys : NumberedValues) → xs ≡ held_values x → ys ≡ held_values y → renumbered r x ≡ renumbered q y → renumbered_values r xs ≡ renumbered_values q ys
  held_values_same xs ys is was e = ap (renumbered_values r) is ∙ sym (values_remapped r x) ∙ ap held_values e ∙ values_remapped q y ∙ ap (renumbered_values q) (sym was)

  -- and equal elements
  pub held_elements_same : (es fs : NumberedElements) → es ≡ held_elements x → fs ≡ held_elements y → renumbered r x ≡ renumbered q y → renumbered_elements r es ≡ renumbered_elements q fs
  held_elements_same es fs is was e = ap (renumbered_elements r) is ∙ sym (elements_remapped r x) ∙ ap held_elements e ∙ elements_remapped q y ∙ ap (renumbered_elements q) (sym was)

  -- and conversely
  pub parts_same : (xs ys : NumberedValues) (es fs : NumberedElements) → xs ≡ held_values x → ys ≡ held_values y → es ≡ held_elements x → fs ≡ held_elements y → head_of (renumbered r x) ≡ head_of (renumbered q y) → renumbered_values r xs ≡ renumbered_values q ys → renumbered_elements r es ≡ renumbered_elements q fs → renumbered r x ≡ renumbered q y
  parts_same xs ys es fs vx vy ex ey h v e =
      same_parts (renumbered r x) (renumbered q y) h (values_remapped r x ∙ ap (renumbered_values r) (sym vx) ∙ v ∙ ap (renumbered_values q) vy ∙ sym (values_remapped q y))
      (elements_remapped r x ∙ ap (renumbered_elements r) (sym ex) ∙ e ∙ ap (renumbered_elements q) ey ∙ sym (elements_remapped q y))

-- ---- contents weigh less than the value

pub held_values_lighter : (x : NumberedValue) → numbered_values_weight (held_values x) + 1 < numbered_weight x
held_values_lighter (Plain literal) = omega arith
held_values_lighter x = omega arith

pub held_elements_lighter : (x : NumberedValue) → numbered_elements_weight (held_elements x) + 2 < numbered_weight x
held_elements_lighter (Plain literal) = omega arith
held_elements_lighter x = omega arith
