-- A class is known by the first unit of its descriptor.
use Rattle.dexclass.proofs.Common.{◌≡◌, ◌≢◌, ◌≤◌, ℕ, zero, suc, List, [], ◌∷◌, ◌++◌, sym, ◌∙◌, arith, ◌↔◌, replicate, Contains, Text, TypeKind, VoidType, PrimitiveType, ClassType, ArrayType, HasKind, IsClass, IsDescriptor, primitive_letters, eq-eqb, ◌==◌, false≢true, list_any-member}

first_is : (x y : ℕ) (xs ys : List ℕ) → x ∷ xs ≡ y ∷ ys → x ≡ y
first_is x y xs ys e = cc

-- no primitive type has this letter
no_letter : (u : ℕ) → Contains primitive_letters u → u ≢ 0x4c
no_letter u c is = false≢true (list_any-member (λ v. v == 0x4c) primitive_letters u c (eq-eqb u 0x4c is))

module _ (s rest : Text) (unit : ℕ) (first : s ≡ unit ∷ rest) where
  by_kind : (kind : TypeKind) → HasKind kind s → unit ≡ 0x4c → IsClass s
  by_kind VoidType h is = absurd (omega (arith, is, first_is unit 0x56 rest [] (sym first ∙ h)))
  by_kind PrimitiveType h is = absurd (no_letter h.letter h.known (sym (first_is unit h.letter rest [] (sym first ∙ h.is)) ∙ is))
  by_kind ClassType h is = h
  by_kind ArrayType h is = by_dimensions h.dimensions h.some h.is
    where
      by_dimensions : (n : ℕ) → 1 ≤ n → s ≡ replicate n 0x5b ++ h.element → IsClass s
      by_dimensions zero some e = absurd (omega (arith, some))
      by_dimensions (suc n) some e = absurd (omega (arith, is, first_is unit 0x5b rest (replicate n 0x5b ++ h.element) (sym first ∙ e)))

  -- a descriptor is that of a class exactly where it starts so
  pub class_starts : IsDescriptor s → (unit ≡ 0x4c) ↔ IsClass s
  class_starts (kind, h) = (by_kind kind h, λ class. first_is unit 0x4c rest (class.name ++ 0x3b ∷ []) (sym first ∙ class.is))

-- no class has an empty descriptor
pub class_some : (s : Text) → s ≡ [] → IsClass s → ⊥
class_some s none class = let e : [] ≡ 0x4c ∷ (class.name ++ 0x3b ∷ []) = sym none ∙ class.is in absurd cc
