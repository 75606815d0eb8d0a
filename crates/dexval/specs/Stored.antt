-- Codes of numbered values: injective maps into trees of numbers, by which values are stored and compared.
use Rattle.std.specs.Prelude.{◌≡◌, ℕ, ◌==◌, T}
use Rattle.std.proofs.Common.{refl, sym, ap, subst}
use Rattle.std.specs.Coded.{Coded, coded_ℕ, coded_ℤ, coded_bool}
use base.Stored.{Gv, gnil, gnum, gcons}
use Rattle.dexval.specs.Numbered.{Literal, ByteLiteral, ShortLiteral, CharLiteral, IntLiteral, LongLiteral}
use Rattle.dexval.specs.Numbered.{FloatLiteral, DoubleLiteral, NullLiteral, BooleanLiteral, Reference, StringReference}
use Rattle.dexval.specs.Numbered.{TypeReference, FieldReference, MethodReference, EnumReference, NumberedValue}
use Rattle.dexval.specs.Numbered.{NumberedValues, NumberedElements, Plain, Named, Array, Annotated, NoValue, ThenNext}
use Rattle.dexval.specs.Numbered.{NoElement, ThenNamed}

-- the first number of a code of several parts
abbrev tag : Gv → ℕ
tag gnil = 0
tag (gnum n) = n
tag (gcons a b) = tag a

-- the first part of a code
abbrev head : Gv → Gv
head gnil = gnil
head (gnum n) = gnil
head (gcons a b) = a

-- a code without its first part
abbrev tail : Gv → Gv
tail gnil = gnil
tail (gnum n) = gnil
tail (gcons a b) = b

-- a code of several parts is not empty
abbrev HasParts : Gv → Type 0
HasParts gnil = ⊥
HasParts (gnum n) = ⊥
HasParts (gcons a b) = Unit {0}

-- a value that names no symbol: the number of its kind, and its contents
abbrev literal_tree : Literal → Gv
literal_tree (ByteLiteral z) = gcons (gnum 0) (coded_ℤ.code z)
literal_tree (ShortLiteral z) = gcons (gnum 1) (coded_ℤ.code z)
literal_tree (CharLiteral u) = gcons (gnum 2) (gnum u)
literal_tree (IntLiteral z) = gcons (gnum 3) (coded_ℤ.code z)
literal_tree (LongLiteral z) = gcons (gnum 4) (coded_ℤ.code z)
literal_tree (FloatLiteral bits) = gcons (gnum 5) (gnum bits)
literal_tree (DoubleLiteral bits) = gcons (gnum 6) (gnum bits)
literal_tree NullLiteral = gcons (gnum 7) gnil
literal_tree (BooleanLiteral is) = gcons (gnum 8) (coded_bool.code is)

-- two such values with equal codes are equal
pub one_literal : (x y : Literal) → literal_tree x ≡ literal_tree y → x ≡ y
one_literal (ByteLiteral m) (ByteLiteral n) p = ap ByteLiteral (coded_ℤ.inj m n (ap tail p))
one_literal (ShortLiteral m) (ShortLiteral n) p = ap ShortLiteral (coded_ℤ.inj m n (ap tail p))
one_literal (CharLiteral m) (CharLiteral n) p = ap CharLiteral (coded_ℕ.inj m n (ap tail p))
one_literal (IntLiteral m) (IntLiteral n) p = ap IntLiteral (coded_ℤ.inj m n (ap tail p))
one_literal (LongLiteral m) (LongLiteral n) p = ap LongLiteral (coded_ℤ.inj m n (ap tail p))
one_literal (FloatLiteral m) (FloatLiteral n) p = ap FloatLiteral (coded_ℕ.inj m n (ap tail p))
one_literal (DoubleLiteral m) (DoubleLiteral n) p = ap DoubleLiteral (coded_ℕ.inj m n (ap tail p))
one_literal NullLiteral NullLiteral p = refl
one_literal (BooleanLiteral s) (BooleanLiteral t) p = ap BooleanLiteral (coded_bool.inj s t (ap tail p))
one_literal x y p = absurd (subst (λ g. T (tag (literal_tree x) == tag g)) p tt)

-- a kind of value that names a symbol: its place among the kinds
abbrev reference_tree : Reference → Gv
reference_tree StringReference = gnum 0
reference_tree TypeReference = gnum 1
reference_tree FieldReference = gnum 2
reference_tree MethodReference = gnum 3
reference_tree EnumReference = gnum 4

-- two kinds with equal codes are equal
pub one_reference : (x y : Reference) → reference_tree x ≡ reference_tree y → x ≡ y
one_reference StringReference StringReference p = refl
one_reference TypeReference TypeReference p = refl
one_reference FieldReference FieldReference p = refl
one_reference MethodReference MethodReference p = refl
one_reference EnumReference EnumReference p = refl
one_reference x y p = absurd (subst (λ g. T (tag (reference_tree x) == tag g)) p tt)

abbrev mutual
  -- a value: the number of its kind, and its contents
  value_tree : NumberedValue → Gv
  value_tree (Plain literal) = gcons (gnum 0) (literal_tree literal)
  value_tree (Named reference i) = gcons (gnum 1) (gcons (reference_tree reference) (gnum i))
  value_tree (Array xs) = gcons (gnum 2) (values_tree xs)
  value_tree (Annotated t es) = gcons (gnum 3) (gcons (gnum t) (elements_tree es))

  -- values: a list of codes
  values_tree : NumberedValues → Gv
  values_tree NoValue = gnil
  values_tree (ThenNext x xs) = gcons (value_tree x) (values_tree xs)

  -- elements: a list of names and values
  elements_tree : NumberedElements → Gv
  elements_tree NoElement = gnil
  elements_tree (ThenNamed name x es) = gcons (gnum name) (gcons (value_tree x) (elements_tree es))

mutual
  -- two values with equal codes are equal
  pub one_value : (x y : NumberedValue) → value_tree x ≡ value_tree y → x ≡ y
  one_value (Plain m) (Plain n) p = ap Plain (one_literal m n (ap tail p))
  one_value (Named r i) (Named s j) p =
      λ k. Named (one_reference r s (ap (λ g. head (tail g)) p) k) (coded_ℕ.inj i j (ap (λ g. tail (tail g)) p) k)
  one_value (Array xs) (Array ys) p = ap Array (one_values xs ys (ap tail p))
  one_value (Annotated t ds) (Annotated u es) p =
      λ k. Annotated (coded_ℕ.inj t u (ap (λ g. head (tail g)) p) k) (one_elements ds es (ap (λ g. tail (tail g)) p) k)
  one_value x y p = absurd (subst (λ g. T (tag (value_tree x) == tag g)) p tt)

  -- two lists of values with equal codes are equal
  pub one_values : (x y : NumberedValues) → values_tree x ≡ values_tree y → x ≡ y
  one_values NoValue NoValue p = refl
  one_values (ThenNext x xs) (ThenNext y ys) p =
      λ k. ThenNext (one_value x y (ap head p) k) (one_values xs ys (ap tail p) k)
  one_values NoValue (ThenNext y ys) p = absurd (subst HasParts (sym p) tt)
  one_values (ThenNext x xs) NoValue p = absurd (subst HasParts p tt)

  -- two lists of elements with equal codes are equal
  pub one_elements : (x y : NumberedElements) → elements_tree x ≡ elements_tree y → x ≡ y
  one_elements NoElement NoElement p = refl
  one_elements (ThenNamed m x ds) (ThenNamed n y es) p =
      λ k. ThenNamed (coded_ℕ.inj m n (ap head p) k) (one_value x y (ap (λ g. head (tail g)) p) k)
      (one_elements ds es (ap (λ g. tail (tail g)) p) k)
  one_elements NoElement (ThenNamed n y es) p = absurd (subst HasParts (sym p) tt)
  one_elements (ThenNamed m x ds) NoElement p = absurd (subst HasParts p tt)

-- the values of an array
abbrev pub values_code : Coded NumberedValues
values_code = record { code = values_tree; inj = one_values }

-- the elements of an annotation
abbrev pub elements_code : Coded NumberedElements
elements_code = record { code = elements_tree; inj = one_elements }
