-- Equality of values of the model is decidable, by their codes.
use Rattle.dexspec.proofs.Common.{◌≡◌, ◌≢◌, ◌⊎◌, ℕ, refl, ap, subst, inl, inr, cases_eq}
use Rattle.std.specs.Coded.{Coded}
use base.Stored.{Gv, gnil, gnum, gcons}
use Rattle.dexspec.specs.{Text, Body, Definition}
use Rattle.dexspec.specs.internal.Codes as codes

-- two values are equal or not
abbrev pub SameOrNot : {X : Type 0} → X → X → Type 0
SameOrNot x y = (x ≡ y) ⊎ (x ≢ y)

-- the number of a leaf
abbrev number : Gv → ℕ
number gnil = 0
number (gnum n) = n
number (gcons a b) = 0

-- the two parts of a pair
abbrev head : Gv → Gv
head gnil = gnil
head (gnum n) = gnil
head (gcons a b) = a

abbrev tail : Gv → Gv
tail gnil = gnil
tail (gnum n) = gnil
tail (gcons a b) = b

-- the three shapes of a tree
abbrev IsNil : Gv → Type 0
IsNil gnil = Unit {0}
IsNil (gnum n) = ⊥
IsNil (gcons a b) = ⊥

abbrev IsNumber : Gv → Type 0
IsNumber gnil = ⊥
IsNumber (gnum n) = Unit {0}
IsNumber (gcons a b) = ⊥

abbrev IsPair : Gv → Type 0
IsPair gnil = ⊥
IsPair (gnum n) = ⊥
IsPair (gcons a b) = Unit {0}

-- trees of numbers are equal or not
pub tree_same_or_not : (g h : Gv) → SameOrNot g h
tree_same_or_not gnil gnil = inl refl
tree_same_or_not (gnum m) (gnum n) = elim (cases_eq m n) [ inl e ↦ inl (ap gnum e) | inr d ↦ inr (λ p. d (ap number p)) ]
tree_same_or_not (gcons a b) (gcons c d) = elim (tree_same_or_not a c) [
  | inl e ↦ elim (tree_same_or_not b d) [ inl f ↦ inl (λ i. gcons (e i) (f i)) | inr n ↦ inr (λ p. n (ap tail p)) ]
  | inr n ↦ inr (λ p. n (ap head p))
]
tree_same_or_not gnil h = inr (λ p. subst IsNil p tt)
tree_same_or_not (gnum m) h = inr (λ p. subst IsNumber p tt)
tree_same_or_not (gcons a b) h = inr (λ p. subst IsPair p tt)

-- a type that has a code has decidable equality
pub same_or_not : {X : Type 0} → Coded X → (x y : X) → SameOrNot x y
same_or_not c x y = elim (tree_same_or_not (c.code x) (c.code y)) [ inl e ↦ inl (c.inj x y e) | inr n ↦ inr (λ p. n (ap c.code p)) ]

-- equality is decidable for the types of the model: texts
pub text_same_or_not : (x y : Text) → SameOrNot x y
text_same_or_not = same_or_not codes.text_code

-- classes without their names
pub body_same_or_not : (x y : Body) → SameOrNot x y
body_same_or_not = same_or_not codes.body_code

-- class definitions
pub definition_same_or_not : (x y : Definition) → SameOrNot x y
definition_same_or_not = same_or_not codes.definition_code
