-- Sets of annotations that are the same are equal by `==`, and have equal hash input.
use Rattle.std.specs.Prelude.{◌≡◌, ◌↔◌, ℕ, ℤ, pos, ◌==◌, ◌&&◌, ◌++◌, Bool, true, false, IsTrue, []}
use Rattle.std.proofs.Common.{refl, ap, ◌∙◌, subst}
use Rattle.std.specs.Bool.{Decides}
use Rattle.std.specs.Cmp.{IsEquivalence, decided, on_equiv, unsigned_Decides, first_so, second_so}
use Rattle.std.specs.Coded.{Coded, coded_ℕ, coded_list, coded×, code_by}
use Rattle.std.specs.Hash as fed
use base.Stored.{Gv, gnil, gnum, gcons}
use Rattle.dexspec.proofs.lists.Members.{and_both}
use Rattle.dexval.specs.declared.set.AnnotationSet.{AnnotationSet}
use Rattle.dexval.specs.Code.{set_of}
use Rattle.dexval.specs.Numbered.{NumberedValue, NumberedValues, NumberedElements, NumberedAnnotation, NumberedSet}
use Rattle.dexval.specs.Numbered.{Plain, Named, Array, Annotated, NoValue, ThenNext, NoElement, ThenNamed}
use Rattle.dexval.specs.internal.Heads.{literal_head}
use Rattle.dexval.specs.internal.Scalars.{code_of_reference}
use Rattle.dexval.specs.Stored.{elements_code}

-- ---- whether two are the same

-- trees of numbers
abbrev same_tree : Gv → Gv → Bool
same_tree gnil gnil = true
same_tree (gnum i) (gnum j) = i == j
same_tree (gcons g h) (gcons k l) = same_tree g k && same_tree h l
same_tree _ _ = false

false_is_not_true : false ≡ true → ⊥
false_is_not_true e = cc

tree_is : (g h : Gv) → same_tree g h ≡ true → g ≡ h
tree_is gnil gnil e = refl
tree_is (gnum i) (gnum j) e = ap gnum ((unsigned_Decides i j).0 e)
tree_is (gcons g h) (gcons k l) e =
    ap (λ (x : Gv). gcons x h) (tree_is g k (first_so (same_tree g k) (same_tree h l) e)) ∙ ap (gcons k)
    (tree_is h l (second_so (same_tree g k) (same_tree h l) e))
tree_is g h e = absurd (false_is_not_true e)

tree_self : (g : Gv) → same_tree g g ≡ true
tree_self gnil = refl
tree_self (gnum i) = (unsigned_Decides i i).1 refl
tree_self (gcons g h) = and_both (same_tree g g) (same_tree h h) (tree_self g) (tree_self h)

-- an annotation: its parts
abbrev annotation_code : Coded NumberedAnnotation
annotation_code =
    code_by (ℕ × (ℕ × NumberedElements)) (coded× coded_ℕ (coded× coded_ℕ elements_code))
    (λ a. (a.visibility, (a.type, a.elements))) (λ p. record { visibility = p.0; type = p.1.0; elements = p.1.1 })
    (λ _. refl)

-- a set: a list of codes
abbrev set_code : Coded NumberedSet
set_code = coded_list annotation_code

-- sets
abbrev pub same_set : NumberedSet → NumberedSet → Bool
same_set s t = same_tree (set_code.code s) (set_code.code t)

pub set_decides : (s t : NumberedSet) → Decides (same_set s t) (s ≡ t)
set_decides s t = (
  λ e. set_code.inj s t (tree_is (set_code.code s) (set_code.code t) e),
  λ e. subst
      (λ (u : NumberedSet). same_set s u ≡ true) e (tree_self (set_code.code s)),
)

-- ---- sets of the code

-- whether two are equal
abbrev pub equal_sets : AnnotationSet → AnnotationSet → Bool
equal_sets x y = same_set (set_of x) (set_of y)

pub equal_sets_equiv : IsEquivalence equal_sets
equal_sets_equiv = on_equiv set_of (decided same_set set_decides)

-- ---- hash input

-- the head of a value: its type code and its number
abbrev pub head_input : ℕ × ℤ → fed.HashWrites
head_input h = fed.u8 h.0 ++ fed.i128 h.1

abbrev mutual
  -- a value: its head, and then its contents
  pub value_input : NumberedValue → fed.HashWrites
  value_input (Plain l) = head_input (literal_head l)
  value_input (Named k i) = head_input (code_of_reference k, pos i)
  value_input (Array xs) = head_input (0x1c, pos 0) ++ values_input xs
  value_input (Annotated t es) = head_input (0x1d, pos t) ++ elements_input es

  -- values
  pub values_input : NumberedValues → fed.HashWrites
  values_input NoValue = []
  values_input (ThenNext x xs) = value_input x ++ values_input xs

  -- elements: each name and its value
  pub elements_input : NumberedElements → fed.HashWrites
  elements_input NoElement = []
  elements_input (ThenNamed name x es) = (fed.u32 name ++ value_input x) ++ elements_input es

-- an annotation: its visibility, its type and its elements
abbrev pub annotation_input : NumberedAnnotation → fed.HashWrites
annotation_input a = fed.u8 a.visibility ++ (fed.u32 a.type ++ elements_input a.elements)

-- a set
abbrev pub set_input : AnnotationSet → fed.HashWrites
set_input s = fed.slice annotation_input (set_of s)

pub equal_sets_agree : (x y : AnnotationSet) → IsTrue (equal_sets x y) → set_input x ≡ set_input y
equal_sets_agree x y h = ap (fed.slice annotation_input) ((set_decides (set_of x) (set_of y)).0 h)

-- ---- what a test and a hash see

-- the test answers whether the sets have the same annotations
abbrev pub IsSetEquality : (AnnotationSet → AnnotationSet → Bool) → Type 0
IsSetEquality eq = (x y : AnnotationSet) → IsTrue (eq x y) ↔ (set_of x ≡ set_of y)

-- the function returns the same for sets that have the same annotations
abbrev pub DependsOnSet : {Y : Type 0} → (AnnotationSet → Y) → Type 0
DependsOnSet f = (x y : AnnotationSet) → set_of x ≡ set_of y → f x ≡ f y
