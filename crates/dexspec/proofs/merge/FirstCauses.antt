-- Definitions are mergeable, or there is exactly one first cause against it, which depends on the members alone.
use Rattle.dexspec.proofs.Common.{◌≡◌, ◌⊎◌, ℕ, zero, suc, ◌<◌, List, [], ◌∷◌, refl, sym, ap, ◌∙◌, arith, inl, inr, Ordering, Less, Equal, Greater, nat_cmp, Contains, ordering_reverse, IsTotalOrder, nat_cmp_is, cases_lt, on_total, nat_cmp_total}
use Rattle.dexspec.specs.{Text, text_cmp, Definition, AreSame, IsAcyclic, Caps, Cap, TypeCap, ProtoCap, FieldCap, MethodCap, ShortStringCap, WeightCap, cap_number, Exceeds, Fits, IsConflict, IsConsistent, IsCycle, IsGood, Cause, Conflict, Cycle, Exceeded, IsCause, IsReportedBefore, IsFirstCause}
use Rattle.dexspec.proofs.merge.SymbolOrders.{text_total, text_exact}
use Rattle.dexspec.proofs.lists.Searches.{least_or_none}
use Rattle.dexspec.proofs.merge.Absorption.{IsCause-within}
use Rattle.dexspec.proofs.merge.Conflicts.{conflict_or_not, conflict-name, consistent-from_none, consistent-apart}
use Rattle.dexspec.proofs.merge.Depths.{names_in, is_defined-name, cycle_or_not, acyclic-from_none, acyclic-apart}
use Rattle.dexspec.proofs.merge.Exceeding.{exceeds_or_not, fits-from_none}

-- ---- the least of each kind

-- the property holds for this, and for nothing lesser
pub record IsLeastOf {X : Type 0} (R : X → X → Ordering) (P : X → Type 0) (x : X) : Type 0 where
  pub is : P x
  pub none_less : (y : X) → P y → R y x ≡ Less → ⊥

module _ {X : Type 0} (R : X → X → Ordering) (o : IsTotalOrder R) (P : X → Type 0) (xs : List X) (covers : (x : X) → P x → Contains xs x) where
  -- if a list has all candidates, the property holds for a least one or for none
  pub least_of_all : ((x : X) → P x ⊎ (¬ (P x))) → ((x : X) × IsLeastOf R P x) ⊎ ((x : X) → ¬ (P x))
  least_of_all decide = elim (least_or_none R o P xs decide) [
    | inl l ↦ inl (l.member, record { is = l.passes; none_less = λ y p. l.none_less y (covers y p) p })
    | inr none ↦ inr (λ x p. none x (covers x p) p)
  ]

module _ (D : List Definition) where
  -- there is a least name with a conflict, or no name has two definitions
  pub conflict_or_consistent : ((name : Text) × IsLeastOf text_cmp (IsConflict D) name) ⊎ IsConsistent D
  conflict_or_consistent = elim (least_of_all text_cmp text_total (IsConflict D) (names_in D) (conflict-name D) (conflict_or_not D)) [
    | inl l ↦ inl l
    | inr none ↦ inr (consistent-from_none D none)
  ]

  -- there is a least name without a depth, or all names have depths
  pub cycle_or_acyclic : ((name : Text) × IsLeastOf text_cmp (IsCycle D) name) ⊎ IsAcyclic D
  cycle_or_acyclic = elim (least_of_all text_cmp text_total (IsCycle D) (names_in D) (λ name x. is_defined-name D name x.defined) (cycle_or_not D)) [
    | inl l ↦ inl l
    | inr none ↦ inr (acyclic-from_none D none)
  ]

-- caps by their numbers
abbrev pub cap_cmp : Cap → Cap → Ordering
cap_cmp j k = nat_cmp (cap_number j) (cap_number k)

-- the order of caps is total
cap_total : IsTotalOrder cap_cmp
cap_total = on_total cap_number nat_cmp_total

-- all of them
abbrev all_caps : List Cap
all_caps = TypeCap ∷ ProtoCap ∷ FieldCap ∷ MethodCap ∷ ShortStringCap ∷ WeightCap ∷ []

-- each cap is one of these
cap_listed : (cap : Cap) → Contains all_caps cap
cap_listed TypeCap = (0, omega arith, refl)
cap_listed ProtoCap = (1, omega arith, refl)
cap_listed FieldCap = (2, omega arith, refl)
cap_listed MethodCap = (3, omega arith, refl)
cap_listed ShortStringCap = (4, omega arith, refl)
cap_listed WeightCap = (5, omega arith, refl)

-- a least cap is exceeded, or the definitions fit
pub exceeds_or_fits : (caps : Caps) (D : List Definition) → ((cap : Cap) × IsLeastOf cap_cmp (Exceeds caps D) cap) ⊎ Fits caps D
exceeds_or_fits caps D = elim (least_of_all cap_cmp cap_total (Exceeds caps D) all_caps (λ cap x. cap_listed cap) (exceeds_or_not caps D)) [
  | inl l ↦ inl l
  | inr none ↦ inr (fits-from_none caps D none)
]

-- ---- the first cause

-- a lesser number is a lesser cap
pub cap_less : (j k : Cap) → cap_number j < cap_number k → cap_cmp j k ≡ Less
cap_less j k lt = sym (nat_cmp_is (cap_number j) (cap_number k) Less lt)

module _ (caps : Caps) (D : List Definition) where
  -- the least conflict is the first cause
  conflict_first : (name : Text) → IsLeastOf text_cmp (IsConflict D) name → IsFirstCause caps D (Conflict name)
  conflict_first name l = record { is = l.is; first = before }
    where
      before : (other : Cause) → IsCause caps D other → IsReportedBefore other (Conflict name) → ⊥
      before (Conflict m) x less = l.none_less m x less
      before _ x never = never

  -- without a conflict the least cycle is the first cause
  cycle_first : (name : Text) → IsConsistent D → IsLeastOf text_cmp (IsCycle D) name → IsFirstCause caps D (Cycle name)
  cycle_first name h l = record { is = l.is; first = before }
    where
      before : (other : Cause) → IsCause caps D other → IsReportedBefore other (Cycle name) → ⊥
      before (Conflict m) x _ = consistent-apart D m h x
      before (Cycle m) x less = l.none_less m x less
      before (Exceeded j) x never = never

  -- without a cycle the least cap is the first cause
  cap_first : (cap : Cap) → IsConsistent D → IsAcyclic D → IsLeastOf cap_cmp (Exceeds caps D) cap → IsFirstCause caps D (Exceeded cap)
  cap_first cap h a l = record { is = l.is; first = before }
    where
      before : (other : Cause) → IsCause caps D other → IsReportedBefore other (Exceeded cap) → ⊥
      before (Conflict m) x _ = consistent-apart D m h x
      before (Cycle m) x _ = acyclic-apart D m a x
      before (Exceeded j) x less = l.none_less j x (cap_less j cap less)

  -- definitions are mergeable, or a cause is reported
  pub first_cause_or_good : ((cause : Cause) × IsFirstCause caps D cause) ⊎ IsGood caps D
  first_cause_or_good = elim (conflict_or_consistent D) [
    | inl l ↦ inl (Conflict l.0, conflict_first l.0 l.1)
    | inr consistent ↦ elim (cycle_or_acyclic D) [
      | inl l ↦ inl (Cycle l.0, cycle_first l.0 consistent l.1)
      | inr acyclic ↦ elim (exceeds_or_fits caps D) [
        | inl l ↦ inl (Exceeded l.0, cap_first l.0 consistent acyclic l.1)
        | inr fits ↦ inr (record { consistent = consistent; acyclic = acyclic; fits = fits })
      ]
    ]
  ]

-- ---- the first cause is unique

-- texts of which neither is less are equal
one_text : (m n : Text) (r : Ordering) → text_cmp m n ≡ r → (text_cmp m n ≡ Less → ⊥) → (text_cmp n m ≡ Less → ⊥) → m ≡ n
one_text m n Less e f g = absurd (f e)
one_text m n Equal e f g = text_exact m n e
one_text m n Greater e f g = absurd (g (text_total.antisymm n m ∙ ap ordering_reverse e))

-- the cap that has a number
abbrev numbered : ℕ → Cap
numbered zero = TypeCap
numbered (suc zero) = TypeCap
numbered (suc (suc zero)) = ProtoCap
numbered (suc (suc (suc zero))) = FieldCap
numbered (suc (suc (suc (suc zero)))) = MethodCap
numbered (suc (suc (suc (suc (suc zero))))) = ShortStringCap
numbered (suc (suc (suc (suc (suc (suc n)))))) = WeightCap

-- a cap is determined by its number
numbered-is : (cap : Cap) → numbered (cap_number cap) ≡ cap
numbered-is TypeCap = refl
numbered-is _ = refl

-- numbers of which neither is less are equal
one_number : (m n : ℕ) → (m < n → ⊥) → (n < m → ⊥) → m ≡ n
one_number m n f g = elim (cases_lt m n) [
  | inl lt ↦ absurd (f lt)
  | inr ge ↦ elim (cases_lt n m) [ inl lt ↦ absurd (g lt) | inr le ↦ omega (arith, ge, le) ]
]

-- caps of which neither has a lesser number are equal
one_cap : (j k : Cap) → (cap_number j < cap_number k → ⊥) → (cap_number k < cap_number j → ⊥) → j ≡ k
one_cap j k f g = sym (numbered-is j) ∙ ap numbered (one_number (cap_number j) (cap_number k) f g) ∙ numbered-is k

-- two causes of which neither is reported before the other are equal
one_cause : (c d : Cause) → (IsReportedBefore c d → ⊥) → (IsReportedBefore d c → ⊥) → c ≡ d
one_cause (Conflict m) (Conflict n) f g = ap Conflict (one_text m n (text_cmp m n) refl f g)
one_cause (Cycle m) (Conflict n) f g = absurd (g tt)
one_cause (Cycle m) (Cycle n) f g = ap Cycle (one_text m n (text_cmp m n) refl f g)
one_cause (Exceeded j) (Conflict n) f g = absurd (g tt)
one_cause (Exceeded j) (Cycle n) f g = absurd (g tt)
one_cause (Exceeded j) (Exceeded k) f g = ap Exceeded (one_cap j k f g)
one_cause _ _ f g = absurd (f tt)

-- so there is one first cause
pub first_cause-one : (caps : Caps) (D : List Definition) (c d : Cause) → IsFirstCause caps D c → IsFirstCause caps D d → c ≡ d
first_cause-one caps D c d x y = one_cause c d (y.first c x.is) (x.first d y.is)

-- it depends on the members alone
pub first_cause-same : (caps : Caps) (D E : List Definition) (cause : Cause) → AreSame D E → IsFirstCause caps D cause → IsFirstCause caps E cause
first_cause-same caps D E cause same x = record {
  is = IsCause-within D E (λ d. (same d).0) caps cause x.is;
  first = λ other y. x.first other (IsCause-within E D (λ d. (same d).1) caps other y);
}

-- a cause holds for the definitions or not
pub cause_or_not : (caps : Caps) (D : List Definition) (cause : Cause) → IsCause caps D cause ⊎ (¬ (IsCause caps D cause))
cause_or_not caps D (Conflict name) = conflict_or_not D name
cause_or_not caps D (Cycle name) = cycle_or_not D name
cause_or_not caps D (Exceeded cap) = exceeds_or_not caps D cap
