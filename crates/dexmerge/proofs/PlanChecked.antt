-- Whether the marks on files are those of a plan for them.
use Rattle.dexmerge.proofs.Common.{◌≡◌, ℕ, suc, ◌<◌, Bool, true, false, List, length, get_or, replicate, refl, sym, ◌∙◌, arith, inl, inr, MatchBool, false≢true, length-replicate, Plan, IsPlanFor}
use Rattle.dexmerge.specs.internal.UnionChecks.{IsNamed, IsMarkedBy, HasUnnamed}

-- no mark is set at first
pub none_named : (n i : ℕ) → get_or (replicate n false) i false ≡ false
none_named (suc n) (suc i) = none_named n i
none_named x v = refl

module _ (p : Plan) (files : ℕ) (marks : List Bool) (h : IsMarkedBy p 64 (replicate files false) marks) (count : length marks ≡ length (replicate files false)) where
  size : length (replicate files false) ≡ files
  size = length-replicate files false

  pub checked_by : (b : Bool) → MatchBool b ((i : ℕ) → i < length marks → IsNamed marks i) (HasUnnamed marks) → MatchBool b (IsPlanFor files p) (IsPlanFor files p → ⊥)
  checked_by true all = record {
    known = λ i d lt. omega (arith, h.files.known i d lt, size);
    named = λ i lt. elim ((h.files.marked i).0 (all i (omega (arith, lt, count, size)))) [
      | inl before ↦ absurd (false≢true (sym (none_named files i) ∙ before))
      | inr c ↦ c
    ];
    shallow = h.shallow;
  }
  checked_by false u = λ plan. false≢true (sym u.not ∙ (h.files.marked u.file).1 (inr (plan.named u.file (omega (arith, u.within, count, size)))))
