-- Candidates of one part that have the same interfaces.
use Rattle.dexmerge.proofs.Common.{◌≡◌, ◌∙◌, ℕ, ◌<◌, List, length, get_or, get_or_default, map, sym, ap, subst, All-contains, AreIn, Contains-get_or, IsAt, Maps, image_or_same}
use Rattle.dexmerge.specs.{class_of}
use Rattle.dexmerge.specs.declared.candidates.Candidate.{Candidate}
use Rattle.dexmerge.specs.internal.CandidateLists.{AreByPart, HaveEqualInterfaces}

-- the member at a place
pub place_of : {X : Type 0} (xs : List X) (i : ℕ) (x : X) → i < length xs → x ≡ get_or xs i x → IsAt xs i x
place_of xs i x lt e = record { within = lt; is = λ d. get_or_default xs i d x lt ∙ sym e }

-- what is known of the candidates is known of some of them
pub still_by_part : (remaps : List Maps) (cs kept : List Candidate) → AreIn kept cs → AreByPart remaps cs → AreByPart remaps kept
still_by_part remaps cs kept within h i d lt = All-contains (λ (c : Candidate). IsAt remaps c.part c.remap.now) cs (get_or kept i d) h (within (get_or kept i d) (Contains-get_or kept i d lt))

module _ (remaps : List Maps) (cs : List Candidate) (h : AreByPart remaps cs) where
  place_is : (i : ℕ) (x : Candidate) → i < length cs → x ≡ get_or cs i x → IsAt remaps x.part x.remap.now
  place_is i x lt e = subst (λ (c : Candidate). IsAt remaps c.part c.remap.now) (sym e) (h i x lt)

  -- of one part, with the same interfaces there
  pub equal_interfaces : (i j : ℕ) (x y : Candidate) → i < length cs → j < length cs → x ≡ get_or cs i x → y ≡ get_or cs j y → x.part ≡ y.part → x.class.now.interfaces ≡ y.class.now.interfaces → HaveEqualInterfaces cs j i
  equal_interfaces i j x y li lj ex ey part same d =
      let maps : x.remap.now ≡ y.remap.now = sym ((place_is i x li ex).is x.remap.now) ∙ ap (λ (p : ℕ). get_or remaps p x.remap.now) part ∙ (place_is j y lj ey).is x.remap.now in
      let both : (class_of x).interfaces ≡ (class_of y).interfaces = λ k. map (image_or_same (maps k).types) (same k) in
      ap (λ (c : Candidate). (class_of c).interfaces) (get_or_default cs j d y lj ∙ sym ey) ∙ sym both ∙ ap (λ (c : Candidate). (class_of c).interfaces) (ex ∙ get_or_default cs i x d li)
