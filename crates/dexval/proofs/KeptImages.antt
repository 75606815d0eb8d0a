-- Sets and their images.
use Rattle.dexval.proofs.Common.{◌≡◌, refl, sym, subst, NumberedSet, Maps, IsRemappedSet, SetHasPlaces, renumbered_set}

-- two sets are one set and its image if equal ones are
pub same_image : (r : Maps) (x y s t : NumberedSet) → s ≡ x → t ≡ y → IsRemappedSet r x y → IsRemappedSet r s t
same_image r x y s t first second is = subst (λ (z : NumberedSet). IsRemappedSet r z t) (sym first) (subst (IsRemappedSet r x) (sym second) is)

-- a set that a map leaves as it is is its own image
pub own_image : (r : Maps) (s : NumberedSet) → s ≡ renumbered_set r s → IsRemappedSet r s s
own_image r s is = ((λ _. is), (λ _. refl))

-- where each number has a place, the set remapped is the image
pub placed_image : (r : Maps) (s t : NumberedSet) → t ≡ renumbered_set r s → SetHasPlaces r s → IsRemappedSet r s t
placed_image r s t is places = ((λ _. is), (λ no. absurd (no places)))
