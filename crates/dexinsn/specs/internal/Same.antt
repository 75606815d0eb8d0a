-- Stored pieces that denote the same once remapped by two maps.
use Rattle.std.specs.Prelude.{◌≡◌, ℕ, ◌+◌, ◌<◌, ◌≤◌, List, [], ◌∷◌, length, drop, slice_index}
use Rattle.std.specs.List.{AllZip}
use Rattle.dexspec.specs.Pieces.{is_wide_index}
use Rattle.dexpool.specs.Numberings.{Maps, image_of}
use Rattle.dexinsn.specs.declared.pieces.Index.{Index}
use Rattle.dexinsn.specs.Numbered.{kind_in}
use Rattle.dexinsn.specs.Stored.{after_index}

-- the units are the same from one place up to another
abbrev pub Agree : List ℕ → List ℕ → ℕ → ℕ → Type 0
Agree us vs from to = (k : ℕ) → from ≤ k → k < to → slice_index us k ≡ slice_index vs k

-- they are the same from a place on, but for these indices of the first
abbrev pub AgreeBeside : List ℕ → List ℕ → ℕ → List Index → Type 0
AgreeBeside us vs from [] = Agree us vs from (length us)
AgreeBeside us vs from (i ∷ is) =
    Agree us vs from (i.unit + 1) × AgreeBeside us vs (after_index (is_wide_index (drop i.unit us)) i.unit) is

-- both indices are at one unit and have one image, or neither has one
pub record AreEqualMapped (r q : Maps) (us : List ℕ) (i j : Index) : Type 0 where
  pub place : i.unit ≡ j.unit
  pub image : image_of r (kind_in (drop i.unit us)) i.number ≡ image_of q (kind_in (drop i.unit us)) j.number

-- the units are the same but for the indices, whose images are the same
pub record AreEquivalent (r q : Maps) (us vs : List ℕ) (is js : List Index) : Type 0 where
  pub count : length us ≡ length vs
  pub agree : AgreeBeside us vs 0 is
  pub are_mapped : AllZip (AreEqualMapped r q us) is js
