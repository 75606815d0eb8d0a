-- The images of the numbers in values, and which of them have 32 bits.
use Rattle.std.proofs.lemmas.List.Elements.{All-weaker}
use Rattle.dexval.proofs.Common.{ℕ, ◌^◌, ◌≤◌, List, [], ◌∷◌, refl, sym, subst, arith, IsSome, All, flat_map, All-nil, All-cons, Mentions, SymbolKind, MapsWithin, Maps, image_of, count_of, Use, IsMappedUse, IsMapped, MapsUse, NumberedSet, MapsNarrow, SetHasPlaces, set_uses, all_prefix, all_back}
use Rattle.dexpool.specs.Orderly.{MapsDown}
use Rattle.dexpool.proofs.Numbers.{some_of}

-- a symbol that occurs
abbrev pub use_of : SymbolKind → ℕ → Use
use_of kind i = record { kind = kind; number = i }

-- ---- maps from numbers of 32 bits to numbers of 32 bits

pub cut_within : (r : Maps) → MapsDown r → MapsNarrow r
cut_within r down kind i j e lt = omega (arith, down kind i j e, lt)

pub join_within : (n : Mentions) (r : Maps) → MapsWithin n r → ((kind : SymbolKind) → count_of kind n ≤ 2 ^ 32) → MapsNarrow r
join_within n r within few kind i j e lt = omega (arith, within kind i j e, few kind)

-- ---- from images to places

module _ (r : Maps) (within : MapsNarrow r) where
  -- an image is a place
  pub is_mapped : (kind : SymbolKind) (i : ℕ) → IsSome (image_of r kind i) → IsMapped r kind i
  is_mapped kind i h = let at = some_of (image_of r kind i) h in (at.0, at.1, λ lt. within kind i at.0 at.1 lt)

  -- if each number that occurs has an image, each maps to a place
  pub uses_placed : (us : List Use) → All (IsMappedUse r) us → All (MapsUse r) us
  uses_placed us h = All-weaker (IsMappedUse r) (MapsUse r) (λ u some. is_mapped u.kind u.number some) us h

  pub sets_placed : (ss : List NumberedSet) → All (IsMappedUse r) (flat_map set_uses ss) → All (SetHasPlaces r) ss
  sets_placed [] h = All-nil (SetHasPlaces r)
  sets_placed (s ∷ ss) h = All-cons (SetHasPlaces r) s ss (uses_placed (set_uses s) (all_prefix (IsMappedUse r) (set_uses s) (flat_map set_uses ss) h)) (sets_placed ss (all_back (IsMappedUse r) (set_uses s) (flat_map set_uses ss) h))

-- ---- from places to images

pub uses_remapped : (r : Maps) (us : List Use) → All (MapsUse r) us → All (IsMappedUse r) us
uses_remapped r us h = All-weaker (MapsUse r) (IsMappedUse r) (λ u place. subst IsSome (sym place.1) refl) us h
