-- Items of one kind that are placed one after the other.
use Rattle.std.specs.Prelude.{ℕ, ◌+◌, List, [], ◌∷◌, ◌++◌, Option, Some, None}
use Rattle.dexspec.specs.Bytes.{round_up}
use Rattle.dexlayout.specs.Places.{ItemPlaces}

-- no items yet: the first will be at `from` or after it
abbrev pub none_from : ℕ → ItemPlaces
none_from from = record { offsets = []; end = from }

-- a use more, without an item
abbrev pub pass : ItemPlaces → ItemPlaces
pass p = record { offsets = p.offsets ++ 0 ∷ []; end = p.end }

-- a use more, whose item of `len` bytes is at an offset
abbrev pub put_at : ItemPlaces → ℕ → ℕ → ItemPlaces
put_at p off len = record { offsets = p.offsets ++ off ∷ []; end = off + len }

-- a use more, whose item of `len` bytes is after those before it
abbrev pub put_next : ItemPlaces → ℕ → ItemPlaces
put_next p len = put_at p p.end len

-- the end where the next item is aligned
abbrev pub align_end : ℕ → ItemPlaces → ItemPlaces
align_end align p = record { offsets = p.offsets; end = round_up align p.end }

-- a use more, by the number of its bytes if it has an item, which is aligned
abbrev pub place_use : ℕ → ItemPlaces → Option ℕ → ItemPlaces
place_use align p None = pass p
place_use align p (Some len) = put_next (align_end align p) len

-- uses, one after the other
abbrev pub place_uses : ℕ → ItemPlaces → List (Option ℕ) → ItemPlaces
place_uses align p [] = p
place_uses align p (u ∷ us) = place_uses align (place_use align p u) us
