-- Caps by their numbers.
use Rattle.std.specs.Prelude.{◌≡◌, ℕ, Option, MatchOption}
use Rattle.dexspec.specs.Merging.{Caps, AreCaps}

-- the caps of these numbers
abbrev pub caps_of : ℕ → ℕ → ℕ → ℕ → ℕ → ℕ → Caps
caps_of types protos fields methods short_strings weight =
    record {
      types = types;
      protos = protos;
      fields = fields;
      methods = methods;
      short_strings = short_strings;
      weight = weight;
    }

-- the caps are returned if they are possible, and nothing otherwise
abbrev pub AreReturnedIfCaps : Caps → Option Caps → Type 0
AreReturnedIfCaps caps returned = MatchOption returned (AreCaps caps → ⊥) (λ c. c ≡ caps)
