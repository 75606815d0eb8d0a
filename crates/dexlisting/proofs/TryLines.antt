-- Tries with their handlers, by their numbers.
use Rattle.std.proofs.Common.{ℕ, ◌≡◌, ◌<◌, List, [], ◌∷◌, ◌++◌, length, map, get_or, refl, ap, sym, ◌∙◌, subst, arith}
use Rattle.std.specs.Prelude.{All}
use Rattle.std.specs.List.{flat_map}
use Rattle.std.proofs.lemmas.List.{get_or-map, length-map}
use Rattle.dexspec.specs.Mentions.{Mentions}
use Rattle.dexcode.specs.declared.tries.Try.{Try}
use Rattle.dexcode.specs.Numbered.{NumberedTry, NumberedHandler, named, all_named, try_meant}
use Rattle.dexcode.specs.Meaning.{IsKnownTry}
use Rattle.dexlisting.specs.FullListing.{try_lines}

tries_map : (m : Mentions) (hs : List NumberedHandler) (ts : List Try) → flat_map (λ t. try_lines (try_meant m (named hs t))) ts ≡ flat_map try_lines (map (try_meant m) (all_named hs ts))
tries_map m hs [] = refl
tries_map m hs (t ∷ ts) = ap (λ r. try_lines (try_meant m (named hs t)) ++ r) (tries_map m hs ts)

-- the lines of tries with the handlers of their numbers
pub tries_shown : (m : Mentions) (hs : List NumberedHandler) (ts : List Try) (tries : List NumberedTry) → all_named hs ts ≡ tries → flat_map (λ t. try_lines (try_meant m (named hs t))) ts ≡ flat_map try_lines (map (try_meant m) tries)
tries_shown m hs ts tries are = tries_map m hs ts ∙ ap (λ xs. flat_map try_lines (map (try_meant m) xs)) are

-- each of the tries, with the handler of its number, is known
pub try_known : (m : Mentions) (hs : List NumberedHandler) (ts : List Try) (tries : List NumberedTry) (i : ℕ) (d : Try) → all_named hs ts ≡ tries → All (IsKnownTry m) tries
    → i < length ts → IsKnownTry m (named hs (get_or ts i d))
try_known m hs ts tries i d are known lt =
    subst (IsKnownTry m) (get_or-map (named hs) ts i d (named hs d) lt) (subst (All (IsKnownTry m)) (sym are) known i (named hs d) (omega (arith, length-map ts (named hs), lt)))
