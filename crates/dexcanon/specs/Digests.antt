-- The digests of class definitions.
use Rattle.std.specs.Prelude.{ℕ, List, [], ◌∷◌, take, drop, ◌≡◌, ◌≢◌, ◌⊎◌, map}
use Rattle.std.specs.FinMap as finite
use Rattle.dexspec.specs.Classes.{Definition}
use Rattle.dexspec.specs.Files.{Collection, Denotes, definitions}
use Rattle.dexspec.specs.Depth.{in_class_order}
use Rattle.dexspec.specs.Accepted.{IsAccepted}
use Rattle.dexspec.specs.Canonical.{canonical, ordered, unsigned_file}
use Rattle.sha1.specs.Sha1.{sha1}

-- the collection of one class definition
abbrev pub class_alone : Definition → Collection
class_alone d = finite.from_entries (d ∷ [])

-- the digest of a class definition: the signature of the canonical file of the class alone
unfoldable pub class_digest : Definition → List ℕ
class_digest d = take 20 (drop 12 (canonical (class_alone d)))

-- the digest of each class, in the order of a canonical file
abbrev pub class_digests : Collection → List (List ℕ)
class_digests K = map class_digest (in_class_order (definitions K))

-- the canonical file of the class alone is accepted, and denotes the class alone
pub record IsFileAlone (d : Definition) : Type 0 where
  pub accepted : IsAccepted (canonical (class_alone d))
  pub denotes : Denotes (canonical (class_alone d)) (class_alone d)

-- definitions whose files alone are equal are equal
abbrev pub EqualByFiles : Type 0
EqualByFiles =
    (d e : Definition) → IsFileAlone d → IsFileAlone e → canonical (class_alone d) ≡ canonical (class_alone e) → d ≡ e

-- what the sums of the canonical file of a class alone are taken of: the file after them
abbrev pub summed_file : Definition → List ℕ
summed_file d = unsigned_file (ordered (definitions (class_alone d)))

-- two messages that are not equal have one SHA-1
pub record IsCollision (one other : List ℕ) : Type 0 where
  pub unequal : one ≢ other
  pub same : sha1 one ≡ sha1 other

-- definitions of one digest are equal, or their files are a collision of SHA-1
abbrev pub EqualByDigests : Type 0
EqualByDigests =
    (d e : Definition) → IsFileAlone d → IsFileAlone e → class_digest d ≡ class_digest e
    → (d ≡ e) ⊎ IsCollision (summed_file d) (summed_file e)
