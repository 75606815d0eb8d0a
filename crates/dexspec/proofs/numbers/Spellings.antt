-- Encodings of numbers: bytes begin with one number, and the shortest encoding is such.
use Rattle.dexspec.proofs.Common.{All, ◌≡◌, ◌↔◌, ℕ, ◌*◌, ◌^◌, ◌<◌, ◌≤◌, List, ◌++◌, length, take, Option, Some, None, refl, ap, sym, ◌∙◌, arith, length-append, take_at, ℤ, FitsSigned, w32}
use Rattle.dexspec.specs.{Spells, BeginsWith, IsUleb128, IsSleb128, IsUleb128p1, sum_of_groups, size_u, size_s, magnitude, held_in, plus_one, uleb128, sleb128, uleb128p1}
use Rattle.dexspec.proofs.numbers.Chains.{chain_some, chain_same, no_chain, sum_bound}
use Rattle.dexspec.proofs.numbers.Groups.{length-groups, spelled_in, size_u_is, size_u_bounds}
use Rattle.dexspec.proofs.numbers.Signed.{signed_of, magnitude_of, size_s_is, held_fits}

-- ---- bytes begin with one number

module _ {V : Type 0} (number : List ℕ → V) (InRange : V → Type 0) where
  -- one number, in one length
  pub same_number : (bytes : List ℕ) (v w : V) (n m : ℕ) → BeginsWith (Spells number InRange) bytes v n → BeginsWith (Spells number InRange) bytes w m → (w ≡ v) × (m ≡ n)
  same_number bytes v w n m one other =
      let e : m ≡ n = chain_same bytes m n other.spelled.chain one.spelled.chain other.within one.within in
      (sym other.spelled.value ∙ ap (λ k. number (take k bytes)) e ∙ one.spelled.value, e)

  -- an encoding with bytes after it begins with the number
  pub spelling_begins : (a rest : List ℕ) (v : V) → Spells number InRange a v → BeginsWith (Spells number InRange) (a ++ rest) v (length a)
  spelling_begins a rest v says = record {
    within = omega (arith, length-append a rest);
    spelled = rw take_at says;
  }

  -- and with no other number
  pub one_number : (a rest : List ℕ) (v w : V) (n : ℕ) → Spells number InRange a v → BeginsWith (Spells number InRange) (a ++ rest) w n ↔ ((w ≡ v) × (n ≡ length a))
  one_number a rest v w n says = (
    λ begins. same_number (a ++ rest) v w (length a) n (spelling_begins a rest v says) begins,
    λ same. rw (same.0, same.1) (spelling_begins a rest v says),
  )

  -- in bytes that begin with a number some top bit is not set
  pub not_cut_off : (bytes : List ℕ) (v : V) (n : ℕ) → BeginsWith (Spells number InRange) bytes v n → ¬ All (λ byte. 128 ≤ byte) bytes
  not_cut_off bytes v n begins high = no_chain bytes n begins.within high begins.spelled.chain

-- ---- the number plus one

-- a number, or none, is determined by the number plus one
pub same_plus_one : (v w : Option ℕ) → plus_one v ≡ plus_one w → v ≡ w
same_plus_one None None e = refl
same_plus_one (Some v) (Some w) e = let same : v ≡ w = omega arith in ap Some same
same_plus_one _ _ e = absurd (omega arith)

-- bytes begin with a number as a uleb128p1 exactly if they begin with the number plus one as a uleb128
pub begins_plus_one : (bytes : List ℕ) (v : Option ℕ) (n : ℕ) → BeginsWith IsUleb128p1 bytes v n ↔ BeginsWith IsUleb128 bytes (plus_one v) n
begins_plus_one bytes v n = (
  λ begins. record { within = begins.within; spelled = begins.spelled },
  λ begins. record { within = begins.within; spelled = begins.spelled },
)

-- an encoding as a uleb128p1 with bytes after it begins with the number and with no other
pub one_number_plus_one : (a rest : List ℕ) (v w : Option ℕ) (n : ℕ) → IsUleb128p1 a v → BeginsWith IsUleb128p1 (a ++ rest) w n ↔ ((w ≡ v) × (n ≡ length a))
one_number_plus_one a rest v w n says =
    let only = one_number sum_of_groups (λ v. v < 2 ^ 32) a rest (plus_one v) (plus_one w) n says in
    let same = begins_plus_one (a ++ rest) w n in (
      λ begins. let e = only.0 (same.0 begins) in (same_plus_one w v e.0, e.1),
      λ e. same.1 (only.1 (ap plus_one e.0, e.1)),
    )

-- ---- the shortest encodings

-- the bytes that are written encode the number, and no other encoding is shorter
pub uleb128_is : (v : ℕ) → v < 2 ^ 32 → IsUleb128 (uleb128 v) v × ((other : List ℕ) → IsUleb128 other v → length (uleb128 v) ≤ length other)
uleb128_is v lt =
    let size = size_u_is v (omega arith) in
    let is = spelled_in v (size_u v) size.some size.holds in (
      record { chain = is.0; few = rw length-groups size.few; value = is.1; in_range = lt },
      λ other says. rw length-groups (size.least (length other) (chain_some other says.chain) (omega (arith, sum_bound other, says.value))),
    )

pub uleb128p1_is : (v : Option ℕ) → plus_one v < 2 ^ 32 → IsUleb128p1 (uleb128p1 v) v × ((other : List ℕ) → IsUleb128p1 other v → length (uleb128p1 v) ≤ length other)
uleb128p1_is v lt = let is = uleb128_is (plus_one v) lt in (is.0, λ other says. is.1 other says)

pub sleb128_is : (v : ℤ) → FitsSigned w32 v → IsSleb128 (sleb128 v) v × ((other : List ℕ) → IsSleb128 other v → length (sleb128 v) ≤ length other)
sleb128_is v fits =
    let size = size_s_is v fits in
    let is = spelled_in (held_in (size_s v) v) (size_s v) size.some (held_fits v (size_s v) size.holds) in
    let len = length-groups (size_s v) (held_in (size_s v) v) in (
      record { chain = is.0; few = rw len size.few; value = signed_of v (sleb128 v) is.0 (rw len is.1) (rw len size.holds); in_range = fits },
      λ other says. rw len (size.least (length other) (chain_some other says.chain) (magnitude_of v other says.chain says.value)),
    )

-- they are one to five bytes
pub uleb128_bounds : (v : ℕ) → (1 ≤ length (uleb128 v)) × (length (uleb128 v) ≤ 5)
uleb128_bounds v = rw length-groups (size_u_bounds v)

pub sleb128_bounds : (v : ℤ) → (1 ≤ length (sleb128 v)) × (length (sleb128 v) ≤ 5)
sleb128_bounds v = rw length-groups (size_u_bounds (2 * magnitude v))
