-- Places by their bits.
use Rattle.dexinsn.proofs.Common.{and_first, and_second, ◌≡◌, ℕ, ◌/◌, ◌%◌, ◌^◌, ◌≤◌, ◌==◌, ◌||◌, ◌&&◌, ℤ, pos, Bool, true, false, List, length, slice_index, refl, ap, sym, ◌∙◌, subst, arith, eqb-true, negsuc, nat_abs, ◌↔◌, list_any, bit_at, get_or_past, bit_at-zero, Cut, is_payload_ident, F31t, format_of, ident_of, starts_with, AreBitsOf, is_noted, has_targets, PayloadKind, HasBit}
use Rattle.dexinsn.specs.declared.format.Format.{Format}
use Rattle.dexinsn.specs.declared.format.Format.TheVariants.{Format31t}
use Rattle.dexinsn.specs.declared.payload.PayloadKind.TheVariants.{PackedSwitch}
use Rattle.dexinsn.specs.internal.{HasPlace}
use Rattle.dexinsn.proofs.StartBits.{same_test}
use Rattle.dexinsn.proofs.Starts.{starts_with-negsuc, starts_with-pos}

-- nor is one after the words
pub no_bit_past : (words : List ℕ) (unit : ℕ) → length words ≤ unit / 64 → HasBit words unit → ⊥
unfolding HasBit
no_bit_past words unit past has = let none = ap (λ w. bit_at w (unit % 64)) (get_or_past words (unit / 64) 0 past) ∙ bit_at-zero (unit % 64) in omega arith

pub no_place_past : (words : List ℕ) (z : ℤ) (unit : ℕ) → z ≡ pos unit → length words ≤ unit / 64 → HasPlace words z → ⊥
no_place_past words z unit at past h = no_bit_past words unit past (subst (HasPlace words) at h)

-- a place is a start exactly where its bit is set
pub place_starts : (test : ℕ → Bool) (us : List ℕ) (cs : List Cut) (words : List ℕ) (z : ℤ) → AreBitsOf test us cs words → HasPlace words z ↔ (starts_with test us cs z ≡ true)
place_starts test us cs words (pos k) h = h.each k
place_starts test us cs words (negsuc k) h = (λ has. absurd has, λ e. let none = starts_with-negsuc test us cs k in absurd cc)

pub test_is : (test : ℕ → Bool) (us : List ℕ) (cs : List Cut) (words : List ℕ) (z : ℤ) (r : Bool) → (r ≡ true) ↔ HasPlace words z → AreBitsOf test us cs words → r ≡ starts_with test us cs z
test_is test us cs words z r says h = same_test r (starts_with test us cs z) (λ e. (place_starts test us cs words z h).0 (says.0 e)) (λ e. says.1 ((place_starts test us cs words z h).1 e))

-- the bit as it is read
read_bit : (words : List ℕ) (unit : ℕ) → (slice_index words (unit / 64) / 2 ^ (unit % 64) % 2 ≡ 1) ↔ HasBit words unit
unfolding HasBit
read_bit words unit = (λ e. e, λ e. e)

pub bit_is : (words : List ℕ) (unit : ℕ) (z : ℤ) → z ≡ pos unit → (slice_index words (unit / 64) / 2 ^ (unit % 64) % 2 ≡ 1) ↔ HasPlace words z
bit_is words unit z at = (λ e. subst (HasPlace words) (sym at) ((read_bit words unit).0 e), λ has. (read_bit words unit).1 (subst (HasPlace words) at has))

-- ---- payloads

payload_noted : (u : ℕ) → is_payload_ident u ≡ true → is_noted u ≡ true
payload_noted u is = ap (λ (b : Bool). b || has_targets u) is

-- where a payload begins there is a bit, and where there is none none does
pub no_payload : (ident : ℕ) (us : List ℕ) (cs : List Cut) (words : List ℕ) (z : ℤ) → is_payload_ident ident ≡ true → (HasPlace words z → ⊥) → AreBitsOf is_noted us cs words → starts_with (λ u. u == ident) us cs z ≡ false
no_payload ident us cs words (negsuc k) is none h = starts_with-negsuc (λ u. u == ident) us cs k
no_payload ident us cs words (pos k) is none h = by_test (starts_with (λ u. u == ident) us cs (pos k)) refl
  where
    by_test : (b : Bool) → starts_with (λ u. u == ident) us cs (pos k) ≡ b → starts_with (λ u. u == ident) us cs (pos k) ≡ false
    by_test false e = e
    by_test true e =
        let both = sym (starts_with-pos (λ u. u == ident) us cs k) ∙ e in
        let starts = and_first (list_any (λ c. c.unit == k) cs) (slice_index us k == ident) both in
        absurd (none ((h.each k).1 (starts_with-pos is_noted us cs k ∙ ap (λ (b : Bool). b && is_noted (slice_index us k)) starts ∙ payload_noted (slice_index us k) (ap is_payload_ident (eqb-true (slice_index us k) ident (and_second (list_any (λ c. c.unit == k) cs) (slice_index us k == ident) both)) ∙ is))))

-- where there is a bit the unit there decides
pub payload_by_unit : (ident : ℕ) (us : List ℕ) (cs : List Cut) (words : List ℕ) (z : ℤ) (k : ℕ) → z ≡ pos k → HasPlace words z → AreBitsOf is_noted us cs words → starts_with (λ u. u == ident) us cs z ≡ (slice_index us k == ident)
payload_by_unit ident us cs words z k at has h =
    ap (starts_with (λ u. u == ident) us cs) at ∙ starts_with-pos (λ u. u == ident) us cs k ∙ ap (λ (b : Bool). b && slice_index us k == ident) (and_first (list_any (λ c. c.unit == k) cs) (is_noted (slice_index us k)) (sym (starts_with-pos is_noted us cs k) ∙ (h.each k).0 (subst (HasPlace words) at has)))

-- ---- formats

pub format_switch : (f : Format) → f ≡ Format31t → format_of f ≡ F31t
format_switch f is = ap format_of is

pub format_other : (f : Format) → (f ≡ Format31t → ⊥) → format_of f ≡ F31t → ⊥
format_other Format31t other e = other refl
format_other _ other e = cc

pub ident_begins : (kind : PayloadKind) → is_payload_ident (ident_of kind) ≡ true
ident_begins PackedSwitch = refl
ident_begins _ = refl

-- a place with a bit is a unit
pub at_place : (words : List ℕ) (z : ℤ) → HasPlace words z → z ≡ pos (nat_abs z)
at_place words (pos k) has = refl
at_place words (negsuc k) has = absurd has
