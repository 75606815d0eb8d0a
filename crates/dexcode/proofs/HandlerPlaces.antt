-- Handlers of a list: what those before a place weigh, and where each begins.
use Rattle.dexcode.proofs.Common.{◌≡◌, ℕ, zero, suc, ◌+◌, ◌*◌, ◌^◌, ◌<◌, ◌≤◌, Bool, List, [], ◌∷◌, ◌++◌, length, map, take, get_or, refl, ap, sym, subst, ◌∙◌, if◌then◌else◌, arith, length-append, All, All-cons, All-nil, flat_map, false_from_ne_true, sum_by-cons, sum_by_more, AreDistinct, ushort, uint, uleb128, Mentions, distinct_once, all_of, Try, handler_decides, NumberedHandler, NumberedTry, no_handler, same_handler, handlers_of, handlers_weight, named, all_named, AreStored, HasShortTypes, ArePlaces, numbered_handler_bytes, numbered_handler_off, numbered_try_bytes, place_of, placed_try_bytes}
use Rattle.std.proofs.lemmas.List.Concat.{length-flat_map}
use Rattle.dexpool.proofs.Numbers.{flat_mapped}
use Rattle.dexcode.proofs.Images.{all_distinct}
use Rattle.dexcode.proofs.TryRows.{IsInRange}

abbrev one_weight : NumberedHandler → ℕ
one_weight h = 10 + 8 * length h.catches

-- ---- weights

-- one handler more
pub weight_more : (hs : List NumberedHandler) (i : ℕ) (d : NumberedHandler) → i < length hs → handlers_weight (take (i + 1) hs) ≡ handlers_weight (take i hs) + 10 + 8 * length (get_or hs i d).catches
weight_more hs i d lt = omega (arith, sum_by_more one_weight hs i d lt)

-- each has few catches
pub few_catches : (hs : List NumberedHandler) → handlers_weight hs ≤ 65535 → All (λ h. length h.catches < 2 ^ 16) hs
few_catches [] light = All-nil (λ h. length h.catches < 2 ^ 16)
few_catches (h ∷ hs) light =
    All-cons (λ h. length h.catches < 2 ^ 16) h hs (omega (arith, light, sum_by-cons one_weight h hs)) (few_catches hs (omega (arith, light, sum_by-cons one_weight h hs)))

-- each weighs something
pub weight_count : (hs : List NumberedHandler) → 5 + 10 * length hs ≤ handlers_weight hs
weight_count [] = omega arith
weight_count (h ∷ hs) = omega (arith, sum_by-cons one_weight h hs, weight_count hs)

-- ---- places

pub place_more : (hs : List NumberedHandler) (i : ℕ) (d : NumberedHandler) (n k : ℕ) → i < length hs → n ≡ place_of hs i → k ≡ length (numbered_handler_bytes (get_or hs i d)) → n + k ≡ place_of hs (i + 1)
place_more hs i d n k lt h g =
    let size : NumberedHandler → ℕ = λ h. length (numbered_handler_bytes h) in
    omega (arith, h, g, sum_by_more size hs i d lt, length-flat_map numbered_handler_bytes (take i hs), length-flat_map numbered_handler_bytes (take (i + 1) hs))

-- ---- each handler is listed once

-- a handler begins after those before it
off_at : (from : ℕ) (hs : List NumberedHandler) (i : ℕ) (d : NumberedHandler) → AreDistinct hs → i < length hs → numbered_handler_off from hs (get_or hs i d) ≡ from + length (flat_map numbered_handler_bytes (take i hs))
off_at from [] i d apart lt = absurd (omega (arith, lt))
off_at from (h ∷ hs) zero d apart lt =
    let end : from ≡ from + 0 = omega arith in ap (λ (b : Bool). if b then from else numbered_handler_off (from + length (numbered_handler_bytes h)) hs h) ((handler_decides h h).1 refl) ∙ end
off_at from (h ∷ hs) (suc i) d apart lt =
    let other = false_from_ne_true (same_handler h (get_or hs i d)) (λ e. apart 0 (suc i) d (omega arith) lt ((handler_decides h (get_or hs i d)).0 e)) in
    let skipped : numbered_handler_off from (h ∷ hs) (get_or hs i d) ≡ numbered_handler_off (from + length (numbered_handler_bytes h)) hs (get_or hs i d) = ap (λ (b : Bool). if b then from else numbered_handler_off (from + length (numbered_handler_bytes h)) hs (get_or hs i d)) other in
    omega (arith, skipped, (off_at (from + length (numbered_handler_bytes h)) hs i d (λ j k z less within. apart (suc j) (suc k) z (omega (arith, less)) (omega (arith, within))) (omega (arith, lt))), length-append (numbered_handler_bytes h) (flat_map numbered_handler_bytes (take i hs)))

-- ---- tries with the places of their handlers

pub tries_placed : (hs : List NumberedHandler) (places : List ℕ) (ts : List Try) → AreDistinct hs → ArePlaces hs places → All (λ t. t.handler < length hs) ts → flat_map (placed_try_bytes places) ts ≡ flat_map (numbered_try_bytes hs) (all_named hs ts)
tries_placed hs places ts apart are all =
    sym (flat_mapped (λ t. t.handler < length hs) (numbered_try_bytes hs) (named hs) (placed_try_bytes places) (λ t lt. sym (ap (λ (n : ℕ). uint t.start_addr ++ (ushort t.insn_count ++ ushort n)) (are.each t.handler lt ∙ sym (off_at (length (uleb128 (length hs))) hs t.handler no_handler apart lt)))) ts all)

-- handlers that are stored are listed once
pub stored_apart : (hs : List NumberedHandler) (ts : List Try) → AreStored hs ts → AreDistinct hs
stored_apart hs ts stored = subst AreDistinct (sym stored.used) (distinct_once same_handler (λ h. (handler_decides h h).1 refl) (map (λ (t : NumberedTry). t.handler) (all_named hs ts)))

-- ---- numbers of types

short_types : (m : Mentions) (hs : List NumberedHandler) → length m.types ≤ 2 ^ 16 → All (IsInRange m) hs → All HasShortTypes hs
short_types m hs few all = all_of (IsInRange m) HasShortTypes hs (λ h known. all_of (λ c. c.typ < length m.types) (λ c. c.typ < 2 ^ 16) h.catches (λ c lt. omega (arith, few, lt)) known) all

pub named_short : (m : Mentions) (ts : List NumberedTry) → length m.types ≤ 2 ^ 16 → All (IsInRange m) (map (λ t. t.handler) ts) → All HasShortTypes (handlers_of ts)
named_short m ts few all = all_distinct HasShortTypes same_handler (map (λ (t : NumberedTry). t.handler) ts) (short_types m (map (λ (t : NumberedTry). t.handler) ts) few all)
