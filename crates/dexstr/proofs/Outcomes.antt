-- A text's item: its count, its units and the zero byte.
use Rattle.dexstr.proofs.Common.{◌≡◌, ℕ, suc, ◌+◌, ◌-◌, ◌/◌, ◌%◌, ◌≤◌, ◌<◌, ◌^◌, List, [], ◌∷◌, ◌++◌, length, take, drop, get_or, refl, ap, sym, ◌∙◌, arith, append_assoc, length-append, length-drop, length-take, take_at, drop_at, take-append-drop, take_all, inl, inr, ◌⊎◌, flat_map-cons, IsUleb128, BeginsWith, sum_of_groups, spelling, form, AreUnits, IsStringData, same_number, Shape, One, Two, Three, one_unit, ◌≢◌, ◌↔◌, ◌*◌, Result, Ok, Err, IfOk, IfErr, OnErr, cases_lt, cases_eq, append-nil, not_cut_off, shape_of, one_string_data, units_of, IsSpelling, SpellsUnits, AfterUnits, BeginsWithUnit, BeginsWithNone, HasBody, StartsWithZero, IsPart, IsProperPrefix, LooksCutOff, IsShort, IsBad, IsFault}
use Rattle.dexstr.specs.declared.reading.TextFault.{TextFault}
use Rattle.dexstr.specs.declared.reading.TextFault.TheVariants.{Short, Bad, Count}
use Rattle.dexstr.proofs.Forms.{shape, units_of-spelling}

spelling_is : (us : List ℕ) → AreUnits us → IsSpelling (spelling us)
spelling_is us units =
    record { parts = ap spelling (units_of-spelling us units); units = rw (units_of-spelling us units) units }

pub spelled_prefix : (body : List ℕ) (n : ℕ) (rest : List ℕ) (after : AfterUnits body n rest) → take (length body - length rest) body ≡ spelling after.us
spelled_prefix body n rest after =
    let len : length body - length rest ≡ length (spelling after.us) = omega (arith, ap length after.parts, length-append (spelling after.us) rest) in
    rw len (ap (take (length (spelling after.us))) after.parts ∙ take_at (spelling after.us) rest (length (spelling after.us)) refl)

-- the bytes before the rest spell a text
pub spells_prefix : (bytes body : List ℕ) (count len n : ℕ) (rest : List ℕ) → BeginsWith IsUleb128 bytes count len → AfterUnits body n rest → n ≡ count → SpellsUnits (take (length body - length rest) body) count
spells_prefix bytes body count len n rest begins after same =
    rw (spelled_prefix body n rest after) (record { spelled = spelling_is after.us after.units; counted = ap length (units_of-spelling after.us after.units) ∙ after.len ∙ same; few = omega (arith, begins.spelled.in_range) })

zero_first : (rest : List ℕ) → 1 ≤ length rest → get_or rest 0 0 ≡ 0 → rest ≡ 0 ∷ drop 1 rest
zero_first [] some is = absurd (omega arith)
zero_first (x ∷ rest) some is = ap (λ (y : ℕ). y ∷ rest) is

regroup : (a b m : List ℕ) → (a ++ (b ++ 0 ∷ [])) ++ m ≡ a ++ (b ++ 0 ∷ m)
regroup a b m = rw (append_assoc, append_assoc) refl

abbrev item_of : ℕ → List ℕ → List ℕ → List ℕ
item_of len bytes us = take len bytes ++ (spelling us ++ 0 ∷ [])

pub item_found : (bytes : List ℕ) (count len n : ℕ) (rest : List ℕ) → BeginsWith IsUleb128 bytes count len → AfterUnits (drop len bytes) n rest → n ≡ count → 1 ≤ length rest → get_or rest 0 0 ≡ 0 → (spelled : List ℕ) → spelled ≡ take (length (drop len bytes) - length rest) (drop len bytes)
    → BeginsWith IsStringData bytes (units_of spelled) (len + length spelled + 1)
item_found bytes count len n rest begins after same some first spelled is =
    let e : spelled ≡ spelling after.us = is ∙ spelled_prefix (drop len bytes) n rest after in
    let us : units_of spelled ≡ after.us = ap units_of e ∙ units_of-spelling after.us after.units in
    let z = zero_first rest some first in
    let whole : bytes ≡ item_of len bytes after.us ++ drop 1 rest = sym (take-append-drop len bytes) ∙ ap (λ (x : List ℕ). take len bytes ++ x) (after.parts ∙ ap (λ (x : List ℕ). spelling after.us ++ x) z) ∙ sym (regroup (take len bytes) (spelling after.us) (drop 1 rest)) in
    let long : length (item_of len bytes after.us) ≡ len + length spelled + 1 = omega (arith, ap length e, length-append (take len bytes) (spelling after.us ++ 0 ∷ []), length-append (spelling after.us) (0 ∷ []), length-take len bytes, begins.within) in
    record {
      within = omega (arith, ap length whole, long, length-append (item_of len bytes after.us) (drop 1 rest));
      spelled = record {
        count = take len bytes;
        says = rw us (rw (after.len ∙ same) begins.spelled);
        units = rw us after.units;
        parts = rw us (ap (λ (k : ℕ). take k bytes) (sym long) ∙ ap (take (length (item_of len bytes after.us))) whole ∙ take_at (item_of len bytes after.us) (drop 1 rest) (length (item_of len bytes after.us)) refl);
      };
    }

pub from_place : (b : List ℕ) (at : ℕ) → take (length b - at) (drop at b) ≡ drop at b
from_place b at = take_all (length b - at) (drop at b) (omega (arith, length-drop at b))

pub no_zero : (rest : List ℕ) → (length rest < 1) ⊎ (get_or rest 0 0 ≡ 0 → ⊥) → ¬ StartsWithZero rest
no_zero rest (inl none) starts = omega (arith, ap length starts.1)
no_zero rest (inr other) starts = other (ap (λ (x : List ℕ). get_or x 0 0) starts.1)

-- ---- bytes are units and then no unit in one way only

head_is : (u v : ℕ) (us vs : List ℕ) → u ∷ us ≡ v ∷ vs → u ≡ v
head_is u v us vs e = cc

first_of : (u : ℕ) (us : List ℕ) (bytes rest : List ℕ) → AreUnits (u ∷ us) → bytes ≡ spelling (u ∷ us) ++ rest → BeginsWithUnit bytes u (spelling us ++ rest)
first_of u us bytes rest units e = record { unit = units 0 0 (omega arith); parts = e ∙ ap (λ (x : List ℕ). x ++ rest) (flat_map-cons form u us) ∙ append_assoc (form u) (spelling us) rest }

pub once : (us vs bytes rest rest' : List ℕ) → AreUnits us → AreUnits vs → bytes ≡ spelling us ++ rest → bytes ≡ spelling vs ++ rest' → BeginsWithNone rest → BeginsWithNone rest' → (us ≡ vs) × (rest ≡ rest')
once [] [] bytes rest rest' a b e f none none' = (refl, sym e ∙ f)
once [] (v ∷ vs) bytes rest rest' a b e f none none' = absurd (none v (spelling vs ++ rest') (first_of v vs rest rest' b (sym e ∙ f)))
once (u ∷ us) [] bytes rest rest' a b e f none none' = absurd (none' u (spelling us ++ rest) (first_of u us rest' rest a (sym f ∙ e)))
once (u ∷ us) (v ∷ vs) bytes rest rest' a b e f none none' =
    let first = first_of u us bytes rest a e in
    let first' = first_of v vs bytes rest' b f in
    let same = one_unit u v (spelling us ++ rest) (spelling vs ++ rest') first.unit first'.unit (sym first.parts ∙ first'.parts) in
    let others = once us vs (spelling us ++ rest) rest rest' (λ k d lt. a (suc k) d (omega arith)) (λ k d lt. b (suc k) d (omega arith)) refl same.1 none none' in
    (ap (λ (w : ℕ). w ∷ us) same.0 ∙ ap (λ (ws : List ℕ). v ∷ ws) others.0, others.1)

pub zero_none' : (more : List ℕ) (u : ℕ) (rest : List ℕ) → Shape (0 ∷ more) u rest → ⊥
zero_none' more u rest (One some small e) = let h = head_is 0 u more rest e in omega arith
zero_none' more u rest (Two which small e) = let h = head_is 0 (0xc0 + u / 64) more ((0x80 + u % 64) ∷ rest) e in omega arith
zero_none' more u rest (Three large small e) = let h = head_is 0 (0xe0 + u / 4096) more ((0x80 + u / 64 % 64) ∷ (0x80 + u % 64) ∷ rest) e in omega arith

pub zero_none : (more : List ℕ) → BeginsWithNone (0 ∷ more)
zero_none more = λ u rest begins. zero_none' more u rest (shape (0 ∷ more) u rest begins)

-- ---- what follows a count does so in one way only

pub body_once : (P Q : ℕ → ℕ → List ℕ → Type 0) (bytes : List ℕ) (p : HasBody P bytes) (q : HasBody Q bytes) → P q.count q.units q.rest
body_once P Q bytes p q =
    let same = same_number sum_of_groups (λ v. v < 2 ^ 32) bytes p.count q.count p.len q.len p.begins q.begins in
    let parts : drop p.len bytes ≡ spelling q.after.us ++ q.rest = ap (λ (k : ℕ). drop k bytes) (sym same.1) ∙ q.after.parts in
    let one = once p.after.us q.after.us (drop p.len bytes) p.rest q.rest p.after.units q.after.units p.after.parts parts p.after.none q.after.none in
    let units : q.units ≡ p.units = sym q.after.len ∙ ap length (sym one.0) ∙ p.after.len in
    rw (same.0, units, ← one.1) p.is

-- a text's item is a count, as many units, and the zero byte
pub item_body : (bytes s : List ℕ) (n : ℕ) → BeginsWith IsStringData bytes s n → HasBody (λ count units rest. StartsWithZero rest × (units ≡ count)) bytes
item_body bytes s n item =
    let first = item.spelled.count in
    let whole : bytes ≡ first ++ (spelling s ++ 0 ∷ drop n bytes) = sym (take-append-drop n bytes) ∙ ap (λ (x : List ℕ). x ++ drop n bytes) item.spelled.parts ∙ rw (append_assoc, append_assoc) refl in
    let front : take (length first) bytes ≡ first = ap (take (length first)) whole ∙ take_at first (spelling s ++ 0 ∷ drop n bytes) (length first) refl in
    record {
      count = length s;
      len = length first;
      units = length s;
      rest = 0 ∷ drop n bytes;
      begins = record { within = omega (arith, ap length whole, length-append first (spelling s ++ 0 ∷ drop n bytes)); spelled = rw front item.spelled.says };
      after = record {
        us = s;
        len = refl;
        units = item.spelled.units;
        parts = ap (drop (length first)) whole ∙ drop_at first (spelling s ++ 0 ∷ drop n bytes) (length first) refl;
        none = zero_none (drop n bytes);
      };
      is = ((drop n bytes, refl), refl);
    }

-- ---- a proper front, by its bytes

part_shape : (bytes : List ℕ) (u : ℕ) → u < 2 ^ 16 → bytes ≡ form u → Shape bytes u []
part_shape bytes u small e = rw e (rw (append-nil (form u)) at (shape_of u [] small))

two_bytes : (u : ℕ) → 0x80 ≤ u → u < 0x800 → (0xc0 + u / 64) ∷ (0x80 + u % 64) ∷ [] ≡ form u
two_bytes u more small = two_of (form u) u more small (part_shape (form u) u (omega arith) refl)
  where
    two_of : (bytes : List ℕ) (u : ℕ) → 0x80 ≤ u → u < 0x800 → Shape bytes u [] → (0xc0 + u / 64) ∷ (0x80 + u % 64) ∷ [] ≡ bytes
    two_of bytes u more small (One some less e) = absurd (omega arith)
    two_of bytes u more small (Two which less e) = sym e
    two_of bytes u more small (Three large less e) = absurd (omega arith)

three_bytes : (u : ℕ) → 0x800 ≤ u → u < 2 ^ 16 → (0xe0 + u / 4096) ∷ (0x80 + u / 64 % 64) ∷ (0x80 + u % 64) ∷ [] ≡ form u
three_bytes u more small = three_of (form u) u more (part_shape (form u) u small refl)
  where
    three_of : (bytes : List ℕ) (u : ℕ) → 0x800 ≤ u → Shape bytes u [] → (0xe0 + u / 4096) ∷ (0x80 + u / 64 % 64) ∷ (0x80 + u % 64) ∷ [] ≡ bytes
    three_of bytes u more (One some less e) = absurd (omega arith)
    three_of bytes u more (Two which less e) = absurd (omega arith)
    three_of bytes u more (Three large less e) = sym e

-- the beginning of a unit's spelling, by the unit
prefix_of_two : (b u : ℕ) → 0x80 ≤ u → u < 0x800 → 0xc0 + u / 64 ≡ b → IsProperPrefix (b ∷ [])
prefix_of_two b u more small is = record { more = (0x80 + u % 64) ∷ []; some = omega arith; part = inr (u, omega arith, rw (← is) (two_bytes u more small)) }

prefix_of_three : (b u : ℕ) → 0x800 ≤ u → u < 2 ^ 16 → 0xe0 + u / 4096 ≡ b → IsProperPrefix (b ∷ [])
prefix_of_three b u more small is = record { more = (0x80 + u / 64 % 64) ∷ (0x80 + u % 64) ∷ []; some = omega arith; part = inr (u, small, rw (← is) (three_bytes u more small)) }

two_of_three : (b c u : ℕ) → 0x800 ≤ u → u < 2 ^ 16 → 0xe0 + u / 4096 ≡ b → 0x80 + u / 64 % 64 ≡ c → IsProperPrefix (b ∷ c ∷ [])
two_of_three b c u more small is is' = record { more = (0x80 + u % 64) ∷ []; some = omega arith; part = inr (u, small, rw (← is, ← is') (three_bytes u more small)) }

one_byte : (b : ℕ) → (b ≡ 0xc0) ⊎ ((0xc2 ≤ b) × (b ≤ 0xef)) → IsProperPrefix (b ∷ [])
one_byte b (inl zero_lead) = record { more = 0x80 ∷ []; some = omega arith; part = inr (0, omega arith, rw zero_lead refl) }
one_byte b (inr (low, high)) = elim (cases_lt b 0xe0) [
  | inl two ↦ prefix_of_two b (64 * (b - 0xc0)) (omega arith) (omega arith) (omega arith)
  | inr three ↦ elim (cases_eq b 0xe0) [
    | inl least ↦ prefix_of_three b 0x800 (omega arith) (omega arith) (omega arith)
    | inr other ↦ prefix_of_three b (4096 * (b - 0xe0)) (omega arith) (omega arith) (omega arith)
  ]
]

pub prefix_from : (bytes : List ℕ) → LooksCutOff bytes → IsProperPrefix bytes
prefix_from [] looks = record { more = 0 ∷ []; some = omega arith; part = inl refl }
prefix_from (b ∷ rest) (inl none) = absurd (omega arith)
prefix_from (b ∷ []) (inr (inl (len, lead))) = one_byte b lead
prefix_from (b ∷ c ∷ rest) (inr (inl (len, lead))) = absurd (omega arith)
prefix_from (b ∷ c ∷ []) (inr (inr (inl (len, lead, low, high)))) = two_of_three b c (64 * (c - 0x80)) (omega arith) (omega arith) (omega arith) (omega arith)
prefix_from (b ∷ c ∷ []) (inr (inr (inr (len, least, most, low, high)))) = two_of_three b c (4096 * (b - 0xe0) + 64 * (c - 0x80)) (omega arith) (omega arith) (omega arith) (omega arith)
prefix_from bytes (inr (inr (inl two))) = absurd (omega (arith, two.0))
prefix_from bytes (inr (inr (inr two))) = absurd (omega (arith, two.0))

two_heads : (a b c d : ℕ) (x y : List ℕ) → a ∷ b ∷ x ≡ c ∷ d ∷ y → (a ≡ c) × (b ≡ d)
two_heads a b c d x y e = let p : a ≡ c = cc in let q : b ≡ d = cc in (p, q)

looks_one : (b u : ℕ) (more : List ℕ) → 0 < length more → Shape (b ∷ more) u [] → LooksCutOff (b ∷ [])
looks_one b u more some (One above small e) = absurd (omega (arith, ap length e))
looks_one b u more some (Two (inl none) small e) = let lead = head_is b (0xc0 + u / 64) more ((0x80 + u % 64) ∷ []) e in inr (inl (refl, inl (omega arith)))
looks_one b u more some (Two (inr least) small e) = let lead = head_is b (0xc0 + u / 64) more ((0x80 + u % 64) ∷ []) e in inr (inl (refl, inr (omega arith, omega arith)))
looks_one b u more some (Three large small e) = let lead = head_is b (0xe0 + u / 4096) more ((0x80 + u / 64 % 64) ∷ (0x80 + u % 64) ∷ []) e in inr (inl (refl, inr (omega arith, omega arith)))

looks_two : (b c u : ℕ) (more : List ℕ) → 0 < length more → Shape (b ∷ c ∷ more) u [] → LooksCutOff (b ∷ c ∷ [])
looks_two b c u more some (One above small e) = absurd (omega (arith, ap length e))
looks_two b c u more some (Two which small e) = absurd (omega (arith, ap length e))
looks_two b c u more some (Three large small e) =
    let heads = two_heads b c (0xe0 + u / 4096) (0x80 + u / 64 % 64) more ((0x80 + u % 64) ∷ []) e in
    elim (cases_eq b 0xe0) [
      | inl least ↦ inr (inr (inl (refl, least, omega (arith, heads.0, heads.1), omega (arith, heads.1))))
      | inr other ↦ inr (inr (inr (refl, omega (arith, heads.0), omega (arith, heads.0), omega (arith, heads.1), omega (arith, heads.1))))
    ]

not_three : (bytes : List ℕ) (u : ℕ) → Shape bytes u [] → length bytes ≤ 3
not_three bytes u (One above small e) = omega (arith, ap length e)
not_three bytes u (Two which small e) = omega (arith, ap length e)
not_three bytes u (Three large small e) = omega (arith, ap length e)

looks_from : (bytes more : List ℕ) → 0 < length more → IsPart (bytes ++ more) → LooksCutOff bytes
looks_from [] more some part = inl refl
looks_from (b ∷ rest) more some (inl end) = absurd (omega (arith, ap length end, length-append rest more))
looks_from (b ∷ []) more some (inr (u, small, e)) = looks_one b u more some (part_shape (b ∷ more) u small e)
looks_from (b ∷ c ∷ []) more some (inr (u, small, e)) = looks_two b c u more some (part_shape (b ∷ c ∷ more) u small e)
looks_from (b ∷ c ∷ d ∷ bytes) more some (inr (u, small, e)) = absurd (omega (arith, not_three (b ∷ c ∷ d ∷ (bytes ++ more)) u (part_shape (b ∷ c ∷ d ∷ (bytes ++ more)) u small e), length-append bytes more))

pub prefix_to : (bytes : List ℕ) → IsProperPrefix bytes → LooksCutOff bytes
prefix_to bytes front = looks_from bytes front.more front.some front.part

-- ---- no two at once

no_prefix_zero : (rest : List ℕ) → IsProperPrefix rest → StartsWithZero rest → ⊥
no_prefix_zero rest front (more, e) = looks_zero more (rw e at (prefix_to rest front))
  where
    looks_zero : (more : List ℕ) → LooksCutOff (0 ∷ more) → ⊥
    looks_zero more (inl none) = omega arith
    looks_zero more (inr (inl (len, inl lead))) = omega arith
    looks_zero more (inr (inl (len, inr (low, high)))) = omega arith
    looks_zero more (inr (inr (inl (len, lead, low, high)))) = omega arith
    looks_zero more (inr (inr (inr (len, least, most, low, high)))) = omega arith

-- the zero byte follows the units, and Q holds of their number
abbrev Ends : (ℕ → ℕ → Type 0) → List ℕ → Type 0
Ends Q bytes = HasBody (λ count units rest. StartsWithZero rest × Q count units) bytes

short_ends : (Q : ℕ → ℕ → Type 0) (bytes : List ℕ) → IsShort bytes → Ends Q bytes → ⊥
short_ends Q bytes (inl cut) ends = not_cut_off sum_of_groups (λ v. v < 2 ^ 32) bytes ends.count ends.len ends.begins cut.high
short_ends Q bytes (inr body) ends = no_prefix_zero ends.rest (body_once (λ count units rest. IsProperPrefix rest) (λ count units rest. StartsWithZero rest × Q count units) bytes body ends) ends.is.0

bad_ends : (Q : ℕ → ℕ → Type 0) (bytes : List ℕ) → IsBad bytes → Ends Q bytes → ⊥
bad_ends Q bytes (inl none) ends = none.1 ends.count ends.len ends.begins
bad_ends Q bytes (inr body) ends = (body_once (λ count units rest. (¬ IsProperPrefix rest) × ¬ StartsWithZero rest) (λ count units rest. StartsWithZero rest × Q count units) bytes body ends).1 ends.is.0

short_bad : (bytes : List ℕ) → IsShort bytes → IsBad bytes → ⊥
short_bad bytes (inl cut) (inl none) = none.0 cut
short_bad bytes (inl cut) (inr body) = not_cut_off sum_of_groups (λ v. v < 2 ^ 32) bytes body.count body.len body.begins cut.high
short_bad bytes (inr body) (inl none) = none.1 body.count body.len body.begins
short_bad bytes (inr body) (inr other) = other.is.0 (body_once (λ count units rest. IsProperPrefix rest) (λ count units rest. (¬ IsProperPrefix rest) × ¬ StartsWithZero rest) bytes body other)

one_fault : (e f : TextFault) (bytes : List ℕ) → IsFault e bytes → IsFault f bytes → e ≡ f
one_fault Short Bad bytes one other = absurd (short_bad bytes one other)
one_fault Short Count bytes one other = absurd (short_ends (λ count units. units ≢ count) bytes one other)
one_fault Bad Short bytes one other = absurd (short_bad bytes other one)
one_fault Bad Count bytes one other = absurd (bad_ends (λ count units. units ≢ count) bytes one other)
one_fault Count Short bytes one other = absurd (short_ends (λ count units. units ≢ count) bytes other one)
one_fault Count Bad bytes one other = absurd (bad_ends (λ count units. units ≢ count) bytes other one)
one_fault _ _ bytes one other = refl

pub no_fault : (e : TextFault) (bytes s : List ℕ) (n : ℕ) → BeginsWith IsStringData bytes s n → IsFault e bytes → ⊥
no_fault Short bytes s n item fault = short_ends (λ count units. units ≡ count) bytes fault (item_body bytes s n item)
no_fault Bad bytes s n item fault = bad_ends (λ count units. units ≡ count) bytes fault (item_body bytes s n item)
no_fault Count bytes s n item fault = (body_once (λ count units rest. StartsWithZero rest × (units ≢ count)) (λ count units rest. StartsWithZero rest × (units ≡ count)) bytes fault (item_body bytes s n item)).1 (item_body bytes s n item).is.1

-- ---- what the call returns

-- an item where the bytes begin with one, and each fault exactly where the bytes have it
pub record Exact (bytes : List ℕ) (r : Result (List ℕ × ℕ) TextFault) : Type 0 where
  pub only : (s : List ℕ) (n : ℕ) → BeginsWith IsStringData bytes s n → r ≡ Ok (s, n)
  pub none : OnErr r ((s : List ℕ) (n : ℕ) → ¬ BeginsWith IsStringData bytes s n)
  pub fault : (e : TextFault) → (r ≡ Err e) ↔ IsFault e bytes

not_both : (x : List ℕ × ℕ) (e : TextFault) (r : Result (List ℕ × ℕ) TextFault) → r ≡ Ok x → r ≡ Err e → ⊥
not_both x e r ok err = cc

one_err : (e f : TextFault) (r : Result (List ℕ × ℕ) TextFault) → r ≡ Err e → r ≡ Err f → e ≡ f
one_err e f r one other = cc

pub exact : (bytes : List ℕ) (r : Result (List ℕ × ℕ) TextFault) → IfOk r (λ x. BeginsWith IsStringData bytes x.0 x.1) → IfErr r (λ e. IsFault e bytes) → Exact bytes r
exact bytes (Ok (s, n)) found fault = record {
  only = λ t m item. let same = one_string_data bytes s t n m found item in rw (same.0, same.1) refl;
  none = tt;
  fault = λ e. (λ err. absurd (not_both (s, n) e (Ok (s, n)) refl err), λ reported. absurd (no_fault e bytes s n found reported));
}
exact bytes (Err f) found fault = record {
  only = λ t m item. absurd (no_fault f bytes t m item fault);
  none = λ t m item. no_fault f bytes t m item fault;
  fault = λ e. (λ err. rw (one_err e f (Err f) err refl) fault, λ reported. rw (one_fault f e bytes fault reported) refl);
}
