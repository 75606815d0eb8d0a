-- The handlers of tries: the tests decide equality, and each handler begins at its offset.
use Rattle.dexspec.proofs.Common.{◌≡◌, ℕ, ◌+◌, ◌*◌, ◌≤◌, Bool, true, false, List, [], ◌∷◌, ◌++◌, length, Option, refl, sym, ap, ◌∙◌, subst, arith, inl, inr, sum_by, if◌then◌else◌, ◌==◌, Decides, Contains, flat_map, option_eq, pointwise, eqb-true, Decides-eqb, slice_eq-Decides, length-append, sum_by-cons, get_or-le-sum_by, Mentions}
use Rattle.dexspec.specs.{same_text, Catch, Handler, same_catch, same_handler, handler_bytes, handler_off}
use Rattle.dexspec.proofs.lists.{options_decide, text_decides, and_first, and_second, and_both, Contains-nil, Contains-cons_cases}

-- ---- equal handlers

-- of two catches
catch_decides : (c d : Catch) → Decides (same_catch c d) (c ≡ d)
catch_decides c d = (
  (λ e.
      let type = (text_decides c.type d.type).0 (and_first (same_text c.type d.type) (c.address == d.address) e) in
      let address = eqb-true c.address d.address (and_second (same_text c.type d.type) (c.address == d.address) e) in
      λ i. record { type = type i; address = address i }),
  (λ e.
      and_both (same_text c.type d.type) (c.address == d.address) ((text_decides c.type d.type).1 (ap (λ (x : Catch). x.type) e))
      ((Decides-eqb c.address d.address).1 (ap (λ (x : Catch). x.address) e))),
)

-- of two optional addresses
address_decides : (a c : Option ℕ) → Decides (option_eq ◌==◌ a c) (a ≡ c)
address_decides = options_decide ◌==◌ Decides-eqb

-- of two handlers
pub handler_decides : (h k : Handler) → Decides (same_handler h k) (h ≡ k)
handler_decides h k =
    let first = slice_eq-Decides catch_decides h.catches k.catches (pointwise same_catch h.catches k.catches) refl in
    let second = address_decides h.catch_all k.catch_all in (
      (λ e.
          let catches = first.0 (and_first (pointwise same_catch h.catches k.catches) (option_eq ◌==◌ h.catch_all k.catch_all) e) in
          let all = second.0 (and_second (pointwise same_catch h.catches k.catches) (option_eq ◌==◌ h.catch_all k.catch_all) e) in
          λ i. record { catches = catches i; catch_all = all i }),
      (λ e.
          and_both (pointwise same_catch h.catches k.catches) (option_eq ◌==◌ h.catch_all k.catch_all) (first.1 (ap (λ (x : Handler). x.catches) e))
          (second.1 (ap (λ (x : Handler). x.catch_all) e))),
    )

-- ---- places

-- the handler comes after others
pub record HandlerPlace (m : Mentions) (from : ℕ) (hs : List Handler) (h : Handler) : Type 0 where
  pub before : List Handler
  pub after : List Handler
  pub parts : hs ≡ before ++ h ∷ after
  pub place : handler_off m from hs h ≡ from + length (flat_map (handler_bytes m) before)

-- case split on whether the first is the handler
place_by : (m : Mentions) (from : ℕ) (k : Handler) (ks : List Handler) (h : Handler) (t : Bool) → same_handler k h ≡ t → (t ≡ false → HandlerPlace m (from + length (handler_bytes m k)) ks h) → HandlerPlace m from (k ∷ ks) h
place_by m from k ks h true e rest =
    let same : k ≡ h = (handler_decides k h).0 e in
    record {
      before = [];
      after = ks;
      parts = ap (λ (x : Handler). x ∷ ks) same;
      place = ap (λ (t : Bool). if t then from else handler_off m (from + length (handler_bytes m k)) ks h) e ∙ omega arith;
    }
place_by m from k ks h false e rest =
    let r = rest refl in
    let off : handler_off m from (k ∷ ks) h ≡ handler_off m (from + length (handler_bytes m k)) ks h = ap (λ (t : Bool). if t then from else handler_off m (from + length (handler_bytes m k)) ks h) e in
    record {
      before = k ∷ r.before;
      after = r.after;
      parts = ap (λ (l : List Handler). k ∷ l) r.parts;
      place = omega (arith, off, r.place, length-append (handler_bytes m k) (flat_map (handler_bytes m) r.before));
    }

-- the offset of a handler of the list
pub handler_place : (m : Mentions) (from : ℕ) (hs : List Handler) (h : Handler) → Contains hs h → HandlerPlace m from hs h
handler_place m from [] h c = absurd (Contains-nil h c)
handler_place m from (k ∷ ks) h c =
    place_by m from k ks h (same_handler k h) refl (λ e. elim (Contains-cons_cases k h ks c) [
      | inl s ↦ absurd (let t : true ≡ false = sym ((handler_decides k h).1 s) ∙ e in cc)
      | inr l ↦ handler_place m (from + length (handler_bytes m k)) ks h l
    ])

-- ---- counts

-- each handler weighs at least 10
pub handlers_few : (hs : List Handler) → 10 * length hs ≤ sum_by (λ (h : Handler). 10 + 8 * length h.catches) hs
handlers_few [] = omega arith
handlers_few (h ∷ hs) = omega (arith, handlers_few hs, sum_by-cons (λ (k : Handler). 10 + 8 * length k.catches) h hs)

-- a handler weighs at least 8 for each catch
pub catches_few : (hs : List Handler) (h : Handler) → Contains hs h → 10 + 8 * length h.catches ≤ sum_by (λ (k : Handler). 10 + 8 * length k.catches) hs
catches_few hs h c =
    subst (λ (x : Handler). 10 + 8 * length x.catches ≤ sum_by (λ (k : Handler). 10 + 8 * length k.catches) hs) c.2
    (get_or-le-sum_by (λ (k : Handler). 10 + 8 * length k.catches) hs c.0 h c.1)
