-- Methods that are known to have the same debug program.
use Rattle.dexmembers.proofs.Common.{◌≡◌, ℕ, ◌+◌, ◌<◌, ◌≤◌, List, [], ◌∷◌, ◌++◌, length, map, get_or, refl, sym, ap, ◌∙◌, subst, arith, inl, inr, Option, Some, None, option_map, cases_lt, length-append, length-map, get_or-map, Result, Ok, Err, IfOk, IfSome, NumberedItem}
use Rattle.std.specs.Global.{Vec}
use Rattle.std.specs.Option.{option_map_or}
use Rattle.std.proofs.lemmas.List.{get_or_append_left}
use Rattle.dexdebug.specs.Debug.{NumberedDebug}
use Rattle.dexmembers.specs.{AreSameBefore, StoredMethod, code_debug, code_with, codes_with, item_at}
use Rattle.dexmembers.specs.declared.code_list.StoredCode.{StoredCode}
use Rattle.dexmembers.specs.internal.DebugPlaces.{AreFirstsWith, IsFirstOf, debug_place}
use Rattle.dexmembers.specs.internal.SharedCodes.{stored_in, stored_with}
use Rattle.dexpool.specs.declared.sharing.SharedItem.{SharedItem}
use Rattle.dexmembers.proofs.MethodLists.{item_mapped}

-- the debug program of code is the one at its place
pub debug_by_place : (debugs : List NumberedDebug) (items : List (StoredCode NumberedItem)) (code : Option ℕ) → code_debug (item_at (codes_with debugs items) code) ≡ item_at debugs (debug_place items code)
debug_by_place debugs items code = ap code_debug (item_mapped (code_with debugs) items code) ∙ by (item_at items code)
  where
    by : (o : Option (StoredCode NumberedItem)) → code_debug (option_map (code_with debugs) o) ≡ item_at debugs (option_map_or (λ x. x.debug) o None)
    by None = refl
    by (Some x) = refl

get_or_last : {X : Type 0} (xs : List X) (x d : X) → get_or (xs ++ x ∷ []) (length xs) d ≡ x
get_or_last [] x d = refl
get_or_last (y ∷ xs) x d = get_or_last xs x d

module _ {X Y : Type 0} (f : X → Y) (place_of : X → Option ℕ) (xs : List X) where
  -- of the first i elements: for each a place that is not after it, whose element has the same value
  pub record AreSameTo (i : ℕ) (places : List ℕ) : Type 0 where
    pub many : length places ≡ i
    pub before : (k : ℕ) → k < i → get_or places k 0 ≤ k
    pub same : (k : ℕ) (d : X) → k < i → f (get_or xs (get_or places k 0) d) ≡ f (get_or xs k d)

  -- these are elements before i, which have the places in order
  pub record AreFirsts (i : ℕ) (firsts : List ℕ) : Type 0 where
    pub before : (p : ℕ) → p < length firsts → get_or firsts p 0 < i
    pub placed : (p : ℕ) (d : X) → p < length firsts → place_of (get_or xs (get_or firsts p 0) d) ≡ Some p

  pub none_same : AreSameTo 0 []
  none_same = record { many = refl; before = λ k lt. absurd (omega (arith, lt)); same = λ k d lt. absurd (omega (arith, lt)) }

  pub no_firsts : AreFirsts 0 []
  no_firsts = record { before = λ p lt. absurd (omega (arith, lt)); placed = λ p d lt. absurd (omega (arith, lt)) }

  pub all_same : (i : ℕ) (places : List ℕ) → i ≡ length xs → AreSameTo i places → AreSameBefore f xs places
  all_same i places end h = record {
    many = h.many ∙ end;
    before = λ k lt. h.before k (omega (arith, lt, end));
    same = λ k d lt. h.same k d (omega (arith, lt, end));
  }

  module _ (i : ℕ) (firsts : List ℕ) (known : AreFirsts i firsts) (debug : Option ℕ) (here : (d : X) → place_of (get_or xs i d) ≡ debug) where
    -- elements with equal places have equal values
    pub same_more : ((x y : X) → place_of x ≡ place_of y → f x ≡ f y) → (places : List ℕ) → AreSameTo i places → (place : ℕ) → IsFirstOf firsts debug i place → AreSameTo (i + 1) (places ++ place ∷ [])
    same_more by_place places h place is = record {
      many = omega (arith, h.many, length-append places (place ∷ []));
      before = λ k lt. elim (cases_lt k i) [
        | inl less ↦ omega (arith, ap (λ (n : ℕ). n) (earlier k less), h.before k less)
        | inr ge ↦ let at : k ≡ i = omega (arith, lt, ge) in omega (arith, at, last k at, not_after is)
      ];
      same = λ k d lt. elim (cases_lt k i) [
        | inl less ↦ ap (λ (n : ℕ). f (get_or xs n d)) (earlier k less) ∙ h.same k d less
        | inr ge ↦ let at : k ≡ i = omega (arith, lt, ge) in ap (λ (n : ℕ). f (get_or xs n d)) (last k at) ∙ equal d is ∙ ap (λ (n : ℕ). f (get_or xs n d)) (sym at)
      ];
    }
      where
        earlier : (k : ℕ) → k < i → get_or (places ++ place ∷ []) k 0 ≡ get_or places k 0
        earlier k less = get_or_append_left places (place ∷ []) 0 k (omega (arith, h.many, less))

        last : (k : ℕ) → k ≡ i → get_or (places ++ place ∷ []) k 0 ≡ place
        last k at = ap (λ (n : ℕ). get_or (places ++ place ∷ []) n 0) (at ∙ sym h.many) ∙ get_or_last places place 0

        not_after : IsFirstOf firsts debug i place → place ≤ i
        not_after (inl own) = omega (arith, own)
        not_after (inr first) = omega (arith, first.3, known.before first.0 first.2)

        equal : (d : X) → IsFirstOf firsts debug i place → f (get_or xs place d) ≡ f (get_or xs i d)
        equal d (inl own) = ap (λ (n : ℕ). f (get_or xs n d)) own
        equal d (inr first) = by_place (get_or xs place d) (get_or xs i d) (ap (λ (n : ℕ). place_of (get_or xs n d)) first.3 ∙ known.placed first.0 d first.2 ∙ sym first.1 ∙ sym (here d))

    pub firsts_more : (new : List ℕ) → AreFirstsWith firsts new debug i → AreFirsts (i + 1) new
    firsts_more new (inl same) = rw same (record { before = λ p lt. omega (arith, known.before p lt); placed = known.placed })
    firsts_more new (inr grown) = rw grown.1 (record {
      before = λ p lt. elim (cases_lt p (length firsts)) [
        | inl less ↦ omega (arith, earlier p less, known.before p less)
        | inr ge ↦ omega (arith, last p (omega (arith, lt, ge, length-append firsts (i ∷ []))))
      ];
      placed = λ p d lt. elim (cases_lt p (length firsts)) [
        | inl less ↦ ap (λ (n : ℕ). place_of (get_or xs n d)) (earlier p less) ∙ known.placed p d less
        | inr ge ↦ let at : p ≡ length firsts = omega (arith, lt, ge, length-append firsts (i ∷ [])) in ap (λ (n : ℕ). place_of (get_or xs n d)) (last p at) ∙ here d ∙ grown.0 ∙ ap Some (sym at)
      ];
    })
      where
        earlier : (p : ℕ) → p < length firsts → get_or (firsts ++ i ∷ []) p 0 ≡ get_or firsts p 0
        earlier p less = get_or_append_left firsts (i ∷ []) 0 p less

        last : (p : ℕ) → p ≡ length firsts → get_or (firsts ++ i ∷ []) p 0 ≡ i
        last p at = ap (λ (n : ℕ). get_or (firsts ++ i ∷ []) n 0) at ∙ get_or_last firsts i 0

some_of : {X : Type 0} (xs : List X) → 0 < length xs → X
some_of [] lt = absurd (omega (arith, lt))
some_of (x ∷ xs) lt = x

-- the same of what a list is mapped to
pub same_mapped : {X Y Z : Type 0} (f : Y → Z) (g : X → Y) (xs : List X) (places : List ℕ) → AreSameBefore (λ x. f (g x)) xs places → AreSameBefore f (map g xs) places
same_mapped f g xs places h = record {
  many = h.many ∙ sym (length-map xs g);
  before = λ i lt. h.before i (omega (arith, lt, length-map xs g));
  same = λ i d lt.
      let few : i < length xs = omega (arith, lt, length-map xs g) in
      let x = some_of xs (omega (arith, few)) in
      let before : get_or places i 0 < length xs = omega (arith, few, h.before i few) in
      ap f (get_or-map g xs (get_or places i 0) x d before) ∙ h.same i x few ∙ sym (ap f (get_or-map g xs i x d few));
}

-- and of places that are returned, if there are some
pub if_same : {E : Type 0} (P Q : List ℕ → Type 0) → ((places : List ℕ) → P places → Q places) → (r : Result (Option (Vec ℕ)) E) → IfOk r (λ places. IfSome places (λ ps. P ps.items)) → IfOk r (λ places. IfSome places (λ ps. Q ps.items))
if_same P Q step (Ok None) h = tt
if_same P Q step (Ok (Some places)) h = step places.items h
if_same P Q step (Err e) h = tt

-- ---- the debug programs of stored methods

-- that of a method, by its code
abbrev pub stored_debug : List NumberedItem → StoredMethod → Option NumberedDebug
stored_debug codes x = code_debug (item_at codes x.code)

-- its place
abbrev pub stored_place : {C : Type 0} → List (StoredCode C) → StoredMethod → Option ℕ
stored_place items x = debug_place items x.code

-- that of a method, by its place
abbrev pub placed_debug : {C : Type 0} → List NumberedDebug → List (StoredCode C) → StoredMethod → Option NumberedDebug
placed_debug debugs items x = item_at debugs (debug_place items x.code)

-- what is known by places is known of the debug programs
pub same_debugs : {C E : Type 0} (codes : List NumberedItem) (debugs : List NumberedDebug) (items : List (StoredCode C)) (methods : List StoredMethod) → ((code : Option ℕ) → code_debug (item_at codes code) ≡ item_at debugs (debug_place items code))
    → (r : Result (Option (Vec ℕ)) E) → IfOk r (λ places. IfSome places (λ ps. AreSameBefore (placed_debug debugs items) methods ps.items)) → IfOk r (λ places. IfSome places (λ ps. AreSameBefore (stored_debug codes) methods ps.items))
same_debugs codes debugs items methods by_place r h = subst (λ (f : StoredMethod → Option NumberedDebug). IfOk r (λ places. IfSome places (λ ps. AreSameBefore f methods ps.items))) (λ i x. sym (by_place x.code) i) h

-- in memory that several lists share, code has the places that it has otherwise
place_stored : (items : List (StoredCode (SharedItem NumberedItem))) (code : Option ℕ) → debug_place (stored_in items) code ≡ debug_place items code
place_stored items code = ap (λ o. option_map_or (λ x. x.debug) o None) (item_mapped stored_with items code) ∙ by (item_at items code)
  where
    by : (o : Option (StoredCode (SharedItem NumberedItem))) → option_map_or (λ x. x.debug) (option_map stored_with o) None ≡ option_map_or (λ x. x.debug) o None
    by None = refl
    by (Some x) = refl

pub debug_by_shared_place : (debugs : List NumberedDebug) (items : List (StoredCode (SharedItem NumberedItem))) (code : Option ℕ) → code_debug (item_at (codes_with debugs (stored_in items)) code) ≡ item_at debugs (debug_place items code)
debug_by_shared_place debugs items code = debug_by_place debugs (stored_in items) code ∙ ap (item_at debugs) (place_stored items code)
