-- The types of handlers, remapped: which handlers stay distinct, and what tries name then.
use Rattle.dexcode.proofs.Common.{◌≡◌, ℕ, ◌+◌, ◌*◌, ◌<◌, Bool, List, [], ◌∷◌, length, map, get_or, Some, refl, ap, sym, ◌∙◌, subst, arith, inl, inr, Decides, one_answer, unwrap_or, All, flat_map, cases_lt, length-map, get_or-map, All-head, All-tail, All-contains, Contains-get_or, map-map, distinct_has, distinct, Maps, KeepOrder, all_parts, sum_by-mapped, Catch, Try, handler_decides, NumberedHandler, NumberedTry, AreStored, same_handler, handlers_of, handlers_weight, no_handler, named, all_named, catch_use, handler_uses, tries_uses, HasTypePlace, AreTypesApart, remapped_type, remapped_try, renumbered_catch, renumbered_handler, renumbered_try}
use Rattle.dexpool.specs.declared.symbols.SymbolKind.TheVariants as kinds
use Rattle.dexcode.proofs.Images.{distinct_map}
use Rattle.dexcode.proofs.Whole.{formed_remapped}

-- what holds of the distinct members holds of all
pub all_from_distinct : {X : Type 0} (same : X → X → Bool) → ((x y : X) → Decides (same x y) (x ≡ y)) → (P : X → Type 0) (xs : List X) → All P (distinct same xs) → All P xs
all_from_distinct same decides P xs h = λ k d lt. All-contains P (distinct same xs) (get_or xs k d) h (distinct_has same (λ x y e. (decides x y).0 e) xs (get_or xs k d) (Contains-get_or xs k d lt))

-- ---- handlers remapped

-- each caught type has a place
abbrev pub HaveTypePlaces : Maps → NumberedHandler → Type 0
HaveTypePlaces r h = All (HasTypePlace r) (handler_uses h)

-- no two types have one image
pub types_apart : (r : Maps) → KeepOrder r → AreTypesApart r
types_apart r keep = λ i j k e f. elim (cases_lt i j) [
  | inl lt ↦ absurd (omega (arith, keep.types_keep i j k k lt e f))
  | inr le ↦ elim (cases_lt j i) [ inl gt ↦ absurd (omega (arith, keep.types_keep j i k k gt f e)) | inr ge ↦ omega (arith, le, ge) ]
]

module _ (r : Maps) (apart : AreTypesApart r) where
  one_type : (i j : ℕ) → HasTypePlace r (record { kind = kinds.Typ; number = i }) → HasTypePlace r (record { kind = kinds.Typ; number = j }) → remapped_type r i ≡ remapped_type r j → i ≡ j
  one_type i j p q e = let first : remapped_type r i ≡ p.0 = ap (λ o. unwrap_or o i) p.1 in apart i j p.0 p.1 (q.1 ∙ ap Some (sym (ap (λ o. unwrap_or o j) q.1) ∙ sym e ∙ first))

  one_list : (cs ds : List Catch) → All (HasTypePlace r) (map catch_use cs) → All (HasTypePlace r) (map catch_use ds) → map (renumbered_catch r) cs ≡ map (renumbered_catch r) ds → cs ≡ ds
  one_list [] [] h g e = refl
  one_list [] (d ∷ ds) h g e = absurd cc
  one_list (c ∷ cs) [] h g e = absurd cc
  one_list (c ∷ cs) (d ∷ ds) h g e =
      let heads : renumbered_catch r c ≡ renumbered_catch r d = ap (λ xs. get_or xs 0 (renumbered_catch r c)) e in
      let tails : map (renumbered_catch r) cs ≡ map (renumbered_catch r) ds = cc in
      let typ : c.typ ≡ d.typ = one_type c.typ d.typ (All-head (HasTypePlace r) (catch_use c) (map catch_use cs) h) (All-head (HasTypePlace r) (catch_use d) (map catch_use ds) g) (ap (λ x. x.typ) heads) in
      λ i. record { typ = typ i; addr = (ap (λ x. x.addr) heads) i } ∷ (one_list cs ds (All-tail (HasTypePlace r) (catch_use c) (map catch_use cs) h) (All-tail (HasTypePlace r) (catch_use d) (map catch_use ds) g) tails) i

  one_handler : (h k : NumberedHandler) → HaveTypePlaces r h → HaveTypePlaces r k → renumbered_handler r h ≡ renumbered_handler r k → h ≡ k
  one_handler h k p q e = λ i. record { catches = (one_list h.catches k.catches p q (ap (λ x. x.catches) e)) i; catch_all_addr = (ap (λ x. x.catch_all_addr) e) i }

  same_remapped : (h k : NumberedHandler) → HaveTypePlaces r h → HaveTypePlaces r k → same_handler (renumbered_handler r h) (renumbered_handler r k) ≡ same_handler h k
  same_remapped h k p q =
      let s = handler_decides (renumbered_handler r h) (renumbered_handler r k) in
      one_answer (same_handler (renumbered_handler r h) (renumbered_handler r k)) (same_handler h k) ((λ e. one_handler h k p q (s.0 e)), (λ e. s.1 (ap (renumbered_handler r) e))) (handler_decides h k)

  handlers_map : (ts : List NumberedTry) → map (λ (t : NumberedTry). t.handler) (map (renumbered_try r) ts) ≡ map (renumbered_handler r) (map (λ (t : NumberedTry). t.handler) ts)
  handlers_map ts = map-map (λ (t : NumberedTry). t.handler) (renumbered_try r) ts ∙ sym (map-map (renumbered_handler r) (λ (t : NumberedTry). t.handler) ts)

  -- the distinct handlers, once remapped, are those of the remapped tries
  pub handlers_remapped : (ts : List NumberedTry) → All (HasTypePlace r) (tries_uses ts) → handlers_of (map (renumbered_try r) ts) ≡ map (renumbered_handler r) (handlers_of ts)
  handlers_remapped ts all =
      let handlers = map (λ (t : NumberedTry). t.handler) ts in
      ap (distinct same_handler) (handlers_map ts) ∙ distinct_map same_handler same_handler (renumbered_handler r) (HaveTypePlaces r) same_remapped handlers (all_from_distinct same_handler handler_decides (HaveTypePlaces r) handlers (all_parts (HasTypePlace r) handler_uses (distinct same_handler handlers) all))

-- ---- as they are stored

weight_remapped : (r : Maps) (hs : List NumberedHandler) → handlers_weight (map (renumbered_handler r) hs) ≡ handlers_weight hs
weight_remapped r hs =
    let weight : NumberedHandler → ℕ = λ h. 10 + 8 * length h.catches in
    ap (λ (n : ℕ). 5 + n) (sum_by-mapped weight (renumbered_handler r) weight hs (λ k d lt. ap (λ (n : ℕ). 10 + 8 * n) (length-map (get_or hs k d).catches (renumbered_catch r))))

-- tries of remapped handlers are the remapped tries
pub named_remapped : (r : Maps) (hs : List NumberedHandler) (ts : List Try) → All (λ t. t.handler < length hs) ts → all_named (map (renumbered_handler r) hs) ts ≡ map (renumbered_try r) (all_named hs ts)
named_remapped r hs [] all = refl
named_remapped r hs (t ∷ ts) all =
    λ i. record { start_addr = t.start_addr; insn_count = t.insn_count; handler = (get_or-map (renumbered_handler r) hs t.handler no_handler no_handler (All-head (λ (x : Try). x.handler < length hs) t ts all)) i } ∷ (named_remapped r hs ts (All-tail (λ (x : Try). x.handler < length hs) t ts all)) i

-- stored tries are still stored once their handlers are remapped
pub stored_remapped : (r : Maps) (hs : List NumberedHandler) (ts : List Try) → AreTypesApart r → All (HasTypePlace r) (tries_uses (all_named hs ts)) → AreStored hs ts → AreStored (map (renumbered_handler r) hs) ts
stored_remapped r hs ts apart all are = record {
  within = subst (λ (n : ℕ). All (λ (t : Try). t.handler < n) ts) (sym (length-map hs (renumbered_handler r))) are.within;
  used = ap (map (renumbered_handler r)) are.used ∙ sym (handlers_remapped r apart (all_named hs ts) all) ∙ ap handlers_of (sym (named_remapped r hs ts are.within));
  few = are.few;
  light = omega (arith, weight_remapped r hs, are.light);
  formed = formed_remapped r hs (all_parts (HasTypePlace r) handler_uses hs (subst (λ ks. All (HasTypePlace r) (flat_map handler_uses ks)) (sym are.used) all)) are.formed;
}

-- tries with their handlers, remapped
pub all_remapped : (r : Maps) (hs : List NumberedHandler) (ts : List Try) → map (renumbered_try r) (all_named hs ts) ≡ map (remapped_try r hs) ts
all_remapped r hs ts = map-map (renumbered_try r) (named hs) ts
