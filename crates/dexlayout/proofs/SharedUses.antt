-- Uses that share items by a test of equality: one use more, and items that are mapped one to one.
use Rattle.dexlayout.proofs.Common.{◌≡◌, ◌⊎◌, ℕ, arith, length-map, get_or-map, Bool, true, false, cond, not, ◌||◌, List, [], ◌∷◌, ◌++◌, ◌+◌, ◌<◌, length, get_or, map, take, append_assoc, None, Some, refl, sym, ap, subst, ◌∙◌, inl, inr, Option, All, Result, Ok, Err, IfOk, OnOk, Contains, filter, list_any, position_or_len, option_map, append-nil, map-append, take_more, filter-append, All-nil, All-cons, All-append, All-contains, Contains-get_or, present, distinct, shared_items, unless_empty, Contains-nil, Contains-first, Contains-later, Contains-cons_cases, list_any-source, present-append, numbers_mapped, distinct_source, AreShared, HaveItems, SharedTo, if◌then◌else◌}
use Rattle.std.specs.Cmp.{IsEquivalence}
use Rattle.std.proofs.lemmas.List.{get_or_default}
use Rattle.std.proofs.lemmas.Map.Views.{any-filter_same}
use Rattle.dexspec.proofs.lists.Distinct.{with_last, insert_grows, distinct_mapped}
use Rattle.dexspec.proofs.sharing.Sharing.{present_has}
use Rattle.dexspec.proofs.lists.FirstPlaces.{position_within, position_stays, position_last, position_none, position_equal, any_equal}

-- ---- one more item

module _ {X : Type 0} (same : X → X → Bool) (laws : IsEquivalence same) where
  skipped : (p : X → Bool) (b : Bool) (ks : List X) (x : X) → p x ≡ false → filter p (if b then ks else ks ++ x ∷ []) ≡ filter p ks
  skipped p true ks x h = refl
  skipped p false ks x h = filter-append p ks (x ∷ []) ∙ ap (λ b. filter p ks ++ cond b (x ∷ []) []) h ∙ append-nil (filter p ks)

  kept : (p : X → Bool) (b : Bool) (ks : List X) (x : X) → p x ≡ true → filter p (if b then ks else ks ++ x ∷ []) ≡ (if b then filter p ks else filter p ks ++ x ∷ [])
  kept p true ks x h = refl
  kept p false ks x h = filter-append p ks (x ∷ []) ∙ ap (λ b. filter p ks ++ cond b (x ∷ []) []) h

  first_of : (b : Bool) (y : X) (ks : List X) (x : X) → y ∷ (if b then ks else ks ++ x ∷ []) ≡ (if b then y ∷ ks else y ∷ (ks ++ x ∷ []))
  first_of true y ks x = refl
  first_of false y ks x = refl

  -- what is the same as x is not the same as y, where x is not
  apart : (x y : X) → same y x ≡ false → (k : X) → same k x ≡ true → not (same y k) ≡ true
  apart x y h k e = by (same y k) refl
    where
      by : (b : Bool) → same y k ≡ b → not b ≡ true
      by false g = refl
      by true g = let both : true ≡ false = sym e ∙ sym (laws.congr y k x g) ∙ h in cc

  added_by : (b : Bool) (y : X) (ds : List X) (x : X) → same y x ≡ b → y ∷ filter (λ z. not (same y z)) (with_last same ds x) ≡ (if (b || list_any (same x) (filter (λ z. not (same y z)) ds)) then y ∷ filter (λ z. not (same y z)) ds else y ∷ (filter (λ z. not (same y z)) ds ++ x ∷ []))
  added_by true y ds x h = ap (λ ks. y ∷ ks) (skipped (λ z. not (same y z)) (list_any (same x) ds) ds x (ap not h))
  added_by false y ds x h =
      let p : X → Bool = λ z. not (same y z) in
      ap (λ ks. y ∷ ks) (kept p (list_any (same x) ds) ds x (ap not h)) ∙ first_of (list_any (same x) ds) y (filter p ds) x
      ∙ ap (λ b. if b then y ∷ filter p ds else y ∷ (filter p ds ++ x ∷ [])) (sym (any-filter_same (same x) p true (λ k e. apart x y h k (laws.symm k x ∙ e)) ds))

  -- the distinct members of a list with one more at its end
  distinct_with : (xs : List X) (x : X) → distinct same (xs ++ x ∷ []) ≡ with_last same (distinct same xs) x
  distinct_with [] x = refl
  distinct_with (y ∷ ys) x =
      ap (λ ds. y ∷ filter (λ z. not (same y z)) ds) (distinct_with ys x) ∙ added_by (same y x) y (distinct same ys) x refl
      ∙ ap (λ b. if (b || list_any (same x) (filter (λ z. not (same y z)) (distinct same ys))) then distinct same (y ∷ ys) else distinct same (y ∷ ys) ++ x ∷ []) (laws.symm y x)

  -- one that is the same as a member is among them
  equivalent_in : (xs : List X) (x : X) → Contains xs x → list_any (λ y. same y x) (distinct same xs) ≡ true
  equivalent_in [] x c = absurd (Contains-nil x c)
  equivalent_in (z ∷ xs) x c = by (same z x) refl (Contains-cons_cases z x xs c) (equivalent_in xs x)
    where
      by : (b : Bool) → same z x ≡ b → (z ≡ x) ⊎ Contains xs x → (Contains xs x → list_any (λ y. same y x) (distinct same xs) ≡ true) → list_any (λ y. same y x) (distinct same (z ∷ xs)) ≡ true
      by true h there rest = ap (λ b. b || list_any (λ y. same y x) (filter (λ y. not (same z y)) (distinct same xs))) h
      by false h (inl e) rest = let both : true ≡ false = sym (laws.refl x) ∙ ap (λ y. same y x) (sym e) ∙ h in absurd cc
      by false h (inr l) rest =
          ap (λ b. b || list_any (λ y. same y x) (filter (λ y. not (same z y)) (distinct same xs))) h
          ∙ any-filter_same (λ y. same y x) (λ y. not (same z y)) true (apart x z h) (distinct same xs) ∙ rest l

  -- ---- numbers

  -- the number of a member among items
  abbrev number_in : List X → X → ℕ
  number_in ds x = position_or_len (λ y. same y x) ds

  -- uses keep their numbers when more items are added after them
  numbers_stay : (ds more : List X) (us : List (Option X)) → ((x : X) → Contains (present us) x → list_any (λ y. same y x) ds ≡ true) → map (option_map (number_in (ds ++ more))) us ≡ map (option_map (number_in ds)) us
  numbers_stay ds more [] has = refl
  numbers_stay ds more (None ∷ us) has = ap (λ ns. None ∷ ns) (numbers_stay ds more us has)
  numbers_stay ds more (Some x ∷ us) has =
      let there = list_any-source (λ y. same y x) ds (has x (Contains-first x (present us))) in
      ap (λ n. Some n ∷ map (option_map (number_in (ds ++ more))) us) (position_stays (λ y. same y x) ds more (position_within (λ y. same y x) ds there.0 there.1 there.2))
      ∙ ap (λ ns. Some (number_in ds x) ∷ ns) (numbers_stay ds more us (λ z c. has z (Contains-later x z (present us) c)))

  -- the number of a new use
  number_of : (b : Bool) (ds : List X) (x : X) → list_any (same x) ds ≡ b → number_in (if b then ds else ds ++ x ∷ []) x ≡ position_or_len (same x) ds
  number_of true ds x any = position_equal (λ y. same y x) (same x) (λ y. laws.symm y x) ds
  number_of false ds x any =
      position_last (λ y. same y x) ds x (any_equal (λ y. same y x) (same x) (λ y. laws.symm y x) ds ∙ any) (laws.refl x)
      ∙ sym (position_none (same x) ds any)

  -- the same, of equal lists
  pub items_same : {uses vs : List (Option X)} {written ks : List X} {numbers ns : List (Option ℕ)} → vs ≡ uses → ks ≡ written → ns ≡ numbers → HaveItems same uses written numbers → HaveItems same vs ks ns
  items_same ev ek en h = rw (ev, ek, en) h

  module _ {uses : List (Option X)} {written : List X} {numbers : List (Option ℕ)} (h : HaveItems same uses written numbers) where
    -- a use of nothing
    pub uses_pass : HaveItems same (uses ++ None ∷ []) written (numbers ++ None ∷ [])
    uses_pass =
        let is : distinct same (present (uses ++ None ∷ [])) ≡ distinct same (present uses) = ap (distinct same) (present-append uses (None ∷ []) ∙ append-nil (present uses)) in
        record {
          written_are = h.written_are ∙ sym is;
          numbers_are = ap (λ ns. ns ++ None ∷ []) h.numbers_are ∙ sym (map-append (option_map (number_in (distinct same (present uses)))) uses (None ∷ []))
              ∙ ap (λ ds. map (option_map (number_in ds)) (uses ++ None ∷ [])) (sym is);
        }

    -- a use of an item
    pub uses_take : (x : X) (number : ℕ) → number ≡ position_or_len (same x) written → HaveItems same (uses ++ Some x ∷ []) (with_last same written x) (numbers ++ Some number ∷ [])
    uses_take x number e =
        let ds = distinct same (present uses) in
        let is : distinct same (present (uses ++ Some x ∷ [])) ≡ with_last same ds x = ap (distinct same) (present-append uses (Some x ∷ [])) ∙ distinct_with (present uses) x in
        let all = with_last same ds x in
        let stay : map (option_map (number_in all)) uses ≡ map (option_map (number_in ds)) uses =
        ap (λ es. map (option_map (number_in es)) uses) (insert_grows same ds x).1 ∙ numbers_stay ds (insert_grows same ds x).0 uses (equivalent_in (present uses)) in
        let last : number_in all x ≡ number = number_of (list_any (same x) ds) ds x refl ∙ ap (position_or_len (same x)) (sym h.written_are) ∙ sym e in
        record {
          written_are = ap (λ ks. with_last same ks x) h.written_are ∙ sym is;
          numbers_are = ap (λ ns. ns ++ Some number ∷ []) (h.numbers_are ∙ sym stay) ∙ ap (λ n. map (option_map (number_in all)) uses ++ Some n ∷ []) (sym last)
              ∙ sym (map-append (option_map (number_in all)) uses (Some x ∷ []))
              ∙ ap (λ es. map (option_map (number_in es)) (uses ++ Some x ∷ [])) (sym is);
        }

module _ {X : Type 0} (same : X → X → Bool) (laws : IsEquivalence same) {uses : List (Option X)} {written : List X} {numbers : List (Option ℕ)} (h : HaveItems same uses written numbers) where
  again : (place : ℕ) → place < length numbers → HaveItems same (uses ++ get_or uses place None ∷ []) written (numbers ++ get_or numbers place None ∷ [])
  again place lt = by (get_or uses place None) refl
    where
      ds : List X
      ds = distinct same (present uses)

      few : place < length uses
      few = omega (arith, lt, ap length h.numbers_are, length-map uses (option_map (number_in same laws ds)))

      number_is : get_or numbers place None ≡ option_map (number_in same laws ds) (get_or uses place None)
      number_is = ap (λ ns. get_or ns place None) h.numbers_are ∙ get_or-map (option_map (number_in same laws ds)) uses place None None few

      by : (u : Option X) → get_or uses place None ≡ u → HaveItems same (uses ++ get_or uses place None ∷ []) written (numbers ++ get_or numbers place None ∷ [])
      by None e = rw (number_is, e) (uses_pass same laws h)
      by (Some x) e =
          let there : list_any (same x) ds ≡ true = sym (any_equal (λ y. same y x) (same x) (λ y. laws.symm y x) ds) ∙ equivalent_in same laws (present uses) x (present_has uses place x few e) in
          let kept : with_last same written x ≡ written = ap (λ b. if b then written else written ++ x ∷ []) (ap (list_any (same x)) h.written_are ∙ there) in
          rw (number_is, e) (subst (λ ks. HaveItems same (uses ++ Some x ∷ []) ks (numbers ++ Some (number_in same laws ds x) ∷ [])) kept
          (uses_take same laws h x (number_in same laws ds x) (position_equal (λ y. same y x) (same x) (λ y. laws.symm y x) ds ∙ ap (position_or_len (same x)) (sym h.written_are))))

  -- a use of what an earlier one has
  pub uses_again : (place : ℕ) → place < length numbers → (n : Option ℕ) → n ≡ get_or numbers place n → (ns : List (Option ℕ)) → ns ≡ numbers ++ n ∷ [] → HaveItems same (uses ++ get_or uses place None ∷ []) written ns
  uses_again place lt n is ns grown =
      let number = is ∙ get_or_default numbers place n None lt in
      rw grown (subst (λ k. HaveItems same (uses ++ get_or uses place None ∷ []) written (numbers ++ k ∷ [])) (sym number) (again place lt))

-- ---- what the items mean

-- the images of the present uses are present
pub present-map : {X Y : Type 0} (f : X → Y) (us : List (Option X)) → present (map (option_map f) us) ≡ map f (present us)
present-map f [] = refl
present-map f (None ∷ us) = present-map f us
present-map f (Some x ∷ us) = ap (λ ys. f x ∷ ys) (present-map f us)

-- where the uses are mapped one to one, both sides share the same items
pub shared_mapped : {X Y : Type 0} (f : X → Y) (same : X → X → Bool) (equivalent : Y → Y → Bool) (uses : List (Option X)) (written : List X) (numbers : List (Option ℕ)) → ((x y : X) → Contains (present uses) x → Contains (present uses) y → equivalent (f x) (f y) ≡ same x y)
    → HaveItems same uses written numbers → AreShared f (shared_items equivalent (map (option_map f) uses)) written numbers
shared_mapped f same equivalent uses written numbers agree h =
    let ds = distinct same (present uses) in
    let is : distinct equivalent (present (map (option_map f) uses)) ≡ map f ds = ap (distinct equivalent) (present-map f uses) ∙ distinct_mapped f same equivalent (present uses) agree in
    record {
      written_are = ap (map f) h.written_are ∙ sym is;
      numbers_are = h.numbers_are ∙ sym (numbers_mapped f same equivalent uses ds (λ x y cy cx. agree y x (distinct_source same (present uses) y cy) cx))
          ∙ ap (λ es. map (option_map (λ x. position_or_len (λ y. equivalent y x) es)) (map (option_map f) uses)) (sym is);
    }

-- what is used again is known
known_use : {X : Type 0} (IsKnown : X → Type 0) (known : List X) → All IsKnown known → (u : Option X) → ((x : X) → u ≡ Some x → Contains known x) → All IsKnown (present (u ∷ []))
known_use IsKnown known all None has = All-nil IsKnown
known_use IsKnown known all (Some x) has = All-cons IsKnown x [] (All-contains IsKnown known x all (has x refl)) (All-nil IsKnown)

-- ---- uses that denote others

module _ {X Y : Type 0} {same : X → X → Bool} {meant : X → Y} {IsKnown : X → Type 0} where
  -- no uses
  pub shared_none : {written : List X} {numbers : List (Option ℕ)} → HaveItems same [] written numbers → SharedTo same meant IsKnown [] written numbers
  shared_none h = record { used = []; items = h; known = All-nil IsKnown; mean = refl }

  module _ {uses : List (Option Y)} {written : List X} {numbers : List (Option ℕ)} (h : SharedTo same meant IsKnown uses written numbers) where
    -- a use more, of nothing
    pub shared_pass : {A E : Type 0} (r : Result A E) (ks : List X) (ns : List (Option ℕ)) (u : Option Y) → u ≡ None → OnOk r (HaveItems same (h.used ++ None ∷ []) ks ns) → OnOk r (SharedTo same meant IsKnown (uses ++ u ∷ []) ks ns)
    shared_pass (Ok a) ks ns u is next = record {
      used = h.used ++ None ∷ [];
      items = next;
      known = subst (All IsKnown) (sym (present-append h.used (None ∷ []) ∙ append-nil (present h.used))) h.known;
      mean = map-append (option_map meant) h.used (None ∷ []) ∙ ap (λ us. us ++ None ∷ []) h.mean ∙ ap (λ v. uses ++ v ∷ []) (sym is);
    }
    shared_pass (Err e) ks ns u is next = next

    -- a use more, of an item
    pub shared_take : {A E : Type 0} (r : Result A E) (ks : List X) (ns : List (Option ℕ)) (x : X) (u : Option Y) → IsKnown x → u ≡ Some (meant x) → OnOk r (HaveItems same (h.used ++ Some x ∷ []) ks ns) → OnOk r (SharedTo same meant IsKnown (uses ++ u ∷ []) ks ns)
    shared_take (Ok a) ks ns x u known is next = record {
      used = h.used ++ Some x ∷ [];
      items = next;
      known = subst (All IsKnown) (sym (present-append h.used (Some x ∷ []))) (All-append IsKnown (present h.used) (x ∷ []) h.known (All-cons IsKnown x [] known (All-nil IsKnown)));
      mean = map-append (option_map meant) h.used (Some x ∷ []) ∙ ap (λ us. us ++ Some (meant x) ∷ []) h.mean ∙ ap (λ v. uses ++ v ∷ []) (sym is);
    }
    shared_take (Err e) ks ns x u known is next = next

    -- a use more, of what an earlier one has
    pub shared_again : {A E : Type 0} (r : Result A E) (ks : List X) (ns : List (Option ℕ)) (place : ℕ) → place < length numbers → OnOk r (HaveItems same (h.used ++ get_or h.used place None ∷ []) ks ns) → OnOk r (SharedTo same meant IsKnown (uses ++ get_or uses place None ∷ []) ks ns)
    shared_again (Ok a) ks ns place lt next =
        let u = get_or h.used place None in
        let count : length numbers ≡ length h.used = ap length h.items.numbers_are ∙ length-map h.used _ in
        let few : place < length h.used = omega (arith, lt, count) in
        let means : option_map meant u ≡ get_or uses place None = sym (get_or-map (option_map meant) h.used place None None few) ∙ ap (λ us. get_or us place None) h.mean in
        record {
          used = h.used ++ u ∷ [];
          items = next;
          known = subst (All IsKnown) (sym (present-append h.used (u ∷ []))) (All-append IsKnown (present h.used) (present (u ∷ [])) h.known (known_use IsKnown (present h.used) h.known u (λ x e. present_has h.used place x few e)));
          mean = map-append (option_map meant) h.used (u ∷ []) ∙ ap (λ us. us ++ option_map meant u ∷ []) h.mean ∙ ap (λ v. uses ++ v ∷ []) means;
        }
    shared_again (Err e) ks ns place lt next = next

    -- the same uses, of equal items
    pub shared_kept : (ks : List X) (ns : List (Option ℕ)) → HaveItems same h.used ks ns → SharedTo same meant IsKnown uses ks ns
    shared_kept ks ns next = record { used = h.used; items = next; known = h.known; mean = h.mean }

    -- what is written is known
    pub shared_known : All IsKnown written
    shared_known =
        let ds = distinct same (present h.used) in
        subst (All IsKnown) (sym h.items.written_are) (λ k d lt. All-contains IsKnown (present h.used) (get_or ds k d) h.known (distinct_source same (present h.used) (get_or ds k d) (Contains-get_or ds k d lt)))

    -- and is shared as what it denotes, where equal uses denote equal items and only these
    pub shared_are : (equivalent : Y → Y → Bool) → ((x y : X) → IsKnown x → IsKnown y → equivalent (meant x) (meant y) ≡ same x y) → AreShared meant (shared_items equivalent uses) written numbers
    shared_are equivalent agree =
        subst (λ us. AreShared meant (shared_items equivalent us) written numbers) h.mean
        (shared_mapped meant same equivalent h.used written numbers (λ x y cx cy. agree x y (All-contains IsKnown (present h.used) x h.known cx) (All-contains IsKnown (present h.used) y h.known cy)) h.items)

-- ---- lists that are used unless they are empty

-- no use
pub none_used : {X Y : Type 0} (f : X → Y) (xs : List X) → xs ≡ [] → unless_empty (map f xs) ≡ None
none_used f [] e = refl
none_used f (x ∷ xs) e = absurd cc

-- a use
pub some_used : {X Y : Type 0} (f : X → Y) (xs : List X) → (xs ≡ [] → ⊥) → unless_empty (map f xs) ≡ Some (map f xs)
some_used f [] some = absurd (some refl)
some_used f (x ∷ xs) some = refl

-- ---- uses that come from a list

-- one more
pub uses_next : {X U : Type 0} (f : X → U) (uses : List U) (xs : List X) (i : ℕ) (x : X) → i < length xs → get_or xs i x ≡ x → (uses ++ map f (take i xs)) ++ f x ∷ [] ≡ uses ++ map f (take (i + 1) xs)
uses_next f uses xs i x lt is = append_assoc uses (map f (take i xs)) (f x ∷ []) ∙ ap (λ us. uses ++ us) (sym (map-append f (take i xs) (x ∷ [])) ∙ ap (map f) (sym (take_more xs i x lt ∙ ap (λ y. take i xs ++ y ∷ []) is)))

-- parts of uses, one after the other
pub uses_joined : {U : Type 0} (uses : List U) (a b : U) (fs gs hs ks fs' gs' hs' ks' : List U) → a ≡ b → fs ≡ fs' → gs ≡ gs' → hs ≡ hs' → ks ≡ ks' → ((((uses ++ a ∷ []) ++ fs) ++ gs) ++ hs) ++ ks ≡ uses ++ (b ∷ (fs' ++ (gs' ++ (hs' ++ ks'))))
uses_joined uses a b fs gs hs ks fs' gs' hs' ks' ea ef eg eh ek =
    append_assoc (((uses ++ a ∷ []) ++ fs) ++ gs) hs ks ∙ append_assoc ((uses ++ a ∷ []) ++ fs) gs (hs ++ ks) ∙ append_assoc (uses ++ a ∷ []) fs (gs ++ (hs ++ ks)) ∙ append_assoc uses (a ∷ []) (fs ++ (gs ++ (hs ++ ks)))
    ∙ (λ i. uses ++ (ea i ∷ (ef i ++ (eg i ++ (eh i ++ ek i)))))

-- ---- what is returned

-- what holds of a value that is returned
pub on_returned : {A E : Type 0} {P : A → Type 0} (r : Result A E) → ((x : A) → r ≡ Ok x → P x) → IfOk r P
on_returned (Ok x) each = each x refl
on_returned (Err e) each = tt
