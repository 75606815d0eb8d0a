-- Entries by number: a search among them, and lists that are put together member by member.
use Rattle.dexmembers.proofs.Common.{◌≡◌, ◌≢◌, ℕ, zero, suc, ◌+◌, ◌<◌, ◌≤◌, Bool, true, false, cond, List, [], ◌∷◌, ◌++◌, length, get_or, map, refl, sym, ap, ◌∙◌, subst, arith, inl, inr, Option, Some, None, Ordering, Less, Equal, Greater, IsTrue, Result, Ok, Err, MatchOption, take, Contains, HoldsAt, nat_cmp, is_eq, ordering_index, nat_cmp_total, nat_cmp-IsAntisymmetric, cases_lt, tied_itself, get_or-map, get_or_default, length-map, take_more, map-append, Contains-first, Contains-later, less_number, Rises, Rises-from_rises, Rises-places}
use Rattle.std.specs.List.Sorted.{IsNonDecreasingBy, IsPartitionPoint, IsSearchInRange, IsBinarySearchResult}
use Rattle.std.specs.Result.{result_ok, is_ok}
use Rattle.std.specs.FinMap.Entries.{find}
use Rattle.dexspec.proofs.lists.Mapped.{Contains-map_source}
use Rattle.dexmembers.specs.{NumbersRise}
use Rattle.dexmembers.specs.internal.Attaching.{EntriesRise, HasNumberAt}

-- ---- numbers in order

indices_rise : (x y n : ℕ) → x < y → ordering_index (nat_cmp x n) ≤ ordering_index (nat_cmp y n)
indices_rise x y n lt = grind arith

not_tied : (m n : ℕ) → m ≢ n → is_eq (nat_cmp m n) ≡ false
not_tied m n ne = by (nat_cmp m n) refl
  where
    by : (r : Ordering) → nat_cmp m n ≡ r → is_eq r ≡ false
    by Less e = refl
    by Equal e = absurd (ne (nat_cmp-IsAntisymmetric m n e))
    by Greater e = refl

module _ {T : Type 0} (key : T → ℕ) where
  -- keys of a rising list, by their places
  pub keys_less : (xs : List T) (i j : ℕ) (d : T) → NumbersRise (map key xs) → i < j → j < length xs → key (get_or xs i d) < key (get_or xs j d)
  keys_less xs i j d h ij lt =
      let many : j < length (map key xs) = omega (arith, lt, length-map xs key) in
      let r = Rises-places nat_cmp nat_cmp_total (map key xs) i j (key d) (Rises-from_rises nat_cmp nat_cmp_total (map key xs) h) ij many in
      less_number (key (get_or xs i d)) (key (get_or xs j d))
      ((λ k. nat_cmp (sym (get_or-map key xs i d (key d) (omega arith)) k) (sym (get_or-map key xs j d (key d) lt) k)) ∙ r)

  -- so the answers of a search rise
  pub keys_searched : (xs : List T) (n : ℕ) → NumbersRise (map key xs) → IsNonDecreasingBy (λ x. ordering_index (nat_cmp (key x) n)) xs
  keys_searched xs n h i j d le lt = elim (cases_lt i j) [
    | inl less ↦ indices_rise (key (get_or xs i d)) (key (get_or xs j d)) n (keys_less xs i j d h less lt)
    | inr ge ↦
        let same : i ≡ j = omega arith in
        subst (λ (k : ℕ). ordering_index (nat_cmp (key (get_or xs i d)) n) ≤ ordering_index (nat_cmp (key (get_or xs k d)) n)) same (omega arith)
  ]

  -- what a search finds
  pub key_found : (xs : List T) (n at : ℕ) → HoldsAt (λ x. nat_cmp (key x) n ≡ Equal) xs at → (d : T) → key (get_or xs at d) ≡ n
  key_found xs n at h d = nat_cmp-IsAntisymmetric (key (get_or xs at d)) n (h d)

  -- what it does not find
  pub key_missed : (xs : List T) (n i : ℕ) → IsPartitionPoint (λ x. nat_cmp (key x) n ≡ Less) (λ x. nat_cmp (key x) n ≡ Greater) xs i → (k : ℕ) (d : T) → k < length xs → key (get_or xs k d) ≢ n
  key_missed xs n i h k d lt e =
      let x = key (get_or xs k d) in
      let tied : nat_cmp x n ≡ Equal = ap (λ (y : ℕ). nat_cmp y n) e ∙ tied_itself nat_cmp_total n in
      elim (cases_lt k i) [
        | inl less ↦ let other : nat_cmp x n ≡ Less = h.0 k d (omega arith) less in cc
        | inr ge ↦ let other : nat_cmp x n ≡ Greater = h.1 k d ge lt in cc
      ]

  -- so it is not among the keys
  pub key_not_among : (xs : List T) (n : ℕ) → ((k : ℕ) (d : T) → k < length xs → key (get_or xs k d) ≢ n) → Contains (map key xs) n → ⊥
  key_not_among xs n h c = let s = Contains-map_source key xs n c in h s.1.0 s.0 s.1.1 (ap key s.1.2 ∙ s.2)

  -- a key that is there is among the keys
  pub key_among : (xs : List T) (n k : ℕ) → k < length xs → ((d : T) → key (get_or xs k d) ≡ n) → Contains (map key xs) n
  key_among [] n k lt h = absurd (omega arith)
  key_among (x ∷ xs) n k lt h = (k, omega (arith, lt, length-map (x ∷ xs) key), get_or-map key (x ∷ xs) k x n lt ∙ h x)

-- ---- entries

module _ {X : Type 0} where
  -- the first entry is another's
  find_past : (e : ℕ × X) (es : List (ℕ × X)) (n : ℕ) → n ≢ e.0 → find nat_cmp n (e ∷ es) ≡ find nat_cmp n es
  find_past e es n ne = ap (λ (b : Bool). cond b (Some e.1) (find nat_cmp n es)) (not_tied n e.0 ne)

  -- or its own
  find_here : (e : ℕ × X) (es : List (ℕ × X)) (n : ℕ) → n ≡ e.0 → find nat_cmp n (e ∷ es) ≡ Some e.1
  find_here e es n same = ap (λ (r : Ordering). cond (is_eq r) (Some e.1) (find nat_cmp n es)) (ap (λ (k : ℕ). nat_cmp k e.0) same ∙ tied_itself nat_cmp_total e.0)

  -- nothing is found where the number is not there
  pub find_missing : (es : List (ℕ × X)) (n : ℕ) → (Contains (map (λ (e : ℕ × X). e.0) es) n → ⊥) → find nat_cmp n es ≡ None
  find_missing [] n h = refl
  find_missing (e ∷ es) n h =
      find_past e es n (λ same. h (subst (Contains (map (λ (x : ℕ × X). x.0) (e ∷ es))) (sym same) (Contains-first e.0 (map (λ (x : ℕ × X). x.0) es))))
      ∙ find_missing es n (λ c. h (Contains-later e.0 n (map (λ (x : ℕ × X). x.0) es) c))

  find_found_in : (es : List (ℕ × X)) (n at : ℕ) (d : ℕ × X) → Rises nat_cmp (map (λ (e : ℕ × X). e.0) es) → at < length es → (get_or es at d).0 ≡ n → find nat_cmp n es ≡ Some (get_or es at d).1
  find_found_in [] n at d h lt e = absurd (omega arith)
  find_found_in (x ∷ es) n zero d h lt e = find_here x es n (sym e)
  find_found_in (x ∷ es) n (suc at) d h lt e =
      let less : nat_cmp x.0 n ≡ Less = h.0 n (key_among (λ (y : ℕ × X). y.0) es n at (omega arith) (λ c. subst (λ (y : ℕ × X). y.0 ≡ n) (get_or_default es at d c (omega arith)) e)) in
      find_past x es n (λ same. let lt : x.0 < n = less_number x.0 n less in omega (arith, same, lt))
      ∙ find_found_in es n at d h.1 (omega arith) e

  -- the entry of a number is found
  pub find_found : (es : List (ℕ × X)) (n at : ℕ) (d : ℕ × X) → EntriesRise es → at < length es → (get_or es at d).0 ≡ n → find nat_cmp n es ≡ Some (get_or es at d).1
  find_found es n at d h lt e = find_found_in es n at d (Rises-from_rises nat_cmp nat_cmp_total (map (λ (e : ℕ × X). e.0) es) h) lt e

-- what a search among entries returns
pub entry_searched : {X : Type 0} (es : List (ℕ × X)) (n : ℕ) (r : Result ℕ ℕ) (o : Option ℕ) → o ≡ result_ok r → IsSearchInRange r (length es) → IsBinarySearchResult (λ (e : ℕ × X). nat_cmp e.0 n) es r
    → MatchOption o (EntriesRise es → Contains (map (λ (e : ℕ × X). e.0) es) n → ⊥) (HasNumberAt es n)
entry_searched {X} es n (Ok at) o e bound h =
    subst (λ (p : Option ℕ). MatchOption p (EntriesRise es → Contains (map (λ (e : ℕ × X). e.0) es) n → ⊥) (HasNumberAt es n)) (sym e)
    (record { within = bound; is = key_found (λ (e : ℕ × X). e.0) es n at h })
entry_searched {X} es n (Err i) o e bound h =
    subst (λ (p : Option ℕ). MatchOption p (EntriesRise es → Contains (map (λ (e : ℕ × X). e.0) es) n → ⊥) (HasNumberAt es n)) (sym e)
    (λ rise. key_not_among (λ (e : ℕ × X). e.0) es n (key_missed (λ (e : ℕ × X). e.0) es n i (h (keys_searched (λ (e : ℕ × X). e.0) es n rise))))

-- ---- lists, member by member

-- the images of a prefix, and the next
pub prefix_more : {T Z : Type 0} (f : T → Z) (xs : List T) (i : ℕ) (x : T) → i < length xs → ((d : T) → get_or xs i d ≡ x) → map f (take (i + 1) xs) ≡ map f (take i xs) ++ f x ∷ []
prefix_more f xs i x lt is = ap (map f) (take_more xs i x lt ∙ ap (λ (y : _). take i xs ++ y ∷ []) (is x)) ∙ map-append f (take i xs) (x ∷ [])

-- whether a search by a key finds something
pub index_searched : {T : Type 0} (key : T → ℕ) (xs : List T) (n : ℕ) (r : Result ℕ ℕ) → IsSearchInRange r (length xs) → IsBinarySearchResult (λ (x : T). nat_cmp (key x) n) xs r
    → (IsTrue (is_ok r) → Contains (map key xs) n) × (NumbersRise (map key xs) → Contains (map key xs) n → IsTrue (is_ok r))
index_searched key xs n (Ok at) bound h = ((λ e. key_among key xs n at bound (key_found key xs n at h)), (λ rise c. refl))
index_searched key xs n (Err i) bound h = ((λ e. absurd (let f : false ≡ true = e in cc)), (λ rise c. absurd (key_not_among key xs n (key_missed key xs n i (h (keys_searched key xs n rise))) c)))
