-- The pairs of a written directory are those of the entries of its members: in order, with the members' indices and the
-- offsets of their items.
use Rattle.dexspec.proofs.Common.{◌≡◌, ◌≢◌, ℕ, ◌<◌, ◌^◌, Bool, true, false, cond, List, [], ◌∷◌, ◌++◌, length, map, Option, Some, None, unwrap_or, refl, sym, ap, ◌∙◌, subst, arith, inl, inr, All, Ordering, Less, Equal, Greater, if◌then◌else◌, ◌==◌, IsTrue, ◌⊎◌, Contains, AllZip, flat_map, zip, nat_cmp, is_eq, eq_by_cmp, IsTotalOrder, nat_cmp_total, cond-true, cond-false, eq-eqb, ne_eqb, tied_itself, All-nil, All-cons}
use Rattle.std.specs.FinMap.{IsAntisymmetric, nat_cmp-IsAntisymmetric}
use Rattle.std.specs.FinMap.Entries.{by_order, put, find, find-put}
use Rattle.dexspec.specs.{AreDistinct, rises, in_order, add_in_order, PairAt, annotated, pair_cmp, pairs}
use Rattle.dexspec.specs.internal.OwnDirectories.{BytesIfSome, entries_of}
use Rattle.dexspec.proofs.lists.{Contains-nil, Contains-first, Contains-later, Contains-cons_cases, AreDistinct-first, AreDistinct-rest, rises-in_order}
use Rattle.dexspec.proofs.merge.Depths.{Contains-map}
use Rattle.dexspec.proofs.written.DirectoriesWritten.{ArePairs}

-- ---- entries

-- a test of different keys
apart : {M : Type 0} (R : M → M → Ordering) → IsAntisymmetric R → (m n : M) → m ≢ n → eq_by_cmp R m n ≡ false
apart R exact m n ne = by (R m n) refl
  where
    by : (r : Ordering) → R m n ≡ r → is_eq (R m n) ≡ false
    by Equal e = absurd (ne (exact m n e))
    by _ e = ap is_eq e

module _ {M X : Type 0} (R : M → M → Ordering) (o : IsTotalOrder R) (exact : IsAntisymmetric R) where
  -- an entry is the one that is put, or was there before
  put-source : (k : M) (v : List X) (es : List (M × List X)) (x : M × List X) → Contains (put R k v es) x → ((k, v) ≡ x) ⊎ Contains es x
  put-source k v [] x c = Contains-cons_cases (k, v) x [] c
  put-source k v (e ∷ es) x c = by (R k e.0) refl c (put-source k v es x)
    where
      by : (r : Ordering) → R k e.0 ≡ r → Contains (by_order r ((k, v) ∷ e ∷ es) ((e.0, v) ∷ es) (e ∷ put R k v es)) x → (Contains (put R k v es) x → ((k, v) ≡ x) ⊎ Contains es x) → ((k, v) ≡ x) ⊎ Contains (e ∷ es) x
      by Less q c again = Contains-cons_cases (k, v) x (e ∷ es) c
      by Equal q c again = elim (Contains-cons_cases (e.0, v) x es c) [
        | inl p ↦ inl (let t = exact k e.0 q in let u : (k, v) ≡ (e.0, v) = λ i. (t i, v) in u ∙ p)
        | inr l ↦ inr (Contains-later e x es l)
      ]
      by Greater q c again = elim (Contains-cons_cases e x (put R k v es) c) [
        | inl p ↦ inr (0, omega arith, p)
        | inr l ↦ elim (again l) [ inl p ↦ inl p | inr m ↦ inr (Contains-later e x es m) ]
      ]

  -- an entry has the list of a member
  pub entries_source : (ms : List (M × List X)) (e : M × List X) → Contains (entries_of R ms) e → Contains ms e
  entries_source [] e c = c
  entries_source ((m, []) ∷ ms) e c = Contains-later (m, []) e ms (entries_source ms e c)
  entries_source ((m, x ∷ xs) ∷ ms) e c = elim (put-source m (x ∷ xs) (entries_of R ms) e c) [
    | inl s ↦ (0, omega arith, s)
    | inr l ↦ Contains-later (m, x ∷ xs) e ms (entries_source ms e l)
  ]

  -- the keys of the members
  abbrev keys : List (M × List X) → List M
  keys ms = map (λ e. e.0) ms

  -- other members have no entry
  other_entry : (ms : List (M × List X)) (m : M) → ((n : M) → Contains (keys ms) n → m ≢ n) → find R m (entries_of R ms) ≡ None
  other_entry [] m h = refl
  other_entry ((n, []) ∷ ms) m h = other_entry ms m (λ k c. h k (Contains-later n k (keys ms) c))
  other_entry ((n, x ∷ xs) ∷ ms) m h =
      find-put R o m n (x ∷ xs) (entries_of R ms) ∙ ap (λ (t : Bool). cond t (Some (x ∷ xs)) (find R m (entries_of R ms))) (apart R exact m n (h n (Contains-first n (keys ms))))
      ∙ other_entry ms m (λ k c. h k (Contains-later n k (keys ms) c))

  -- the list of the entries for a member
  pub own_entry : (ms : List (M × List X)) (m : M) (l : List X) → AreDistinct (keys ms) → Contains ms (m, l) → annotated R (entries_of R ms) m ≡ l
  own_entry [] m l d c = absurd (Contains-nil (m, l) c)
  own_entry ((n, []) ∷ ms) m l d c = elim (Contains-cons_cases (n, []) (m, l) ms c) [
    | inl e ↦
        let same : n ≡ m = ap (λ (p : M × List X). p.0) e in
        let list : [] ≡ l = ap (λ (p : M × List X). p.1) e in
        ap (λ (p : Option (List X)). unwrap_or p []) (other_entry ms m (λ k i is. AreDistinct-first n (keys ms) d k i (sym (same ∙ is)))) ∙ list
    | inr r ↦ own_entry ms m l (AreDistinct-rest n (keys ms) d) r
  ]
  own_entry ((n, x ∷ xs) ∷ ms) m l d c =
      let rest = find R m (entries_of R ms) in
      let put_is = find-put R o m n (x ∷ xs) (entries_of R ms) in
      elim (Contains-cons_cases (n, x ∷ xs) (m, l) ms c) [
        | inl e ↦
            let same : n ≡ m = ap (λ (p : M × List X). p.0) e in
            let list : x ∷ xs ≡ l = ap (λ (p : M × List X). p.1) e in
            let tie : eq_by_cmp R m n ≡ true = ap (λ (k : M). eq_by_cmp R m k) same ∙ ap is_eq (tied_itself o m) in
            ap (λ (p : Option (List X)). unwrap_or p []) (put_is ∙ ap (λ (t : Bool). cond t (Some (x ∷ xs)) rest) tie) ∙ list
        | inr r ↦
            let other : eq_by_cmp R m n ≡ false = apart R exact m n (λ is. AreDistinct-first n (keys ms) d m (Contains-map (λ (p : M × List X). p.0) ms (m, l) r) is) in
            ap (λ (p : Option (List X)). unwrap_or p []) (put_is ∙ ap (λ (t : Bool). cond t (Some (x ∷ xs)) rest) other) ∙ own_entry ms m l (AreDistinct-rest n (keys ms) d) r
      ]

-- ---- pairs

-- the indices with one more pair
indices_add : (p : ℕ × ℕ) (ps : List (ℕ × ℕ)) → map (λ q. q.0) (add_in_order pair_cmp p ps) ≡ add_in_order nat_cmp p.0 (map (λ q. q.0) ps)
indices_add p [] = refl
indices_add p (q ∷ ps) = by (nat_cmp p.0 q.0) (indices_add p ps)
  where
    by : (r : Ordering) → map (λ (x : ℕ × ℕ). x.0) (add_in_order pair_cmp p ps) ≡ add_in_order nat_cmp p.0 (map (λ x. x.0) ps)
        → map (λ (x : ℕ × ℕ). x.0) (by_order r (p ∷ q ∷ ps) (q ∷ ps) (q ∷ add_in_order pair_cmp p ps)) ≡ by_order r (p.0 ∷ q.0 ∷ map (λ (x : ℕ × ℕ). x.0) ps) (q.0 ∷ map (λ (x : ℕ × ℕ). x.0) ps) (q.0 ∷ add_in_order nat_cmp p.0 (map (λ (x : ℕ × ℕ). x.0) ps))
    by Greater again = ap (λ is. q.0 ∷ is) again
    by _ again = refl

-- the indices of all pairs in order
indices_in_order : (ps : List (ℕ × ℕ)) → map (λ q. q.0) (in_order pair_cmp ps) ≡ in_order nat_cmp (map (λ q. q.0) ps)
indices_in_order [] = refl
indices_in_order (p ∷ ps) = indices_add p (in_order pair_cmp ps) ∙ ap (add_in_order nat_cmp p.0) (indices_in_order ps)

-- so they rise
pub pairs_rise : (is offs : List ℕ) → IsTrue (rises nat_cmp (map (λ p. p.0) (pairs is offs)))
pairs_rise is offs =
    let ps = flat_map (λ (p : ℕ × ℕ). if p.1 == 0 then [] else p ∷ []) (zip is offs) in
    ap (rises nat_cmp) (indices_in_order ps) ∙ rises-in_order nat_cmp nat_cmp_total nat_cmp-IsAntisymmetric (map (λ (p : ℕ × ℕ). p.0) ps)

-- a property of the keys of related places
all_keys : {A B : Type 0} (R : A → B → Type 0) (P : A → Type 0) → ((a : A) (x : B) → R a x → P a) → (ks : List A) (xs : List B) → AllZip R ks xs → All P ks
all_keys R P f [] [] h = All-nil P
all_keys R P f (k ∷ ks) (x ∷ xs) h = All-cons P k ks (f k x h.0) (all_keys R P f ks xs h.1)
all_keys _ _ f _ _ h = absurd h

-- a relation that follows from another
pub zip_weaker : {A B : Type 0} (R S : A → B → Type 0) → ((a : A) (x : B) → R a x → S a x) → (ks : List A) (xs : List B) → AllZip R ks xs → AllZip S ks xs
zip_weaker R S f [] [] h = tt
zip_weaker R S f (k ∷ ks) (x ∷ xs) h = (f k x h.0, zip_weaker R S f ks xs h.1)
zip_weaker _ _ f _ _ h = absurd h

module _ {M X : Type 0} (R : M → M → Ordering) (exact : IsAntisymmetric R) (index : M → ℕ) (Known : M → Type 0) (compare : (m n : M) → Known m → Known n → nat_cmp (index m) (index n) ≡ R m n) (At : ℕ → List X → Type 0) where
  -- the pair has the index of the entry's member, and the offset of its list
  abbrev IsPairOf : ℕ × ℕ → M × List X → Type 0
  IsPairOf p e = (p.0 ≡ index e.0) × Known e.0 × (p.1 ≢ 0) × At p.1 e.1

  -- one more pair and entry
  put_pair : (p : ℕ × ℕ) (k : M) (v : List X) (ps : List (ℕ × ℕ)) (es : List (M × List X)) → IsPairOf p (k, v) → ((e : M × List X) → Contains es e → k ≢ e.0) → AllZip IsPairOf ps es → AllZip IsPairOf (add_in_order pair_cmp p ps) (put R k v es)
  put_pair p k v [] [] h ne are = (h, tt)
  put_pair p k v [] (e ∷ es) h ne are = absurd are
  put_pair p k v (q ∷ ps) [] h ne are = absurd are
  put_pair p k v (q ∷ ps) (e ∷ es) h ne are =
      let one : pair_cmp p q ≡ R k e.0 = (λ i. nat_cmp (h.0 i) (are.0.0 i)) ∙ compare k e.0 h.1 are.0.1 in
      subst (λ (r : Ordering). AllZip IsPairOf (by_order r (p ∷ q ∷ ps) (q ∷ ps) (q ∷ add_in_order pair_cmp p ps)) (put R k v (e ∷ es))) (sym one)
      (by (R k e.0) (λ t. ne e (Contains-first e es) (exact k e.0 t)) (put_pair p k v ps es h (λ f c. ne f (Contains-later e f es c)) are.1))
    where
      by : (r : Ordering) → r ≢ Equal → AllZip IsPairOf (add_in_order pair_cmp p ps) (put R k v es)
          → AllZip IsPairOf (by_order r (p ∷ q ∷ ps) (q ∷ ps) (q ∷ add_in_order pair_cmp p ps)) (by_order r ((k, v) ∷ e ∷ es) ((e.0, v) ∷ es) (e ∷ put R k v es))
      by Less other again = (h, are)
      by Equal other again = absurd (other refl)
      by Greater other again = (are.0, again)

  -- the pairs without those at offset 0
  abbrev kept : List ℕ → List ℕ → List (ℕ × ℕ)
  kept is offs = flat_map (λ (p : ℕ × ℕ). if p.1 == 0 then [] else p ∷ []) (zip is offs)

  -- the indices of the members
  abbrev indices : List (M × List X) → List ℕ
  indices ms = map (λ e. index e.0) ms

  -- the written pairs are those of the entries
  pairs_of : (o : IsTotalOrder R) (ms : List (M × List X)) (offs : List ℕ) → AreDistinct (map (λ e. e.0) ms) → ((e : M × List X) → Contains ms e → Known e.0) → AllZip (λ o e. BytesIfSome At o e.1) offs ms → AllZip IsPairOf (pairs (indices ms) offs) (entries_of R ms)
  pairs_of o [] [] d known are = tt
  pairs_of o [] (p ∷ offs) d known are = absurd are
  pairs_of o (m ∷ ms) [] d known are = absurd are
  pairs_of o ((m, []) ∷ ms) (p ∷ offs) d known are =
      let rest = pairs_of o ms offs (AreDistinct-rest m (map (λ (e : M × List X). e.0) ms) d) (λ e c. known e (Contains-later (m, []) e ms c)) are.1 in
      let none : (if p == 0 then [] else (index m, p) ∷ []) ≡ [] = cond-true (p == 0) [] ((index m, p) ∷ []) (eq-eqb p 0 are.0) in
      subst (λ (l : List (ℕ × ℕ)). AllZip IsPairOf (in_order pair_cmp (l ++ kept (indices ms) offs)) (entries_of R ms)) (sym none) rest
  pairs_of o ((m, x ∷ xs) ∷ ms) (p ∷ offs) d known are =
      let names = map (λ (e : M × List X). e.0) ms in
      let rest = pairs_of o ms offs (AreDistinct-rest m names d) (λ e c. known e (Contains-later (m, x ∷ xs) e ms c)) are.1 in
      let one : (if p == 0 then [] else (index m, p) ∷ []) ≡ (index m, p) ∷ [] = cond-false (p == 0) [] ((index m, p) ∷ []) (ne_eqb p 0 are.0.0) in
      let pair : IsPairOf (index m, p) (m, x ∷ xs) = (refl, known (m, x ∷ xs) (Contains-first (m, x ∷ xs) ms), are.0.0, are.0.1) in
      let others : (e : M × List X) → Contains (entries_of R ms) e → m ≢ e.0 = λ e c same. AreDistinct-first m names d e.0 (Contains-map (λ (e : M × List X). e.0) ms e (entries_source R o exact ms e c)) (sym same) in
      subst (λ (l : List (ℕ × ℕ)). AllZip IsPairOf (in_order pair_cmp (l ++ kept (indices ms) offs)) (put R m (x ∷ xs) (entries_of R ms))) (sym one)
      (put_pair (index m, p) m (x ∷ xs) (in_order pair_cmp (kept (indices ms) offs)) (entries_of R ms) pair others rest)

-- the pairs name the entries, in order
pub pairs_are : {M X : Type 0} (R : M → M → Ordering) → IsTotalOrder R → IsAntisymmetric R → (Row : List ℕ → ℕ → M → Type 0) (At : List ℕ → ℕ → List X → Type 0) (b : List ℕ) (index : M → ℕ) (Known : M → Type 0)
    → ((m n : M) → Known m → Known n → nat_cmp (index m) (index n) ≡ R m n) → ((m : M) → Known m → Row b (index m) m × (index m < 2 ^ 32))
    → (ms : List (M × List X)) (offs : List ℕ) → AreDistinct (map (λ e. e.0) ms) → ((e : M × List X) → Contains ms e → Known e.0) → AllZip (λ o e. BytesIfSome (At b) o e.1) offs ms
    → ArePairs Row At b (pairs (map (λ e. index e.0) ms) offs) (entries_of R ms)
pairs_are {M} {X} R o exact Row At b index Known compare row ms offs d known are =
    let is = map (λ (e : M × List X). index e.0) ms in
    let IsPair : ℕ × ℕ → M × List X → Type 0 = λ p e. (p.0 ≡ index e.0) × Known e.0 × (p.1 ≢ 0) × At b p.1 e.1 in
    let ps : AllZip IsPair (pairs is offs) (entries_of R ms) = pairs_of R exact index Known compare (At b) o ms offs d known are in (
      zip_weaker IsPair (PairAt Row At b) (λ p e h. (subst (λ (i : ℕ). Row b i e.0) (sym h.0) (row e.0 h.1).0, h.2, h.3)) (pairs is offs) (entries_of R ms) ps,
      pairs_rise is offs,
      all_keys IsPair (λ (p : ℕ × ℕ). p.0 < 2 ^ 32) (λ p e h. omega (arith, h.0, (row e.0 h.1).1)) (pairs is offs) (entries_of R ms) ps,
    )

-- without pairs there are no entries
pub no_entries : {A B : Type 0} (R : A → B → Type 0) (ks : List A) (xs : List B) → AllZip R ks xs → length ks ≡ 0 → xs ≡ []
no_entries R [] [] h e = refl
no_entries R [] (x ∷ xs) h e = absurd h
no_entries R (k ∷ ks) xs h e = absurd (omega (arith, e))
