-- Members one after the other: those that were read are the first of any others at the same offset, and their indices
-- rise.
use Rattle.dexmembers.proofs.Common.{◌≡◌, ◌⊎◌, ℕ, ◌+◌, ◌<◌, ◌≤◌, true, List, [], ◌∷◌, ◌++◌, length, map, get_or, Option, Some, None, refl, ap, sym, ◌∙◌, subst, arith, inl, inr, All, Contains, nat_cmp, is_lt, nat_cmp_is, nat_cmp_total, Less, cases_lt, get_or_default, get_or-map, length-map, Contains-get_or, All-cons, All-nil, rises, ShareNone, Rises-from_rises, Rises-places, and_both, less_number, ItemFault, Refused, Memory}
use Rattle.dexmembers.specs.{NumbersRise}
use Rattle.dexmembers.specs.internal.EncodedMembers.{IsDataRefusal, Member, Chain, last_index, IsListRead, NoList, ListsAt, NoLists, ArePassed}

-- ---- members in a row

-- the index of one more
pub last_more : {X : Type 0} (index : X → ℕ) (last : Option ℕ) (xs : List X) (x : X) → last_index index last (xs ++ x ∷ []) ≡ Some (index x)
last_more index last [] x = refl
last_more index last (y ∷ ys) x = last_more index (Some (index y)) ys x

module _ {X : Type 0} (At : Member X) (index : X → ℕ) where
  -- one member more
  pub chain_more : (b : List ℕ) (o : ℕ) (last : Option ℕ) (xs : List X) (x : X) (n k : ℕ) → Chain At index b o last xs n → At b (o + n) (last_index index last xs) x k → Chain At index b o last (xs ++ x ∷ []) (n + k)
  chain_more b o last [] x n k h at =
      let place : o + n ≡ o = omega (arith, h) in
      (k, 0, subst (λ (i : ℕ). At b i last x k) place at, refl, omega (arith, h))
  chain_more b o last (y ∷ ys) x n k h at =
      let place : o + n ≡ o + h.0 + h.1 = omega (arith, h.4) in
      (h.0, h.1 + k, h.2, chain_more b (o + h.0) (Some (index y)) ys x h.1 k h.3 (subst (λ (i : ℕ). At b i (last_index index (Some (index y)) ys) x k) place at), omega (arith, h.4))

  module _ (one : (b : List ℕ) (o : ℕ) (last : Option ℕ) (x y : X) (n k : ℕ) → At b o last x n → At b o last y k → (x ≡ y) × (n ≡ k)) where
    -- as many members
    pub one_chain : (b : List ℕ) (o : ℕ) (last : Option ℕ) (xs ys : List X) (n k : ℕ) → length xs ≡ length ys → Chain At index b o last xs n → Chain At index b o last ys k → (xs ≡ ys) × (n ≡ k)
    one_chain b o last [] [] n k len h g = (refl, h ∙ sym g)
    one_chain b o last [] (y ∷ ys) n k len h g = absurd (omega arith)
    one_chain b o last (x ∷ xs) [] n k len h g = absurd (omega arith)
    one_chain b o last (x ∷ xs) (y ∷ ys) n k len h g =
        let first = one b o last x y h.0 g.0 h.2 g.2 in
        let moved = subst (λ (i : ℕ). Chain At index b (o + i) (Some (index x)) xs h.1) first.1 h.3 in
        let rest = one_chain b (o + g.0) (Some (index y)) xs ys h.1 g.1 (omega (arith, len)) (subst (λ (z : X). Chain At index b (o + g.0) (Some (index z)) xs h.1) first.0 moved) g.3 in
        ((λ i. first.0 i ∷ rest.0 i), omega (arith, h.4, g.4, first.1, rest.1))

    -- where no member follows, there are no more of them
    pub stuck : (b : List ℕ) (o : ℕ) (last : Option ℕ) (xs ys : List X) (n k : ℕ) → length xs < length ys → Chain At index b o last xs n → ((x : X) (m : ℕ) → At b (o + n) (last_index index last xs) x m → ⊥) → Chain At index b o last ys k → ⊥
    stuck b o last [] [] n k lt h absent g = omega (arith, lt)
    stuck b o last [] (y ∷ ys) n k lt h absent g =
        let place : o ≡ o + n = omega (arith, h) in
        absent y g.0 (subst (λ (i : ℕ). At b i last y g.0) place g.2)
    stuck b o last (x ∷ xs) [] n k lt h absent g = omega (arith, lt)
    stuck b o last (x ∷ xs) (y ∷ ys) n k lt h absent g =
        let first = one b o last x y h.0 g.0 h.2 g.2 in
        let moved = subst (λ (i : ℕ). Chain At index b (o + i) (Some (index y)) ys g.1) (sym first.1) g.3 in
        let place : o + n ≡ o + h.0 + h.1 = omega (arith, h.4) in
        stuck b (o + h.0) (Some (index x)) xs ys h.1 g.1 (omega (arith, lt)) h.3 (λ z m at. absent z m (subst (λ (i : ℕ). At b i (last_index index (Some (index x)) xs) z m) (sym place) at))
        (subst (λ (z : X). Chain At index b (o + h.0) (Some (index z)) ys g.1) (sym first.0) moved)

    -- there is at most one way to read two lists at an offset
    pub one_pair : (b : List ℕ) (o : ℕ) (xs ys us vs : List X) (n k : ℕ) → length xs ≡ length us → length ys ≡ length vs → ListsAt At index b o xs ys n → ListsAt At index b o us vs k → (xs ≡ us) × (ys ≡ vs) × (n ≡ k)
    one_pair b o xs ys us vs n k len lens h g =
        let first = one_chain b o None xs us h.first_size g.first_size len h.first g.first in
        let second = one_chain b (o + g.first_size) None ys vs h.second_size g.second_size lens (subst (λ (i : ℕ). Chain At index b (o + i) None ys h.second_size) first.1 h.second) g.second in
        (first.0, second.0, omega (arith, first.1, second.1, h.size, g.size))

    -- without the second list
    pub no_second : (b : List ℕ) (o count other_count : ℕ) (xs : List X) (n : ℕ) → IsListRead At index b o count xs n → NoList At index b (o + n) other_count → NoLists At index b o count other_count
    no_second b o count other_count xs n read none us vs k len lens g =
        let first = one_chain b o None us xs g.first_size n (len ∙ sym read.many) g.first read.are_encoded in
        none vs g.second_size lens (subst (λ (i : ℕ). Chain At index b (o + i) None vs g.second_size) first.1 g.second)

    -- where an index is in both
    pub not_apart : (b : List ℕ) (o count other_count : ℕ) (xs ys : List X) (n k : ℕ) → IsListRead At index b o count xs n → IsListRead At index b (o + n) other_count ys k → (ShareNone (map index xs) (map index ys) → ⊥) → NoLists At index b o count other_count
    not_apart b o count other_count xs ys n k read others shared us vs m len lens g =
        let first = one_chain b o None us xs g.first_size n (len ∙ sym read.many) g.first read.are_encoded in
        let second = one_chain b (o + n) None vs ys g.second_size k (lens ∙ sym others.many) (subst (λ (i : ℕ). Chain At index b (o + i) None vs g.second_size) first.1 g.second) others.are_encoded in
        let apart = subst (λ (zs : List X). ShareNone (map index zs) (map index vs)) first.0 g.apart in
        shared (subst (λ (zs : List X). ShareNone (map index xs) (map index zs)) second.0 apart)

  -- without the first list
  pub no_first : (b : List ℕ) (o count other_count : ℕ) → NoList At index b o count → NoLists At index b o count other_count
  no_first b o count other_count none us vs k len lens g = none us g.first_size len g.first

  -- ---- their indices rise

  less_is_less : (x y : ℕ) → x < y → is_lt (nat_cmp x y) ≡ true
  less_is_less x y lt = ap is_lt (sym (nat_cmp_is x y Less lt))

  -- where each is above the one before it
  pub chain_rises : ((b : List ℕ) (o i : ℕ) (x : X) (n : ℕ) → At b o (Some i) x n → i < index x) → (b : List ℕ) (o : ℕ) (last : Option ℕ) (xs : List X) (n : ℕ) → Chain At index b o last xs n → NumbersRise (map index xs)
  chain_rises follows b o last [] n h = refl
  chain_rises follows b o last (x ∷ []) n h = refl
  chain_rises follows b o last (x ∷ y ∷ ys) n h =
      and_both (is_lt (nat_cmp (index x) (index y))) (rises nat_cmp (map index (y ∷ ys))) (less_is_less (index x) (index y) (follows b (o + h.0) (index x) y h.3.0 h.3.2))
      (chain_rises follows b (o + h.0) (Some (index x)) (y ∷ ys) h.1 h.3)

  -- what holds of each
  pub chain_all : (P : X → Type 0) → ((b : List ℕ) (o : ℕ) (last : Option ℕ) (x : X) (n : ℕ) → At b o last x n → P x) → (b : List ℕ) (o : ℕ) (last : Option ℕ) (xs : List X) (n : ℕ) → Chain At index b o last xs n → All P xs
  chain_all P holds b o last [] n h = All-nil P
  chain_all P holds b o last (x ∷ xs) n h = All-cons P x xs (holds b o last x h.0 h.2) (chain_all P holds b (o + h.0) (Some (index x)) xs h.1 h.3)

-- ---- one pass over two lists

-- in a rising list a later number is no less
later_no_less : (xs : List ℕ) (i j : ℕ) → NumbersRise xs → i ≤ j → j < length xs → get_or xs i 0 ≤ get_or xs j 0
later_no_less xs i j rise le lt =
    elim (cases_lt i j) as (λ _. get_or xs i 0 ≤ get_or xs j 0) [
      | inl less ↦ let below = less_number (get_or xs i 0) (get_or xs j 0) (Rises-places nat_cmp nat_cmp_total xs i j 0 (Rises-from_rises nat_cmp nat_cmp_total xs rise) less lt) in omega (arith, below)
      | inr rest ↦ let same : i ≡ j = omega (arith, le, rest) in let e : get_or xs i 0 ≡ get_or xs j 0 = ap (λ (k : ℕ). get_or xs k 0) same in omega (arith, e)
    ]

module _ {X : Type 0} (index : X → ℕ) where
  -- the index of the member at a place
  number_here : (xs : List X) (i n : ℕ) (x : X) → i < length xs → x ≡ get_or xs i x → n ≡ index x → (i < length (map index xs)) × (get_or (map index xs) i 0 ≡ n)
  number_here xs i n x lt at is = (omega (arith, lt, length-map xs index), get_or-map index xs i x 0 lt ∙ ap index (sym at) ∙ sym is)

  -- the lesser of the next two is in the other list no more
  pub passed_left : (xs ys : List X) (i j n k : ℕ) (x y : X) → i < length xs → j < length ys → x ≡ get_or xs i x → y ≡ get_or ys j y → n ≡ index x → k ≡ index y → NumbersRise (map index ys) → ArePassed (map index xs) (map index ys) i j → n < k
      → ArePassed (map index xs) (map index ys) (i + 1) j
  passed_left xs ys i j n k x y lt lt' at at' is is' rise passed less p q in_x in_y same =
      let before = passed p q in_x in_y same in
      let above = later_no_less (map index ys) j q rise before.1 in_y in
      let first = (number_here xs i n x lt at is).1 in
      let second = (number_here ys j k y lt' at' is').1 in
      elim (cases_lt i p) as (λ _. (i + 1 ≤ p) × (j ≤ q)) [
        | inl later ↦ (omega (arith, later), before.1)
        | inr rest ↦ let here : p ≡ i = omega (arith, before.0, rest) in let e = ap (λ (z : ℕ). get_or (map index xs) z 0) here in absurd (omega (arith, e, same, above, first, second, less))
      ]

  -- the same for the other list
  pub passed_right : (xs ys : List X) (i j n k : ℕ) (x y : X) → i < length xs → j < length ys → x ≡ get_or xs i x → y ≡ get_or ys j y → n ≡ index x → k ≡ index y → NumbersRise (map index xs) → ArePassed (map index xs) (map index ys) i j → k < n
      → ArePassed (map index xs) (map index ys) i (j + 1)
  passed_right xs ys i j n k x y lt lt' at at' is is' rise passed less p q in_x in_y same =
      let turned = passed_left ys xs j i k n y x lt' lt at' at is' is rise (λ u v a b e. let h = passed v u b a (sym e) in (h.1, h.0)) less q p in_y in_x (sym same) in
      (turned.1, turned.0)

  -- where the next two are equal, an index is in both
  pub passed_same : (xs ys : List X) (i j n : ℕ) (x y : X) → i < length xs → j < length ys → x ≡ get_or xs i x → y ≡ get_or ys j y → n ≡ index x → n ≡ index y → ShareNone (map index xs) (map index ys) → ⊥
  passed_same xs ys i j n x y lt lt' at at' is is' none =
      let first = number_here xs i n x lt at is in
      let second = number_here ys j n y lt' at' is' in
      none (get_or (map index xs) i 0) (Contains-get_or (map index xs) i 0 first.0) (subst (Contains (map index ys)) (second.1 ∙ sym first.1) (Contains-get_or (map index ys) j 0 second.0))

  -- at the end of one of them no index is in both
  pub passed_all : (xs ys : List X) (i j : ℕ) → ArePassed (map index xs) (map index ys) i j → (length xs ≤ i) ⊎ (length ys ≤ j) → ShareNone (map index xs) (map index ys)
  passed_all xs ys i j passed ended n in_x in_y =
      let a = get_or_default (map index xs) in_x.0 n 0 in_x.1 in
      let c = get_or_default (map index ys) in_y.0 n 0 in_y.1 in
      let p = passed in_x.0 in_y.0 in_x.1 in_y.1 (sym a ∙ in_x.2 ∙ sym in_y.2 ∙ c) in
      elim ended [ inl e ↦ omega (arith, e, p.0, in_x.1, length-map xs index) | inr e ↦ omega (arith, e, p.1, in_y.1, length-map ys index) ]

-- a refusal has another reason that follows
pub refused_so : {P Q : Type 0} → (P → Q) → (fault : ItemFault) → IsDataRefusal P fault → IsDataRefusal Q fault
refused_so so (Refused number) h = (h.0, so h.1)
refused_so so Memory h = h
