-- The pairs and lists of a directory of annotations, as they are read.
use Rattle.dexval.proofs.Common.{◌≡◌, ◌≢◌, ℕ, zero, suc, ◌+◌, ◌*◌, ◌<◌, ◌≤◌, true, List, [], ◌∷◌, ◌++◌, length, map, sum_by, refl, ap, sym, subst, ◌∙◌, arith, inl, inr, append_assoc, cases_lt, All, AllZip, is_lt, nat_cmp, map-append, All-append, All-cons, All-nil, sum_by-cons, rises, OrNone, uint_at, uints_at, Field, Method, FieldRow, MethodRow, AnnotationSet, Directory, SetAt, RefListAt, DirectoryAt, PairAt, PairsAt, pairs_at, fields_count, methods_count, parameters_count, Mentions, set_weight, ref_list_weight, one_set, one_all_zip, one_or_none, sum_by-map, length-uints_at, length-zip, NumberedSet, IsKnownSet, set_in, field_at, method_at, HasPools, NoSetAt, HasOffsets, IsSetOrEmptyAt, NoSetOrEmptyAt, IsRefListAt, NoRefListAt, IsIndexBelow, HasPair, ArePairsAt, NoPairsAt, HasMembers, NoDirectoryAt, directory_weight, set_weight_in, IsSetAt, IsDirectoryAt}
use Rattle.dexval.proofs.Refusals.{HasPart}
use Rattle.dexval.proofs.Rising.{rises_more, rises_next, split_at}
use Rattle.dexval.proofs.SetsRead.{uints_more, zip_more}

-- ---- a set, or none

-- an empty set at 0
pub empty_set : (b : List ℕ) (off : ℕ) (m : Mentions) → off ≡ 0 → IsSetOrEmptyAt b off m []
empty_set b off m e = record { known = All-nil _; at = inl (e, refl) }

-- a set at an offset other than 0
pub some_set : (b : List ℕ) (off : ℕ) (m : Mentions) (s : NumberedSet) → off ≢ 0 → IsSetAt b off m s → IsSetOrEmptyAt b off m s
some_set b off m s other h = record { known = h.known; at = inr (other, h.at) }

-- no set at an offset other than 0
pub no_set : (b : List ℕ) (off : ℕ) → off ≢ 0 → NoSetAt b off → NoSetOrEmptyAt b off
no_set b off other none s (inl h) = other h.0
no_set b off other none s (inr h) = none s h.1

-- a set at an offset other than 0 is an annotation_set_item
pub set_or_empty_part : (b : List ℕ) (off : ℕ) → off ≢ 0 → (s : AnnotationSet) → OrNone SetAt [] b off s → HasPart (SetAt b off) set_weight 0 (set_weight s)
set_or_empty_part b off other s (inl none) = absurd (other none.0)
set_or_empty_part b off other s (inr is) = record { part = s; is = is.1; lighter = omega arith }

-- at most one set is at an offset
pub one_set_or_empty : (b : List ℕ) (off : ℕ) (x y : AnnotationSet) → OrNone SetAt [] b off x → OrNone SetAt [] b off y → x ≡ y
one_set_or_empty b off x y = one_or_none SetAt [] b off x y (one_set b off x y)

-- ---- members of a list

-- the member that the key k denotes, and those before it, which weigh with it no more than all
record MemberAt {K X : Type 0} (R : K → X → Type 0) (ks : List K) (k : K) (weighs : X → ℕ) (total : ℕ) : Type 0 where
  before : List X
  member : X
  are_before : AllZip R ks before
  encodes : R k member
  lighter : sum_by weighs before + weighs member ≤ total

member_of : {K X : Type 0} (R : K → X → Type 0) (weighs : X → ℕ) (ks : List K) (k : K) (rest : List K) (xs : List X) → AllZip R (ks ++ k ∷ rest) xs → MemberAt R ks k weighs (sum_by weighs xs)
member_of R weighs [] k rest [] h = absurd h
member_of R weighs [] k rest (x ∷ xs) h = record { before = []; member = x; are_before = tt; encodes = h.0; lighter = omega (arith, sum_by-cons weighs x xs) }
member_of R weighs (l ∷ ks) k rest [] h = absurd h
member_of R weighs (l ∷ ks) k rest (x ∷ xs) h =
    let r = member_of R weighs ks k rest xs h.1 in
    record { before = x ∷ r.before; member = r.member; are_before = (h.0, r.are_before); encodes = r.encodes; lighter = omega (arith, sum_by-cons weighs x xs, sum_by-cons weighs x r.before, r.lighter) }

-- ---- lists of sets

-- a set of a list
set_of_list : (b : List ℕ) (o i : ℕ) (ss : List AnnotationSet) → i < uint_at b o → RefListAt b o ss → MemberAt (OrNone SetAt [] b) (uints_at b (o + 4) i) (uint_at b (o + 4 + 4 * i)) set_weight (sum_by set_weight ss)
set_of_list b o i ss lt h =
    let R = OrNone SetAt [] b in
    let split = split_at (uints_at b (o + 4)) (λ k. uint_at b (o + 4 + 4 * k)) (uints_more b (o + 4)) (uint_at b o) i lt in
    member_of R set_weight (uints_at b (o + 4) i) (uint_at b (o + 4 + 4 * i)) split.0 ss (subst (λ (l : List ℕ). AllZip R l ss) split.1 h.sets)

-- the first i sets were read
pub record HaveReadList (b : List ℕ) (p : ℕ) (m : Mentions) (i : ℕ) (ss : List NumberedSet) : Type 0 where
  pub known : All (IsKnownSet m) ss
  pub are_encoded : AllZip (OrNone SetAt [] b) (uints_at b p i) (map (set_in m) ss)

pub no_list_yet : (b : List ℕ) (p : ℕ) (m : Mentions) → HaveReadList b p m 0 []
no_list_yet b p m = record { known = All-nil (IsKnownSet m); are_encoded = tt }

-- one more set was read
pub one_set_more : (b : List ℕ) (p : ℕ) (m : Mentions) (i : ℕ) (ss : List NumberedSet) (s : NumberedSet) → HaveReadList b p m i ss → IsSetOrEmptyAt b (uint_at b (p + 4 * i)) m s → HaveReadList b p m (i + 1) (ss ++ s ∷ [])
one_set_more b p m i ss s h r =
    let R = OrNone SetAt [] b in
    let count_more : i + 1 ≡ suc i = omega arith in
    record {
      known = All-append (IsKnownSet m) ss (s ∷ []) h.known (All-cons (IsKnownSet m) s [] r.known (All-nil (IsKnownSet m)));
      are_encoded = subst (λ (l : List ℕ). AllZip R l (map (set_in m) (ss ++ s ∷ []))) (sym (ap (uints_at b p) count_more ∙ uints_more b p i))
          (subst (λ (l : List AnnotationSet). AllZip R (uints_at b p i ++ uint_at b (p + 4 * i) ∷ []) l) (sym (map-append (set_in m) ss (s ∷ []))) (zip_more R (uints_at b p i) (map (set_in m) ss) (uint_at b (p + 4 * i)) (set_in m s) h.are_encoded r.at));
    }

-- the next offset has no set
pub no_set_next : (b : List ℕ) (o i : ℕ) → i < uint_at b o → NoSetOrEmptyAt b (uint_at b (o + 4 + 4 * i)) → NoRefListAt b o
no_set_next b o i lt none ss h = let x = set_of_list b o i ss lt h in none x.member x.encodes

weighs_all : (ss : List AnnotationSet) → 0 < length ss → ref_list_weight ss ≡ 8 + 4 * length ss + sum_by set_weight ss
weighs_all [] some = absurd (omega arith)
weighs_all (s ∷ ss) some = refl

-- the list, without its sets, is a part of it
pub list_part : (b : List ℕ) (o list : ℕ) → (uint_at b o ≡ 0 → list ≡ 0) → (0 < uint_at b o → list ≡ 8 + 4 * uint_at b o) → (ss : List AnnotationSet) → RefListAt b o ss → HasPart (λ n. n ≡ list) (λ n. n) 0 (ref_list_weight ss)
list_part b o list none some ss h =
    let count : length ss ≡ uint_at b o = omega (arith, length-zip (OrNone SetAt [] b) (uints_at b (o + 4) (uint_at b o)) ss h.sets, length-uints_at b (o + 4) (uint_at b o)) in
    record { part = list; is = refl; lighter = elim (cases_lt 0 (length ss)) [ inl lt ↦ omega (arith, lt, count, some (omega (arith, lt, count)), weighs_all ss lt) | inr le ↦ omega (arith, le, count, none (omega (arith, le, count))) ] }

-- the next set is a part of the list
pub set_part : (b : List ℕ) (o i list : ℕ) (m : Mentions) (kept : List NumberedSet) → i < uint_at b o → (0 < uint_at b o → list ≡ 8 + 4 * uint_at b o) → HaveReadList b (o + 4) m i kept → (ss : List AnnotationSet) → RefListAt b o ss
    → HasPart (OrNone SetAt [] b (uint_at b (o + 4 + 4 * i))) set_weight (list + sum_by (set_weight_in m) kept) (ref_list_weight ss)
set_part b o i list m kept lt some read ss h =
    let x = set_of_list b o i ss lt h in
    let count : length ss ≡ uint_at b o = omega (arith, length-zip (OrNone SetAt [] b) (uints_at b (o + 4) (uint_at b o)) ss h.sets, length-uints_at b (o + 4) (uint_at b o)) in
    let same : x.before ≡ map (set_in m) kept = one_all_zip (OrNone SetAt [] b) (one_set_or_empty b) (uints_at b (o + 4) i) x.before (map (set_in m) kept) x.are_before read.are_encoded in
    record { part = x.member; is = x.encodes; lighter = omega (arith, lt, count, some (omega (arith, lt)), weighs_all ss (omega (arith, lt, count)), x.lighter, ap (sum_by set_weight) same, sum_by-map set_weight (set_in m) kept) }

-- all were read
pub list_read : (b : List ℕ) (o : ℕ) (m : Mentions) (i : ℕ) (ss : List NumberedSet) → HasOffsets b o → i ≡ uint_at b o → HaveReadList b (o + 4) m i ss → IsRefListAt b o m ss
list_read b o m i ss has e h = record { known = h.known; at = record { in_data = has.in_data; aligned = has.aligned; sets = subst (λ (n : ℕ). AllZip (OrNone SetAt [] b) (uints_at b (o + 4) n) (map (set_in m) ss)) e h.are_encoded } }

-- without room for the offsets there is no list
pub no_list_room : (b : List ℕ) (o : ℕ) → (HasOffsets b o → ⊥) → NoRefListAt b o
no_list_room b o none ss h = none (record { in_data = h.in_data; aligned = h.aligned })

-- ---- pairs

-- the pairs at an offset, and the one after them
pub pairs_more : (b : List ℕ) (p k : ℕ) → pairs_at b p (suc k) ≡ pairs_at b p k ++ (uint_at b (p + 8 * k), uint_at b (p + 8 * k + 4)) ∷ []
pairs_more b p zero = let place : p ≡ p + 8 * zero = omega arith in ap (λ (x : ℕ). (uint_at b x, uint_at b (x + 4)) ∷ []) place
pairs_more b p (suc k) =
    let place : p + 8 + 8 * k ≡ p + 8 * suc k = omega arith in
    ap (λ (l : List (ℕ × ℕ)). (uint_at b p, uint_at b (p + 4)) ∷ l) (pairs_more b (p + 8) k) ∙ ap (λ (x : ℕ). (uint_at b p, uint_at b (p + 4)) ∷ (pairs_at b (p + 8) k ++ (uint_at b x, uint_at b (x + 4)) ∷ [])) place

-- a pair of a list
pair_of : {Y : Type 0} (At : List ℕ → ℕ → Y → Type 0) (weighs : Y → ℕ) (b : List ℕ) (p n limit i : ℕ) (entries : List (ℕ × Y)) → i < n → PairsAt (IsIndexBelow limit) At b p n entries
    → MemberAt (PairAt (IsIndexBelow limit) At b) (pairs_at b p i) (uint_at b (p + 8 * i), uint_at b (p + 8 * i + 4)) (λ e. weighs e.1) (sum_by (λ e. weighs e.1) entries)
pair_of At weighs b p n limit i entries lt g =
    let R = PairAt (IsIndexBelow limit) At b in
    let split = split_at (pairs_at b p) (λ k. (uint_at b (p + 8 * k), uint_at b (p + 8 * k + 4))) (pairs_more b p) n i lt in
    member_of R (λ e. weighs e.1) (pairs_at b p i) (uint_at b (p + 8 * i), uint_at b (p + 8 * i + 4)) split.0 entries (subst (λ (l : List (ℕ × ℕ)). AllZip R l entries) split.1 g.pairs)

-- at most one list of pairs is there
one_pairs : {Y : Type 0} (At : List ℕ → ℕ → Y → Type 0) → ((b : List ℕ) (o : ℕ) (x y : Y) → At b o x → At b o y → x ≡ y) → (b : List ℕ) (limit : ℕ) (ps : List (ℕ × ℕ)) (xs ys : List (ℕ × Y)) → AllZip (PairAt (IsIndexBelow limit) At b) ps xs
    → AllZip (PairAt (IsIndexBelow limit) At b) ps ys → xs ≡ ys
one_pairs {Y} At one b limit = one_all_zip (PairAt (IsIndexBelow limit) At b) (λ p x y s t. let first : x.0 ≡ y.0 = s.0.is ∙ sym t.0.is in let second = one b p.1 x.1 y.1 s.2 t.2 in λ i. (first i, second i))

-- the indices of pairs
abbrev indices_at : List ℕ → ℕ → ℕ → List ℕ
indices_at b p n = map (λ pair. pair.0) (pairs_at b p n)

is_less : (i j : ℕ) → i < j → is_lt (nat_cmp i j) ≡ true
is_less i j lt = grind arith

less_is : (i j : ℕ) → is_lt (nat_cmp i j) ≡ true → i < j
less_is i j e = grind arith

indices_more : (b : List ℕ) (p k : ℕ) → indices_at b p (suc k) ≡ indices_at b p k ++ uint_at b (p + 8 * k) ∷ []
indices_more b p k = ap (map (λ (pair : ℕ × ℕ). pair.0)) (pairs_more b p k) ∙ map-append (λ (pair : ℕ × ℕ). pair.0) (pairs_at b p k) ((uint_at b (p + 8 * k), uint_at b (p + 8 * k + 4)) ∷ [])

rise_more : (b : List ℕ) (p k : ℕ) → rises nat_cmp (indices_at b p (suc k)) ≡ true → uint_at b (p + 8 * k) < uint_at b (p + 8 * suc k) → rises nat_cmp (indices_at b p (suc (suc k))) ≡ true
rise_more b p k h lt =
    let next = uint_at b (p + 8 * suc k) in
    ap (rises nat_cmp) (indices_more b p (suc k) ∙ ap (λ (l : List ℕ). l ++ next ∷ []) (indices_more b p k))
    ∙ rises_more nat_cmp (indices_at b p k) (uint_at b (p + 8 * k)) next (ap (rises nat_cmp) (sym (indices_more b p k)) ∙ h) (is_less (uint_at b (p + 8 * k)) next lt)

rise_at : (b : List ℕ) (p n i : ℕ) → suc i < n → rises nat_cmp (indices_at b p n) ≡ true → uint_at b (p + 8 * i) < uint_at b (p + 8 * suc i)
rise_at b p n i lt h =
    let index : ℕ → ℕ = λ k. uint_at b (p + 8 * k) in
    let split = split_at (indices_at b p) index (indices_more b p) n (suc i) lt in
    less_is (index i) (index (suc i)) (rises_next nat_cmp (indices_at b p i) (index i) (index (suc i)) split.0 (ap (rises nat_cmp) (sym (split.1 ∙ ap (λ (l : List ℕ). l ++ index (suc i) ∷ split.0) (indices_more b p i) ∙ append_assoc (indices_at b p i) (index i ∷ []) (index (suc i) ∷ split.0))) ∙ h))

-- the least value of the next index
abbrev pub least_after : List ℕ → ℕ → ℕ → ℕ
least_after b p zero = 0
least_after b p (suc k) = uint_at b (p + 8 * k) + 1

rise_on : (b : List ℕ) (p i least : ℕ) → least ≡ least_after b p i → least ≤ uint_at b (p + 8 * i) → rises nat_cmp (indices_at b p i) ≡ true → rises nat_cmp (indices_at b p (suc i)) ≡ true
rise_on b p zero least e le h = refl
rise_on b p (suc k) least e le h = rise_more b p k h (omega (arith, e, le))

least_at : (b : List ℕ) (p n i least : ℕ) → i < n → least ≡ least_after b p i → rises nat_cmp (indices_at b p n) ≡ true → least ≤ uint_at b (p + 8 * i)
least_at b p n zero least lt e h = omega (arith, e)
least_at b p n (suc k) least lt e h = omega (arith, e, rise_at b p n k lt h)

-- the first i pairs were read
pub record HaveReadPairs {X Y : Type 0} (Known : X → Type 0) (inside : X → Y) (At : List ℕ → ℕ → Y → Type 0) (b : List ℕ) (p limit i least : ℕ) (xs : List (ℕ × X)) : Type 0 where
  pub pairs_read : ArePairsAt Known inside At b p i limit xs
  pub least_is : least ≡ least_after b p i

pub no_pair_yet : {X Y : Type 0} (Known : X → Type 0) (inside : X → Y) (At : List ℕ → ℕ → Y → Type 0) (b : List ℕ) (p limit : ℕ) → HaveReadPairs Known inside At b p limit 0 0 []
no_pair_yet Known inside At b p limit = record { pairs_read = record { members_known = All-nil _; pairs_encoded = record { pairs = tt; rise = refl } }; least_is = refl }

-- one more pair was read
pub one_pair_more : {X Y : Type 0} (Known : X → Type 0) (inside : X → Y) (At : List ℕ → ℕ → Y → Type 0) (b : List ℕ) (p limit i least : ℕ) (xs : List (ℕ × X)) (number : ℕ) (x : X)
    → HaveReadPairs Known inside At b p limit i least xs → HasPair b (p + 8 * i) least limit → number ≡ uint_at b (p + 8 * i) → Known x → At b (uint_at b (p + 8 * i + 4)) (inside x)
    → HaveReadPairs Known inside At b p limit (i + 1) (number + 1) (xs ++ (number, x) ∷ [])
one_pair_more {X} {Y} Known inside At b p limit i least xs number x h pair is known encodes =
    let R = PairAt (IsIndexBelow limit) At b in
    let KnownPair = λ (e : ℕ × X). (e.0 < limit) × Known e.1 in
    let entry : ℕ × X → ℕ × Y = λ e. (e.0, inside e.1) in
    let new : ℕ × X = (number, x) in
    let count_more : suc i ≡ i + 1 = omega arith in
    let below : number < limit = omega (arith, is, pair.below) in
    let index : IsIndexBelow limit b (uint_at b (p + 8 * i)) number = record { is = is; below = pair.below } in
    subst (λ (k : ℕ). HaveReadPairs Known inside At b p limit k (number + 1) (xs ++ new ∷ [])) count_more
    (record {
      pairs_read = record {
        members_known = All-append KnownPair xs (new ∷ []) h.pairs_read.members_known (All-cons KnownPair new [] (below, known) (All-nil KnownPair));
        pairs_encoded = record {
          pairs = subst (λ (l : List (ℕ × ℕ)). AllZip R l (map entry (xs ++ new ∷ []))) (sym (pairs_more b p i))
              (subst (λ (l : List (ℕ × Y)). AllZip R (pairs_at b p i ++ (uint_at b (p + 8 * i), uint_at b (p + 8 * i + 4)) ∷ []) l) (sym (map-append entry xs (new ∷ [])))
              (zip_more R (pairs_at b p i) (map entry xs) (uint_at b (p + 8 * i), uint_at b (p + 8 * i + 4)) (entry new) h.pairs_read.pairs_encoded.pairs (index, pair.offset, encodes)));
          rise = rise_on b p i least h.least_is pair.above h.pairs_read.pairs_encoded.rise;
        };
      };
      least_is = ap (λ (k : ℕ). k + 1) is;
    })

-- the next entry is no pair
pub no_pair_next : {X Y : Type 0} (Known : X → Type 0) (inside : X → Y) (At : List ℕ → ℕ → Y → Type 0) (b : List ℕ) (p n limit i least : ℕ) (xs : List (ℕ × X)) → i < n → HaveReadPairs Known inside At b p limit i least xs
    → (HasPair b (p + 8 * i) least limit → ⊥) → NoPairsAt At b p n limit
no_pair_next Known inside At b p n limit i least xs lt h none entries g =
    let x = pair_of At (λ y. 0) b p n limit i entries lt g in none (record { above = least_at b p n i least lt h.least_is g.rise; below = x.encodes.0.below; offset = x.encodes.1 })

-- or its offset has no item
pub no_item_next : {Y : Type 0} (At : List ℕ → ℕ → Y → Type 0) (b : List ℕ) (p n limit i : ℕ) → i < n → ((y : Y) → At b (uint_at b (p + 8 * i + 4)) y → ⊥) → NoPairsAt At b p n limit
no_item_next At b p n limit i lt none entries g = let x = pair_of At (λ y. 0) b p n limit i entries lt g in none x.member.1 x.encodes.2

-- the item of the next pair is a part of all
pub item_part : {X Y : Type 0} (Known : X → Type 0) (inside : X → Y) (At : List ℕ → ℕ → Y → Type 0) (weighs : Y → ℕ) → ((b : List ℕ) (o : ℕ) (x y : Y) → At b o x → At b o y → x ≡ y) → (b : List ℕ) (p n limit i least : ℕ) (kept : List (ℕ × X)) → i < n
    → HaveReadPairs Known inside At b p limit i least kept → (entries : List (ℕ × Y)) → PairsAt (IsIndexBelow limit) At b p n entries → HasPart (At b (uint_at b (p + 8 * i + 4))) weighs (sum_by (λ e. weighs (inside e.1)) kept) (sum_by (λ e. weighs e.1) entries)
item_part {X} {Y} Known inside At weighs one b p n limit i least kept lt h entries g =
    let x = pair_of At weighs b p n limit i entries lt g in
    let entry : ℕ × X → ℕ × Y = λ e. (e.0, inside e.1) in
    record {
      part = x.member.1;
      is = x.encodes.2;
      lighter = omega (arith, x.lighter, ap (sum_by (λ (e : ℕ × Y). weighs e.1)) (one_pairs At one b limit (pairs_at b p i) x.before (map entry kept) x.are_before h.pairs_read.pairs_encoded.pairs), sum_by-map (λ (e : ℕ × Y). weighs e.1) entry kept);
    }

-- all were read
pub pairs_end : {X Y : Type 0} (Known : X → Type 0) (inside : X → Y) (At : List ℕ → ℕ → Y → Type 0) (b : List ℕ) (p n limit i least : ℕ) (xs : List (ℕ × X)) → i ≡ n → HaveReadPairs Known inside At b p limit i least xs → ArePairsAt Known inside At b p n limit xs
pairs_end Known inside At b p n limit i least xs e h = subst (λ (k : ℕ). ArePairsAt Known inside At b p k limit xs) e h.pairs_read

-- equal places and counts
pub pairs_moved : {X Y : Type 0} (Known : X → Type 0) (inside : X → Y) (At : List ℕ → ℕ → Y → Type 0) (b : List ℕ) {p q n k limit most : ℕ} {xs : List (ℕ × X)} → p ≡ q → n ≡ k → limit ≡ most → ArePairsAt Known inside At b p n limit xs → ArePairsAt Known inside At b q k most xs
pairs_moved Known inside At b {p} {q} {n} {k} {limit} {most} {xs} place count bound h =
    subst (λ (x : ℕ). ArePairsAt Known inside At b q k x xs) bound (subst (λ (x : ℕ). ArePairsAt Known inside At b q x limit xs) count (subst (λ (x : ℕ). ArePairsAt Known inside At b x n limit xs) place h))

pub no_pairs_moved : {Y : Type 0} (At : List ℕ → ℕ → Y → Type 0) (b : List ℕ) {p q n k limit most : ℕ} → p ≡ q → n ≡ k → limit ≡ most → NoPairsAt At b p n limit → NoPairsAt At b q k most
no_pairs_moved At b {p} {q} {n} {k} {limit} {most} place count bound none =
    subst (λ (x : ℕ). NoPairsAt At b q k x) bound (subst (λ (x : ℕ). NoPairsAt At b q x limit) count (subst (λ (x : ℕ). NoPairsAt At b x n limit) place none))

pub part_moved : {Y : Type 0} (At : List ℕ → ℕ → Y → Type 0) (weighs : List (ℕ × Y) → ℕ) (b : List ℕ) (before total : ℕ) {p q n k limit most : ℕ} → p ≡ q → n ≡ k → limit ≡ most → HasPart (PairsAt (IsIndexBelow most) At b q k) weighs before total
    → HasPart (PairsAt (IsIndexBelow limit) At b p n) weighs before total
part_moved At weighs b before total {p} {q} {n} {k} {limit} {most} place count bound h =
    subst (λ (x : ℕ). HasPart (PairsAt (IsIndexBelow x) At b p n) weighs before total) (sym bound)
    (subst (λ (x : ℕ). HasPart (PairsAt (IsIndexBelow most) At b p x) weighs before total) (sym count) (subst (λ (x : ℕ). HasPart (PairsAt (IsIndexBelow most) At b x k) weighs before total) (sym place) h))

-- ---- members

-- the pairs name the members of their numbers
rows_encoded : {M X Y : Type 0} (Row : List ℕ → ℕ → M → Type 0) (member : ℕ → M) (inside : X → Y) (At : List ℕ → ℕ → Y → Type 0) (b : List ℕ) (limit : ℕ) → ((i : ℕ) → i < limit → Row b i (member i)) → (ps : List (ℕ × ℕ)) (xs : List (ℕ × X))
    → AllZip (PairAt (IsIndexBelow limit) At b) ps (map (λ e. (e.0, inside e.1)) xs) → AllZip (PairAt Row At b) ps (map (λ e. (member e.0, inside e.1)) xs)
rows_encoded Row member inside At b limit row [] [] h = tt
rows_encoded Row member inside At b limit row (p ∷ ps) (x ∷ xs) h = ((subst (λ (i : ℕ). Row b p.0 (member i)) (sym h.0.0.is) (row p.0 h.0.0.below), h.0.1, h.0.2), rows_encoded Row member inside At b limit row ps xs h.1)
rows_encoded Row member inside At b limit row v y h = absurd h

-- members by number
abbrev numbered : {M Y : Type 0} → List (ℕ × ℕ) → List (M × Y) → List (ℕ × Y)
numbered (p ∷ ps) (e ∷ es) = (p.0, e.1) ∷ numbered ps es
numbered x v = []

numbers_encoded : {M Y : Type 0} (Row : List ℕ → ℕ → M → Type 0) (At : List ℕ → ℕ → Y → Type 0) (b : List ℕ) (limit : ℕ) → ((i : ℕ) (x : M) → Row b i x → i < limit) → (ps : List (ℕ × ℕ)) (es : List (M × Y))
    → AllZip (PairAt Row At b) ps es → AllZip (PairAt (IsIndexBelow limit) At b) ps (numbered ps es)
numbers_encoded Row At b limit below [] [] h = tt
numbers_encoded Row At b limit below (p ∷ ps) (e ∷ es) h = ((record { is = refl; below = below p.0 e.0 h.0.0 }, h.0.1, h.0.2), numbers_encoded Row At b limit below ps es h.1)
numbers_encoded Row At b limit below x v h = absurd h

pairs_named : {M X Y : Type 0} (Row : List ℕ → ℕ → M → Type 0) (member : ℕ → M) (Known : X → Type 0) (inside : X → Y) (At : List ℕ → ℕ → Y → Type 0) (b : List ℕ) (p n limit : ℕ) → ((i : ℕ) → i < limit → Row b i (member i)) → (xs : List (ℕ × X))
    → ArePairsAt Known inside At b p n limit xs → PairsAt Row At b p n (map (λ e. (member e.0, inside e.1)) xs)
pairs_named Row member Known inside At b p n limit row xs h = record { pairs = rows_encoded Row member inside At b limit row (pairs_at b p n) xs h.pairs_encoded.pairs; rise = h.pairs_encoded.rise }

rows_numbered : {M Y : Type 0} (Row : List ℕ → ℕ → M → Type 0) (At : List ℕ → ℕ → Y → Type 0) (b : List ℕ) (p n limit : ℕ) → ((i : ℕ) (x : M) → Row b i x → i < limit) → (es : List (M × Y)) → PairsAt Row At b p n es → PairsAt (IsIndexBelow limit) At b p n (numbered (pairs_at b p n) es)
rows_numbered Row At b p n limit below es h = record { pairs = numbers_encoded Row At b limit below (pairs_at b p n) es h.pairs; rise = h.rise }

no_rows : {M Y : Type 0} (Row : List ℕ → ℕ → M → Type 0) (At : List ℕ → ℕ → Y → Type 0) (b : List ℕ) (p n limit : ℕ) → ((i : ℕ) (x : M) → Row b i x → i < limit) → NoPairsAt At b p n limit → (es : List (M × Y)) → PairsAt Row At b p n es → ⊥
no_rows Row At b p n limit below none es h = none (numbered (pairs_at b p n) es) (rows_numbered Row At b p n limit below es h)

numbered_weigh : {M Y : Type 0} (R : ℕ × ℕ → M × Y → Type 0) (weighs : Y → ℕ) (ps : List (ℕ × ℕ)) (es : List (M × Y)) → AllZip R ps es → sum_by (λ e. weighs e.1) (numbered ps es) ≡ sum_by (λ e. weighs e.1) es
numbered_weigh R weighs [] [] h = refl
numbered_weigh R weighs [] (e ∷ es) h = absurd h
numbered_weigh R weighs (p ∷ ps) [] h = absurd h
numbered_weigh {M} {Y} R weighs (p ∷ ps) (e ∷ es) h = omega (arith, sum_by-cons (λ (x : ℕ × Y). weighs x.1) (p.0, e.1) (numbered ps es), sum_by-cons (λ (x : M × Y). weighs x.1) e es, numbered_weigh R weighs ps es h.1)

-- the members of a directory, by their numbers, are a part of it
pub rows_part : {M Y : Type 0} (Row : List ℕ → ℕ → M → Type 0) (At : List ℕ → ℕ → Y → Type 0) (weighs : Y → ℕ) (b : List ℕ) (p n limit before total : ℕ) → ((i : ℕ) (x : M) → Row b i x → i < limit) → (es : List (M × Y)) → PairsAt Row At b p n es
    → before + sum_by (λ e. weighs e.1) es ≤ total → HasPart (PairsAt (IsIndexBelow limit) At b p n) (sum_by (λ e. weighs e.1)) before total
rows_part Row At weighs b p n limit before total below es h le =
    record { part = numbered (pairs_at b p n) es; is = rows_numbered Row At b p n limit below es h; lighter = omega (arith, le, numbered_weigh (PairAt Row At b) weighs (pairs_at b p n) es h.pairs) }

-- they weigh what the members weigh that were read
pub rows_weigh : {M X Y : Type 0} (Row : List ℕ → ℕ → M → Type 0) (Known : X → Type 0) (inside : X → Y) (At : List ℕ → ℕ → Y → Type 0) (weighs : Y → ℕ) → ((b : List ℕ) (o : ℕ) (x y : Y) → At b o x → At b o y → x ≡ y) → (b : List ℕ) (p n limit : ℕ)
    → ((i : ℕ) (x : M) → Row b i x → i < limit) → (es : List (M × Y)) (xs : List (ℕ × X)) → PairsAt Row At b p n es → ArePairsAt Known inside At b p n limit xs → sum_by (λ e. weighs e.1) es ≡ sum_by (λ e. weighs (inside e.1)) xs
rows_weigh {M} {X} {Y} Row Known inside At weighs one b p n limit below es xs h g =
    let entry : ℕ × X → ℕ × Y = λ e. (e.0, inside e.1) in
    let same : numbered (pairs_at b p n) es ≡ map entry xs = one_pairs At one b limit (pairs_at b p n) (numbered (pairs_at b p n) es) (map entry xs) (rows_numbered Row At b p n limit below es h).pairs g.pairs_encoded.pairs in
    sym (numbered_weigh (PairAt Row At b) weighs (pairs_at b p n) es h.pairs) ∙ ap (sum_by (λ (e : ℕ × Y). weighs e.1)) same ∙ sum_by-map (λ (e : ℕ × Y). weighs e.1) entry xs

-- ---- directories

-- without room for the pairs there is no directory
pub no_members : (b : List ℕ) (o : ℕ) → (HasMembers b o → ⊥) → NoDirectoryAt b o
no_members b o none d h = none (record { in_data = h.in_data; aligned = h.aligned })

-- without the set of the class there is no directory
pub no_own : (b : List ℕ) (o : ℕ) → NoSetOrEmptyAt b (uint_at b o) → NoDirectoryAt b o
no_own b o none d h = none d.own h.own

-- the set of the class is a part of the directory
pub own_part : (b : List ℕ) (o : ℕ) (d : Directory) → DirectoryAt b o d → HasPart (OrNone SetAt [] b (uint_at b o)) set_weight 0 (directory_weight d)
own_part b o d h = record { part = d.own; is = h.own; lighter = omega arith }

module _ (b : List ℕ) (o : ℕ) (m : Mentions) (file : HasPools b m) where
  field_row : (i : ℕ) → i < length m.fields → FieldRow b i (field_at m i)
  field_row i lt = file.pools.fields_are.each i (record { class = []; name = []; type = [] }) (omega (arith, lt, file.pools.fields_are.count))

  method_row : (i : ℕ) → i < length m.methods → MethodRow b i (method_at m i)
  method_row i lt = file.pools.methods_are.each i (record { class = []; name = []; proto = record { return_type = []; parameters = [] } }) (omega (arith, lt, file.pools.methods_are.count))

  pub field_below : (i : ℕ) (f : Field) → FieldRow b i f → i < length m.fields
  field_below i f r = omega (arith, r.row, file.pools.fields_are.count)

  pub method_below : (i : ℕ) (x : Method) → MethodRow b i x → i < length m.methods
  method_below i x r = omega (arith, r.row, file.pools.methods_are.count)

  pub no_fields : NoPairsAt SetAt b (o + 16) (fields_count b o) (length m.fields) → NoDirectoryAt b o
  no_fields none d h = no_rows FieldRow SetAt b (o + 16) (fields_count b o) (length m.fields) field_below none d.fields h.fields

  pub no_methods : NoPairsAt SetAt b (o + 16 + 8 * fields_count b o) (methods_count b o) (length m.methods) → NoDirectoryAt b o
  no_methods none d h = no_rows MethodRow SetAt b (o + 16 + 8 * fields_count b o) (methods_count b o) (length m.methods) method_below none d.methods h.methods

  pub no_parameters : NoPairsAt RefListAt b (o + 16 + 8 * fields_count b o + 8 * methods_count b o) (parameters_count b o) (length m.methods) → NoDirectoryAt b o
  no_parameters none d h =
      let place : o + 16 + 8 * (fields_count b o + methods_count b o) ≡ o + 16 + 8 * fields_count b o + 8 * methods_count b o = omega arith in
      no_rows MethodRow RefListAt b (o + 16 + 8 * fields_count b o + 8 * methods_count b o) (parameters_count b o) (length m.methods) method_below none d.parameters
      (subst (λ (p : ℕ). PairsAt MethodRow RefListAt b p (parameters_count b o) d.parameters) place h.parameters)

  -- all parts were read
  pub directory_read : (own : NumberedSet) (fields methods : List (ℕ × NumberedSet)) (parameters : List (ℕ × List NumberedSet)) → HasMembers b o → IsSetOrEmptyAt b (uint_at b o) m own
      → ArePairsAt (IsKnownSet m) (set_in m) SetAt b (o + 16) (fields_count b o) (length m.fields) fields
      → ArePairsAt (IsKnownSet m) (set_in m) SetAt b (o + 16 + 8 * fields_count b o) (methods_count b o) (length m.methods) methods
      → ArePairsAt (All (IsKnownSet m)) (map (set_in m)) RefListAt b (o + 16 + 8 * fields_count b o + 8 * methods_count b o) (parameters_count b o) (length m.methods) parameters
      → IsDirectoryAt b o m (record { own = own; fields = fields; methods = methods; parameters = parameters })
  directory_read own fields methods parameters has own_is fields_are methods_are parameters_are =
      let place : o + 16 + 8 * fields_count b o + 8 * methods_count b o ≡ o + 16 + 8 * (fields_count b o + methods_count b o) = omega arith in
      record {
        known = record { own_known = own_is.known; fields_known = fields_are.members_known; methods_known = methods_are.members_known; parameters_known = parameters_are.members_known };
        at = record {
          in_data = has.in_data;
          aligned = has.aligned;
          own = own_is.at;
          fields = pairs_named FieldRow (field_at m) (IsKnownSet m) (set_in m) SetAt b (o + 16) (fields_count b o) (length m.fields) field_row fields fields_are;
          methods = pairs_named MethodRow (method_at m) (IsKnownSet m) (set_in m) SetAt b (o + 16 + 8 * fields_count b o) (methods_count b o) (length m.methods) method_row methods methods_are;
          parameters = subst (λ (p : ℕ). PairsAt MethodRow RefListAt b p (parameters_count b o) (map (λ e. (method_at m e.0, map (set_in m) e.1)) parameters)) place
              (pairs_named MethodRow (method_at m) (All (IsKnownSet m)) (map (set_in m)) RefListAt b (o + 16 + 8 * fields_count b o + 8 * methods_count b o) (parameters_count b o) (length m.methods) method_row parameters parameters_are);
        };
      }
