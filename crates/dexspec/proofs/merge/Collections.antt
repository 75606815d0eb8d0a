-- Definitions without two different ones of a name form exactly one collection.
use Rattle.dexspec.proofs.Common.{◌≡◌, Bool, true, false, cond, T, List, [], ◌∷◌, Option, Some, None, refl, sym, ap, arith, ◌≤◌, ◌∙◌, subst, inl, inr, is_lt, is_eq, Less, Contains, eq_by_cmp, Equal-is, tied_itself, get_or-map, length-map, same_Some}
use Rattle.std.specs.FinMap as finite
use Rattle.std.specs.FinMap.Entries.{find, is_sorted, below_all}
use Rattle.dexspec.specs.{AreDistinct, Text, text_cmp, Body, Definition, Collection, definitions, AreSame, AreWithin, IsCollectionOf, weight, IsConsistent}
use Rattle.dexspec.proofs.lists.{and_first, and_second, Contains-nil, Contains-first, Contains-later, Contains-cons_cases, Rises, less_is, AreDistinct-from_Rises, irreflexive}
use Rattle.dexspec.proofs.merge.SymbolOrders.{text_total, text_exact}
use Rattle.dexspec.proofs.merge.WeightGrowth.{weight-within}
use Rattle.dexspec.proofs.merge.Depths.{names_in, Contains-map}

-- ---- lookup by name

-- case split on whether the first has the name
find_by : (q : Text) (c : Body) (d : Definition) (ds : List Definition) (b : Bool) → eq_by_cmp text_cmp q d.0 ≡ b → cond b (Some d.1) (find text_cmp q ds) ≡ Some c → (find text_cmp q ds ≡ Some c → Contains ds (q, c)) → Contains (d ∷ ds) (q, c)
find_by q c d ds true t e again =
    let name = text_exact q d.0 ((Equal-is (text_cmp q d.0)).0 t) in
    let body = same_Some d.1 c e in
    subst (Contains (d ∷ ds)) (λ i. (sym name i, body i)) (Contains-first d ds)
find_by q c d ds false t e again = Contains-later d (q, c) ds (again e)

-- a definition that is found is a member
pub find-member : (D : List Definition) (q : Text) (c : Body) → find text_cmp q D ≡ Some c → Contains D (q, c)
find-member [] q c e = absurd cc
find-member (d ∷ ds) q c e = find_by q c d ds (eq_by_cmp text_cmp q d.0) refl e (find-member ds q c)

-- case split on whether the first has the name
found_by : (q : Text) (c : Body) (d : Definition) (ds : List Definition) (b : Bool) → eq_by_cmp text_cmp q d.0 ≡ b → Contains (d ∷ ds) (q, c) → (Contains ds (q, c) → (x : Body) × (find text_cmp q ds ≡ Some x)) → (x : Body) × (cond b (Some d.1) (find text_cmp q ds) ≡ Some x)
found_by q c d ds true t m again = (d.1, refl)
found_by q c d ds false t m again = elim (Contains-cons_cases d (q, c) ds m) [
  | inl e ↦ absurd (let s : eq_by_cmp text_cmp q d.0 ≡ true = ap (λ z. is_eq (text_cmp q z.0)) e ∙ ap is_eq (tied_itself text_total q) in cc)
  | inr l ↦ again l
]

-- a member's name is found
found : (D : List Definition) (q : Text) (c : Body) → Contains D (q, c) → (x : Body) × (find text_cmp q D ≡ Some x)
found [] q c m = absurd (Contains-nil (q, c) m)
found (d ∷ ds) q c m = found_by q c d ds (eq_by_cmp text_cmp q d.0) refl m (found ds q c)

-- without two different definitions of a name, lookup finds the member
pub find-is : (D : List Definition) (q : Text) (c : Body) → IsConsistent D → Contains D (q, c) → find text_cmp q D ≡ Some c
find-is D q c h m = let f = found D q c m in f.1 ∙ ap Some (h q f.0 c (find-member D q f.0 f.1) m)

-- ---- the collection

-- the map of the list, by lookup
pub collection-is : (D : List Definition) → IsConsistent D → IsCollectionOf D (finite.from_entries D)
collection-is D h name c = (
  λ e. find-member D name c (sym (finite.get-from_entries text_total D name) ∙ e),
  λ m. finite.get-from_entries text_total D name ∙ find-is D name c h m,
)

-- a list that forms a collection has no two different definitions of a name
pub collection-consistent : (D : List Definition) (K : Collection) → IsCollectionOf D K → IsConsistent D
collection-consistent D K h name one other c d = same_Some one other (sym ((h name one).1 c) ∙ (h name other).1 d)

-- options with equal values are equal
same_options : (o p : Option Body) → ((c : Body) → o ≡ Some c → p ≡ Some c) → ((c : Body) → p ≡ Some c → o ≡ Some c) → o ≡ p
same_options None None f g = refl
same_options None (Some c) f g = g c refl
same_options (Some c) p f g = sym (f c refl)

-- a list has one collection
pub collection-one : (D : List Definition) (K L : Collection) → IsCollectionOf D K → IsCollectionOf D L → K ≡ L
collection-one D K L k l =
    finite.same_map text_total text_exact K L (λ q. same_options (finite.get K q) (finite.get L q) (λ c e. (l q c).1 ((k q c).0 e)) (λ c e. (k q c).1 ((l q c).0 e)))

-- ---- the definitions of a collection

-- a test that passes is true
is_true : (b : Bool) → T b → b ≡ true
is_true true t = refl
is_true false t = absurd t

-- a name that is less than all names of a list is less than each
below : (n : Text) (es : List Definition) → below_all text_cmp n es ≡ true → (m : Text) → Contains (names_in es) m → text_cmp n m ≡ Less
below n [] h m c = absurd (Contains-nil m c)
below n (e ∷ es) h m c = elim (Contains-cons_cases e.0 m (names_in es) c) [
  | inl s ↦ subst (λ k. text_cmp n k ≡ Less) s (less_is (text_cmp n e.0) (and_first (is_lt (text_cmp n e.0)) (below_all text_cmp n es) h))
  | inr l ↦ below n es (and_second (is_lt (text_cmp n e.0)) (below_all text_cmp n es) h) m l
]

-- sorted by name, the names rise
rising : (es : List Definition) → is_sorted text_cmp es ≡ true → Rises text_cmp (names_in es)
rising [] h = tt
rising (e ∷ es) h = (below e.0 es (and_first (below_all text_cmp e.0 es) (is_sorted text_cmp es) h), rising es (and_second (below_all text_cmp e.0 es) (is_sorted text_cmp es) h))

-- the names of a collection rise
pub names-rise : (K : Collection) → Rises text_cmp (names_in (definitions K))
names-rise K = rising (definitions K) (is_true (is_sorted text_cmp (definitions K)) (finite.entries_sorted K))

-- if the names rise, a later definition does not have the name of the first
not_later : (e : Definition) (es : List Definition) (name : Text) (one other : Body) → Rises text_cmp (names_in (e ∷ es)) → e ≡ (name, one) → Contains es (name, other) → ⊥
not_later e es name one other h s l = irreflexive text_cmp text_total e.0 name (ap (λ z. z.0) s) (h.0 name (Contains-map (λ (d : Definition). d.0) es (name, other) l))

-- if the names rise, no two definitions have the same name
consistent-from_rising : (es : List Definition) → Rises text_cmp (names_in es) → IsConsistent es
consistent-from_rising [] h name one other c d = absurd (Contains-nil (name, one) c)
consistent-from_rising (e ∷ es) h name one other c d = elim (Contains-cons_cases e (name, one) es c) [
  | inl s ↦ elim (Contains-cons_cases e (name, other) es d) [
    | inl t ↦ ap (λ z. z.1) (sym s ∙ t)
    | inr m ↦ absurd (not_later e es name one other h s m)
  ]
  | inr l ↦ elim (Contains-cons_cases e (name, other) es d) [
    | inl t ↦ absurd (not_later e es name other one h t l)
    | inr m ↦ consistent-from_rising es h.1 name one other l m
  ]
]

-- a collection is the collection of its own definitions
pub definitions-are : (K : Collection) → IsCollectionOf (definitions K) K
definitions-are K name c = (
  λ e. find-member (definitions K) name c (sym (finite.get-entries K name) ∙ e),
  λ m. finite.get-entries K name ∙ find-is (definitions K) name c (consistent-from_rising (definitions K) (names-rise K)) m,
)

-- the definitions of the collection of a list are its members
pub definitions-same : (D : List Definition) (K : Collection) → IsCollectionOf D K → AreSame (definitions K) D
definitions-same D K h d = (
  λ m. (h d.0 d.1).0 ((definitions-are K d.0 d.1).1 m),
  λ m. (definitions-are K d.0 d.1).0 ((h d.0 d.1).1 m),
)

-- no two of them are equal
pub definitions-distinct : (K : Collection) → AreDistinct (definitions K)
definitions-distinct K i j d ij lt e =
    let es = definitions K in
    let name = λ (d : Definition). d.0 in
    let names = AreDistinct-from_Rises text_cmp text_total (names_in es) (names-rise K) in
    names i j (name d) ij (omega (arith, lt, length-map es name)) (get_or-map name es i d (name d) (omega (arith, ij, lt)) ∙ ap name e ∙ sym (get_or-map name es j d (name d) lt))

-- members of the list, no two of them equal, weigh at most as much as these
pub definitions-weigh_most : (D : List Definition) (K : Collection) → IsCollectionOf D K → (E : List Definition) → AreDistinct E → AreWithin E D → weight E ≤ weight (definitions K)
definitions-weigh_most D K h E d within = weight-within E (definitions K) d (λ x m. (definitions-same D K h x).1 (within x m))
