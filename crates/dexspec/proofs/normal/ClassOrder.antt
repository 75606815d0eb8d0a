-- Definitions of different names are in class order, each once.
use Rattle.dexspec.proofs.Common.{◌≡◌, ◌≢◌, ◌⊎◌, ℕ, suc, ◌+◌, Bool, true, false, ◌&&◌, T, List, [], ◌∷◌, map, get_or, refl, sym, ap, ◌∙◌, subst, arith, inl, inr, sum_by, Ordering, Less, Equal, Greater, Contains, ordering_then, nat_cmp, is_lt, sum_by-cons}
use Rattle.std.specs.FinMap.Entries.{put, by_order, below_all, is_sorted}
use Rattle.std.specs.FinMap.{entries_sorted}
use Rattle.dexspec.specs.{AreDistinct, Text, text_cmp, Body, Definition, place_cmp, put_all, depth, in_class_order, Collection, definitions}
use Rattle.dexspec.proofs.lists.{Contains-nil, Contains-first, Contains-later, Contains-cons_cases, AreDistinct-first, AreDistinct-rest, Rises, AreDistinct-from_Rises}
use Rattle.dexspec.proofs.merge.{text_exact, text_total}
use Rattle.dexspec.proofs.size.SizeSums.{sum_by-map}
use Rattle.dexspec.proofs.normal.ClassPlaces.{names-kept}
pub use Rattle.dexspec.proofs.merge.Collections.{definitions-distinct as definitions-different}

-- a definition with its depth
abbrev PlacedClass : Type 0
PlacedClass = (ℕ × Text) × Body

then_equal : (a b : Ordering) → ordering_then a b ≡ Equal → b ≡ Equal
then_equal Equal b e = e
then_equal _ b e = absurd cc

-- only places of one name are equal by order
place_name : (x y : ℕ × Text) → place_cmp x y ≡ Equal → x.1 ≡ y.1
place_name x y e = text_exact x.1 y.1 (then_equal (nat_cmp x.0 y.0) (text_cmp x.1 y.1) e)

-- an entry that is put among entries of other places adds its own term
put_apart : (f : PlacedClass → ℕ) (k : ℕ × Text) (v : Body) (es : List PlacedClass) → ((e : PlacedClass) → Contains es e → place_cmp k e.0 ≢ Equal) → sum_by f (put place_cmp k v es) ≡ f (k, v) + sum_by f es
put_apart f k v [] h = omega arith
put_apart f k v (e ∷ es) h = by (place_cmp k e.0) (h e (Contains-first e es)) (put_apart f k v es (λ x c. h x (Contains-later e x es c)))
  where
    by : (o : Ordering) → o ≢ Equal → sum_by f (put place_cmp k v es) ≡ f (k, v) + sum_by f es → sum_by f (by_order o ((k, v) ∷ e ∷ es) ((e.0, v) ∷ es) (e ∷ put place_cmp k v es)) ≡ f (k, v) + sum_by f (e ∷ es)
    by Less other again = sum_by-cons f (k, v) (e ∷ es)
    by Equal other again = absurd (other refl)
    by Greater other again = omega (arith, again, sum_by-cons f e (put place_cmp k v es), sum_by-cons f e es)

-- an entry of this name
abbrev HasNamed : List PlacedClass → Text → Type 0
HasNamed es name = (x : PlacedClass) × Contains es x × (x.0.1 ≡ name)

later_named : (e : PlacedClass) (es : List PlacedClass) (name : Text) → HasNamed es name → HasNamed (e ∷ es) name
later_named e es name (x, c, p) = (x, Contains-later e x es c, p)

-- only names that are put occur
put_named : (k : ℕ × Text) (v : Body) (es : List PlacedClass) (x : PlacedClass) → Contains (put place_cmp k v es) x → (k.1 ≡ x.0.1) ⊎ HasNamed es x.0.1
put_named k v [] x c = elim (Contains-cons_cases (k, v) x [] c) [ inl e ↦ inl (ap (λ z. z.0.1) e) | inr l ↦ absurd (Contains-nil x l) ]
put_named k v (e ∷ es) x c = by (place_cmp k e.0) c (put_named k v es x)
  where
    by : (o : Ordering) → Contains (by_order o ((k, v) ∷ e ∷ es) ((e.0, v) ∷ es) (e ∷ put place_cmp k v es)) x → (Contains (put place_cmp k v es) x → (k.1 ≡ x.0.1) ⊎ HasNamed es x.0.1) → (k.1 ≡ x.0.1) ⊎ HasNamed (e ∷ es) x.0.1
    by Less c again = elim (Contains-cons_cases (k, v) x (e ∷ es) c) [ inl p ↦ inl (ap (λ z. z.0.1) p) | inr l ↦ inr (x, l, refl) ]
    by Equal c again = elim (Contains-cons_cases (e.0, v) x es c) [ inl p ↦ inr (e, Contains-first e es, ap (λ z. z.0.1) p) | inr l ↦ inr (x, Contains-later e x es l, refl) ]
    by Greater c again = elim (Contains-cons_cases e x (put place_cmp k v es) c) [
      | inl p ↦ inr (e, Contains-first e es, ap (λ z. z.0.1) p)
      | inr l ↦ elim (again l) [ inl p ↦ inl p | inr n ↦ inr (later_named e es x.0.1 n) ]
    ]

put_all_named : (es : List PlacedClass) (x : PlacedClass) → Contains (put_all es) x → HasNamed es x.0.1
put_all_named [] x c = absurd (Contains-nil x c)
put_all_named (e ∷ es) x c = elim (put_named e.0 e.1 (put_all es) x c) [
  | inl p ↦ (e, Contains-first e es, p)
  | inr n ↦ let m = put_all_named es n.0 n.1 in later_named e es x.0.1 (m.0, m.1, m.2 ∙ n.2)
]

-- the name of an entry is one of the names
named_in : (es : List PlacedClass) (x : PlacedClass) → Contains es x → Contains (map (λ e. e.0.1) es) x.0.1
named_in [] x c = absurd (Contains-nil x c)
named_in (e ∷ es) x c = elim (Contains-cons_cases e x es c) [
  | inl p ↦ (0, omega arith, ap (λ z. z.0.1) p)
  | inr l ↦ Contains-later e.0.1 x.0.1 (map (λ (z : PlacedClass). z.0.1) es) (named_in es x l)
]

put_all_sum : (f : PlacedClass → ℕ) (es : List PlacedClass) → AreDistinct (map (λ e. e.0.1) es) → sum_by f (put_all es) ≡ sum_by f es
put_all_sum f [] d = refl
put_all_sum f (e ∷ es) d =
    let names = map (λ (z : PlacedClass). z.0.1) es in
    let other : (x : PlacedClass) → Contains (put_all es) x → place_cmp e.0 x.0 ≢ Equal =
    λ x c tie. let n = put_all_named es x c in AreDistinct-first e.0.1 names d n.0.0.1 (named_in es n.0 n.1) (n.2 ∙ sym (place_name e.0 x.0 tie)) in
    omega (arith, put_apart f e.0 e.1 (put_all es) other, sum_by-cons f e es, put_all_sum f es (AreDistinct-rest e.0.1 names d))

-- any sum over definitions of different names is the sum over them in order
pub in_class_order-same_sum : (f : Definition → ℕ) (D : List Definition) → AreDistinct (map (λ d. d.0) D) → sum_by f (in_class_order D) ≡ sum_by f D
unfolding in_class_order
in_class_order-same_sum f D distinct =
    let place : Definition → PlacedClass = λ d. ((depth D d.0, d.0), d.1) in
    let back : PlacedClass → Definition = λ e. (e.0.1, e.1) in
    let apart : AreDistinct (map (λ (e : PlacedClass). e.0.1) (map place D)) = subst AreDistinct (sym (names-kept (λ d. depth D d.0) D)) distinct in
    sum_by-map f back (put_all (map place D)) ∙ put_all_sum (λ e. f (back e)) (map place D) apart ∙ sum_by-map (λ e. f (back e)) place D

-- ---- a collection's definitions

both_hold : (a b : Bool) → T (a && b) → T a × T b
both_hold true b h = (tt, h)
both_hold false b h = absurd h

less_holds : (o : Ordering) → T (is_lt o) → o ≡ Less
less_holds Less h = refl
less_holds _ h = absurd h

below_names : (name : Text) (es : List Definition) → T (below_all text_cmp name es) → (other : Text) → Contains (map (λ d. d.0) es) other → text_cmp name other ≡ Less
below_names name [] h other c = absurd (Contains-nil other c)
below_names name (e ∷ es) h other c =
    let parts = both_hold (is_lt (text_cmp name e.0)) (below_all text_cmp name es) h in
    elim (Contains-cons_cases e.0 other (map (λ (d : Definition). d.0) es) c) [
      | inl p ↦ subst (λ t. text_cmp name t ≡ Less) p (less_holds (text_cmp name e.0) parts.0)
      | inr l ↦ below_names name es parts.1 other l
    ]

sorted_rises : (es : List Definition) → T (is_sorted text_cmp es) → Rises text_cmp (map (λ d. d.0) es)
sorted_rises [] h = tt
sorted_rises (e ∷ es) h =
    let parts = both_hold (below_all text_cmp e.0 es) (is_sorted text_cmp es) h in
    (below_names e.0 es parts.0, sorted_rises es parts.1)

-- no two definitions of a collection have one name
pub definitions-distinct : (K : Collection) → AreDistinct (map (λ d. d.0) (definitions K))
definitions-distinct K = AreDistinct-from_Rises text_cmp text_total (map (λ (d : Definition). d.0) (definitions K)) (sorted_rises (definitions K) (entries_sorted K))

named_at : (es : List Definition) (i : ℕ) (d : Definition) → get_or (map (λ e. e.0) es) i d.0 ≡ (get_or es i d).0
named_at (e ∷ es) (suc i) d = named_at es i d
named_at _ _ d = refl
