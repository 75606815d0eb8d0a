-- Visits, one after the other.
use Rattle.dexpool.proofs.Common.{◌≡◌, ◌↔◌, ℕ, ◌+◌, ◌<◌, ◌≤◌, ◌==◌, IsTrue, Bool, true, false, ◌||◌, ◌&&◌, List, [], ◌∷◌, ◌++◌, length, take, map, get_or, refl, ap, sym, ◌∙◌, subst, All, FoldsTo, flat_map, append-nil, take_all, take_more, All-nil, All-cons, All-head, All-tail, Marks, Use, HasMark, AreMarkedToo, marks_of, same_kind, occurs, IsMapped, MapsUse}
use Rattle.std.proofs.lemmas.List.Folds.{list_any-append}
use Rattle.std.proofs.lemmas.Grind.{flat_map-append}
use Rattle.dexpool.specs.declared.visiting.Fits.{Fits}
use Rattle.dexpool.proofs.Parts.{all_of}

-- ---- marks on one list of symbols after the other

or_false : (b : Bool) → b ≡ (b || false)
or_false true = refl
or_false false = refl

or_assoc : (a b c : Bool) → ((a || b) || c) ≡ (a || (b || c))
or_assoc true b c = refl
or_assoc false b c = refl

-- no mark is made
none_marked : (old : Marks) → AreMarkedToo [] old old
none_marked old = record { count = λ j. refl; each = λ j i. or_false (get_or (marks_of j old) i false) }

-- the marks of two lists, one made after the other
pub marked_both : (us vs : List Use) (a b c : Marks) → AreMarkedToo us a b → AreMarkedToo vs b c → AreMarkedToo (us ++ vs) a c
marked_both us vs a b c before more = record {
  count = λ j. more.count j ∙ before.count j;
  each = λ j i.
      more.each j i ∙ ap (λ (t : Bool). t || occurs vs j i) (before.each j i) ∙ or_assoc (get_or (marks_of j a) i false) (occurs us j i) (occurs vs j i)
      ∙ ap (λ (t : Bool). get_or (marks_of j a) i false || t) (sym (list_any-append (λ v. same_kind v.kind j && v.number == i) us vs));
}

-- there still is a mark for what had one
pub still_marked : (us : List Use) (u : Use) (a b : Marks) → AreMarkedToo us a b → HasMark a u → HasMark b u
still_marked us u a b h lt = subst (λ (n : ℕ). u.number < n) (sym (h.count u.kind)) lt

pub still_all : (us vs : List Use) (a b : Marks) → AreMarkedToo us a b → All (HasMark a) vs → All (HasMark b) vs
still_all us vs a b h all = all_of (HasMark a) (HasMark b) vs (λ u lt. still_marked us u a b h lt) all

-- ---- visits of one list after the other

pub visited_both : {V Y : Type 0} (step : V → Y → V → Type 0) (a : V) (xs : List Y) (b : V) (ys : List Y) (c : V) → FoldsTo step a xs b → FoldsTo step b ys c → FoldsTo step a (xs ++ ys) c
visited_both {V} step a [] b ys c p q = subst (λ (v : V). FoldsTo step v ys c) (sym p) q
visited_both {V} step a (x ∷ xs) b ys c p q = (p.0, p.1, visited_both step p.0 xs b ys c p.2 q)

module _ {V X Y : Type 0} (step : V → Y → V → Type 0) (f : X → List Y) where
  -- one item more
  pub visited_more : (xs : List X) (i : ℕ) (d x : X) (a b c : V) → i < length xs → x ≡ get_or xs i d → FoldsTo step a (flat_map f (take i xs)) b → FoldsTo step b (f x) c → FoldsTo step a (flat_map f (take (i + 1) xs)) c
  visited_more xs i d x a b c lt e before more =
      let parts : flat_map f (take (i + 1) xs) ≡ flat_map f (take i xs) ++ f x =
      ap (flat_map f) (take_more xs i d lt) ∙ ap (λ z. flat_map f (take i xs ++ z ∷ [])) (sym e) ∙ flat_map-append f (take i xs) (x ∷ []) ∙ ap (λ ys. flat_map f (take i xs) ++ ys) (append-nil (f x)) in
      subst (λ ys. FoldsTo step a ys c) (sym parts) (visited_both step a (flat_map f (take i xs)) b (f x) c before more)

  pub visited_all : (xs : List X) (i : ℕ) (a b : V) → length xs ≤ i → FoldsTo step a (flat_map f (take i xs)) b → FoldsTo step a (flat_map f xs) b
  visited_all xs i a b end h = subst (λ ys. FoldsTo step a (flat_map f ys) b) (take_all i xs end) h

-- one symbol of each
pub one_each : {X Y : Type 0} (f : X → Y) (xs : List X) → flat_map (λ x. f x ∷ []) xs ≡ map f xs
one_each f [] = refl
one_each f (x ∷ xs) = ap (λ ys. f x ∷ ys) (one_each f xs)

-- marks on each symbol that was visited
pub all_marked : (us : List Use) (a b : Marks) → All (HasMark a) us → FoldsTo (λ p u q. HasMark p u → AreMarkedToo (u ∷ []) p q) a us b → AreMarkedToo us a b
all_marked [] a b all h = subst (λ m. AreMarkedToo [] a m) h (none_marked a)
all_marked (u ∷ us) a b all h = let first = h.1 (All-head (HasMark a) u us all) in marked_both (u ∷ []) us a h.0 b first (all_marked us h.0 b (still_all (u ∷ []) us a h.0 first (All-tail (HasMark a) u us all)) h.2)

-- whether each number that was visited has an image
pub all_fit : (us : List Use) (a b : Fits) → FoldsTo (λ p u q. (q.remap.now ≡ p.remap.now) × (IsTrue q.fit ↔ IsTrue p.fit × IsMapped p.remap.now u.kind u.number)) a us b → IsTrue a.fit → IsTrue b.fit ↔ All (MapsUse a.remap.now) us
all_fit us a b h start = let both = all_fit_from us a b h in ((λ t. (both.0 t).1), (λ all. both.1 (start, all)))
  where
    all_fit_from : (us : List Use) (a b : Fits) → FoldsTo (λ p u q. (q.remap.now ≡ p.remap.now) × (IsTrue q.fit ↔ IsTrue p.fit × IsMapped p.remap.now u.kind u.number)) a us b → IsTrue b.fit ↔ IsTrue a.fit × All (MapsUse a.remap.now) us
    all_fit_from [] a b h = ((λ t. (subst (λ f. IsTrue f.fit) (sym h) t, All-nil (MapsUse a.remap.now))), (λ t. subst (λ f. IsTrue f.fit) h t.0))
    all_fit_from (u ∷ us) a b h =
        let rest = all_fit_from us h.0 b h.2 in (
          (λ t. let more = rest.0 t in let here = h.1.1.0 more.0 in (here.0, All-cons (MapsUse a.remap.now) u us here.1 (subst (λ r. All (MapsUse r) us) h.1.0 more.1))),
          (λ t. rest.1 (h.1.1.1 (t.0, All-head (MapsUse a.remap.now) u us t.1), subst (λ r. All (MapsUse r) us) (sym h.1.0) (All-tail (MapsUse a.remap.now) u us t.1))),
        )
