-- Marks on one list of symbols after the other.
use Rattle.dexclass.proofs.Common.{◌≡◌, ℕ, ◌+◌, ◌<◌, ◌==◌, Bool, true, false, ◌||◌, ◌&&◌, List, [], ◌∷◌, ◌++◌, length, take, get_or, refl, ap, sym, ◌∙◌, subst, arith, length-take, get_or-take, map, option_to_list, members_uses, all_prefix, All, All-contains, Contains, Contains-get_or, Contains-flat_map, flat_map, take_more, append-nil, flat_map-append, eqb-true, and_first, and_second, list_any-source, SymbolKind, Marks, Use, HasMark, IsMarkedUse, marks_of, same_kind, occurs, AreMarkedToo, all_back, still_all}
use Rattle.dexclass.proofs.Mentioned.{same_is, marked_use}
use Rattle.std.proofs.lemmas.List.Folds.{list_any-append}
use Rattle.dexclass.specs.{NumberedClass, HaveMarked, class_uses, text_use, type_use}
use Rattle.dexclass.proofs.OwnUses.{parts_are}

-- ---- one list after the other

-- there is a mark for each after those that were marked
pub rest_marked : (us vs : List Use) (a b : Marks) → AreMarkedToo us a b → All (HasMark a) (us ++ vs) → All (HasMark b) vs
rest_marked us vs a b h all = still_all us vs a b h (all_back (HasMark a) us vs all)

-- ---- from no mark on

-- just these were marked, and others are now
pub have_more : (us vs : List Use) (a b : Marks) → HaveMarked us a → AreMarkedToo vs a b → HaveMarked (us ++ vs) b
have_more us vs a b before more j i = more.each j i ∙ ap (λ (t : Bool). t || occurs vs j i) (before j i) ∙ sym (list_any-append (λ v. same_kind v.kind j && v.number == i) us vs)

-- the symbols of one member more
uses_more : {X : Type 0} (uses : X → List Use) (xs : List X) (i : ℕ) (d : X) → i < length xs → d ≡ get_or xs i d → flat_map uses (take i xs) ++ uses d ≡ flat_map uses (take (i + 1) xs)
uses_more uses xs i d lt e =
    ap (λ l. flat_map uses (take i xs) ++ l) (sym (append-nil (uses d))) ∙ sym (flat_map-append uses (take i xs) (d ∷ []))
    ∙ ap (λ x. flat_map uses (take i xs ++ x ∷ [])) e ∙ ap (flat_map uses) (sym (take_more xs i d lt))

-- marks on one member more
pub have_next : {X : Type 0} (uses : X → List Use) (xs : List X) (i : ℕ) (d : X) (a b : Marks) → i < length xs → d ≡ get_or xs i d → HaveMarked (flat_map uses (take i xs)) a → AreMarkedToo (uses d) a b → HaveMarked (flat_map uses (take (i + 1) xs)) b
have_next uses xs i d a b lt e before more = subst (λ us. HaveMarked us b) (uses_more uses xs i d lt e) (have_more (flat_map uses (take i xs)) (uses d) a b before more)

-- ---- what is marked already

-- what occurs among symbols that are marked is marked
occurs_marked : (us : List Use) (marks : Marks) (j : SymbolKind) (i : ℕ) → All (IsMarkedUse marks) us → occurs us j i ≡ true → get_or (marks_of j marks) i false ≡ true
occurs_marked us marks j i all e =
    let u = list_any-source (λ (u : Use). same_kind u.kind j && u.number == i) us e in
    let kind = same_is u.0.kind j (and_first (same_kind u.0.kind j) (u.0.number == i) u.2) in
    let number : u.0.number ≡ i = eqb-true u.0.number i (and_second (same_kind u.0.kind j) (u.0.number == i) u.2) in
    subst (λ (k : SymbolKind). get_or (marks_of k marks) i false ≡ true) kind (subst (λ (n : ℕ). get_or (marks_of u.0.kind marks) n false ≡ true) number (All-contains (IsMarkedUse marks) us u.0 all u.1))

unchanged : (b o : Bool) → (o ≡ true → b ≡ true) → b ≡ (b || o)
unchanged true o h = refl
unchanged false true h = h refl
unchanged false false h = refl

-- they are marked again, and nothing changes
pub marked_again : (us : List Use) (marks : Marks) → All (IsMarkedUse marks) us → AreMarkedToo us marks marks
marked_again us marks all = record {
  count = λ j. refl;
  each = λ j i. unchanged (get_or (marks_of j marks) i false) (occurs us j i) (λ e. occurs_marked us marks j i all e);
}

-- what occurs in one of the members is marked
pub have_marked : {X : Type 0} (uses : X → List Use) (xs : List X) (x : X) (marks : Marks) → Contains xs x → HaveMarked (flat_map uses xs) marks → All (IsMarkedUse marks) (uses x)
have_marked uses xs x marks has h k d lt =
    let u = get_or (uses x) k d in
    marked_use (flat_map uses xs) marks h u (Contains-flat_map uses xs x u has (Contains-get_or (uses x) k d lt))

-- and stays so
pub stay_marked : (us vs : List Use) (a b : Marks) → AreMarkedToo us a b → All (IsMarkedUse a) vs → All (IsMarkedUse b) vs
stay_marked us vs a b h all k d lt =
    let u = get_or vs k d in
    h.each u.kind u.number ∙ ap (λ (t : Bool). t || occurs us u.kind u.number) (all k d lt)

-- the interfaces of a class occur in it
interfaces_occur : (P : Use → Type 0) (c : NumberedClass) → All P (class_uses c) → All P (map type_use c.interfaces)
interfaces_occur P c h =
    let others = map text_use (option_to_list c.source) ++ members_uses c.members in
    all_prefix P (map type_use c.interfaces) others (all_back P (map type_use (option_to_list c.superclass)) _ (all_back P (type_use c.name ∷ []) _ (subst (All P) (sym (parts_are c.name c.superclass c.interfaces others)) h)))

-- those of one of the first classes are marked
pub first_marked : (cs : List NumberedClass) (i j : ℕ) (d : NumberedClass) (marks : Marks) → j < i → i < length cs → HaveMarked (flat_map class_uses (take i cs)) marks → All (IsMarkedUse marks) (map type_use (get_or cs j d).interfaces)
first_marked cs i j d marks less lt h =
    let few : j < length (take i cs) = omega (arith, less, lt, length-take i cs) in
    let has = subst (λ (c : NumberedClass). Contains (take i cs) c) (get_or-take i cs j d less) (Contains-get_or (take i cs) j d few) in
    interfaces_occur (IsMarkedUse marks) (get_or cs j d) (have_marked class_uses (take i cs) (get_or cs j d) marks has h)
