-- The items of a directory that were read, and their places in the table.
use Rattle.dexval.proofs.Common.{◌≡◌, ℕ, ◌<◌, List, [], ◌∷◌, ◌++◌, length, ap, sym, subst, inl, inr, arith, Option, Some, All, Contains, All-append, All-cons, All-nil, Contains-append_left, Contains-push, DirectoryCache, IsNoted, IsNamedOf, NumberedSet, HoldsPlaces, NamesAll, IsNamedBy, sets_of_members, NumberedTable, Extends, IsListed, IsPlaceIn, set_at}
use Rattle.dexval.proofs.CachedSets.{same_some}
use Rattle.dexval.proofs.TableGrowth.{extends_then, new_then, map_stays, all_as}

-- ---- lists of sets

-- one more set is read, and its place is put into the list
pub list_step : (old mid new : DirectoryCache) (ps qs : List (Option ℕ)) (place : Option ℕ) → IsNoted (λ i. Contains ps (Some i)) (λ i. ⊥) (All (IsPlaceIn mid.table.sets) ps) old mid → IsNoted (λ i. place ≡ Some i) (λ i. ⊥) (IsPlaceIn new.table.sets place) mid new
    → qs ≡ ps ++ place ∷ [] → IsNoted (λ i. Contains qs (Some i)) (λ i. ⊥) (All (IsPlaceIn new.table.sets) qs) old new
list_step old mid new ps qs place h g pushed =
    subst (λ l. IsNoted (λ i. Contains l (Some i)) (λ i. ⊥) (All (IsPlaceIn new.table.sets) l) old new) (sym pushed)
    (record {
      extended = extends_then old.table mid.table new.table h.extended g.extended;
      noted_held = g.noted_held;
      held = All-append (IsPlaceIn new.table.sets) ps (place ∷ []) (all_as (IsPlaceIn mid.table.sets) (IsPlaceIn new.table.sets) g.extended.sets_hold ps h.held) (All-cons (IsPlaceIn new.table.sets) place [] g.held (All-nil (IsPlaceIn new.table.sets)));
      named = new_then old.table mid.table new.table (λ i c. Contains-append_left ps (place ∷ []) (Some i) c) (λ i f. f) (λ i e. subst (Contains (ps ++ place ∷ [])) e (Contains-push ps place)) (λ i f. f) h.named g.named;
    })

-- ---- members

-- the property holds for each of these members
abbrev pub AreNoted : (NumberedTable → Option ℕ → Type 0) → (NumberedTable → Option ℕ → ℕ → Type 0) → (Option ℕ → ℕ → Type 0) → DirectoryCache → DirectoryCache → List (ℕ × ℕ) → Type 0
AreNoted is_held names_set names_list old new es = IsNoted (IsNamedOf (names_set new.table) es) (IsNamedOf names_list es) (All (λ e. is_held new.table (Some e.1)) es) old new

module _ (is_held : NumberedTable → Option ℕ → Type 0) (names_set : NumberedTable → Option ℕ → ℕ → Type 0) (names_list : Option ℕ → ℕ → Type 0) (holds : (t u : NumberedTable) (place : Option ℕ) → Extends t u → is_held t place → is_held u place)
    (names : (t u : NumberedTable) (place : Option ℕ) (i : ℕ) → Extends t u → names_set t place i → names_set u place i) where
  -- one more member is read and added
  pub members_step : (old mid new : DirectoryCache) (es fs : List (ℕ × ℕ)) (number place : ℕ) → AreNoted is_held names_set names_list old mid es → IsNoted (names_set new.table (Some place)) (names_list (Some place)) (is_held new.table (Some place)) mid new
      → fs ≡ es ++ (number, place) ∷ [] → AreNoted is_held names_set names_list old new fs
  members_step old mid new es fs number place h g pushed =
      let Held = λ (e : ℕ × ℕ). is_held new.table (Some e.1) in
      let last = (number, place) ∷ [] in
      subst (AreNoted is_held names_set names_list old new) (sym pushed)
      (record {
        extended = extends_then old.table mid.table new.table h.extended g.extended;
        noted_held = g.noted_held;
        held = All-append Held es last (all_as (λ e. is_held mid.table (Some e.1)) Held (λ e. holds mid.table new.table (Some e.1) g.extended) es h.held) (All-cons Held (number, place) [] g.held (All-nil Held));
        named = new_then old.table mid.table new.table (λ i c. (c.0, c.1, Contains-append_left es last (c.0, c.1) c.2, names mid.table new.table (Some c.1) i g.extended c.3)) (λ i c. (c.0, c.1, Contains-append_left es last (c.0, c.1) c.2, c.3))
            (λ i c. (number, place, Contains-push es (number, place), c)) (λ i c. (number, place, Contains-push es (number, place), c)) h.named g.named;
      })

-- ---- directories

-- a member with its set
abbrev with_set : NumberedTable → ℕ × ℕ → ℕ × NumberedSet
with_set t e = (e.0, set_at t.sets (Some e.1))

named_by : (es : List (ℕ × ℕ)) (i : ℕ) → IsNamedOf (λ place i. place ≡ Some i) es i → IsNamedBy es i
named_by es i h = (h.0, subst (λ (p : ℕ). Contains es (h.0, p)) (same_some h.3) h.2)

none_in : {X : Type 0} (xs : List X) (i : ℕ) → xs ≡ [] → i < length xs → ⊥
none_in xs i e lt = let n : length xs ≡ 0 = ap length e in omega (arith, n, lt)

module _ (old first second third new : DirectoryCache) (own : Option ℕ) (fields methods parameters : List (ℕ × ℕ)) (of_own : IsNoted (λ i. own ≡ Some i) (λ i. ⊥) (IsPlaceIn first.table.sets own) old first)
    (of_fields : IsNoted (IsNamedOf (λ place i. place ≡ Some i) fields) (IsNamedOf (λ place i. ⊥) fields) (All (λ e. IsPlaceIn second.table.sets (Some e.1)) fields) first second)
    (of_methods : IsNoted (IsNamedOf (λ place i. place ≡ Some i) methods) (IsNamedOf (λ place i. ⊥) methods) (All (λ e. IsPlaceIn third.table.sets (Some e.1)) methods) second third)
    (of_parameters : IsNoted (IsNamedOf (λ place i. IsListed new.table i) parameters) (IsNamedOf (λ place i. place ≡ Some i) parameters) (All (λ e. IsPlaceIn new.table.lists (Some e.1)) parameters) third new) where
  from_second : Extends second.table new.table
  from_second = extends_then second.table third.table new.table of_methods.extended of_parameters.extended

  from_first : Extends first.table new.table
  from_first = extends_then first.table second.table new.table of_fields.extended from_second

  pub directory_held : HoldsPlaces new.table own fields methods parameters
  directory_held = record {
    own_held = from_first.sets_hold own of_own.held;
    fields_held = all_as (λ e. IsPlaceIn second.table.sets (Some e.1)) (λ e. IsPlaceIn new.table.sets (Some e.1)) (λ e. from_second.sets_hold (Some e.1)) fields of_fields.held;
    methods_held = all_as (λ e. IsPlaceIn third.table.sets (Some e.1)) (λ e. IsPlaceIn new.table.sets (Some e.1)) (λ e. of_parameters.extended.sets_hold (Some e.1)) methods of_methods.held;
    parameters_held = of_parameters.held;
  }

  pub directory_named : old.table.sets ≡ [] → old.table.lists ≡ [] → NamesAll new.table own fields methods parameters
  directory_named sets lists = record {
    sets_named = λ i lt. elim (of_parameters.named.set_named i lt) [
      | inl in_third ↦ elim (of_methods.named.set_named i in_third) [
        | inl in_second ↦ elim (of_fields.named.set_named i in_second) [
          | inl in_first ↦ elim (of_own.named.set_named i in_first) [
            | inl before ↦ absurd (none_in old.table.sets i sets before)
            | inr is_own ↦ inl is_own
          ]
          | inr of_field ↦ inr (inl (named_by fields i of_field))
        ]
        | inr of_method ↦ inr (inr (inl (named_by methods i of_method)))
      ]
      | inr listed ↦ inr (inr (inr listed.3))
    ];
    lists_named = λ i lt. elim (of_parameters.named.list_named i lt) [
      | inl in_third ↦ elim (of_methods.named.list_named i in_third) [
        | inl in_second ↦ elim (of_fields.named.list_named i in_second) [
          | inl in_first ↦ elim (of_own.named.list_named i in_first) [
            | inl before ↦ absurd (none_in old.table.lists i lists before)
            | inr none ↦ absurd none
          ]
          | inr none ↦ absurd none.3
        ]
        | inr none ↦ absurd none.3
      ]
      | inr of_method ↦ named_by parameters i of_method
    ];
  }

  -- an item that was looked up during reading is the same at the end
  pub own_stays : set_at new.table.sets own ≡ set_at first.table.sets own
  own_stays = from_first.sets_stay own of_own.held

  pub fields_stay : sets_of_members new.table fields ≡ sets_of_members second.table fields
  fields_stay = map_stays (with_set second.table) (with_set new.table) (λ e. IsPlaceIn second.table.sets (Some e.1)) (λ e h. ap (λ (s : NumberedSet). (e.0, s)) (from_second.sets_stay (Some e.1) h)) fields of_fields.held

  pub methods_stay : sets_of_members new.table methods ≡ sets_of_members third.table methods
  methods_stay =
      map_stays (with_set third.table) (with_set new.table) (λ e. IsPlaceIn third.table.sets (Some e.1)) (λ e h. ap (λ (s : NumberedSet). (e.0, s)) (of_parameters.extended.sets_stay (Some e.1) h)) methods of_methods.held
