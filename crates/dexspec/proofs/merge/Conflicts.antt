-- Whether a name has two different definitions is decidable.
use Rattle.dexspec.proofs.Common.{◌≡◌, ◌≢◌, ◌⊎◌, List, refl, subst, inl, inr, Contains}
use Rattle.dexspec.specs.{Text, Definition, IsConflict, IsConsistent}
use Rattle.dexspec.proofs.lists.{some_or_none, text_same_or_not, body_same_or_not}
use Rattle.dexspec.proofs.merge.Depths.{names_in, Contains-map}

module _ (D : List Definition) (name : Text) where
  -- the second has the name, and a body different from the first's
  abbrev IsConflicting : Definition → Definition → Type 0
  IsConflicting d e = (e.0 ≡ name) × (d.1 ≢ e.1)

  -- the first has the name, and some definition differs from it
  abbrev IsOne : Definition → Type 0
  IsOne d = (d.0 ≡ name) × (e : Definition) × Contains D e × (e.0 ≡ name) × (d.1 ≢ e.1)

  -- the first property is decidable
  conflicting_or_not : (d e : Definition) → IsConflicting d e ⊎ (¬ (IsConflicting d e))
  conflicting_or_not d e = elim (text_same_or_not e.0 name) [
    | inr other ↦ inr (λ u. other u.0)
    | inl s ↦ elim (body_same_or_not d.1 e.1) [ inl like ↦ inr (λ u. u.1 like) | inr unequal ↦ inl (s, unequal) ]
  ]

  -- the second property is decidable
  one_or_not : (d : Definition) → IsOne d ⊎ (¬ (IsOne d))
  one_or_not d = elim (text_same_or_not d.0 name) [
    | inr other ↦ inr (λ u. other u.0)
    | inl s ↦ elim (some_or_none (IsConflicting d) D (conflicting_or_not d)) [
      | inl t ↦ inl (s, t.0, t.1, t.2.0, t.2.1)
      | inr none ↦ inr (λ u. none u.1 u.2 (u.3, u.4))
    ]
  ]

  -- a definition of the name, by its body
  named : (d : Definition) → Contains D d → d.0 ≡ name → Contains D (name, d.1)
  named d c e = subst (λ n. Contains D (n, d.1)) e c

  -- a name has two different definitions or not
  pub conflict_or_not : IsConflict D name ⊎ (¬ (IsConflict D name))
  conflict_or_not = elim (some_or_none IsOne D one_or_not) [
    | inl s ↦
        let d = s.0 in
        let e = s.2.1 in
        inl (record { one = d.1; other = e.1; one_in = named d s.1 s.2.0; other_in = named e s.2.2 s.2.3; unequal = s.2.4 })
    | inr none ↦ inr (λ x. none (name, x.one) x.one_in (refl, (name, x.other), x.other_in, refl, x.unequal))
  ]

  -- a name that has a conflict is that of a definition
  pub conflict-name : IsConflict D name → Contains (names_in D) name
  conflict-name x = Contains-map (λ (d : Definition). d.0) D (name, x.one) x.one_in

-- if no name has a conflict, no name has two definitions
pub consistent-from_none : (D : List Definition) → ((name : Text) → ¬ (IsConflict D name)) → IsConsistent D
consistent-from_none D none name one other c d = elim (body_same_or_not one other) [
  | inl like ↦ like
  | inr unequal ↦ absurd (none name (record { one = one; other = other; one_in = c; other_in = d; unequal = unequal }))
]

-- if no name has two definitions, no name has a conflict
pub consistent-apart : (D : List Definition) (name : Text) → IsConsistent D → IsConflict D name → ⊥
consistent-apart D name h x = x.unequal (h name x.one x.other x.one_in x.other_in)
