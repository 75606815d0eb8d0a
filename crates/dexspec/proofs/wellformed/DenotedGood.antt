-- The collection that a file denotes is good under the greatest caps, if its symbols have rows.
use Rattle.dexspec.proofs.Common.{◌≡◌, ℕ, zero, suc, ◌+◌, ◌-◌, ◌<◌, ◌≤◌, List, [], ◌∷◌, refl, subst, arith, inl, inr, Contains, cases_lt}
use Rattle.dexspec.specs.{AreDistinct, Text, ClassDefs, table_size, StringRow, Definition, Collection, definitions, Defines, Denotes, AreWithin, mentions, weight, most_weight, IsGood, greatest_caps, HasShortString, Condition, AreRows, IsAccepted}
use Rattle.dexspec.proofs.lists.Members.{Contains-nil}
use Rattle.dexspec.proofs.merge.{weight-within, definitions-are, collection-consistent}
use Rattle.dexspec.proofs.wellformed.Fitting.{DefinitionsHaveRows, rows_fit}
use Rattle.dexspec.proofs.wellformed.ClassDepths.{rows_acyclic}
use Rattle.dexspec.proofs.determined.Denoted.{HasClasses, has_classes, accepted_readable, readable_rows, denoted_rows}

-- ---- weight

-- no definitions have a small weight
nothing_light : (E : List Definition) → AreWithin E [] → weight E ≤ most_weight
unfolding weight mentions
nothing_light [] h = omega arith
nothing_light (d ∷ ds) h = absurd (Contains-nil d (h d (0, omega arith, refl)))

-- no rows are no definitions
no_rows : (b : List ℕ) (n : ℕ) (D : List Definition) → n ≡ 0 → AreRows b n D → D ≡ []
no_rows b zero [] e h = refl
no_rows b zero (d ∷ ds) e h = absurd h
no_rows b (suc n) D e h = absurd (omega arith)

module _ (b : List ℕ) (h : IsAccepted b) where
  -- the rows of an accepted file
  pub accepted_classes : HasClasses b
  accepted_classes = has_classes b (λ c lt. h c)

  -- and their definitions
  accepted_rows : (D : List Definition) × AreRows b (table_size b ClassDefs) D
  accepted_rows = readable_rows b accepted_classes (table_size b ClassDefs) (omega arith) (accepted_readable b h)

  -- definitions that an accepted file denotes do not weigh too much
  pub denoted_light : (K : Collection) → Denotes b K → (E : List Definition) → AreDistinct E → AreWithin E (definitions K) → weight E ≤ most_weight
  denoted_light K denotes E distinct within =
      let D = accepted_rows.0 in
      let rows = accepted_rows.1 in
      let among : AreWithin E D = λ d c. (denoted_rows b accepted_classes D rows K denotes d).0 (within d c) in
      elim (cases_lt 0 (table_size b ClassDefs)) [
        | inl some ↦
            let last = table_size b ClassDefs - 1 in
            let all : table_size b ClassDefs ≡ last + 1 = omega arith in
            let light = h Condition.Weight last (omega arith) D (λ k le. accepted_readable b h k (omega arith)) (subst (λ (n : ℕ). AreRows b n D) all rows) in
            omega (arith, light, weight-within E D distinct among)
        | inr none ↦ nothing_light E (subst (AreWithin E) (no_rows b (table_size b ClassDefs) D (omega arith) rows) among)
      ]

  -- a member of the denoted collection is a class row
  pub member_row : (K : Collection) → Denotes b K → (d : Definition) → Contains (definitions K) d → Defines b d.0 d.1
  member_row K denotes d c = (denotes d.0 d.1).0 ((definitions-are K d.0 d.1).1 c)

  -- if the symbols have rows, the collection is good
  pub good_from_rows : (K : Collection) → Denotes b K → DefinitionsHaveRows b (definitions K) → ((s : Text) → HasShortString (definitions K) s → (i : ℕ) × (i < 65536) × StringRow b i s) → IsGood greatest_caps (definitions K)
  good_from_rows K denotes rows short = record {
    consistent = collection-consistent (definitions K) K (definitions-are K);
    acyclic = rows_acyclic b accepted_classes (definitions K) (member_row K denotes);
    fits = rows_fit b (definitions K) rows (h Condition.Layout 0 (omega arith)) accepted_classes.strings short (denoted_light K denotes);
  }
