-- The sources of the members of a sequence, of a list of members, and of a list without repeats.
use Rattle.dexspec.proofs.Common.{ℕ, ◌+◌, Bool, true, false, cond, not, List, [], ◌∷◌, Option, Some, unwrap_or, subst, inl, inr, Ordering, Contains, filter, eq_by_cmp}
use Rattle.std.specs.FinMap.Entries.{find}
use Rattle.dexspec.specs.{Item, Sequence, distinct, annotated, EncodedField, EncodedMethod, EncodedFieldsAt, EncodedMethodsAt, FieldRow, MethodRow}
use Rattle.dexspec.proofs.lists.Members.{Contains-nil, Contains-first, Contains-later, Contains-cons_cases, Contains-filter_source}
pub use Rattle.dexspec.proofs.lists.Mapped.{Contains-map_source as map_source}

-- a member of a sequence is at some offset
pub sequence_source : {X : Type 0} (At : Item X) (b : List ℕ) (o : ℕ) (xs : List X) (n : ℕ) (x : X) → Sequence At b o xs n → Contains xs x → (p : ℕ) × (k : ℕ) × At b p x k
sequence_source At b o [] n x h c = absurd (Contains-nil x c)
sequence_source At b o (y ∷ xs) n x h c = elim (Contains-cons_cases y x xs c) [
  | inl e ↦ (o, h.0, subst (λ z. At b o z h.0) e h.2)
  | inr l ↦ sequence_source At b (o + h.0) xs h.1 x h.3 l
]

-- a list without its repeats has no other members
pub distinct_source : {X : Type 0} (same : X → X → Bool) (xs : List X) (x : X) → Contains (distinct same xs) x → Contains xs x
distinct_source same [] x c = c
distinct_source same (z ∷ xs) x c = elim (Contains-cons_cases z x (filter (λ y. not (same z y)) (distinct same xs)) c) [
  | inl e ↦ subst (Contains (z ∷ xs)) e (Contains-first z xs)
  | inr l ↦ Contains-later z x xs (distinct_source same xs x (Contains-filter_source (λ y. not (same z y)) (distinct same xs) x l).0)
]

-- case split on whether the first entry is the member's
annotated_by : {M X : Type 0} (R : M → M → Ordering) (m : M) (P : List X → Type 0) (e : M × List X) (es : List (M × List X)) (t : Bool) → P e.1 → P (annotated R es m) → P (unwrap_or (cond t (Some e.1) (find R m es)) [])
annotated_by R m P e es true here later = here
annotated_by R m P e es false here later = later

-- the list of a directory for a member is one of its lists, or empty
pub annotated_source : {M X : Type 0} (R : M → M → Ordering) (m : M) (P : List X → Type 0) (es : List (M × List X)) → P [] → ((e : M × List X) → Contains es e → P e.1) → P (annotated R es m)
annotated_source R m P [] none each = none
annotated_source R m P (e ∷ es) none each =
    annotated_by R m P e es (eq_by_cmp R m e.0) (each e (Contains-first e es)) (annotated_source R m P es none (λ d c. each d (Contains-later e d es c)))

-- a declared field has a row
pub field_source : (b : List ℕ) (o : ℕ) (last : Option ℕ) (xs : List EncodedField) (n : ℕ) (x : EncodedField) → EncodedFieldsAt b o last xs n → Contains xs x → (i : ℕ) × FieldRow b i x.field
field_source b o last [] n x h c = absurd (Contains-nil x c)
field_source b o last (y ∷ xs) n x h c = elim (Contains-cons_cases y x xs c) [
  | inl e ↦ (h.4, subst (λ (z : EncodedField). FieldRow b h.4 z.field) e h.8)
  | inr l ↦ field_source b (o + h.0 + h.1) (Some h.4) xs h.2 x h.9 l
]

-- a declared method has a row
pub method_source : (b : List ℕ) (o : ℕ) (last : Option ℕ) (xs : List EncodedMethod) (n : ℕ) (x : EncodedMethod) → EncodedMethodsAt b o last xs n → Contains xs x → (i : ℕ) × MethodRow b i x.method
method_source b o last [] n x h c = absurd (Contains-nil x c)
method_source b o last (y ∷ xs) n x h c = elim (Contains-cons_cases y x xs c) [
  | inl e ↦ (h.5, subst (λ (z : EncodedMethod). MethodRow b h.5 z.method) e h.10)
  | inr l ↦ method_source b (o + h.0 + h.1 + h.2) (Some h.5) xs h.3 x h.11 l
]
