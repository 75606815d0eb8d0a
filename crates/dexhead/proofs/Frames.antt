-- The first ten conditions, one after the other.
use Rattle.dexhead.proofs.Common.{◌≡◌, ◌↔◌, ◌≢◌, IsTrue, inl, inr, ℕ, zero, suc, ◌+◌, ◌<◌, ◌≤◌, List, [], ◌∷◌, length, get_or, ◌*◌, refl, subst, sym, ap, ◌∙◌, arith, Table, StringIds, TypeIds, ProtoIds, FieldIds, MethodIds, ClassDefs, tables, table_size, table_off, row_size, data_off, HasChecksum, HasSignature, AreLaidOut, HasLayout, number, rows_checked, place, Holds, HoldBelow, IsFrame, IsRefused, Condition, cases_lt, IsEarly}
use Rattle.std.specs.Prelude.{Bool, Result, Ok, Err, IsOk, OnOk, IfErr}
use Rattle.dexspec.specs.Rows.{row_at}
use Rattle.dexhead.proofs.Entries.{never}
use Rattle.dexhead.specs.declared.refusal.Refusal.{Refusal}

-- the condition of a number, for the first ten
abbrev of_number : ℕ → Condition
of_number n = get_or (Condition.Size ∷ Condition.Size ∷ Condition.Magic ∷ Condition.Version ∷ Condition.Lengths ∷ Condition.Endian ∷ Condition.Link ∷ Condition.Checksum ∷ Condition.Signature ∷ Condition.Layout ∷ []) n Condition.Map

of_number-number : (c : Condition) → number c ≤ 10 → of_number (number c) ≡ c
of_number-number Condition.Size le = refl
of_number-number Condition.Magic le = refl
of_number-number Condition.Version le = refl
of_number-number Condition.Lengths le = refl
of_number-number Condition.Endian le = refl
of_number-number Condition.Link le = refl
of_number-number Condition.Checksum le = refl
of_number-number Condition.Signature le = refl
of_number-number Condition.Layout le = refl
of_number-number Condition.Map le = refl
of_number-number _ le = absurd (omega arith)

same_number : (c d : Condition) → number c ≤ 10 → number d ≡ number c → d ≡ c
same_number c d le e = sym (of_number-number d (omega arith)) ∙ ap of_number e ∙ of_number-number c le

pub none_below : (b : List ℕ) → HoldBelow 1 b
none_below b Condition.Size lt r row = absurd (omega arith)
none_below b _ lt r row = absurd (omega arith)

-- one more of them holds
pub then_holds : {b : List ℕ} (c : Condition) → number c ≤ 10 → rows_checked c b ≡ 1 → HoldBelow (number c) b → Holds c b 0 → HoldBelow (suc (number c)) b
then_holds {b = b} c le one before holds d lt r row =
    elim (cases_lt (number d) (number c)) [
      | inl l ↦ before d l r row
      | inr not_less ↦
          let is = same_number c d le (omega (arith, lt, not_less)) in
          let zero_is : 0 ≡ r = omega (arith, one, ap (λ c. rows_checked c b) is) in
          subst (λ c. Holds c b r) (sym is) (subst (Holds c b) zero_is holds)
    ]

-- or it does not
pub refused : {b : List ℕ} (c : Condition) → number c ≤ 10 → rows_checked c b ≡ 1 → HoldBelow (number c) b → (Holds c b 0 → ⊥) → IsRefused b (number c) (place c b 0)
refused c le one before fails = (c, 0, refl, refl, inl (omega arith, record { before = before; row = omega arith; rows = λ k lt. absurd (omega arith); fails = fails }))

pub early : {b : List ℕ} {r : Refusal} (c : Condition) → r ≡ record { number = number c; place = place c b 0 } → number c ≤ 10 → rows_checked c b ≡ 1 → HoldBelow (number c) b → (Holds c b 0 → ⊥) → IsEarly b r
early {b = b} c e le one before fails = subst (IsEarly b) (sym e) (record { refused = refused c le one before fails; early = le })

-- what follows from the answer of the last test
pub if_accepted : (r : Result (Unit {0}) Refusal) {holds : Bool} {Q : Type 0} → (IsOk r ↔ IsTrue holds) → (IsTrue holds → Q) → OnOk r Q
if_accepted (Ok _) ok f = f (ok.0 refl)
if_accepted (Err _) ok f = tt

pub if_refused : (r : Result (Unit {0}) Refusal) {holds : Bool} {at : Refusal} (R : Refusal → Type 0) → (IsOk r ↔ IsTrue holds) → IfErr r (λ x. x ≡ at) → ((x : Refusal) → x ≡ at → (IsTrue holds → ⊥) → R x) → IfErr r R
if_refused (Ok _) R ok is f = tt
if_refused (Err x) R ok is f = f x is (λ h. never (ok.1 h))

-- ---- what a frame has

pub long_enough : {b : List ℕ} → HoldBelow 4 b → 112 ≤ length b
long_enough holds = (holds Condition.Size (omega arith) 0 (omega arith)).least

-- the sums are right where they are known to be
pub with_sums : {b : List ℕ} → HoldBelow 7 b → (32 ≤ length b → HasChecksum b) → (32 ≤ length b → HasSignature b) → HoldBelow 9 b
with_sums before checksum signature =
    let size = before Condition.Size (omega arith) 0 (omega arith) in
    then_holds Condition.Signature (omega arith) refl (then_holds Condition.Checksum (omega arith) refl before (checksum (omega (arith, size.least)))) (signature (omega (arith, size.least)))

has_layout : {b : List ℕ} → IsFrame b → HasLayout b
has_layout frame = frame Condition.Layout (omega arith) 0 (omega arith)

-- the data begins in the file
pub data_within : {b : List ℕ} → IsFrame b → data_off b ≤ length b
data_within frame = omega (arith, (frame Condition.Lengths (omega arith) 0 (omega arith)).file, (has_layout frame).data_end)

laid_within : (b : List ℕ) (from : ℕ) (ts : List Table) → AreLaidOut b from ts → from ≤ data_off b
laid_within b from [] h = h
laid_within b from (t ∷ ts) (inl h) = laid_within b from ts h.2
laid_within b from (t ∷ ts) (inr h) = omega (arith, laid_within b (table_off b t + row_size t * table_size b t) ts h.3, h.2)

laid_at : (b : List ℕ) (from : ℕ) (ts : List Table) (k : ℕ) (t : Table) → k < length ts → get_or ts k t ≡ t → AreLaidOut b from ts → table_size b t ≢ 0 → table_off b t + row_size t * table_size b t ≤ data_off b
laid_at b from [] k t lt e h full = absurd (omega arith)
laid_at b from (x ∷ ts) zero t lt e (inl h) full = absurd (full (sym (ap (table_size b) e) ∙ h.0))
laid_at b from (x ∷ ts) zero t lt e (inr h) full = subst (λ t. table_off b t + row_size t * table_size b t ≤ data_off b) e (laid_within b (table_off b x + row_size x * table_size b x) ts h.3)
laid_at b from (x ∷ ts) (suc k) t lt e (inl h) full = laid_at b from ts k t (omega arith) e h.2 full
laid_at b from (x ∷ ts) (suc k) t lt e (inr h) full = laid_at b (table_off b x + row_size x * table_size b x) ts k t (omega arith) e h.3 full

place_of : (t : Table) → (k : ℕ) × (k < length tables) × (get_or tables k t ≡ t)
place_of StringIds = (0, omega arith, refl)
place_of TypeIds = (1, omega arith, refl)
place_of ProtoIds = (2, omega arith, refl)
place_of FieldIds = (3, omega arith, refl)
place_of MethodIds = (4, omega arith, refl)
place_of ClassDefs = (5, omega arith, refl)

rows_more : (t : Table) (i n : ℕ) → i < n → row_size t * i + row_size t ≤ row_size t * n
rows_more StringIds i n lt = omega arith
rows_more _ i n lt = omega arith

-- a row is before the data
pub row_within : {b : List ℕ} (t : Table) (i : ℕ) → IsFrame b → i < table_size b t → row_at b t i + row_size t ≤ length b
row_within {b = b} t i frame lt =
    let at = place_of t in
    omega (arith, laid_at b 112 tables at.0 t at.1 at.2 (has_layout frame).tables (λ e. omega (arith, lt, e)), data_within frame, rows_more t i (table_size b t) lt)
