-- What bytes begin with, where they begin with the spelling of a unit.
use Rattle.dexstr.proofs.Common.{◌≡◌, ℕ, suc, ◌+◌, ◌-◌, ◌*◌, ◌/◌, ◌%◌, ◌<◌, ◌≤◌, List, [], ◌∷◌, ◌⊎◌, refl, ap, sym, ◌∙◌, arith, pointwise, same_from_decides, Decides-like, Decides-eqb, Bool, ◌==◌, Option, Some, None, IfNone, lt-ltb, le-ltb, Shape, One, Two, Three, shape_of, form, spelling, AreUnits, flat_map-cons, append_cancel_left, units_of, IsSpelling, BeginsWithUnit, BeginsWithNone, IsNoTail}
use Rattle.std.proofs.lemmas.Slice.Eq.{slice_eq-Decides}

-- the bytes of the first unit
pub shape : (bytes : List ℕ) (u : ℕ) (rest : List ℕ) → BeginsWithUnit bytes u rest → Shape bytes u rest
shape bytes u rest begins = rw begins.parts (shape_of u rest begins.unit)

pub any_none : {X : Type 0} {P : Type 0} (r : Option X) → P → IfNone r P
any_none None p = p
any_none (Some x) p = tt

no_second' : (a : ℕ) (bs : List ℕ) (u : ℕ) (rest : List ℕ) → 0x80 ≤ a → IsNoTail bs → Shape (a ∷ bs) u rest → ⊥
no_second' a bs u rest high none (One some small e) = let h : a ≡ u = cc in omega arith
no_second' a bs u rest high none (Two which small e) = let h : bs ≡ (0x80 + u % 64) ∷ rest = cc in let no = rw h at none in no (u % 64) (omega arith) refl
no_second' a bs u rest high none (Three large small e) = let h : bs ≡ (0x80 + u / 64 % 64) ∷ (0x80 + u % 64) ∷ rest = cc in let no = rw h at none in no (u / 64 % 64) (omega arith) refl

pub no_second : (bytes : List ℕ) (a : ℕ) (bs : List ℕ) → bytes ≡ a ∷ bs → 0x80 ≤ a → IsNoTail bs → BeginsWithNone bytes
no_second bytes a bs e high none = λ u rest begins. no_second' a bs u rest high none (let s = shape bytes u rest begins in rw e at s)

no_third' : (a x : ℕ) (bs : List ℕ) (u : ℕ) (rest : List ℕ) → 0xe0 ≤ a → IsNoTail bs → Shape (a ∷ x ∷ bs) u rest → ⊥
no_third' a x bs u rest high none (One some small e) = let h : a ≡ u = cc in omega arith
no_third' a x bs u rest high none (Two which small e) = let h : a ≡ 0xc0 + u / 64 = cc in omega arith
no_third' a x bs u rest high none (Three large small e) = let h : bs ≡ (0x80 + u % 64) ∷ rest = cc in let no = rw h at none in no (u % 64) (omega arith) refl

pub no_third : (bytes : List ℕ) (a x : ℕ) (bs cs : List ℕ) → bytes ≡ a ∷ bs → bs ≡ x ∷ cs → 0xe0 ≤ a → IsNoTail cs → BeginsWithNone bytes
no_third bytes a x bs cs e f high none = λ u rest begins. no_third' a x cs u rest high none (let s = shape bytes u rest begins in let t = rw e at s in rw f at t)

-- ---- units

two_units : (u : ℕ) (rest : List ℕ) → (u ≡ 0) ⊎ (0x80 ≤ u) → u < 0x800 → units_of ((0xc0 + u / 64) ∷ (0x80 + u % 64) ∷ rest) ≡ u ∷ units_of rest
two_units u [] which small =
    let e : 64 * ((0xc0 + u / 64) - 0xc0) + ((0x80 + u % 64) - 0x80) ≡ u = omega arith in
    rw (le-ltb (0xc0 + u / 64) 0x80 (omega arith), e) refl
two_units u (c ∷ rest) which small =
    let e : 64 * ((0xc0 + u / 64) - 0xc0) + ((0x80 + u % 64) - 0x80) ≡ u = omega arith in
    rw (le-ltb (0xc0 + u / 64) 0x80 (omega arith), lt-ltb (0xc0 + u / 64) 0xe0 (omega arith), e) refl

three_units : (u : ℕ) (rest : List ℕ) → 0x800 ≤ u → u < 0x10000 → units_of ((0xe0 + u / 4096) ∷ (0x80 + u / 64 % 64) ∷ (0x80 + u % 64) ∷ rest) ≡ u ∷ units_of rest
three_units u rest large small =
    let e : 4096 * ((0xe0 + u / 4096) - 0xe0) + 64 * ((0x80 + u / 64 % 64) - 0x80) + ((0x80 + u % 64) - 0x80) ≡ u = omega arith in
    rw (le-ltb (0xe0 + u / 4096) 0x80 (omega arith), le-ltb (0xe0 + u / 4096) 0xe0 (omega arith), e) refl

one_unit : (u : ℕ) (rest : List ℕ) → u < 0x80 → units_of (u ∷ rest) ≡ u ∷ units_of rest
one_unit u [] small = refl
one_unit u (b ∷ []) small = rw (lt-ltb u 0x80 small) refl
one_unit u (b ∷ c ∷ rest) small = rw (lt-ltb u 0x80 small) refl

units_by : (bytes : List ℕ) (u : ℕ) (rest : List ℕ) → Shape bytes u rest → units_of bytes ≡ u ∷ units_of rest
units_by bytes u rest (One some small e) = rw e (one_unit u rest small)
units_by bytes u rest (Two which small e) = rw e (two_units u rest which small)
units_by bytes u rest (Three large small e) = rw e (three_units u rest large small)

pub units_of-unit : (bytes : List ℕ) (u : ℕ) (rest : List ℕ) → BeginsWithUnit bytes u rest → units_of bytes ≡ u ∷ units_of rest
units_of-unit bytes u rest begins = units_by bytes u rest (shape bytes u rest begins)

pub units_of-spelling : (us : List ℕ) → AreUnits us → units_of (spelling us) ≡ us
units_of-spelling [] units = refl
units_of-spelling (u ∷ us) units =
    let here : BeginsWithUnit (spelling (u ∷ us)) u (spelling us) = record { unit = units 0 0 (omega arith); parts = flat_map-cons form u us } in
    units_of-unit (spelling (u ∷ us)) u (spelling us) here ∙ ap (λ (x : List ℕ). u ∷ x) (units_of-spelling us (λ k d lt. units (suc k) d (omega arith)))

-- what a text keeps, at its first unit
pub record Step (bytes : List ℕ) (u : ℕ) (rest : List ℕ) : Type 0 where
  pub units : units_of bytes ≡ u ∷ units_of rest
  pub spells : IsSpelling rest

pub step : (bytes : List ℕ) (u : ℕ) (rest : List ℕ) → IsSpelling bytes → BeginsWithUnit bytes u rest → Step bytes u rest
step bytes u rest spells begins =
    let units = units_of-unit bytes u rest begins in
    let parts = rw (units, flat_map-cons, begins.parts) at spells.parts in
    record { units = units; spells = record { parts = append_cancel_left (form u) (spelling (units_of rest)) rest parts; units = let all = rw units at spells.units in (λ k d lt. all (suc k) d (omega arith)) } }

ends' : (bytes us : List ℕ) → AreUnits us → spelling us ≡ bytes → BeginsWithNone bytes → us ≡ []
ends' bytes [] units e none = refl
ends' bytes (u ∷ us) units e none = absurd (none u (spelling us) (record { unit = units 0 0 (omega arith); parts = sym e ∙ flat_map-cons form u us }))

pub ends : (bytes : List ℕ) → IsSpelling bytes → BeginsWithNone bytes → units_of bytes ≡ []
ends bytes spells none = ends' bytes (units_of bytes) spells.units spells.parts none

-- texts are equal where their bytes are
pub same_texts : (a b us vs : List ℕ) (r : Bool) → IsSpelling a → IsSpelling b → units_of a ≡ us → units_of b ≡ vs → r ≡ pointwise ◌==◌ a b → r ≡ pointwise ◌==◌ us vs
same_texts a b us vs r of_a of_b view_a view_b is =
    let same_units : a ≡ b → us ≡ vs = λ e. sym view_a ∙ ap units_of e ∙ view_b in
    let same_bytes : us ≡ vs → a ≡ b = λ e. sym of_a.parts ∙ ap spelling (view_a ∙ e ∙ sym view_b) ∙ of_b.parts in
    same_from_decides r (pointwise ◌==◌ us vs) (Decides-like r same_units same_bytes (slice_eq-Decides Decides-eqb a b r is)) (slice_eq-Decides Decides-eqb us vs (pointwise ◌==◌ us vs) refl)
