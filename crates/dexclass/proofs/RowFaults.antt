-- The faults of class rows as they are read.
use Rattle.dexclass.proofs.Common.{◌≡◌, ℕ, zero, suc, ◌+◌, ◌*◌, ◌-◌, ◌<◌, ◌≤◌, List, [], ◌∷◌, length, map, refl, sym, ap, subst, arith, inl, inr, ClassDefs, table_size, Definition, class_idx, interfaces_off, Mentions, mentions, weight, mentions_weight, most_weight, Condition, number, HasClass, HoldBelow, AreRows, FailsAt, place, rows_checked, IsRefused, AreReadable, ArePools, ItemFault, Refused, Memory, AreHeavyMembers, IsMembersFault, IsMembersFaultWithin, type_at}
use Rattle.std.proofs.Math.Nat.{eq-or-lt_of_le}
use Rattle.dexpool.specs.declared.faults.ItemFault.TheVariants as items
use Rattle.dexids.specs.declared.faults.ReadFault.{ReadFault}
use Rattle.dexids.specs.Reading.{listed}
use Rattle.dexclass.specs.internal.Rows.{IsClassFault}
use Rattle.dexclass.specs.internal.Checked.{IsFaultAtRow}
use Rattle.dexclass.specs.{definition_of, IsFaultOf}
use Rattle.dexclass.specs.internal.Reading.{bodies_weight, AreBodies, AreHeavy}
use Rattle.dexclass.specs.internal.ReadWithin.{IsFaultWithin}
use Rattle.dexclass.specs.declared.reading.Bodies.{Bodies}
use Rattle.dexclass.proofs.EmptyPrograms.{nothing_weighs}
use Rattle.dexclass.proofs.RowClasses.{row_body, row_weight, row_encoded}
use Rattle.dexclass.proofs.RowsBelow.{weight_is, too_heavy, heavy_row}

-- condition 16
pub class_fault : (b : List ℕ) (f : ReadFault) → IsClassFault b f → IsFaultOf b f
class_fault b Memory h = tt
class_fault b (Refused r) h = (Condition.Classes, r.place, h.0, refl, inl (omega (arith, h.0), h.1))

-- ---- conditions 17 to 22

-- they are checked at class rows, and their rows are reported
late_row : (b : List ℕ) (r : ℕ) (c : Condition) → 17 ≤ number c → (rows_checked c b ≡ table_size b ClassDefs) × (r ≡ place c b r)
late_row b r Condition.Members late = (refl, refl)
late_row b r Condition.Code late = (refl, refl)
late_row b r Condition.Tries late = (refl, refl)
late_row b r Condition.Debug late = (refl, refl)
late_row b r Condition.Values late = (refl, refl)
late_row b r Condition.Annotations late = (refl, refl)
late_row b r Condition.Weight late = (refl, refl)
late_row b r _ late = absurd (omega (arith, late))

-- a number of an item's fault is refused at the row
pub item_refused : (b : List ℕ) (r n : ℕ) → HoldBelow 17 b → r < table_size b ClassDefs → IsMembersFault b r (items.Refused n) → IsRefused b n r
item_refused b r n h lt fault =
    let late : 17 ≤ number fault.0 = omega (arith, fault.1, fault.2) in
    let at = late_row b r fault.0 late in
    (fault.0, r, fault.1, at.1, inr (record { before = h; late = late; row = omega (arith, lt, at.0); fails = fault.4 }))

-- the fault of a row
pub row_fault : (b : List ℕ) (r : ℕ) (members : ItemFault) (fault : ReadFault) → IsFaultAtRow members r fault → HoldBelow 17 b → r < table_size b ClassDefs → IsMembersFault b r members → IsFaultOf b fault
row_fault b r items.Memory fault is h lt m = subst (IsFaultOf b) (sym is) tt
row_fault b r (items.Refused n) fault is h lt m = subst (IsFaultOf b) (sym is) (item_refused b r n h lt m)

-- ---- condition 23

-- a row where it fails
pub heavy_refused : (b : List ℕ) (r : ℕ) → FailsAt Condition.Weight b r → IsRefused b 23 r
heavy_refused b r h = (Condition.Weight, r, refl, refl, inr h)

module _ (b : List ℕ) (m : Mentions) (pools : ArePools b m) (h : HoldBelow 17 b) (r : ℕ) (bodies : Bodies) (before : AreBodies b m r bodies) (lt : r < table_size b ClassDefs) where
  has_class : HasClass b r
  has_class = h Condition.Classes (omega arith) r lt

  -- what the row declares weighs more than is left
  members_heavy : (most : ℕ) → most ≡ most_weight - bodies.weight - (96 + 2 * length (listed b (interfaces_off b r))) → AreHeavyMembers b r most → IsRefused b 23 r
  members_heavy most left heavy =
      heavy_refused b r (heavy_row b h r (map (definition_of m) bodies.classes.items) (type_at m (class_idx b r), row_body b m r heavy.members) lt before.readable before.rows heavy.readable (row_encoded b m pools r heavy.members lt has_class heavy.row)
      (omega (arith, left, heavy.heavy, row_weight b m r heavy.members, before.weight_is)))

  -- the fault of a row that is read within what is left
  pub row_fault_within : (most : ℕ) → most ≡ most_weight - bodies.weight - (96 + 2 * length (listed b (interfaces_off b r))) → (members : ItemFault) (fault : ReadFault) → IsFaultAtRow members r fault → IsMembersFaultWithin b r most members → IsFaultOf b fault
  row_fault_within most left items.Memory fault is m = subst (IsFaultOf b) (sym is) tt
  row_fault_within most left (items.Refused n) fault is (inl m) = row_fault b r (items.Refused n) fault is h lt m
  row_fault_within most left (items.Refused n) fault is (inr m) = subst (IsFaultOf b) (sym is) (subst (λ (k : ℕ). IsRefused b k r) (sym m.0) (members_heavy most left m.1))

-- ---- what is read within a weight

-- a fault of the file
pub file_fault : (b : List ℕ) (limit : ℕ) (fault : ReadFault) → IsFaultOf b fault → IsFaultWithin limit b fault
file_fault b limit Memory h = h
file_fault b limit (Refused r) h = inl h

module _ (b : List ℕ) (m : Mentions) (pools : ArePools b m) (h : HoldBelow 17 b) (r : ℕ) (bodies : Bodies) (before : AreBodies b m r bodies) (lt : r < table_size b ClassDefs) (limit : ℕ) where
  -- the fault of a row of a reader within less
  early_fault : limit < most_weight → (most : ℕ) (members : ItemFault) (fault : ReadFault) → IsFaultAtRow members r fault → IsMembersFaultWithin b r most members → IsFaultWithin limit b fault
  early_fault less most items.Memory fault is m = subst (IsFaultWithin limit b) (sym is) tt
  early_fault less most (items.Refused n) fault is (inl m) = file_fault b limit fault (row_fault b r (items.Refused n) fault is h lt m)
  early_fault less most (items.Refused n) fault is (inr m) = subst (IsFaultWithin limit b) (sym is) (inr (m.0, less))

  -- the fault of a row
  pub row_fault_up_to : limit ≤ most_weight → (most : ℕ) → most ≡ limit - bodies.weight - (96 + 2 * length (listed b (interfaces_off b r))) → (members : ItemFault) (fault : ReadFault) → IsFaultAtRow members r fault → IsMembersFaultWithin b r most members
      → IsFaultWithin limit b fault
  row_fault_up_to le most left members fault is within = elim (eq-or-lt_of_le le) [
    | inl same ↦ file_fault b limit fault (row_fault_within b m pools h r bodies before lt most (omega (arith, left, same)) members fault is within)
    | inr less ↦ early_fault less most members fault is within
  ]

-- what weighs more than the limit
pub heavy_within : (b : List ℕ) (r limit heavy : ℕ) → limit ≤ most_weight → limit < heavy → (most_weight < heavy → IsRefused b 23 r) → IsFaultWithin limit b (Refused (record { number = 23; place = r }))
heavy_within b r limit heavy le more refused = elim (eq-or-lt_of_le le) [
  | inl same ↦ inl (refused (omega (arith, same, more)))
  | inr less ↦ inr (refl, less)
]

-- what weighs too much is of some row
some_rows : (b : List ℕ) (n : ℕ) (D : List Definition) → AreRows b n D → most_weight < weight D → 0 < n
some_rows b zero [] rows heavy = absurd (omega (arith, heavy, nothing_weighs))
some_rows b zero (d ∷ D) rows heavy = absurd rows
some_rows b (suc n) D rows heavy = omega arith

-- symbols and classes weigh too much together
pub together_fault : (b : List ℕ) → HoldBelow 17 b → (D : List Definition) → AreReadable b → AreRows b (table_size b ClassDefs) D → (n : Mentions) (bodies last : ℕ) → n ≡ mentions D → bodies ≡ bodies_weight D
    → last ≡ table_size b ClassDefs - 1 → AreHeavy n bodies → IsFaultOf b (Refused (record { number = 23; place = last }))
together_fault b h D readable rows n bodies last is sum at heavy =
    let more : most_weight < weight D = omega (arith, heavy, ap mentions_weight is, sum, weight_is D) in
    let before : table_size b ClassDefs ≡ last + 1 = omega (arith, some_rows b (table_size b ClassDefs) D rows more, at) in (
      Condition.Weight,
      last,
      refl,
      refl,
      inr (too_heavy b h last D (omega (arith, before)) (λ k le. readable k (omega (arith, before, le))) (subst (λ (k : ℕ). AreRows b k D) before rows) more),
    )
