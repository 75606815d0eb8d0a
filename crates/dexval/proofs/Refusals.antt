-- Refusals of annotations, sets and directories.
use Rattle.dexval.proofs.Common.{◌≡◌, ◌≢◌, ◌∙◌, ℕ, ◌+◌, ◌-◌, ◌^◌, ◌≤◌, min, List, Option, None, Some, MatchOption, Result, Err, IfSome, refl, ap, arith, inl, inr, IsErrAnd, DirectoryAt, ItemFault, Budget, Refuses, IsRefusal, directory_weight, IsDirectoryFaultWithin, Counts, IsFaultWithin, IsTooHeavy}
use Rattle.std.specs.Prelude.{IfOk, IfErr, ok_or}
use Rattle.std.proofs.lemmas.Result.{err_from_is_err_and}
use Rattle.dexpool.specs.declared.faults.ItemFault.TheVariants.{Refused, Memory}

-- what the exit of a `?` returns, where the fault stays as it is
pub err_is : {T E : Type 0} {fault : E} (r : Result T E) → IsErrAnd r (λ y. y ≡ fault) → r ≡ Err fault
err_is r h = let e = err_from_is_err_and r h in e.1 ∙ ap (λ y. Err y) e.2

-- if one statement implies another, so do their refusals
pub refuses_so : {P Q : Type 0} (number : ℕ) → (P → Q) → (fault : ItemFault) → Refuses number P fault → Refuses number Q fault
refuses_so number so (Refused n) h = (h.0, so h.1)
refuses_so number so Memory h = h

-- the item that was found, or a refusal where nothing is there
pub found_or : {X : Type 0} (Absent : Type 0) (Found : X → Type 0) (r : Option X) (fault : ItemFault) → MatchOption r Absent Found → IfOk (ok_or r fault) Found
found_or Absent Found None fault h = tt
found_or Absent Found (Some x) fault h = h

pub held_or : {X : Type 0} (P : X → Type 0) (r : Option X) (fault : ItemFault) → IfSome r P → IfOk (ok_or r fault) P
held_or P None fault h = tt
held_or P (Some x) fault h = h

pub refused_or : {X : Type 0} (Absent : Type 0) (Found : X → Type 0) (r : Option X) (number : ℕ) → MatchOption r Absent Found → IfErr (ok_or r (Refused number)) (Refuses number Absent)
refused_or Absent Found None number h = (refl, h)
refused_or Absent Found (Some x) number h = tt

-- nothing is there, if nothing was found
pub none_found : {X : Type 0} (Absent : Type 0) (Found : X → Type 0) (r : Option X) → ((x : X) → r ≢ Some x) → MatchOption r Absent Found → Absent
none_found Absent Found None none h = h
none_found Absent Found (Some x) none h = absurd (none x refl)

-- ---- items that are counted

-- nothing was counted
pub none_counted : (budget : Budget) → Counts budget budget 0
none_counted budget = record { grown = omega arith; same_most = refl; within = λ le. le }

-- a part of what weighs `total` has the property At, and weighs no more than what `before` leaves
pub record HasPart {Y : Type 0} (At : Y → Type 0) (weighs : Y → ℕ) (before total : ℕ) : Type 0 where
  pub part : Y
  pub is : At part
  pub lighter : before + weighs part ≤ total

-- no item is there
pub refused_within : {P Y : Type 0} (At : Y → Type 0) (weighs : Y → ℕ) (before most : ℕ) → (P → (y : Y) → At y → ⊥) → (fault : ItemFault) → IsRefusal P fault → IsFaultWithin At weighs before most fault
refused_within At weighs before most so (Refused number) h = inl (h.0, so h.1)
refused_within At weighs before most so Memory h = tt

-- the part that is next is not there or too heavy, and so is the whole
pub part_refused : {X Y : Type 0} (Whole : X → Type 0) (Part : Y → Type 0) (all : X → ℕ) (one : Y → ℕ) (old new : Budget) (n : ℕ) → Counts old new n → ((x : X) → Whole x → HasPart Part one n (all x)) → (fault : ItemFault)
    → IsFaultWithin Part one new.weight new.most fault → IsFaultWithin Whole all old.weight old.most fault
part_refused Whole Part all one old new n counted parts (Refused number) h = elim h [
  | inl none ↦ inl (none.0, λ x k. none.1 (parts x k).part (parts x k).is)
  | inr heavy ↦ inr (heavy.0, omega (arith, heavy.1, counted.same_most), λ x k. let y = parts x k in omega (arith, heavy.1, heavy.2 y.part y.is, y.lighter, counted.grown, counted.same_most))
]
part_refused Whole Part all one old new n counted parts Memory h = tt

-- the item that is there is too heavy
pub item_refused : {Y : Type 0} (At : Y → Type 0) (weighs : Y → ℕ) (budget : Budget) (item : Y) (weight : ℕ) → ((x y : Y) → At x → At y → x ≡ y) → At item → weight ≡ min (2 ^ 64 - 1) (weighs item) → (fault : ItemFault) → IsTooHeavy budget weight fault
    → IsFaultWithin At weighs budget.weight budget.most fault
item_refused At weighs budget item weight one is e =
    part_refused At (λ n. n ≡ weight) weighs (λ n. n) budget budget 0 (none_counted budget) (λ y k. record { part = weight; is = refl; lighter = omega (arith, e, ap weighs (one item y is k)) })

-- no directory is at the offset, or it is too heavy
pub directory_refused_within : (b : List ℕ) (off most : ℕ) (fault : ItemFault) → IsFaultWithin (DirectoryAt b off) directory_weight 0 most fault → IsDirectoryFaultWithin b off most fault
directory_refused_within b off most (Refused number) h = elim h [ inl none ↦ inl none | inr heavy ↦ inr (heavy.0, λ d at. omega (arith, heavy.2 d at)) ]
directory_refused_within b off most Memory h = tt
