-- Lists of interfaces.
use Rattle.std.specs.Prelude.{◌/◌}
use Rattle.dexclass.proofs.Common.{◌≡◌, ◌≢◌, ℕ, ◌+◌, ◌-◌, ◌*◌, ◌<◌, ◌≤◌, ◌↔◌, List, [], ◌∷◌, length, take, drop, nil_from_length, refl, sym, ap, ◌∙◌, subst, arith, inl, inr, All, AllZip, ne_eqb, All-cons, All-tail, uint_at, ushort_at, ushorts_at, Text, IsClass, TypeRow, type_indices, OrNone, ClassListAt, interfaces_off, IsDefinedBefore, IsClassDef, ClassDef, length-ushorts_at}
use Rattle.dexrows.proofs.Shorts.{short_of}
use Rattle.std.proofs.lemmas.List.{drop-drop}
use Rattle.dexids.specs.Reading.{HasRoom, HasSpan, file_numbers, listed}
use Rattle.dexids.specs.declared.rows.Span.{Span}
use Rattle.dexids.proofs.FileLists.{bytes_of_part, part_of_file}
use Rattle.dexclass.specs.internal.Checked.{AreInterfacesIn}
use Rattle.dexclass.specs.internal.Rows.{IsClassIndex, IsInterfaceIndex, HasInterfaceList, HasInterfaces}

module _ (b : List ℕ) (off count : ℕ) (room : HasRoom b off count) where
  -- what holds of each index holds of all
  pub all_indices : (P : ℕ → Type 0) → ((k : ℕ) → k < count → P (ushort_at b (off + 4 + 2 * k))) → All P (type_indices b off)
  all_indices P each k d lt =
      let small : k < uint_at b off = omega (arith, lt, length-ushorts_at b (off + 4) (uint_at b off)) in
      subst P (sym (short_of b (off + 4) (uint_at b off) k d small)) (each k (omega (arith, small, room.count)))

  -- and the other way round
  pub index_of_all : (P : ℕ → Type 0) (k : ℕ) → k < count → All P (type_indices b off) → P (ushort_at b (off + 4 + 2 * k))
  index_of_all P k lt all =
      let small : k < uint_at b off = omega (arith, lt, room.count) in
      subst P (short_of b (off + 4) (uint_at b off) k 0 small) (all k 0 (omega (arith, small, length-ushorts_at b (off + 4) (uint_at b off))))

  module _ (r start end : ℕ) (at : start ≡ off / 2 + 2) (up_to : end ≡ start + count) where
    -- as numbers of two bytes each, the list is a part of the file
    pub list_fits : 2 * end ≤ length b
    list_fits = omega (arith, at, up_to, room.count, room.aligned, room.in_data.within)

    place_of : (k : ℕ) → 2 * (start + k) ≡ off + 4 + 2 * k
    place_of k = omega (arith, at, room.aligned)

    pub listed_in : AreInterfacesIn b r start end ↔ All (IsInterfaceIndex b r) (type_indices b off)
    listed_in = (
      λ h. all_indices (IsInterfaceIndex b r) (λ k lt. subst (λ (p : ℕ). IsInterfaceIndex b r (ushort_at b p)) (place_of k) (h (start + k) (omega arith) (omega (arith, lt, up_to)))),
      λ all i le lt.
          let e : 2 * i ≡ off + 4 + 2 * (i - start) = omega (arith, le, at, room.aligned) in
          subst (λ (p : ℕ). IsInterfaceIndex b r (ushort_at b p)) (sym e) (index_of_all (IsInterfaceIndex b r) (i - start) (omega (arith, le, lt, up_to)) all),
    )

-- ---- the classes of a list

-- the types of rows that are classes
pub record AreClasses (b : List ℕ) (indices : List ℕ) : Type 0 where
  pub types : List Text
  pub rows : AllZip (TypeRow b) indices types
  pub classes : All IsClass types

classes_of : (b : List ℕ) (indices : List ℕ) → All (IsClassIndex b) indices → AreClasses b indices
classes_of b [] h = record { types = []; rows = tt; classes = λ k d lt. absurd (omega arith) }
classes_of b (i ∷ is) h =
    let first = h 0 0 (omega arith) in
    let rest = classes_of b is (All-tail (IsClassIndex b) i is h) in
    record { types = first.0 ∷ rest.types; rows = (first.1.row, rest.rows); classes = All-cons IsClass first.0 rest.types first.1.class rest.classes }

pub of_classes : (b : List ℕ) (indices : List ℕ) (ts : List Text) → AllZip (TypeRow b) indices ts → All IsClass ts → All (IsClassIndex b) indices
of_classes b [] [] rows classes = λ k d lt. absurd (omega arith)
of_classes b (i ∷ is) (t ∷ ts) rows classes =
    All-cons (IsClassIndex b) i is (t, record { row = rows.0; class = classes 0 [] (omega arith) }) (of_classes b is ts rows.1 (All-tail IsClass t ts classes))
of_classes b x v rows classes = absurd rows

-- ---- the list at an offset

pub listed_interfaces : (b : List ℕ) (o : ℕ) → o ≢ 0 → listed b o ≡ type_indices b o
listed_interfaces b o ne = rw (ne_eqb o 0 ne) refl

-- there are as many as there is room for
pub interfaces_count : (b : List ℕ) (off count : ℕ) → off ≢ 0 → HasRoom b off count → count ≡ length (listed b off)
interfaces_count b off count some room = room.count ∙ sym (length-ushorts_at b (off + 4) (uint_at b off)) ∙ ap length (sym (listed_interfaces b off some))

-- a list at an offset has room
pub listed_room : (b : List ℕ) (off : ℕ) → off ≢ 0 → HasInterfaceList b off → HasRoom b off (uint_at b off)
listed_room b off some (ts, inl none) = absurd (some none.0)
listed_room b off some (ts, inr list) = record { count = refl; in_data = list.1.list.in_data; aligned = list.1.list.aligned }

-- as many as are listed at the offset of a row
pub row_interfaces : (b : List ℕ) (r : ℕ) (row : ClassDef) (n : ℕ) → IsClassDef b r row → n ≡ length (listed b row.interfaces_off) → n ≡ length (listed b (interfaces_off b r))
row_interfaces b r row n is e = e ∙ ap (λ (o : ℕ). length (listed b o)) (sym is.interfaces_are)

module _ (b : List ℕ) (off count : ℕ) (list : HasInterfaceList b off) (counted : count ≡ length (listed b off)) where
  -- a list at an offset has room for `count` interfaces
  counted_room : off ≢ 0 → HasRoom b off count
  counted_room some =
      let room = listed_room b off some list in
      subst (HasRoom b off) (interfaces_count b off (uint_at b off) some room ∙ sym counted) room

  -- it begins in the file, as what is not there does
  pub list_within : off ≤ length b
  list_within = elim list.1 [
    | inl none ↦ omega (arith, none.0)
    | inr there ↦ omega (arith, there.1.list.in_data.within)
  ]

  -- each index is in the file
  pub index_within : (k : ℕ) → k < count → off + 4 + 2 * k + 2 ≤ length b
  index_within k lt = elim list.1 [
    | inl none ↦ let few : count ≡ 0 = counted ∙ ap (λ (o : ℕ). length (listed b o)) none.0 in absurd (omega (arith, few, lt))
    | inr there ↦ let room = counted_room there.0 in omega (arith, room.count, room.in_data.within, lt)
  ]

  -- the `count` indices at the offset are those of the list
  pub counted_indices : ushorts_at b (off + 4) count ≡ listed b off
  counted_indices = elim list.1 [
    | inl none ↦
        ap (ushorts_at b (off + 4)) (counted ∙ ap (λ (o : ℕ). length (listed b o)) none.0) ∙ sym (ap (listed b) none.0)
    | inr there ↦ ap (ushorts_at b (off + 4)) (counted_room there.0).count ∙ sym (listed_interfaces b off there.0)
  ]

  -- the list is in the file, if it is not empty
  pub listed_within : count ≢ 0 → off + 4 + 2 * count ≤ length b
  listed_within some = let last : count - 1 < count = omega (arith, some) in omega (arith, index_within (count - 1) last)

  -- an empty list has no indices
  pub none_listed : count ≡ 0 → [] ≡ listed b off
  none_listed none = sym (nil_from_length (listed b off) (sym counted ∙ none))

  -- and its bytes encode them
  pub listed_bytes : (part : List ℕ) → count ≢ 0 → part ≡ take (2 * count) (drop 4 (drop off b)) → ushorts_at part 0 (length part / 2) ≡ listed b off
  listed_bytes part some e = elim list.1 [
    | inl none ↦ absurd (some (counted ∙ ap (λ (o : ℕ). length (listed b o)) none.0))
    | inr there ↦
        let room = counted_room there.0 in
        let s : Span = record { start = off / 2 + 2; end = off / 2 + 2 + count } in
        let within : HasSpan (file_numbers b) s = record { ordered = omega arith; within = omega (arith, room.aligned, listed_within some, length-ushorts_at b 0 (length b / 2)) } in
        let start : off + 4 ≡ 2 * (off / 2 + 2) = omega (arith, room.aligned) in
        let many : count ≡ off / 2 + 2 + count - (off / 2 + 2) = omega arith in
        bytes_of_part b part s within (e ∙ ap (take (2 * count)) (drop-drop 4 off b) ∙ (λ k. take (2 * many k) (drop (start k) b))) ∙ part_of_file b s within ∙ sym (λ k. ushorts_at b (start k) (many k)) ∙ counted_indices
  ]

module _ (b : List ℕ) (r off count : ℕ) (some : off ≢ 0) (room : HasRoom b off count) where
  pub has_interfaces : All (IsInterfaceIndex b r) (type_indices b off) → HasInterfaces b r off
  has_interfaces all =
      let are = classes_of b (type_indices b off) (λ k d lt. (all k d lt).class_is) in
      record {
        types = are.types;
        list = inr (some, record { list = record { in_data = room.in_data; aligned = room.aligned; types = are.rows }; classes = are.classes });
        before = subst (All (IsDefinedBefore b r)) (sym (listed_interfaces b off some)) (λ k d lt. (all k d lt).before);
      }

  pub of_interfaces : HasInterfaces b r off → All (IsInterfaceIndex b r) (type_indices b off)
  of_interfaces h = both h.list
    where
      both : OrNone ClassListAt [] b off h.types → All (IsInterfaceIndex b r) (type_indices b off)
      both (inl none) = absurd (some none.0)
      both (inr list) = λ k d lt. record {
        class_is = of_classes b (type_indices b off) h.types list.1.list.types list.1.classes k d lt;
        before = subst (All (IsDefinedBefore b r)) (listed_interfaces b off some) h.before k d lt;
      }
