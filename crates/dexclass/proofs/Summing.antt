-- A class row more, and what the classes weigh with it.
use Rattle.dexclass.proofs.Common.{◌≡◌, ℕ, ◌+◌, ◌*◌, ◌<◌, ◌≤◌, List, [], ◌∷◌, ◌++◌, length, map, sym, ap, ◌∙◌, subst, arith, All, map-append, All-nil, All-cons, All-append, ClassDefs, table_size, Definition, interfaces_off, Mentions, body_weight, most_weight, Condition, HoldBelow, IsReadable, AreRows, IsRefused, ArePools, NumberedMembers, members_in, members_weight, AreMembersOf, below_more, ◌≢◌, ◌-◌, ◌^◌, min, inl, inr, refl, Option, Some, None, option_to_list, cases_eq, ne_eqb, OrNone, Text, StringRow, type_indices, ClassTypeRow, ClassListAt, IndexOrNone, class_idx, superclass_idx, source_file_idx, no_index, HasClass, type_at}
use Rattle.dexids.specs.Reading.{listed}
use Rattle.dexclass.specs.{NumberedClass, definition_of, class_of_row, IsKnownClass, number_of}
use Rattle.dexclass.specs.internal.Reading.{bodies_weight, AreBodies}
use Rattle.dexclass.specs.declared.reading.Bodies.{Bodies}
use Rattle.dexclass.proofs.RowClasses.{row_weight, row_encoded, row_name}
use Rattle.dexclass.proofs.RowsBelow.{IsRow, bodies_more, rows_more, heavy_row}
use Rattle.dexclass.proofs.RowFaults.{heavy_refused}
use Rattle.dexclass.proofs.Indices.{class_in_range}
use Rattle.dexclass.proofs.Interfaces.{of_classes, listed_interfaces}

-- an index that may be none
optional_in : (n i : ℕ) → (i ≢ no_index → i < n) → All (λ k. k < n) (option_to_list (number_of i))
optional_in n i below = elim (cases_eq i no_index) [
  | inl e ↦ subst (λ (k : ℕ). All (λ j. j < n) (option_to_list (number_of k))) (sym e) (All-nil (λ j. j < n))
  | inr ne ↦
      let is : number_of i ≡ Some i = rw (ne_eqb i no_index ne) refl in
      subst (λ (o : Option ℕ). All (λ j. j < n) (option_to_list o)) (sym is) (All-cons (λ j. j < n) i [] (below ne) (All-nil (λ j. j < n)))
]

module _ (b : List ℕ) (m : Mentions) (pools : ArePools b m) where
  parent_in : (i : ℕ) (t : Option Text) → IndexOrNone ClassTypeRow b i t → i ≢ no_index → i < length m.types
  parent_in i None e ne = absurd (ne e)
  parent_in i (Some t) h ne = omega (arith, h.row.row, pools.types_are.count)

  source_in : (i : ℕ) (s : Option Text) → IndexOrNone StringRow b i s → i ≢ no_index → i < length m.texts
  source_in i None e ne = absurd (ne e)
  source_in i (Some s) h ne = omega (arith, h.row, pools.texts_are.count)

  interfaces_in : (o : ℕ) (ts : List Text) → OrNone ClassListAt [] b o ts → All (λ k. k < length m.types) (listed b o)
  interfaces_in o ts (inl none) = subst (λ (k : ℕ). All (λ j. j < length m.types) (listed b k)) (sym none.0) (All-nil (λ j. j < length m.types))
  interfaces_in o ts (inr list) =
      subst (All (λ j. j < length m.types)) (sym (listed_interfaces b o list.0))
      (λ k d lt. omega (arith, class_in_range b _ (of_classes b (type_indices b o) ts list.1.list.types list.1.classes k d lt), pools.types_are.count))

  -- the class of a row that meets condition 16, with what is read of it
  pub row_known : (r most : ℕ) (x : NumberedMembers) (weight : ℕ) → HasClass b r → AreMembersOf b r m most x → weight ≡ min (2 ^ 64 - 1) (body_weight (definition_of m (class_of_row b r x weight)).1) → IsKnownClass m (class_of_row b r x weight)
  row_known r most x weight h are weighed = record {
    types_in = All-cons (λ j. j < length m.types) (class_idx b r) _ (omega (arith, h.is.row.row, pools.types_are.count))
        (All-append (λ j. j < length m.types) (option_to_list (number_of (superclass_idx b r))) (listed b (interfaces_off b r))
        (optional_in (length m.types) (superclass_idx b r) (parent_in (superclass_idx b r) h.superclass.0 h.superclass.1))
        (interfaces_in (interfaces_off b r) h.interfaces.0 h.interfaces.1));
    texts_in = optional_in (length m.texts) (source_file_idx b r) (source_in (source_file_idx b r) h.source.0 h.source.1);
    members_known = are.known;
    members_ordered = are.ordered;
    members_own = are.of_class (type_at m (class_idx b r)) (row_name b m pools r h);
    weighed = weighed;
  }

module _ (b : List ℕ) (m : Mentions) (pools : ArePools b m) (h : HoldBelow 17 b) (r : ℕ) (lt : r < table_size b ClassDefs) (most : ℕ) (x : NumberedMembers) (are : AreMembersOf b r m most x) (w : ℕ) (weighs : w ≡ 96 + 2 * length (listed b (interfaces_off b r)) + members_weight (members_in m x)) where
  -- the class of the row with this weight
  abbrev row_class : NumberedClass
  row_class = class_of_row b r x w

  -- the row is its definition
  class_row : IsRow b r (definition_of m row_class)
  class_row = row_encoded b m pools r (members_in m x) lt (h Condition.Classes (omega arith) r lt) are.row

  -- it weighs what its row and its members do
  class_weight : body_weight (definition_of m row_class).1 ≡ w
  class_weight = row_weight b m r (members_in m x) ∙ sym weighs

  module _ (old : Bodies) (before : AreBodies b m r old) where
    abbrev D : List Definition
    D = map (definition_of m) old.classes.items

    -- the sum with one class more
    sum_is : bodies_weight (D ++ definition_of m row_class ∷ []) ≡ old.weight + w
    sum_is = omega (arith, bodies_more (map (definition_of m) old.classes.items) (definition_of m row_class), before.weight_is, class_weight)

    -- it is too much
    pub class_heavy : most_weight < old.weight + w → IsRefused b 23 r
    class_heavy heavy = heavy_refused b r (heavy_row b h r D (definition_of m row_class) lt before.readable before.rows are.readable class_row (omega (arith, heavy, class_weight, before.weight_is)))

    -- it is not
    pub class_more : old.weight + w ≤ most_weight → (c : NumberedClass) → c ≡ row_class → (bodies : Bodies) → bodies.classes.items ≡ old.classes.items ++ c ∷ [] → bodies.weight ≡ old.weight + w → AreBodies b m (r + 1) bodies
    class_more light c is bodies pushed so =
        let known : IsKnownClass m row_class = row_known b m pools r most x w (h Condition.Classes (omega arith) r lt) are (omega (arith, class_weight, light)) in
        let all : map (definition_of m) bodies.classes.items ≡ D ++ definition_of m row_class ∷ [] = ap (map (definition_of m)) pushed ∙ map-append (definition_of m) old.classes.items (c ∷ []) ∙ ap (λ (l : List Definition). D ++ l) (ap (λ (k : NumberedClass). definition_of m k ∷ []) is) in
        record {
          readable = below_more (IsReadable b) r before.readable are.readable;
          known = subst (All (IsKnownClass m)) (sym pushed) (All-append (IsKnownClass m) old.classes.items (c ∷ []) before.known (All-cons (IsKnownClass m) c [] (subst (IsKnownClass m) (sym is) known) (All-nil (IsKnownClass m))));
          rows = subst (AreRows b (r + 1)) (sym all) (rows_more b r D (definition_of m row_class) before.rows class_row);
          weight_is = so ∙ sym sum_is ∙ ap bodies_weight (sym all);
          light = omega (arith, so, light);
        }
