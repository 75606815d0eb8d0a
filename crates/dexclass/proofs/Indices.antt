-- Indices of classes and texts, and what tests and marks say of them.
use Rattle.dexclass.proofs.Common.{◌≡◌, ◌≢◌, ℕ, ◌+◌, ◌<◌, Bool, ◌==◌, false, List, [], ◌∷◌, length, get_or, refl, sym, subst, arith, ◌↔◌, IsTrue, All, nat_lt, Some, None, ltb-true, lt-ltb, eq-eqb, ne_eqb, All-nil, All-cons, IsClass, TypeIds, table_size, no_index, Mentions, IsDefinedBefore, one_type, ArePools, true, ◌∙◌, false≢true, All-append, superclass_idx, interfaces_off, ClassTypeRow, HasClass, IsClassDef, ClassDef, all_prefix, all_back}
use Rattle.dexspec.specs.Texts.{Text}
use Rattle.dexspec.specs.Rows.{TypeRow}
use Rattle.dexpool.specs.Numberings.{IsAt}
use Rattle.dexids.specs.Reading.{listed}
use Rattle.dexclass.specs.internal.Rows.{IsClassIndex, IsParentIndex, IsSourceIndex, IsInterfaceIndex, superclass_indices, HasInterfaces, AreDefinedMarks}

-- the descriptor of a row says whether its index is that of a class
pub tested : (b : List ℕ) (m : Mentions) (i : ℕ) (t : Text) → ArePools b m → IsAt m.types i t → IsClass t ↔ IsClassIndex b i
tested b m i t pools at =
    let row = subst (TypeRow b i) (at.is []) (pools.types_are.each i [] (omega (arith, at.within, pools.types_are.count))) in
    (λ class. (t, record { row = row; class = class }), λ x. subst IsClass (one_type b i x.0 t x.1.row row) x.1.class)

-- the index of a parent that is not none
parent_is : (b : List ℕ) (i : ℕ) → IsClassIndex b i → IsParentIndex b i
parent_is b i h = (Some h.0, h.1)

parent_class : (b : List ℕ) (i : ℕ) → i ≢ no_index → IsParentIndex b i → IsClassIndex b i
parent_class b i some (None, e) = absurd (some e)
parent_class b i some (Some t, h) = (t, h)

-- the index of a source that is not none
pub source_is : (b : List ℕ) (m : Mentions) (i n : ℕ) → ArePools b m → n ≡ length m.texts → i ≢ no_index → IsTrue (nat_lt i n) ↔ IsSourceIndex b i
source_is b m i n pools e some = (
  λ lt. (Some (get_or m.texts i []), pools.texts_are.each i [] (omega (arith, ltb-true i n lt, e, pools.texts_are.count))),
  λ h. in_range h,
)
  where
    in_range : IsSourceIndex b i → IsTrue (nat_lt i n)
    in_range (None, none) = absurd (some none)
    in_range (Some s, row) = lt-ltb i n (omega (arith, row.row, e, pools.texts_are.count))

-- one interface
pub interface_is : (b : List ℕ) (r i : ℕ) (t : Bool) → IsClassIndex b i → (IsTrue t ↔ IsDefinedBefore b r i) → IsTrue t ↔ IsInterfaceIndex b r i
interface_is b r i t class before = (λ e. record { class_is = class; before = before.0 e }, λ h. before.1 h.before)

-- what is defined before a row is so before the next
pub interface_later : (b : List ℕ) (r i : ℕ) → IsInterfaceIndex b r i → IsInterfaceIndex b (r + 1) i
interface_later b r i h = record {
  class_is = h.class_is;
  before = λ k lt is. let x = h.before k lt is in (x.0, omega (arith, x.1), x.2);
}

-- a parent that is none
pub parent_none : (b : List ℕ) (r i : ℕ) → i ≡ no_index → IsTrue (i == no_index) ↔ (IsParentIndex b i × All (IsDefinedBefore b r) (superclass_indices i))
parent_none b r i e =
    let none : superclass_indices i ≡ [] = rw (eq-eqb i no_index e) refl in (
      (λ t. ((None, e), subst (All (IsDefinedBefore b r)) (sym none) (All-nil (IsDefinedBefore b r)))),
      (λ h. eq-eqb i no_index e),
    )

-- a parent that is not none
pub parent_whole : (b : List ℕ) (r i : ℕ) (t : Bool) → i ≢ no_index → (IsTrue t ↔ IsInterfaceIndex b r i) → IsTrue t ↔ (IsParentIndex b i × All (IsDefinedBefore b r) (superclass_indices i))
parent_whole b r i t some is =
    let e : superclass_indices i ≡ i ∷ [] = rw (ne_eqb i no_index some) refl in (
      (λ yes. let h = is.0 yes in (parent_is b i h.class_is, subst (All (IsDefinedBefore b r)) (sym e) (All-cons (IsDefinedBefore b r) i [] h.before (All-nil (IsDefinedBefore b r))))),
      (λ h. is.1 (record { class_is = parent_class b i some h.0; before = subst (All (IsDefinedBefore b r)) e h.1 0 0 (omega arith) })),
    )

-- a class in range
pub class_in_range : (b : List ℕ) (i : ℕ) → IsClassIndex b i → i < table_size b TypeIds
class_in_range b i h = h.1.row.row

-- ---- condition 16 at a row, from its parts

module _ (b : List ℕ) (r : ℕ) (f : ClassDef) (is : IsClassDef b r f) where
  pub class_of : HasClass b r → IsClassIndex b f.class_idx
  class_of h = (h.name, subst (λ (i : ℕ). ClassTypeRow b i h.name) is.class_is h.is)

  pub parent_before_of : HasClass b r → All (IsDefinedBefore b r) (superclass_indices f.superclass_idx)
  parent_before_of h = subst (λ (i : ℕ). All (IsDefinedBefore b r) (superclass_indices i)) is.superclass_is
      (all_prefix (IsDefinedBefore b r) (superclass_indices (superclass_idx b r)) (listed b (interfaces_off b r)) h.parents)

  pub interfaces_of : HasClass b r → HasInterfaces b r f.interfaces_off
  interfaces_of h = subst (HasInterfaces b r) is.interfaces_are (record {
    types = h.interfaces.0;
    list = h.interfaces.1;
    before = all_back (IsDefinedBefore b r) (superclass_indices (superclass_idx b r)) (listed b (interfaces_off b r)) h.parents;
  })

  module _ (seen : List Bool) (marks : AreDefinedMarks b r seen) where
    pub seen_not : IsClassIndex b f.class_idx → get_or seen f.class_idx false ≡ true → HasClass b r → ⊥
    seen_not class e h =
        let before = (marks.each f.class_idx (class_in_range b f.class_idx class)).0 e in
        h.first before.0 before.1 (before.2 ∙ sym is.class_is)

    pub has_class : IsClassIndex b f.class_idx → get_or seen f.class_idx false ≡ false → IsParentIndex b f.superclass_idx → IsSourceIndex b f.source_file_idx
        → All (IsDefinedBefore b r) (superclass_indices f.superclass_idx) → HasInterfaces b r f.interfaces_off → HasClass b r
    has_class class e parent source before interfaces =
        let list : HasInterfaces b r (interfaces_off b r) = subst (HasInterfaces b r) (sym is.interfaces_are) interfaces in
        record {
          name = class.0;
          is = subst (λ (i : ℕ). ClassTypeRow b i class.0) (sym is.class_is) class.1;
          first = λ k lt same. false≢true (sym e ∙ (marks.each f.class_idx (class_in_range b f.class_idx class)).1 (k, lt, same ∙ is.class_is));
          superclass = subst (IsParentIndex b) (sym is.superclass_is) parent;
          interfaces = (list.types, list.list);
          source = subst (IsSourceIndex b) (sym is.source_is) source;
          parents = All-append (IsDefinedBefore b r) (superclass_indices (superclass_idx b r)) (listed b (interfaces_off b r))
              (subst (λ (i : ℕ). All (IsDefinedBefore b r) (superclass_indices i)) (sym is.superclass_is) before) list.before;
        }
