-- The cache of directories: what was read, noted and looked up.
use Rattle.dexval.proofs.Common.{◌≡◌, ◌⊎◌, ℕ, List, false, Option, Some, nat_eq, sym, subst, ◌∙◌, inl, inr, ne_eqb, cases_eq, get, Mentions, DirectoryCache, IsRefListAt, AreHeld, AreCached, IsSetAt, Extends, set_at, sets_at}
use Rattle.dexval.specs.SharedItems.{AreSharedIn}

-- if one value is inserted, each of the others was there before
pub from_before : {X : Type 0} (f g : ℕ → X) (o : ℕ) (v : X) → g o ≡ v → ((q : ℕ) → nat_eq o q ≡ false → g q ≡ f q) → (q : ℕ) (w : X) → g q ≡ w → (f q ≡ w) ⊎ ((o ≡ q) × (v ≡ w))
from_before {X} f g o v here others q w e = elim (cases_eq o q) [
  | inl same ↦ inr (same, sym here ∙ subst (λ (n : ℕ). g n ≡ w) (sym same) e)
  | inr apart ↦ inl (sym (others q (ne_eqb o q apart)) ∙ e)
]

pub same_some : {X : Type 0} {x y : X} → Some x ≡ Some y → x ≡ y
same_some e = cc

-- what holds of each recorded item holds with one more of them
pub item_added : {X : Type 0} (P : ℕ → X → Type 0) (f g : ℕ → Option X) (o : ℕ) (x : X) → ((q : ℕ) (y : X) → f q ≡ Some y → P q y) → P o x → g o ≡ Some x → ((q : ℕ) → nat_eq o q ≡ false → g q ≡ f q) → (q : ℕ) (y : X) → g q ≡ Some y → P q y
item_added P f g o x old new here others q y e = elim (from_before f g o (Some x) here others q (Some y) e) [
  | inl before ↦ old q y before
  | inr both ↦ subst (P q) (same_some both.1) (subst (λ (p : ℕ). P p x) both.0 new)
]

-- an item that is inserted is at its offset, as those before it
module _ (b : List ℕ) (m : Mentions) (j k : DirectoryCache) (o p : ℕ) (extended : Extends j.table k.table) (held : AreHeld j) (h : AreCached b m j) where
  old_set : (q place : ℕ) → get nat_eq j.sets q ≡ Some place → IsSetAt b q m (set_at k.table.sets (Some place))
  old_set q place e = subst (IsSetAt b q m) (sym (extended.sets_stay (Some place) (held.sets_held q place e))) (h.sets_cached q place e)

  old_list : (q place : ℕ) → get nat_eq j.lists q ≡ Some place → IsRefListAt b q m (sets_at k.table (Some place))
  old_list q place e = subst (IsRefListAt b q m) (sym (extended.lists_stay (Some place) (held.lists_held q place e))) (h.lists_cached q place e)

  pub set_cached : get nat_eq k.sets o ≡ Some p → ((q : ℕ) → nat_eq o q ≡ false → get nat_eq k.sets q ≡ get nat_eq j.sets q) → k.lists ≡ j.lists → AreSharedIn b m k.items → IsSetAt b o m (set_at k.table.sets (Some p)) → AreCached b m k
  set_cached here others lists shared is = record {
    sets_cached = λ q place e. elim (from_before (λ n. get nat_eq j.sets n) (λ n. get nat_eq k.sets n) o (Some p) here others q (Some place) e) [
      | inl before ↦ old_set q place before
      | inr new ↦ subst (λ (x : ℕ). IsSetAt b x m (set_at k.table.sets (Some place))) new.0 (subst (λ (x : ℕ). IsSetAt b o m (set_at k.table.sets (Some x))) (same_some new.1) is)
    ];
    lists_cached = λ q place e. old_list q place (subst (λ l. get nat_eq l q ≡ Some place) lists e);
    items_shared = shared;
  }

  pub list_cached : get nat_eq k.lists o ≡ Some p → ((q : ℕ) → nat_eq o q ≡ false → get nat_eq k.lists q ≡ get nat_eq j.lists q) → k.sets ≡ j.sets → k.items ≡ j.items → IsRefListAt b o m (sets_at k.table (Some p)) → AreCached b m k
  list_cached here others sets same is = record {
    sets_cached = λ q place e. old_set q place (subst (λ l. get nat_eq l q ≡ Some place) sets e);
    lists_cached = λ q place e. elim (from_before (λ n. get nat_eq j.lists n) (λ n. get nat_eq k.lists n) o (Some p) here others q (Some place) e) [
      | inl before ↦ old_list q place before
      | inr new ↦ subst (λ (x : ℕ). IsRefListAt b x m (sets_at k.table (Some place))) new.0 (subst (λ (x : ℕ). IsRefListAt b o m (sets_at k.table (Some x))) (same_some new.1) is)
    ];
    items_shared = subst (AreSharedIn b m) (sym same) h.items_shared;
  }
