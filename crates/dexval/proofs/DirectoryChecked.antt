-- Sets, lists of sets and directories that are each checked once.
use Rattle.dexval.proofs.Common.{◌≡◌, ℕ, ◌+◌, ◌-◌, ◌*◌, ◌^◌, ◌<◌, min, false, List, [], ◌∷◌, ◌++◌, nat_eq, map, sum_by, length, Some, subst, arith, All, get, uint_at, SetAt, RefListAt, fields_count, methods_count, parameters_count, Mentions, CheckedSets, HasSetOf, IsWeighed, AreChecked, HasDirectoryOf, IsSetOrEmptyAt, IsRefListAt, ArePairsAt, HasMembers, set_weight_in, sets_weight_in, HasPools, NumberedDirectory, IsKnownSet, set_in, IsSetAt}
use Rattle.dexval.proofs.DirectoryRead.{directory_read}
use Rattle.dexval.proofs.CachedSets.{item_added}
use Rattle.dexval.proofs.Keeping.{parts_weigh}

-- ---- weights

-- an item that was read is also an item of another kind, of the same weight
pub weighed_as : {X : Type 0} (Read Now : X → Type 0) (weighs heavy : X → ℕ) {weight : ℕ} → ((x : X) → Read x → Now x) → ((x : X) → Read x → weighs x ≡ heavy x) → IsWeighed Read weighs weight → IsWeighed Now heavy weight
weighed_as Read Now weighs heavy goes same h = record { item = h.item; is_read = goes h.item h.is_read; weight_is = omega (arith, h.weight_is, same h.item h.is_read) }

-- one more item was read
pub one_weighed : {X : Type 0} (Read Next : List X → Type 0) (weighs : List X → ℕ) (one : X → ℕ) {old weight new : ℕ} (x : X) → ((xs : List X) → Read xs → Next (xs ++ x ∷ [])) → ((xs : List X) → weighs (xs ++ x ∷ []) ≡ weighs xs + one x)
    → IsWeighed Read weighs old → weight ≡ min (2 ^ 64 - 1) (one x) → new ≡ min (2 ^ 64 - 1) (old + weight) → IsWeighed Next weighs new
one_weighed Read Next weighs one x goes adds h is sum = record { item = h.item ++ x ∷ []; is_read = goes h.item h.is_read; weight_is = omega (arith, h.weight_is, adds h.item, is, sum) }

-- a set that was checked
pub set_weighed : (b : List ℕ) (off : ℕ) (m : Mentions) (count weight : ℕ) → weight < 2 ^ 64 → HasSetOf b off m count weight → IsWeighed (IsSetAt b off m) (set_weight_in m) weight
set_weighed b off m count weight fits h = record { item = h.set; is_read = h.at; weight_is = omega (arith, h.weighs, fits) }

-- ---- checked items

module _ (b : List ℕ) (m : Mentions) (j k : CheckedSets) (o weight : ℕ) where
  -- one more set
  pub set_added : AreChecked b m j → IsWeighed (IsSetAt b o m) (set_weight_in m) weight → get nat_eq k.sets o ≡ Some weight → ((q : ℕ) → nat_eq o q ≡ false → get nat_eq k.sets q ≡ get nat_eq j.sets q) → k.lists ≡ j.lists → AreChecked b m k
  set_added h new here others lists = record {
    sets_checked = item_added (λ q. IsWeighed (IsSetAt b q m) (set_weight_in m)) (λ q. get nat_eq j.sets q) (λ q. get nat_eq k.sets q) o weight h.sets_checked new here others;
    lists_checked = λ q w e. h.lists_checked q w (subst (λ l. get nat_eq l q ≡ Some w) lists e);
  }

  -- one more list
  pub list_added : AreChecked b m j → IsWeighed (IsRefListAt b o m) (sets_weight_in m) weight → get nat_eq k.lists o ≡ Some weight → ((q : ℕ) → nat_eq o q ≡ false → get nat_eq k.lists q ≡ get nat_eq j.lists q) → k.sets ≡ j.sets → AreChecked b m k
  list_added h new here others sets = record {
    sets_checked = λ q w e. h.sets_checked q w (subst (λ l. get nat_eq l q ≡ Some w) sets e);
    lists_checked = item_added (λ q. IsWeighed (IsRefListAt b q m) (sets_weight_in m)) (λ q. get nat_eq j.lists q) (λ q. get nat_eq k.lists q) o weight h.lists_checked new here others;
  }

-- ---- directories

-- all parts were checked
pub directory_checked : (b : List ℕ) (o : ℕ) (m : Mentions) → HasPools b m → (w1 w2 w3 w4 weight : ℕ) → HasMembers b o
    → IsWeighed (IsSetOrEmptyAt b (uint_at b o) m) (set_weight_in m) w1
    → IsWeighed (ArePairsAt (IsKnownSet m) (set_in m) SetAt b (o + 16) (fields_count b o) (length m.fields)) (sum_by (λ e. set_weight_in m e.1)) w2
    → IsWeighed (ArePairsAt (IsKnownSet m) (set_in m) SetAt b (o + 16 + 8 * fields_count b o) (methods_count b o) (length m.methods)) (sum_by (λ e. set_weight_in m e.1)) w3
    → IsWeighed (ArePairsAt (All (IsKnownSet m)) (map (set_in m)) RefListAt b (o + 16 + 8 * fields_count b o + 8 * methods_count b o) (parameters_count b o) (length m.methods)) (sum_by (λ e. sets_weight_in m e.1)) w4
    → weight ≡ min (2 ^ 64 - 1) (min (2 ^ 64 - 1) (min (2 ^ 64 - 1) (w1 + w2) + w3) + w4) → HasDirectoryOf b o m weight
directory_checked b o m file w1 w2 w3 w4 weight has h1 h2 h3 h4 sum =
    let whole : NumberedDirectory = record { own = h1.item; fields = h2.item; methods = h3.item; parameters = h4.item } in
    record {
      item = whole;
      is_read = directory_read b o m file h1.item h2.item h3.item h4.item has h1.is_read h2.is_read h3.is_read h4.is_read;
      weight_is = omega (arith, parts_weigh m whole, h1.weight_is, h2.weight_is, h3.weight_is, h4.weight_is, sum);
    }
