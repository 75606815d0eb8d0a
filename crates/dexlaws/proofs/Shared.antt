-- How items are shared by a test that decides equality.
use Rattle.dexspec.proofs.Common.{ℕ, Bool, List, Option, None, Some, get_or, ◌∙◌, Contains, get_or_default}
use Rattle.dexspec.specs.Lists.{present}
use Rattle.dexspec.specs.Placing.{shared_items}
use Rattle.dexspec.proofs.lists.Equality.{IsEquality, self}
use Rattle.dexspec.proofs.lists.Sources.{distinct_source}
use Rattle.dexspec.proofs.lists.Distinct.{distinct_once}
use Rattle.dexspec.proofs.sharing.Sharing.{present_source, first_uses_rise}
use Rattle.dexspec.proofs.layout.Uses.{IsNumber, shared_numbered}
use Rattle.dexlaws.specs.{PointsTo, AreShared}

-- each present value is that of some use
some_use : {X : Type 0} (uses : List (Option X)) (x : X) → Contains (present uses) x → Contains uses (Some x)
some_use uses x c = let s = present_source uses x c in (s.0, s.1, get_or_default uses s.0 (Some x) None s.1 ∙ s.2)

-- the number of a use's item is that of an equal item
maps_to : {X : Type 0} (written : List X) (use_of : Option X) (number : Option ℕ) → IsNumber use_of number written → PointsTo written use_of number
maps_to written None number is = is
maps_to written (Some x) number is = is

-- uses are shared in this way
pub shared : {X : Type 0} (same : X → X → Bool) → IsEquality same → (uses : List (Option X)) → AreShared uses (shared_items same uses)
shared same exact uses =
    let items = shared_items same uses in
    let numbered = shared_numbered same exact uses in
    record {
      distinct = distinct_once same (self same exact) (present uses);
      used = λ x c. some_use uses x (distinct_source same (present uses) x c);
      count = numbered.count;
      are_mapped = λ k lt. maps_to items.written (get_or uses k None) (get_or items.numbers k None) (numbered.each k lt);
      in_order = first_uses_rise same exact uses;
    }
