-- The indices of pieces, one after the other.
use Rattle.dexinsn.proofs.Common.{◌≡◌, ℕ, List, [], ◌∷◌, ◌++◌, drop, Option, Some, None, refl, ap, ◌∙◌, Pool, Cut, index_pool, Index, with_index_at, indices_at}

-- ---- one piece more

pub with_index_append : (o : Option Pool) (us : List ℕ) (c : Cut) (is js : List Index) → with_index_at o us c (is ++ js) ≡ with_index_at o us c is ++ js
with_index_append None us c is js = refl
with_index_append (Some pool) us c is js = refl

pub indices_push : (us : List ℕ) (cs : List Cut) (c : Cut) → indices_at us (cs ++ c ∷ []) ≡ indices_at us cs ++ with_index_at (index_pool (drop c.unit us)) us c []
indices_push us [] c = refl
indices_push us (b ∷ cs) c =
    ap (with_index_at (index_pool (drop b.unit us)) us b) (indices_push us cs c) ∙ with_index_append (index_pool (drop b.unit us)) us b (indices_at us cs) (with_index_at (index_pool (drop c.unit us)) us c [])
