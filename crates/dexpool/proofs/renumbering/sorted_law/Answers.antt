use Rattle.dexpool.proofs.Common.{sym, ◌∙◌, row_cmp}
use Rattle.dexpool.proofs.NumberOrder.{rises-map}
use Rattle.dexpool.proofs.renumbering.sorted_law.Goals as goal

pub returns : goal.returns
returns g c = λ among lower rows rise within sorted.
    sym (rises-map (row_cmp g.R.Row.key_of) (row_cmp g.R.Row.key_of) (g.R.Row.mapped lower) (g.R.Row.numbers_in among) (λ x y p q. sym (g.met.R.Row.keeps_order among lower rise x y p q)) rows within) ∙ sorted
