use Rattle.std.proofs.lemmas.Iterator.{YieldsList-from_map}
use Rattle.std.proofs.lemmas.Iterator.Consumers.{YieldsList-at, YieldsList-from_first}
use Rattle.dexdebug.proofs.Common.{refl, rules}
use Rattle.dexdebug.proofs.Compared.{decides_by_eq}
use Rattle.dexdebug.proofs.DebugSame.{key_decides, same_keys}
use Rattle.dexdebug.proofs.debug_same.eq_operations.Goals as goal

pub returns : goal.returns
returns c =
    let equal = decides_by_eq _ (key_decides c.operation_equality_law.ensures) _ _ c.eq.ensures.ran
    (YieldsList-from_map _ _ (YieldsList-at c.map.ensures.source (YieldsList-from_first (λ x. x) (λ ops. ops) c.args.operations refl)) c.map.ensures.closure (λ x r q k. search rules))
    (λ it becomes. YieldsList-at becomes (YieldsList-from_map _ _ (YieldsList-at c.map-2.ensures.source (YieldsList-from_first (λ x. x) (λ ops. ops) c.args.others refl)) c.map-2.ensures.closure (λ x r q k. search rules))) in
    let keys = same_keys c.args.mine.now c.args.theirs.now c.args.operations c.args.others in
    ((λ t. keys.0 (equal.0 t)), (λ e. equal.1 (keys.1 e)))
