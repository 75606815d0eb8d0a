use Rattle.std.proofs.lemmas.Iterator.{YieldsList-from_map}
use Rattle.std.proofs.lemmas.Iterator.Consumers.{YieldsList-at, YieldsList-from_first}
use Rattle.dexdebug.proofs.Common.{option_decides, refl, rules}
use Rattle.dexdebug.proofs.Compared.{decides_by_eq}
use Rattle.dexdebug.proofs.debug_same.eq_names.Goals as goal

pub returns : goal.returns
returns c =
    decides_by_eq _ option_decides _ _ c.eq.ensures.ran
    (YieldsList-from_map _ _ (YieldsList-at c.map.ensures.source (YieldsList-from_first (λ x. x) (λ names. names) c.args.names refl)) c.map.ensures.closure (λ x r q k. search rules))
    (λ it becomes. YieldsList-at becomes (YieldsList-from_map _ _ (YieldsList-at c.map-2.ensures.source (YieldsList-from_first (λ x. x) (λ names. names) c.args.others refl)) c.map-2.ensures.closure (λ x r q k. search rules)))
