use Rattle.dexdebug.proofs.Common.{ap, ◌∙◌, take, numbers_in}
use Rattle.dexdebug.proofs.StoredOperations.{names_enough}
use Rattle.dexdebug.proofs.debug.Debug.parameter_names.Goals as goal

pub split_at-requires : goal.split_at-requires
split_at-requires c = rw c.deref.ensures.value (names_enough c.self.inside.names c.self.inside.count c.self.inside.bytes.now c.self.inside.at c.self.inside.indices.items c.self.invariant.1)

pub returns : goal.returns
returns c = ap numbers_in (c.split_at.ensures.front ∙ ap (take c.self.inside.names) c.deref.ensures.value) ∙ ap (λ d. d.parameter_names) c.self.view_is
