use Rattle.dexdebug.proofs.Common.{ap, sym, subst, ◌∙◌, drop, AreStored, operations_in}
use Rattle.dexdebug.proofs.StoredOperations.{names_enough, operations_stored}
use Rattle.dexdebug.proofs.debug.Debug.operations.Goals as goal

pub split_at-requires : goal.split_at-requires
split_at-requires c = rw c.deref.ensures.value (names_enough c.self.inside.names c.self.inside.count c.self.inside.bytes.now c.self.inside.at c.self.inside.indices.items c.self.invariant.1)

pub invariant_of-result : goal.invariant_of-result
invariant_of-result c =
    subst (AreStored c.self.inside.count c.self.inside.bytes.now c.self.inside.at) (sym (c.split_at.ensures.back ∙ ap (drop c.self.inside.names) c.deref.ensures.value)) (operations_stored c.self.inside.names c.self.inside.count c.self.inside.bytes.now c.self.inside.at c.self.inside.indices.items c.self.invariant.1)

pub returns : goal.returns
returns c = ap (operations_in c.self.inside.count c.self.inside.bytes.now c.self.inside.at) (c.split_at.ensures.back ∙ ap (drop c.self.inside.names) c.deref.ensures.value) ∙ ap (λ d. d.operations) c.self.view_is
