use Rattle.dexdebug.proofs.Common.{◌≡◌, ◌+◌, ◌-◌, ◌∷◌, length, drop, ap, sym, subst, ◌∙◌, arith, AreStored, operations_in, number_in, with_numbers, indices_of}
use Rattle.dexdebug.proofs.StoredOperations.{first_stored, special_follows, stored_code, stored_within, without_places}
use Rattle.dexdebug.proofs.operations.OperationIterIterator.next.Goals as goal

pub bounds-self-inside-self-inside : goal.bounds-self-inside-self-inside
bounds-self-inside-self-inside c = stored_within c.self.inside.count c.self.inside.bytes.now c.self.inside.at c.self.inside.indices.now c.self.invariant (omega arith)

pub overflow_add-self-inside : goal.overflow_add-self-inside
overflow_add-self-inside c = let within = stored_within c.self.inside.count c.self.inside.bytes.now c.self.inside.at c.self.inside.indices.now c.self.invariant (omega arith) in omega (arith, within, c.type_inv.self-inside)

pub invariant_of-self : goal.invariant_of-self
invariant_of-self c = (special_follows c.self.inside.count c.self.inside.bytes.now c.self.inside.at c.self.inside.indices.now c.self.invariant (omega arith) (omega arith)).rest

pub returns-then-opcode-ge-DBG_FIRST_SPECIAL-clause-steps : goal.returns-then-opcode-ge-DBG_FIRST_SPECIAL-clause-steps
returns-then-opcode-ge-DBG_FIRST_SPECIAL-clause-steps c = sym c.self.view_is ∙ (special_follows c.self.inside.count c.self.inside.bytes.now c.self.inside.at c.self.inside.indices.now c.self.invariant (omega arith) (omega arith)).view

pub returns-then-opcode-ge-DBG_FIRST_SPECIAL-clause-goes : goal.returns-then-opcode-ge-DBG_FIRST_SPECIAL-clause-goes
returns-then-opcode-ge-DBG_FIRST_SPECIAL-clause-goes c = record {
  on = λ _. (tt, tt, omega (arith, ap length (returns-then-opcode-ge-DBG_FIRST_SPECIAL-clause-steps c)));
  keeps = tt;
  rests = λ _. tt;
}

pub operation_at-requires-clause-within : goal.operation_at-requires-clause-within
operation_at-requires-clause-within c = let within = stored_within c.self.inside.count c.self.inside.bytes.now c.self.inside.at c.self.inside.indices.now c.self.invariant (omega arith) in omega (arith, within)

pub operation_at-requires-clause-some : goal.operation_at-requires-clause-some
operation_at-requires-clause-some c = stored_code c.self.inside.count c.self.inside.bytes.now c.self.inside.at c.self.inside.indices.now c.self.invariant (omega arith)

pub unwrap-operation-requires : goal.unwrap-operation-requires
unwrap-operation-requires c = (first_stored c.self.inside.count c.self.inside.bytes.now c.self.inside.at c.self.inside.indices.now c.self.invariant (omega arith) c.operation_at.result c.operation_at.ensures.only).some

pub invariant_of-self-then-places-eq0 : goal.invariant_of-self-then-places-eq0
invariant_of-self-then-places-eq0 c =
    let follows = (first_stored c.self.inside.count c.self.inside.bytes.now c.self.inside.at c.self.inside.indices.now c.self.invariant (omega arith) c.operation_at.result c.operation_at.ensures.only).follows c.unwrap-operation.result c.unwrap-operation.ensures in
    let none : length (indices_of c.unwrap-operation.result.0) ≡ 0 = omega (arith, c.index_count-places.ensures.count) in
    subst (AreStored (c.self.inside.count - 1) c.self.inside.bytes.now (c.self.inside.at + (1 + c.unwrap-operation.result.1))) (ap (λ n. drop n c.self.inside.indices.now) none) follows.rest

pub returns-then-places-eq0-clause-steps : goal.returns-then-places-eq0-clause-steps
returns-then-places-eq0-clause-steps c =
    let x = c.unwrap-operation.result in
    let is = c.self.inside.indices.now in
    let follows = (first_stored c.self.inside.count c.self.inside.bytes.now c.self.inside.at c.self.inside.indices.now c.self.invariant (omega arith) c.operation_at.result c.operation_at.ensures.only).follows c.unwrap-operation.result c.unwrap-operation.ensures in
    let none : length (indices_of x.0) ≡ 0 = omega (arith, c.index_count-places.ensures.count) in
    sym c.self.view_is ∙ follows.view ∙ (λ i. (without_places x.0 (number_in is 0) (number_in is 1) (number_in is 2) none) i ∷ operations_in (c.self.inside.count - 1) c.self.inside.bytes.now (c.self.inside.at + (1 + x.1)) ((ap (λ n. drop n is) none) i))

pub returns-then-places-eq0-clause-goes : goal.returns-then-places-eq0-clause-goes
returns-then-places-eq0-clause-goes c = record { on = λ _. (tt, tt, omega (arith, ap length (returns-then-places-eq0-clause-steps c))); keeps = tt; rests = λ _. tt }

pub split_at-requires : goal.split_at-requires
split_at-requires c =
    omega (arith, ((first_stored c.self.inside.count c.self.inside.bytes.now c.self.inside.at c.self.inside.indices.now c.self.invariant (omega arith) c.operation_at.result c.operation_at.ensures.only).follows c.unwrap-operation.result c.unwrap-operation.ensures).places, c.index_count-places.ensures.count)

pub invariant_of-self-2 : goal.invariant_of-self-2
invariant_of-self-2 c =
    let follows = (first_stored c.self.inside.count c.self.inside.bytes.now c.self.inside.at c.self.inside.indices.now c.self.invariant (omega arith) c.operation_at.result c.operation_at.ensures.only).follows c.unwrap-operation.result c.unwrap-operation.ensures in
    subst (λ is. AreStored (c.self.inside.count - 1) c.self.inside.bytes.now (c.self.inside.at + (1 + c.unwrap-operation.result.1)) is) (sym (c.split_at.ensures.back ∙ ap (λ n. drop n c.self.inside.indices.now) c.index_count-places.ensures.count)) follows.rest

pub returns-clause-steps : goal.returns-clause-steps
returns-clause-steps c =
    let x = c.unwrap-operation.result in
    let follows = (first_stored c.self.inside.count c.self.inside.bytes.now c.self.inside.at c.self.inside.indices.now c.self.invariant (omega arith) c.operation_at.result c.operation_at.ensures.only).follows x c.unwrap-operation.ensures in
    let first : c.with_numbers.result ≡ with_numbers x.0 (number_in c.self.inside.indices.now 0) (number_in c.self.inside.indices.now 1) (number_in c.self.inside.indices.now 2) =
    c.with_numbers.ensures ∙ (λ i. with_numbers x.0 (c.number_in-name_idx.ensures i) (c.number_in-second.ensures i) (c.number_in-third.ensures i)) in
    sym c.self.view_is ∙ follows.view ∙ sym (λ i. first i ∷ operations_in (c.self.inside.count - 1) c.self.inside.bytes.now (c.self.inside.at + (1 + x.1)) ((c.split_at.ensures.back ∙ ap (λ n. drop n c.self.inside.indices.now) c.index_count-places.ensures.count) i))

pub returns-clause-goes : goal.returns-clause-goes
returns-clause-goes c = record { on = λ _. (tt, tt, omega (arith, ap length (returns-clause-steps c))); keeps = tt; rests = λ _. tt }
