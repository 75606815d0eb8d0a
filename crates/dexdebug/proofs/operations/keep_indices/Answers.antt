use Rattle.dexdebug.proofs.Common.{◌≡◌, [], ◌∷◌, ◌++◌, length, take, refl, ap, sym, ◌∙◌, arith, append-nil, nil_from_length, name_of, type_of, signature_of, indices_of, text_index, StartLocal, StartLocalExtended, SetFile}
use Rattle.dexpool.specs.declared.symbols.SymbolKind.TheVariants as kinds
use Rattle.dexdebug.specs.declared.debug_operation.Operation.{Operation}
use Rattle.dexdebug.proofs.operations.keep_indices.Goals as goal

kept : (op : Operation) → take (length (indices_of op)) (text_index (name_of op) ∷ record { kind = kinds.Typ; number = type_of op } ∷ text_index (signature_of op) ∷ []) ≡ indices_of op
kept (StartLocal register name typ) = refl
kept (StartLocalExtended register name typ signature) = refl
kept (SetFile name) = refl
kept _ = refl

pub returns-then-count-eq0-clause-kept : goal.returns-then-count-eq0-clause-kept
returns-then-count-eq0-clause-kept c = sym (ap (λ is. c.args.indices.now.items ++ is) (nil_from_length (indices_of c.args.operation) (omega (arith, c.index_count-count.ensures.count))) ∙ append-nil c.args.indices.now.items)

pub returns-clause-kept : goal.returns-clause-kept
returns-clause-kept c =
    let text = c.new.ensures ∙ ap text_index c.name_idx.ensures in
    let typ = c.new-2.ensures ∙ ap (λ n. record { kind = kinds.Typ; number = n }) c.type_idx.ensures in
    let signature = c.new-3.ensures ∙ ap text_index c.sig_idx.ensures in
    let is : take c.index_count-count.result (c.new.result ∷ c.new-2.result ∷ c.new-3.result ∷ []) ≡ indices_of c.args.operation = (λ i. take (c.index_count-count.ensures.count i) (text i ∷ typ i ∷ signature i ∷ [])) ∙ kept c.args.operation in
    c.append_reserved.ensures.kept ∙ ap (λ is. c.args.indices.now.items ++ is) is

pub append_reserved-requires : goal.append_reserved-requires
append_reserved-requires c = omega (arith, c.requires.room, c.index_count-count.ensures.count, c.index_count-count.ensures.few)
