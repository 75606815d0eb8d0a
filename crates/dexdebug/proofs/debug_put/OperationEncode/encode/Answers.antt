use Rattle.dexdebug.proofs.Common.{◌∷◌, [], ◌++◌, subst, sym, uleb128, uleb128p1, numbered_operation_bytes}
use Rattle.dexdebug.proofs.Encoded.{regrouped}
use Rattle.dexdebug.proofs.debug_put.OperationEncode.encode.Goals as goal

pub returns-in-StartLocal : goal.returns-in-StartLocal
returns-in-StartLocal g c =
    let op = c.in-StartLocal in
    subst (λ op. g.O.Output.gives (numbered_operation_bytes op) c.args.out.now c.encode_local.new.out) (sym op.is)
    (g.met.O.Output.both (0x03 ∷ []) (uleb128 op.register_num ++ (uleb128p1 op.name_idx ++ uleb128p1 op.type_idx)) c.args.out.now c.byte.new.self c.encode_local.new.out c.byte.ensures c.encode_local.ensures)

pub returns-in-StartLocalExtended : goal.returns-in-StartLocalExtended
returns-in-StartLocalExtended g c =
    let op = c.in-StartLocalExtended in
    let following = g.met.O.Output.both (uleb128 op.register_num ++ (uleb128p1 op.name_idx ++ uleb128p1 op.type_idx)) (uleb128p1 op.sig_idx) c.byte-in-StartLocalExtended.new.self c.encode_local-in-StartLocalExtended.new.out c.encode_index.new.out c.encode_local-in-StartLocalExtended.ensures c.encode_index.ensures in
    let all = g.met.O.Output.both (0x04 ∷ []) _ c.args.out.now c.byte-in-StartLocalExtended.new.self c.encode_index.new.out c.byte-in-StartLocalExtended.ensures following in
    subst (λ op. g.O.Output.gives (numbered_operation_bytes op) c.args.out.now c.encode_index.new.out) (sym op.is)
    (subst (λ bytes. g.O.Output.gives (0x04 ∷ bytes) c.args.out.now c.encode_index.new.out) (regrouped (uleb128 op.register_num) (uleb128p1 op.name_idx) (uleb128p1 op.type_idx) (uleb128p1 op.sig_idx)) all)

pub returns-in-SetFile : goal.returns-in-SetFile
returns-in-SetFile g c =
    subst (λ op. g.O.Output.gives (numbered_operation_bytes op) c.args.out.now c.encode_index-in-SetFile.new.out) (sym c.in-SetFile.is)
    (g.met.O.Output.both (0x09 ∷ []) (uleb128p1 c.in-SetFile.name_idx) c.args.out.now c.byte-in-SetFile.new.self c.encode_index-in-SetFile.new.out c.byte-in-SetFile.ensures c.encode_index-in-SetFile.ensures)
