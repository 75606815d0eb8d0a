use Rattle.dexdebug.proofs.Common.{◌∷◌, [], uleb128}
use Rattle.dexdebug.proofs.debug_put.encode_numbered.Goals as goal

pub returns : goal.returns
returns g c = g.met.O.Output.both (c.args.opcode ∷ []) (uleb128 c.args.value) c.args.out.now c.byte.new.self c.uleb.new.self c.byte.ensures c.uleb.ensures
