use Rattle.dexdebug.proofs.Common.{◌∷◌, [], w32, subst, to_z-of_z, sleb128}
use Rattle.dexdebug.proofs.debug_put.encode_signed.Goals as goal

pub returns : goal.returns
returns g c =
    let number = subst (λ v. g.O.Output.gives (sleb128 v) c.byte.new.self c.sleb.new.self) (to_z-of_z w32 c.args.value c.ranges.value) c.sleb.ensures in
    g.met.O.Output.both (c.args.opcode ∷ []) (sleb128 c.args.value) c.args.out.now c.byte.new.self c.sleb.new.self c.byte.ensures number
