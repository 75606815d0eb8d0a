use Rattle.dexcode.proofs.Common.{subst, sym, All, handlers_of, HasShortTypes, numbered_item_bytes}
use Rattle.dexcode.proofs.code_put.CodeItemEncode.encode.Goals as goal

pub encode_item-requires : goal.encode_item-requires
encode_item-requires g c = subst (λ ts. All HasShortTypes (handlers_of ts)) (sym c.tries.ensures) c.requires

pub returns : goal.returns
returns g c =
    let gives = g.O.Output.gives in
    let off = c.args.self.now.debug_off in
    subst (λ ts. gives (numbered_item_bytes off c.args.self.now.code.body ts) c.args.out.now c.encode_item.new.out) c.tries.ensures (subst (λ body. gives (numbered_item_bytes off body c.tries.result) c.args.out.now c.encode_item.new.out) c.pieces.ensures c.encode_item.ensures)
