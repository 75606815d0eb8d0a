use Rattle.dexlayout.proofs.Common.{◌++◌, ap, arith, ◌∙◌, on_ok_weaker}
use Rattle.dexlayout.proofs.EncodedUses.{begins, ended, ended_fits}
use Rattle.dexlayout.proofs.items.Items.put.Goals as goal

pub end_item-requires-clause-begins : goal.end_item-requires-clause-begins
end_item-requires-clause-begins g c =
    let item = g.T.Encode.bytes c.args.item.now in
    let room = c.in_ok-reserve.ensures in
    begins item (c.self.view_is ∙ c.in_ok-align.ensures) (c.len-before.ensures ∙ c.self.inside.bytes.ok.0) ((c.encode.ensures (omega (arith, room.ok, room.len, c.requires.most))).items ∙ ap (λ bs. bs ++ item) room.items)

pub end_item-requires-clause-fits : goal.end_item-requires-clause-fits
end_item-requires-clause-fits g c =
    let item = g.T.Encode.bytes c.args.item.now in
    let room = c.in_ok-reserve.ensures in
    ended_fits item (c.self.view_is ∙ c.in_ok-align.ensures) (c.len-before.ensures ∙ c.self.inside.bytes.ok.0) ((c.encode.ensures (omega (arith, room.ok, room.len, c.requires.most))).items ∙ ap (λ bs. bs ++ item) room.items) c.requires.fits

pub returns : goal.returns
returns g c =
    let item = g.T.Encode.bytes c.args.item.now in
    let room = c.in_ok-reserve.ensures in
    on_ok_weaker c.end_item.result (λ e. e ∙ ended item (c.self.view_is ∙ c.in_ok-align.ensures) (c.len-before.ensures ∙ c.self.inside.bytes.ok.0) ((c.encode.ensures (omega (arith, room.ok, room.len, c.requires.most))).items ∙ ap (λ bs. bs ++ item) room.items)) c.end_item.ensures
