use Rattle.dexcode.proofs.Common.{sym, subst, All, catch_use, handler_uses, HasTypePlace}
use Rattle.dexcode.proofs.Images.{all_back_map}
use Rattle.dexcode.proofs.tries_numbers.HandlerRenumber.renumber.Goals as goal

pub renumber_all-requires : goal.renumber_all-requires
renumber_all-requires c =
    all_back_map (HasTypePlace c.args.remap.now) catch_use c.self.inside.catches.items
    (subst (λ h. All (HasTypePlace c.args.remap.now) (handler_uses h)) (sym c.self.view_is) c.requires)
