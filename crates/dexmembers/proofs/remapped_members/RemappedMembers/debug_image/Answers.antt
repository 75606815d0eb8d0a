use Rattle.dexmembers.proofs.Common.{◌∙◌, All, Maps, subst, sym}
use Rattle.dexdebug.specs.Debug.{HasPlace, debug_uses}
use Rattle.dexmembers.specs.internal.SharedCodes.{debug_in}
use Rattle.dexmembers.proofs.remapped_members.RemappedMembers.debug_image.Goals as goal

pub image-requires : goal.image-requires
image-requires c = subst (λ (r : Maps). All (HasPlace r) (debug_uses (debug_in c.args.debug.now))) (sym (c.self.invariant.1 ∙ c.self.view_is)) c.requires
