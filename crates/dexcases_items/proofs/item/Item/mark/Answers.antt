use Rattle.std.proofs.Common.{subst}
use Rattle.dexdebug.specs.Meaning.{debug_in}
use Rattle.dexcode.specs.Meaning.{code_in}
use Rattle.dexcases_items.specs.Items.{IsKnownItem}
use Rattle.dexcases_items.proofs.item.Item.mark.Goals as goal

pub mark-requires-in-Debug : goal.mark-requires-in-Debug
mark-requires-in-Debug c =
    let m = c.args.numbering.now in
    let d = c.in-Debug.debug in
    let known = subst (IsKnownItem m) c.in-Debug.is c.requires.known in
    c.debug_uses_law.ensures.marks m c.args.marks.now d (debug_in m d) c.requires.marks (c.debug_meaning_law.ensures.encodes m d known)

pub mark-requires-in-Code : goal.mark-requires-in-Code
mark-requires-in-Code c =
    let m = c.args.numbering.now in
    let code = c.in-Code.code in
    let known = subst (IsKnownItem m) c.in-Code.is c.requires.known in
    c.code_uses_law.ensures.marks m c.args.marks.now code (code_in m code) c.requires.marks (c.code_meaning_law.ensures.encodes m code known)
