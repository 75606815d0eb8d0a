use Rattle.dexmembers.proofs.Common.{◌≡◌, ◌∙◌, sym, ap, subst, arith, All, map, changed_more, HasPlaces, renumbered_item}
use Rattle.dexdebug.specs.Debug.{HasPlace, NumberedDebug, debug_uses, renumbered_debug}
use Rattle.dexpool.proofs.Changed.{all_changed, unchanged}
use Rattle.dexmembers.specs.{codes_with}
use Rattle.dexmembers.proofs.CodeLists.{codes_have_places, codes_remapped, debugs_have_places, stored_remapped}
use Rattle.dexmembers.proofs.code_list.CodeList.renumber.Goals as goal

pub renumber_all-requires : goal.renumber_all-requires
renumber_all-requires c = let x = c.self.inside in codes_have_places c.args.remap.now x.debugs.items x.items.items c.self.invariant (subst (All (HasPlaces c.args.remap.now)) (sym c.self.view_is) c.requires)

pub renumber-requires : goal.renumber-requires
renumber-requires c =
    let x = c.self.inside in
    let r = c.args.remap.now in
    let P = λ (d : NumberedDebug). All (HasPlace r) (debug_uses d) in
    subst P (sym c.index_mut.ensures.value) (unchanged (renumbered_debug r) P x.debugs.items c.loop-i.self-inside.debugs.items c.loop-i.i c.index_mut.result.now c.loop-i.invariant.debugs (omega arith)
    (debugs_have_places r x.debugs.items x.items.items c.self.invariant (subst (All (HasPlaces r)) (sym c.self.view_is) c.requires)))

pub loop-i-preserved : goal.loop-i-preserved
loop-i-preserved c =
    let r = c.args.remap.now in
    record {
      debugs = changed_more (renumbered_debug r) c.self.inside.debugs.items c.loop-i.self-inside.debugs.items c.loop-i.i c.index_mut.result.now c.renumber.new.self c.loop-i.invariant.debugs (omega arith) (c.renumber.ensures ∙ ap (renumbered_debug r) c.index_mut.ensures.value);
      codes = c.loop-i.invariant.codes;
    }

pub invariant_of-self : goal.invariant_of-self
invariant_of-self c =
    let x = c.self.inside in
    let r = c.args.remap.now in
    let debugs : c.loop-i.self-inside.debugs.items ≡ map (renumbered_debug r) x.debugs.items = all_changed (renumbered_debug r) x.debugs.items c.loop-i.self-inside.debugs.items c.loop-i.i c.loop-i.invariant.debugs (omega arith) in
    rw (debugs, c.loop-i.invariant.codes, c.renumber_all.ensures) (stored_remapped r x.debugs.items x.items.items c.self.invariant)

pub returns : goal.returns
returns c =
    let x = c.self.inside in
    let r = c.args.remap.now in
    let debugs : c.loop-i.self-inside.debugs.items ≡ map (renumbered_debug r) x.debugs.items = all_changed (renumbered_debug r) x.debugs.items c.loop-i.self-inside.debugs.items c.loop-i.i c.loop-i.invariant.debugs (omega arith) in
    (λ i. codes_with (debugs i) ((c.loop-i.invariant.codes ∙ c.renumber_all.ensures) i)) ∙ codes_remapped r x.debugs.items x.items.items c.self.invariant ∙ ap (map (renumbered_item r)) c.self.view_is
