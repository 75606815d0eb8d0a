use Rattle.dexdebug.proofs.Common.{subst, sym, ◌∙◌, ap, All, all_parts, HasPlace, IsFormedDebug, number_uses, debug_uses, renumbered_debug, stored_debug, debug_weight, unindexed, Index}
use Rattle.dexdebug.proofs.DebugUses.{debug_formed}
use Rattle.dexdebug.proofs.StoredOperations.{renumbered_stored, renumbered_view, renumbered_weight, stored_uses}
use Rattle.dexdebug.proofs.debug.Debug.renumber.Goals as goal

pub renumber_all-requires : goal.renumber_all-requires
renumber_all-requires c =
    let uses = stored_uses c.self.inside.names c.self.inside.count c.self.inside.bytes.now c.self.inside.at c.self.inside.indices.items c.self.invariant.1 c.self.inside.line_start ∙ ap debug_uses c.self.view_is in
    all_parts (HasPlace c.args.remap.now) (λ (i : Index). number_uses i.kind i.number) c.self.inside.indices.items (subst (All (HasPlace c.args.remap.now)) (sym uses) c.requires)

pub invariant_of-self : goal.invariant_of-self
invariant_of-self c =
    let r = c.args.remap.now in
    let view = renumbered_view c.self.inside.names c.self.inside.count c.self.inside.bytes.now c.self.inside.at c.self.inside.indices.items c.self.invariant.1 r c.renumber_all.new.items.items c.renumber_all.ensures c.self.inside.line_start in (
      subst IsFormedDebug (sym view) (debug_formed r (stored_debug c.self.inside.line_start c.self.inside.names c.self.inside.count c.self.inside.bytes.now c.self.inside.at c.self.inside.indices.items) (subst (λ x. All (HasPlace r) (debug_uses x)) (sym c.self.view_is) c.requires) c.self.invariant.0),
      renumbered_stored c.self.inside.names c.self.inside.count c.self.inside.bytes.now c.self.inside.at c.self.inside.indices.items c.self.invariant.1 r c.renumber_all.new.items.items c.renumber_all.ensures,
      c.self.invariant.2 ∙ sym (renumbered_weight r (stored_debug c.self.inside.line_start c.self.inside.names c.self.inside.count c.self.inside.bytes.now c.self.inside.at c.self.inside.indices.items)) ∙ ap (λ d. debug_weight (unindexed d)) (sym view),
    )

pub returns : goal.returns
returns c =
    renumbered_view c.self.inside.names c.self.inside.count c.self.inside.bytes.now c.self.inside.at c.self.inside.indices.items c.self.invariant.1 c.args.remap.now c.renumber_all.new.items.items c.renumber_all.ensures c.self.inside.line_start
    ∙ ap (renumbered_debug c.args.remap.now) c.self.view_is
