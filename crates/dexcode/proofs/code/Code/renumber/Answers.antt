use Rattle.dexcode.proofs.Common.{◌≡◌, Some, map, ap, sym, subst, ◌∙◌, All, flat_map, all_parts, option_map, rules, HasPlace, AreStored, all_named, handler_uses, tries_uses, HasTypePlace, renumbered_try, tries_of, debug_of}
use Rattle.dexcode.proofs.CodeUses.{debug_part, optional_debug_uses}
use Rattle.dexcode.proofs.TypesRemapped.{types_apart, stored_remapped, named_remapped}
use Rattle.dexcode.proofs.code.Code.renumber.Goals as goal
use Rattle.dexcode.proofs.code.Code.renumber.Goals.{in-None, in-Debug, in-Tries+in-Some, in-Tries+in_default}

pub renumber-requires-in-Debug : goal.renumber-requires-in-Debug
renumber-requires-in-Debug c =
    debug_part (HasPlace c.args.remap.now) (debug_of c.self.inside.extras) c.deref_mut.result.now (subst (λ x. All (HasPlace c.args.remap.now) (optional_debug_uses x.debug)) (sym c.self.view_is) c.requires.debug_has)
    (ap debug_of c.in-Debug.is ∙ ap Some (sym c.deref_mut.ensures.value))

pub renumber_all-requires : goal.renumber_all-requires
renumber_all-requires c =
    let r = c.args.remap.now in
    let inside = c.behind-both.inside.0.0 in
    let stored : c.args.self.now.tries ≡ all_named inside.handlers.items inside.tries.items = sym (ap (λ x. x.tries) c.self.view_is) ∙ ap tries_of c.in-Tries.is ∙ ap (λ b. b.tries) (sym c.deref_mut-in-Tries.ensures.value) ∙ sym (ap (λ b. b.tries) c.behind-both.view_is) in
    all_parts (HasTypePlace r) handler_uses inside.handlers.items
    (subst (λ hs. All (HasTypePlace r) (flat_map handler_uses hs)) (sym c.behind-both.invariant.used) (subst (λ ts. All (HasTypePlace r) (tries_uses ts)) stored c.requires.catches_have))

pub invariant_of-behind-both : goal.invariant_of-behind-both
invariant_of-behind-both c =
    let r = c.args.remap.now in
    let inside = c.behind-both.inside.0.0 in
    let stored : c.args.self.now.tries ≡ all_named inside.handlers.items inside.tries.items = sym (ap (λ x. x.tries) c.self.view_is) ∙ ap tries_of c.in-Tries.is ∙ ap (λ b. b.tries) (sym c.deref_mut-in-Tries.ensures.value) ∙ sym (ap (λ b. b.tries) c.behind-both.view_is) in
    subst (λ hs. AreStored hs inside.tries.items) (sym c.renumber_all.ensures)
    (stored_remapped r inside.handlers.items inside.tries.items (types_apart r c.keeps_order.ensures) (subst (λ ts. All (HasTypePlace r) (tries_uses ts)) stored c.requires.catches_have) c.behind-both.invariant)

pub renumber-requires-in-Some : goal.renumber-requires-in-Some
renumber-requires-in-Some c =
    debug_part (HasPlace c.args.remap.now) (debug_of c.self.inside.extras) c.deref_mut-in-Some.result.now (subst (λ x. All (HasPlace c.args.remap.now) (optional_debug_uses x.debug)) (sym c.self.view_is) c.requires.debug_has)
    (ap debug_of c.in-Tries.is
    ∙ ap (option_map (λ b. b.value)) (sym (ap (λ b. b.debug) c.deref_mut-in-Tries.ensures.value) ∙ sym (ap (λ b. b.debug) c.behind-both.view_is) ∙ sym (ap (λ b. b.debug) c.deref_mut-in-Tries-2.ensures.value) ∙ c.in-Some.is)
    ∙ ap Some (sym c.deref_mut-in-Some.ensures.value))

pub returns : goal.returns
returns c =
    let r = c.args.remap.now in
    elim c.match-self.branch [
      | in-None w ↦ search rules
      | in-Debug w ↦ search rules
      | in-Tries+in-Some w ↦
          let inside = w.behind-both.inside.0.0 in
          let tries : all_named w.renumber_all.new.items.items inside.tries.items ≡ map (renumbered_try r) (all_named inside.handlers.items inside.tries.items) =
          ap (λ hs. all_named hs inside.tries.items) w.renumber_all.ensures ∙ named_remapped r inside.handlers.items inside.tries.items w.behind-both.invariant.within in
          search rules
      | in-Tries+in_default w ↦
          let inside = w.behind-both.inside.0.0 in
          let tries : all_named w.renumber_all.new.items.items inside.tries.items ≡ map (renumbered_try r) (all_named inside.handlers.items inside.tries.items) =
          ap (λ hs. all_named hs inside.tries.items) w.renumber_all.ensures ∙ named_remapped r inside.handlers.items inside.tries.items w.behind-both.invariant.within in
          search rules
    ]
