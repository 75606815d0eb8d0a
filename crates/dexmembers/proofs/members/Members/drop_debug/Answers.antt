use Rattle.dexmembers.proofs.Common.{◌≡◌, map, All, sym, subst, ap, ◌∙◌}
use Rattle.dexmembers.specs.{contents_in, method_of, IsHeldMethod, stripped_members}
use Rattle.dexmembers.specs.HeldCodes.{methods_in}
use Rattle.dexmembers.proofs.HeldMembers.{methods_stripped, stripped_kept, stripped_few}
use Rattle.dexmembers.proofs.members.Members.drop_debug.Goals as goal

pub invariant_of-self : goal.invariant_of-self
invariant_of-self c =
    let x = c.self.inside.contents in
    let kept = c.self.invariant in
    let directs = ap (map (method_of x.table)) c.drop_debug.ensures.stripped ∙ methods_stripped x.table (methods_in x.direct_methods) in
    let virtuals = ap (map (method_of x.table)) c.drop_debug-2.ensures.stripped ∙ methods_stripped x.table (methods_in x.virtual_methods) in
    record {
      few = stripped_few (sym directs) (sym virtuals) kept.few;
      held = record {
        own_held = kept.held.own_held;
        static_fields_held = kept.held.static_fields_held;
        instance_fields_held = kept.held.instance_fields_held;
        direct_methods_held = subst (All (IsHeldMethod x.table)) (sym c.drop_debug.ensures.stripped) (stripped_kept x.table (methods_in x.direct_methods) kept.held.direct_methods_held);
        virtual_methods_held = subst (All (IsHeldMethod x.table)) (sym c.drop_debug-2.ensures.stripped) (stripped_kept x.table (methods_in x.virtual_methods) kept.held.virtual_methods_held);
        direct_codes_placed = c.drop_debug.ensures.placed kept.held.direct_codes_placed;
        virtual_codes_placed = c.drop_debug-2.ensures.placed kept.held.virtual_codes_placed;
      };
    }

pub returns : goal.returns
returns c =
    let x = c.self.inside.contents in
    let directs = ap (map (method_of x.table)) c.drop_debug.ensures.stripped ∙ methods_stripped x.table (methods_in x.direct_methods) in
    let virtuals = ap (map (method_of x.table)) c.drop_debug-2.ensures.stripped ∙ methods_stripped x.table (methods_in x.virtual_methods) in
    let y = contents_in x in
    let all : _ ≡ stripped_members y =
    λ i. record { annotations = y.annotations; static_fields = y.static_fields; instance_fields = y.instance_fields; direct_methods = directs i; virtual_methods = virtuals i; static_values = y.static_values } in
    all ∙ ap stripped_members c.self.view_is
