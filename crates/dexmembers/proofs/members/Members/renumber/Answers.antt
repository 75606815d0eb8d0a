use Rattle.dexmembers.proofs.Common.{◌≡◌, Maps, map, All, sym, subst, ap, ◌∙◌, set_at}
use Rattle.dexmembers.specs.{NumberedMembers, field_of, method_of, IsHeldField, IsHeldMethod, IsHeldMethodMapped, contents_in, renumbered_field, renumbered_method, renumbered_members, MembersHavePlaces}
use Rattle.dexmembers.specs.HeldCodes.{methods_in}
use Rattle.dexmembers.specs.HeldCodes as codes
use Rattle.dexmembers.specs.StaticValues.{values_in, AreReady}
use Rattle.dexval.specs.Renumbering.{HavePlaces, renumbered_values}
use Rattle.dexval.specs.Tables.{AreRemappedSets}
use Rattle.dexmembers.proofs.HeldMembers.{fields_mapped, methods_mapped, fields_remapped, methods_remapped, place_kept, fields_kept, methods_kept, few_mapped, same_few}
use Rattle.dexmembers.proofs.members.Members.renumber.Goals as goal

-- ---- the images of shared code

pub code_images-requires-clause-mapped : goal.code_images-requires-clause-mapped
code_images-requires-clause-mapped c = methods_mapped c.args.items.now c.self.inside.contents.table (methods_in c.self.inside.contents.direct_methods) (subst (MembersHavePlaces c.args.items.now) (sym c.self.view_is) c.requires).direct_methods_mapped

pub code_images-requires-clause-placed : goal.code_images-requires-clause-placed
code_images-requires-clause-placed c = c.self.invariant.held.direct_codes_placed

pub code_images-requires-2-clause-mapped : goal.code_images-requires-2-clause-mapped
code_images-requires-2-clause-mapped c = subst (λ (q : Maps). All (IsHeldMethodMapped q) (methods_in c.self.inside.contents.virtual_methods)) (sym c.code_images.ensures.kept) (methods_mapped c.args.items.now c.self.inside.contents.table (methods_in c.self.inside.contents.virtual_methods) (subst (MembersHavePlaces c.args.items.now) (sym c.self.view_is) c.requires).virtual_methods_mapped)

pub code_images-requires-2-clause-placed : goal.code_images-requires-2-clause-placed
code_images-requires-2-clause-placed c = c.self.invariant.held.virtual_codes_placed

pub prepare_values-requires : goal.prepare_values-requires
prepare_values-requires c = subst (λ (q : Maps). HavePlaces q (values_in c.self.inside.contents.static_values)) (sym (c.code_images-2.ensures.kept ∙ c.code_images.ensures.kept)) (subst (MembersHavePlaces c.args.items.now) (sym c.self.view_is) c.requires).values_mapped

-- ---- what is remapped then

pub renumber_all-requires : goal.renumber_all-requires
renumber_all-requires c = fields_mapped c.remap-remap.result.now c.self.inside.contents.table.sets c.self.inside.contents.static_fields.items (subst (MembersHavePlaces c.remap-remap.result.now) (sym c.self.view_is) (subst (λ (q : Maps). MembersHavePlaces q c.args.self.now) (sym c.remap-remap.ensures) c.requires)).static_fields_mapped

pub renumber_all-requires-2 : goal.renumber_all-requires-2
renumber_all-requires-2 c = fields_mapped c.remap-remap.result.now c.self.inside.contents.table.sets c.self.inside.contents.instance_fields.items (subst (MembersHavePlaces c.remap-remap.result.now) (sym c.self.view_is) (subst (λ (q : Maps). MembersHavePlaces q c.args.self.now) (sym c.remap-remap.ensures) c.requires)).instance_fields_mapped

pub renumber-requires-clause-mapped : goal.renumber-requires-clause-mapped
renumber-requires-clause-mapped c = methods_mapped c.remap-remap.result.now c.self.inside.contents.table (methods_in c.self.inside.contents.direct_methods) (subst (MembersHavePlaces c.remap-remap.result.now) (sym c.self.view_is) (subst (λ (q : Maps). MembersHavePlaces q c.args.self.now) (sym c.remap-remap.ensures) c.requires)).direct_methods_mapped

pub renumber-requires-clause-placed : goal.renumber-requires-clause-placed
renumber-requires-clause-placed c = c.self.invariant.held.direct_codes_placed

pub renumber-requires-clause-ready : goal.renumber-requires-clause-ready
renumber-requires-clause-ready c = subst (λ (q : Maps). codes.AreReady q c.self.inside.contents.direct_methods.code_items c.in_ok-direct_images.direct_images) (sym c.remap-remap.ensures) c.in_ok-direct_images.ensures.ready

pub renumber-requires-2-clause-mapped : goal.renumber-requires-2-clause-mapped
renumber-requires-2-clause-mapped c = methods_mapped c.remap-remap.result.now c.self.inside.contents.table (methods_in c.self.inside.contents.virtual_methods) (subst (MembersHavePlaces c.remap-remap.result.now) (sym c.self.view_is) (subst (λ (q : Maps). MembersHavePlaces q c.args.self.now) (sym c.remap-remap.ensures) c.requires)).virtual_methods_mapped

pub renumber-requires-2-clause-placed : goal.renumber-requires-2-clause-placed
renumber-requires-2-clause-placed c = c.self.invariant.held.virtual_codes_placed

pub renumber-requires-2-clause-ready : goal.renumber-requires-2-clause-ready
renumber-requires-2-clause-ready c = subst (λ (q : Maps). codes.AreReady q c.self.inside.contents.virtual_methods.code_items c.in_ok-virtual_images.virtual_images) (c.code_images.ensures.kept ∙ sym c.remap-remap.ensures) c.in_ok-virtual_images.ensures.ready

pub renumber-requires-3-clause-places : goal.renumber-requires-3-clause-places
renumber-requires-3-clause-places c = subst (HavePlaces c.remap-remap.result.now) (sym c.prepare_values.ensures.values) (subst (MembersHavePlaces c.remap-remap.result.now) (sym c.self.view_is) (subst (λ (q : Maps). MembersHavePlaces q c.args.self.now) (sym c.remap-remap.ensures) c.requires)).values_mapped

pub renumber-requires-3-clause-ready : goal.renumber-requires-3-clause-ready
renumber-requires-3-clause-ready c = subst (λ (q : Maps). AreReady q c.prepare_values.new.values) (c.code_images-2.ensures.kept ∙ c.code_images.ensures.kept ∙ sym c.remap-remap.ensures) c.in_ok-prepare_values.ensures.ready

-- ---- what it is

pub invariant_of-self-2 : goal.invariant_of-self-2
invariant_of-self-2 c =
    let r = c.remap-remap.result.now in
    let x = c.self.inside.contents in
    let t' = c.renumber_table.new.table in
    let kept = c.self.invariant in
    let has = (subst (MembersHavePlaces c.remap-remap.result.now) (sym c.self.view_is) (subst (λ (q : Maps). MembersHavePlaces q c.args.self.now) (sym c.remap-remap.ensures) c.requires)) in
    let size = c.renumber_table.ensures.size in
    let lists = c.renumber_table.ensures.lists in
    let remapped = subst (λ (q : Maps). AreRemappedSets q x.table.sets t'.sets) (c.prepare_values.ensures.items ∙ c.code_images-2.ensures.kept ∙ c.code_images.ensures.kept ∙ sym c.remap-remap.ensures) c.in_ok-renumber_table.ensures.sets in
    let few = few_mapped (renumbered_field r) (renumbered_method r) _ _ _ _ kept.few in
    let statics = ap (map (field_of t'.sets)) c.renumber_all.ensures ∙ fields_remapped r x.table.sets t'.sets remapped x.static_fields.items has.static_fields_mapped in
    let instances = ap (map (field_of t'.sets)) c.renumber_all-2.ensures ∙ fields_remapped r x.table.sets t'.sets remapped x.instance_fields.items has.instance_fields_mapped in
    let directs = ap (map (method_of t')) c.renumber.ensures.renumbered ∙ methods_remapped r x.table.sets t'.sets remapped x.table.lists t'.lists lists (methods_in x.direct_methods) has.direct_methods_mapped in
    let virtuals = ap (map (method_of t')) c.renumber-2.ensures.renumbered ∙ methods_remapped r x.table.sets t'.sets remapped x.table.lists t'.lists lists (methods_in x.virtual_methods) has.virtual_methods_mapped in
    record {
      few = same_few (sym statics) (sym instances) (sym directs) (sym virtuals) few;
      held = record {
        own_held = place_kept x.table.sets t'.sets size x.set kept.held.own_held;
        static_fields_held = subst (All (IsHeldField t'.sets)) (sym c.renumber_all.ensures) (fields_kept r x.table.sets t'.sets size x.static_fields.items kept.held.static_fields_held);
        instance_fields_held = subst (All (IsHeldField t'.sets)) (sym c.renumber_all-2.ensures) (fields_kept r x.table.sets t'.sets size x.instance_fields.items kept.held.instance_fields_held);
        direct_methods_held = subst (All (IsHeldMethod t')) (sym c.renumber.ensures.renumbered) (methods_kept r x.table t' size lists (methods_in x.direct_methods) kept.held.direct_methods_held);
        virtual_methods_held = subst (All (IsHeldMethod t')) (sym c.renumber-2.ensures.renumbered) (methods_kept r x.table t' size lists (methods_in x.virtual_methods) kept.held.virtual_methods_held);
        direct_codes_placed = c.renumber.ensures.placed;
        virtual_codes_placed = c.renumber-2.ensures.placed;
      };
    }

pub returns-clause-renumbered : goal.returns-clause-renumbered
returns-clause-renumbered c =
    let r = c.remap-remap.result.now in
    let x = c.self.inside.contents in
    let t' = c.renumber_table.new.table in
    let has = (subst (MembersHavePlaces c.remap-remap.result.now) (sym c.self.view_is) (subst (λ (q : Maps). MembersHavePlaces q c.args.self.now) (sym c.remap-remap.ensures) c.requires)) in
    let lists = c.renumber_table.ensures.lists in
    let remapped = subst (λ (q : Maps). AreRemappedSets q x.table.sets t'.sets) (c.prepare_values.ensures.items ∙ c.code_images-2.ensures.kept ∙ c.code_images.ensures.kept ∙ sym c.remap-remap.ensures) c.in_ok-renumber_table.ensures.sets in
    let own = (remapped x.set).0 has.annotations_mapped in
    let statics = ap (map (field_of t'.sets)) c.renumber_all.ensures ∙ fields_remapped r x.table.sets t'.sets remapped x.static_fields.items has.static_fields_mapped in
    let instances = ap (map (field_of t'.sets)) c.renumber_all-2.ensures ∙ fields_remapped r x.table.sets t'.sets remapped x.instance_fields.items has.instance_fields_mapped in
    let directs = ap (map (method_of t')) c.renumber.ensures.renumbered ∙ methods_remapped r x.table.sets t'.sets remapped x.table.lists t'.lists lists (methods_in x.direct_methods) has.direct_methods_mapped in
    let virtuals = ap (map (method_of t')) c.renumber-2.ensures.renumbered ∙ methods_remapped r x.table.sets t'.sets remapped x.table.lists t'.lists lists (methods_in x.virtual_methods) has.virtual_methods_mapped in
    let new : NumberedMembers = record {
      annotations = set_at t'.sets x.set;
      static_fields = map (field_of t'.sets) c.renumber_all.new.items.items;
      instance_fields = map (field_of t'.sets) c.renumber_all-2.new.items.items;
      direct_methods = map (method_of t') (methods_in c.renumber.new.self);
      virtual_methods = map (method_of t') (methods_in c.renumber-2.new.self);
      static_values = values_in c.renumber-3.new.self;
    } in
    let statics_are = c.renumber-3.ensures ∙ ap (renumbered_values r) c.prepare_values.ensures.values in
    let all : new ≡ renumbered_members r (contents_in x) =
    λ i. record { annotations = own i; static_fields = statics i; instance_fields = instances i; direct_methods = directs i; virtual_methods = virtuals i; static_values = statics_are i } in
    all ∙ ap (renumbered_members r) c.self.view_is ∙ ap (λ (q : Maps). renumbered_members q c.args.self.now) c.remap-remap.ensures
