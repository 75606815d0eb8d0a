use Rattle.dexpool.proofs.Common.{◌≡◌, ℕ, true, List, map, sym, ◌∙◌, subst, lists_in, All-weaker, text_cmp, proto_cmp, field_cmp, method_cmp, rises, Mentions, text_total, text_exact, proto_total, proto_exact, field_total, field_exact, method_total, method_exact, IsNumbering, text_of, proto_of, field_of, method_of, AreJoinedProtos, AreJoinedMethods}
use Rattle.dexpool.proofs.JoinedTables.{count_images, are_tables, are_union, all_map_to, images_keep}
use Rattle.dexpool.proofs.MappingAll.{all_map_to_all}
use Rattle.dexpool.proofs.numbering.Numbering.join.Goals as goal

pub remaps-requires-clause-counts : goal.remaps-requires-clause-counts
remaps-requires-clause-counts c =
    let strings = count_images (λ (m : Mentions). m.texts) text_cmp (map (λ part. part.now) c.args.parts.now) c.in_ok-strings.strings.rows.items c.in_ok-strings.strings.images.items c.in_ok-strings.ensures.texts in
    record {
      types_count = count_images (λ (m : Mentions). m.types) text_cmp (map (λ part. part.now) c.args.parts.now) (map (text_of c.in_ok-strings.strings.rows.items) c.in_ok-types.types.rows.items) c.in_ok-types.types.images.items c.in_ok-types.ensures.union ∙ sym strings;
      protos_count = count_images (λ (m : Mentions). m.protos) proto_cmp (map (λ part. part.now) c.args.parts.now) (map (proto_of c.in_ok-strings.strings.rows.items c.in_ok-types.types.rows.items c.in_ok-protos.protos.table.parameters.items) c.in_ok-protos.protos.table.rows.items) c.in_ok-protos.protos.images.items c.in_ok-protos.ensures.union ∙ sym strings;
      fields_count = count_images (λ (m : Mentions). m.fields) field_cmp (map (λ part. part.now) c.args.parts.now) (map (field_of c.in_ok-strings.strings.rows.items c.in_ok-types.types.rows.items) c.in_ok-fields.fields.rows.items) c.in_ok-fields.fields.images.items c.in_ok-fields.ensures.union ∙ sym strings;
      methods_count = count_images (λ (m : Mentions). m.methods) method_cmp (map (λ part. part.now) c.args.parts.now) (map (method_of c.in_ok-strings.strings.rows.items c.in_ok-types.types.rows.items c.in_ok-protos.protos.table.parameters.items c.in_ok-protos.protos.table.rows.items) c.in_ok-methods.methods.rows.items) c.in_ok-methods.methods.images.items c.in_ok-methods.ensures.union ∙ sym strings;
    }

pub remaps-requires-clause-keep : goal.remaps-requires-clause-keep
remaps-requires-clause-keep c = λ part lt.
    let less = rw (count_images (λ (m : Mentions). m.texts) text_cmp (map (λ part. part.now) c.args.parts.now) c.in_ok-strings.strings.rows.items c.in_ok-strings.strings.images.items c.in_ok-strings.ensures.texts) at lt in
    record {
      texts_keep = images_keep (λ (m : Mentions). m.texts) text_cmp text_total text_exact (map (λ part. part.now) c.args.parts.now) c.in_ok-strings.strings.rows.items (lists_in c.in_ok-strings.strings.images.items) c.in_ok-strings.ensures.texts (All-weaker IsNumbering (λ m. rises text_cmp m.texts ≡ true) (λ m n. n.rising.texts_rise) (map (λ part. part.now) c.args.parts.now) c.in_ok-strings.ensures.numberings) part less;
      types_keep = images_keep (λ (m : Mentions). m.types) text_cmp text_total text_exact (map (λ part. part.now) c.args.parts.now) (map (text_of c.in_ok-strings.strings.rows.items) c.in_ok-types.types.rows.items) (lists_in c.in_ok-types.types.images.items) c.in_ok-types.ensures.union (All-weaker IsNumbering (λ m. rises text_cmp m.types ≡ true) (λ m n. n.rising.types_rise) (map (λ part. part.now) c.args.parts.now) c.in_ok-strings.ensures.numberings) part less;
      protos_keep = images_keep (λ (m : Mentions). m.protos) proto_cmp proto_total proto_exact (map (λ part. part.now) c.args.parts.now) (map (proto_of c.in_ok-strings.strings.rows.items c.in_ok-types.types.rows.items c.in_ok-protos.protos.table.parameters.items) c.in_ok-protos.protos.table.rows.items) (lists_in c.in_ok-protos.protos.images.items) c.in_ok-protos.ensures.union (All-weaker IsNumbering (λ m. rises proto_cmp m.protos ≡ true) (λ m n. n.rising.protos_rise) (map (λ part. part.now) c.args.parts.now) c.in_ok-strings.ensures.numberings) part less;
      fields_keep = images_keep (λ (m : Mentions). m.fields) field_cmp field_total field_exact (map (λ part. part.now) c.args.parts.now) (map (field_of c.in_ok-strings.strings.rows.items c.in_ok-types.types.rows.items) c.in_ok-fields.fields.rows.items) (lists_in c.in_ok-fields.fields.images.items) c.in_ok-fields.ensures.union (All-weaker IsNumbering (λ m. rises field_cmp m.fields ≡ true) (λ m n. n.rising.fields_rise) (map (λ part. part.now) c.args.parts.now) c.in_ok-strings.ensures.numberings) part less;
      methods_keep = images_keep (λ (m : Mentions). m.methods) method_cmp method_total method_exact (map (λ part. part.now) c.args.parts.now) (map (method_of c.in_ok-strings.strings.rows.items c.in_ok-types.types.rows.items c.in_ok-protos.protos.table.parameters.items c.in_ok-protos.protos.table.rows.items) c.in_ok-methods.methods.rows.items) (lists_in c.in_ok-methods.methods.images.items) c.in_ok-methods.ensures.union (All-weaker IsNumbering (λ m. rises method_cmp m.methods ≡ true) (λ m n. n.rising.methods_rise) (map (λ part. part.now) c.args.parts.now) c.in_ok-strings.ensures.numberings) part less;
    }

-- the joined protos and methods, whose parameters the tables own
own_protos : (c : goal.After-own) → AreJoinedProtos (map (λ part. part.now) c.args.parts.now) c.in_ok-strings.strings.rows.items c.in_ok-types.types.rows.items c.own.result c.in_ok-protos.protos.table.rows.items (map (λ image. image.items) c.in_ok-protos.protos.images.items)
own_protos c = subst (λ (ps : List ℕ). AreJoinedProtos (map (λ part. part.now) c.args.parts.now) c.in_ok-strings.strings.rows.items c.in_ok-types.types.rows.items ps c.in_ok-protos.protos.table.rows.items (map (λ image. image.items) c.in_ok-protos.protos.images.items)) (sym c.own.ensures) c.in_ok-protos.ensures

own_methods : (c : goal.After-own) → AreJoinedMethods (map (λ part. part.now) c.args.parts.now) c.in_ok-strings.strings.rows.items c.in_ok-types.types.rows.items c.own.result c.in_ok-protos.protos.table.rows.items c.in_ok-methods.methods.rows.items (map (λ image. image.items) c.in_ok-methods.methods.images.items)
own_methods c = subst (λ (ps : List ℕ). AreJoinedMethods (map (λ part. part.now) c.args.parts.now) c.in_ok-strings.strings.rows.items c.in_ok-types.types.rows.items ps c.in_ok-protos.protos.table.rows.items c.in_ok-methods.methods.rows.items (map (λ image. image.items) c.in_ok-methods.methods.images.items)) (sym c.own.ensures) c.in_ok-methods.ensures

pub invariant_of-result : goal.invariant_of-result
invariant_of-result c = are_tables (map (λ part. part.now) c.args.parts.now) c.in_ok-strings.ensures.numberings (record { strings = c.in_ok-strings.strings.rows; types = c.in_ok-types.types.rows; protos = c.in_ok-protos.protos.table.rows; parameters = c.own.result; fields = c.in_ok-fields.fields.rows; methods = c.in_ok-methods.methods.rows })
    (map (λ image. image.items) c.in_ok-strings.strings.images.items) (map (λ image. image.items) c.in_ok-types.types.images.items) (map (λ image. image.items) c.in_ok-protos.protos.images.items) (map (λ image. image.items) c.in_ok-fields.fields.images.items) (map (λ image. image.items) c.in_ok-methods.methods.images.items)
    c.in_ok-strings.ensures.texts c.in_ok-types.ensures (own_protos c) c.in_ok-fields.ensures (own_methods c)

pub returns-clause-union : goal.returns-clause-union
returns-clause-union c = are_union (map (λ part. part.now) c.args.parts.now) c.in_ok-strings.ensures.numberings (record { strings = c.in_ok-strings.strings.rows; types = c.in_ok-types.types.rows; protos = c.in_ok-protos.protos.table.rows; parameters = c.own.result; fields = c.in_ok-fields.fields.rows; methods = c.in_ok-methods.methods.rows })
    (map (λ image. image.items) c.in_ok-strings.strings.images.items) (map (λ image. image.items) c.in_ok-types.types.images.items) (map (λ image. image.items) c.in_ok-protos.protos.images.items) (map (λ image. image.items) c.in_ok-fields.fields.images.items) (map (λ image. image.items) c.in_ok-methods.methods.images.items)
    c.in_ok-strings.ensures.texts c.in_ok-types.ensures (own_protos c) c.in_ok-fields.ensures (own_methods c)

pub returns-clause-maps : goal.returns-clause-maps
returns-clause-maps c = all_map_to (map (λ part. part.now) c.args.parts.now) c.in_ok-strings.ensures.numberings (record { strings = c.in_ok-strings.strings.rows; types = c.in_ok-types.types.rows; protos = c.in_ok-protos.protos.table.rows; parameters = c.own.result; fields = c.in_ok-fields.fields.rows; methods = c.in_ok-methods.methods.rows })
    (map (λ image. image.items) c.in_ok-strings.strings.images.items) (map (λ image. image.items) c.in_ok-types.types.images.items) (map (λ image. image.items) c.in_ok-protos.protos.images.items) (map (λ image. image.items) c.in_ok-fields.fields.images.items) (map (λ image. image.items) c.in_ok-methods.methods.images.items)
    c.in_ok-strings.ensures.texts c.in_ok-types.ensures (own_protos c) c.in_ok-fields.ensures (own_methods c)
    c.in_ok-remaps.remaps.items c.in_ok-remaps.ensures

pub returns-clause-whole : goal.returns-clause-whole
returns-clause-whole c = all_map_to_all (map (λ part. part.now) c.args.parts.now) _ c.in_ok-remaps.remaps.items (returns-clause-union c) (returns-clause-maps c)
