-- The five joined tables are tables of a numbering, the union of the parts, and their images are maps.
use Rattle.dexpool.proofs.Common.{◌≡◌, ℕ, ◌+◌, ◌<◌, true, List, [], ◌∷◌, ◌++◌, length, get_or, take, drop, map, Option, Some, sym, ap, ◌∙◌, subst, arith, All, AllZip, IsTotalOrder, IsAntisymmetric, Ordering, get_or-map, length-map, map-append, map_more, All-weaker, All-get_or, rises, text_cmp, IsDescriptor, IsProto, IsField, IsMethod, Mentions, text_total, text_exact, proto_total, proto_exact, field_total, field_exact, method_total, method_exact, Tables, text_of, proto_of, field_of, method_of, IsNumbering, Maps, MapsTo, AllMapTo, union_of, KeepsOrder, symbols_in, AreTables, numberings_of, lists_in, Moves, IsUnion, AreJoinedTexts, AreJoinedTypes, AreJoinedProtos, AreJoinedFields, AreJoinedMethods, AreMapsOf, HaveSameParts, HavePart, SameFrom, image_at, total_maps, at_rest, drop-map, drop-drop, length-drop, take_all, ◌≤◌}
use Rattle.std.specs.Borrow.{Bor}
use Rattle.std.specs.Global.{Vec}
use Rattle.dexpool.specs.declared.joined_tables.JoinedImages.{JoinedImages}
use Rattle.dexspec.specs.Symbols as symbols
use Rattle.dexpool.proofs.Pairs.{zip_length, zip_at, zip_from, zip_seen}
use Rattle.dexpool.proofs.TablesAreAt.{tables_made}
use Rattle.dexpool.proofs.Unions.{some, all_union}
use Rattle.dexpool.proofs.Mapping.{maps_to}
use Rattle.dexpool.proofs.JoinedLevels.{union_rises, texts_rise, types_rise, protos_rise, field_rows_rise, method_rows_rise}

-- there are images for each part
pub count_images : {P X : Type 0} (of : P → List X) (R : X → X → Ordering) (parts : List P) (xs : List X) (images : List (Vec ℕ)) → IsUnion of R parts xs (lists_in images) → length images ≡ length parts
count_images of R parts xs images u = omega (arith, zip_length (λ p image. Moves (of p) xs image) parts (lists_in images) u.moves, length-map images (λ image. image.items))

-- the images of the numbers of one part, by its tables
pub part_moves : {X : Type 0} (of : Mentions → List X) (to : List X) (parts : List (Bor Mentions)) (images : List (Vec ℕ)) (i : ℕ) (part : Bor Mentions) (image : Vec ℕ) (m : Mentions)
    → AllZip (λ part image. Moves (of part) to image) (numberings_of parts) (lists_in images) → i < length parts → part ≡ get_or parts i part → image ≡ get_or images i image → m ≡ part.now → Moves (of m) to image.items
part_moves of to parts images i part image m moves lt is_part is_image same =
    subst (λ (n : Mentions). Moves (of n) to image.items) (sym same) (zip_seen (λ (n : Mentions) places. Moves (of n) to places) (λ n. n.now) (λ places. places.items) parts images i part image moves lt is_part is_image)

-- the images of a part are a map
one_mapped : {X : Type 0} (of : Mentions → List X) (R : X → X → Ordering) (o : IsTotalOrder R) (exact : IsAntisymmetric R) (parts : List Mentions) (to : List X) (images : List (List ℕ)) → IsUnion of R parts to images → All (λ m. rises R (of m) ≡ true) parts
    → (seen : Maps → List (Option ℕ)) (maps : List Maps) → map seen maps ≡ map (map Some) images → (i : ℕ) (d : Mentions) (e : Maps) → i < length parts → MapsTo (of (get_or parts i d)) to (seen (get_or maps i e))
one_mapped of R o exact parts to images u rise seen maps is i d e lt =
    let n : length images ≡ length parts = sym (zip_length (λ m image. Moves (of m) to image) parts images u.moves) in
    let same : seen (get_or maps i e) ≡ map Some (get_or images i []) =
    sym (get_or-map seen maps i e (seen e) (omega (arith, lt, n, sym (length-map maps seen) ∙ ap (λ (l : List (List (Option ℕ))). length l) is ∙ length-map images (map Some)))) ∙ ap (λ (l : List (List (Option ℕ))). get_or l i (seen e)) is ∙ get_or-map (map Some) images i [] (seen e) (omega (arith, lt, n)) in
    subst (MapsTo (of (get_or parts i d)) to) (sym same)
    (maps_to R o (of (get_or parts i d)) to (All-get_or (λ m. rises R (of m) ≡ true) parts i d lt rise) (union_rises of R o exact parts to images u) (get_or images i [])
    (zip_at (λ m image. Moves (of m) to image) parts images i d [] u.moves lt))

-- the images of each part keep the order of its numbers
pub images_keep : {X : Type 0} (of : Mentions → List X) (R : X → X → Ordering) (o : IsTotalOrder R) (exact : IsAntisymmetric R) (parts : List Mentions) (to : List X) (images : List (List ℕ))
    → IsUnion of R parts to images → All (λ m. rises R (of m) ≡ true) parts → (i : ℕ) → i < length parts → KeepsOrder (map Some (get_or images i []))
images_keep of R o exact parts to images u rise i lt =
    let part = some parts i lt in
    (maps_to R o (of (get_or parts i part)) to (All-get_or (λ m. rises R (of m) ≡ true) parts i part lt rise) (union_rises of R o exact parts to images u) (get_or images i []) (zip_at (λ m image. Moves (of m) to image) parts images i part [] u.moves lt)).rising

-- ---- the maps, of one part after the other

-- the maps have the images of the first parts
abbrev pub AreFirstMaps : ℕ → JoinedImages → List Maps → Type 0
AreFirstMaps i images = AreMapsOf (take i (lists_in images.strings.items)) (take i (lists_in images.types.items)) (take i (lists_in images.protos.items)) (take i (lists_in images.fields.items)) (take i (lists_in images.methods.items))

image_more : (seen : Maps → List (Option ℕ)) (old new : List Maps) (m : Maps) (images : Vec (Vec ℕ)) (i : ℕ) → new ≡ old ++ m ∷ [] → map seen old ≡ map (map (λ (k : ℕ). Some k)) (take i (lists_in images.items)) → i < length images.items
    → seen m ≡ map (λ (k : ℕ). Some k) (image_at i images) → map seen new ≡ map (map (λ (k : ℕ). Some k)) (take (i + 1) (lists_in images.items))
image_more seen old new m images i more so_far lt is =
    ap (map seen) more ∙ map-append seen old (m ∷ []) ∙ (λ k. so_far k ++ is k ∷ [])
    ∙ sym (map_more (map (λ (k : ℕ). Some k)) (lists_in images.items) i [] (omega (arith, lt, length-map images.items (λ image. image.items))))

pub maps_more : (images : JoinedImages) (old new : List Maps) (m : Maps) (i : ℕ) → HavePart i images → AreFirstMaps i images old → new ≡ old ++ m ∷ [] → m ≡ total_maps i images → AreFirstMaps (i + 1) images new
maps_more images old new m i part so_far more is = record {
  texts_are = image_more (λ m. m.texts) old new m images.strings i more so_far.texts_are part.strings_in (ap (λ m. m.texts) is);
  types_are = image_more (λ m. m.types) old new m images.types i more so_far.types_are part.types_in (ap (λ m. m.types) is);
  protos_are = image_more (λ m. m.protos) old new m images.protos i more so_far.protos_are part.protos_in (ap (λ m. m.protos) is);
  fields_are = image_more (λ m. m.fields) old new m images.fields i more so_far.fields_are part.fields_in (ap (λ m. m.fields) is);
  methods_are = image_more (λ m. m.methods) old new m images.methods i more so_far.methods_are part.methods_in (ap (λ m. m.methods) is);
}

all_images : (images : Vec (Vec ℕ)) (i : ℕ) → length images.items ≤ i → take i (lists_in images.items) ≡ lists_in images.items
all_images images i le = take_all i (lists_in images.items) (omega (arith, le, length-map images.items (λ image. image.items)))

pub maps_all : (images : JoinedImages) (maps : List Maps) (i : ℕ) → HaveSameParts images → length images.strings.items ≤ i → AreFirstMaps i images maps → AreMapsOf (lists_in images.strings.items) (lists_in images.types.items) (lists_in images.protos.items) (lists_in images.fields.items) (lists_in images.methods.items) maps
maps_all images maps i counts le are = record {
  texts_are = are.texts_are ∙ ap (map (map (λ (k : ℕ). Some k))) (all_images images.strings i le);
  types_are = are.types_are ∙ ap (map (map (λ (k : ℕ). Some k))) (all_images images.types i (omega (arith, le, counts.types_count)));
  protos_are = are.protos_are ∙ ap (map (map (λ (k : ℕ). Some k))) (all_images images.protos i (omega (arith, le, counts.protos_count)));
  fields_are = are.fields_are ∙ ap (map (map (λ (k : ℕ). Some k))) (all_images images.fields i (omega (arith, le, counts.fields_count)));
  methods_are = are.methods_are ∙ ap (map (map (λ (k : ℕ). Some k))) (all_images images.methods i (omega (arith, le, counts.methods_count)));
}

-- ---- the images that are left, after those of some parts were moved

pub has_part : (images : JoinedImages) (i : ℕ) → HaveSameParts images → i < length images.strings.items → HavePart i images
has_part images i counts lt = record {
  strings_in = lt;
  types_in = omega (arith, lt, counts.types_count);
  protos_in = omega (arith, lt, counts.protos_count);
  fields_in = omega (arith, lt, counts.fields_count);
  methods_in = omega (arith, lt, counts.methods_count);
}

module _ (i : ℕ) (old new : JoinedImages) (same : SameFrom i old new) where
  in_left : (xs ys : Vec (Vec ℕ)) → drop i ys.items ≡ drop i xs.items → i < length xs.items → i < length ys.items
  in_left xs ys e lt = omega (arith, lt, ap length e, length-drop i xs.items, length-drop i ys.items)

  pub has_left : HavePart i old → HavePart i new
  has_left part = record {
    strings_in = in_left old.strings new.strings same.strings_same part.strings_in;
    types_in = in_left old.types new.types same.types_same part.types_in;
    protos_in = in_left old.protos new.protos same.protos_same part.protos_in;
    fields_in = in_left old.fields new.fields same.fields_same part.fields_in;
    methods_in = in_left old.methods new.methods same.methods_same part.methods_in;
  }

  image_left : (xs ys : Vec (Vec ℕ)) → drop i ys.items ≡ drop i xs.items → image_at i ys ≡ image_at i xs
  image_left xs ys e = at_rest (lists_in xs.items) (lists_in ys.items) i [] (drop-map (λ image. image.items) i ys.items ∙ ap lists_in e ∙ sym (drop-map (λ image. image.items) i xs.items))

  pub maps_left : total_maps i new ≡ total_maps i old
  maps_left = λ k. record {
    texts = map Some (image_left old.strings new.strings same.strings_same k);
    types = map Some (image_left old.types new.types same.types_same k);
    protos = map Some (image_left old.protos new.protos same.protos_same k);
    fields = map Some (image_left old.fields new.fields same.fields_same k);
    methods = map Some (image_left old.methods new.methods same.methods_same k);
  }

  following : (xs ys zs : Vec (Vec ℕ)) → drop i ys.items ≡ drop i xs.items → drop (i + 1) zs.items ≡ drop (i + 1) ys.items → drop (i + 1) zs.items ≡ drop (i + 1) xs.items
  following xs ys zs e f = f ∙ sym (drop-drop 1 i ys.items) ∙ ap (drop 1) e ∙ drop-drop 1 i xs.items

  pub left_more : (after : JoinedImages) → SameFrom (i + 1) new after → SameFrom (i + 1) old after
  left_more after next = record {
    strings_same = following old.strings new.strings after.strings same.strings_same next.strings_same;
    types_same = following old.types new.types after.types same.types_same next.types_same;
    protos_same = following old.protos new.protos after.protos same.protos_same next.protos_same;
    fields_same = following old.fields new.fields after.fields same.fields_same next.fields_same;
    methods_same = following old.methods new.methods after.methods same.methods_same next.methods_same;
  }

module _ (parts : List Mentions) (numberings : All IsNumbering parts) (t : Tables) (strings types protos fields methods : List (List ℕ))
    (jt : AreJoinedTexts parts t.strings.items strings) (jy : AreJoinedTypes parts t.strings.items t.types.items types) (jp : AreJoinedProtos parts t.strings.items t.types.items t.parameters t.protos.items protos)
    (jf : AreJoinedFields parts t.strings.items t.types.items t.fields.items fields) (jm : AreJoinedMethods parts t.strings.items t.types.items t.parameters t.protos.items t.methods.items methods) where
  pub are_tables : AreTables t
  are_tables =
      tables_made t
      (texts_rise parts numberings t.strings.items strings jt)
      (types_rise parts numberings t.strings.items strings jt t.types.items types jy)
      (protos_rise parts numberings t.strings.items strings jt t.types.items types jy t.parameters t.protos.items protos jp)
      (field_rows_rise parts numberings t.strings.items strings jt t.types.items types jy t.fields.items fields jf)
      (method_rows_rise parts numberings t.strings.items strings jt t.types.items types jy t.parameters t.protos.items protos jp t.methods.items methods jm)
      jy.within
      (all_union (λ (m : Mentions). m.types) text_cmp text_total text_exact IsDescriptor parts (symbols_in t).types jy.union.all (All-weaker IsNumbering (λ m. All IsDescriptor m.types) (λ m n. n.types_formed) parts numberings))
      jp.within jp.shorties
      (all_union (λ (m : Mentions). m.protos) symbols.proto_cmp proto_total proto_exact IsProto parts (symbols_in t).protos jp.union.all (All-weaker IsNumbering (λ m. All IsProto m.protos) (λ m n. n.protos_formed) parts numberings))
      jf.within
      (all_union (λ (m : Mentions). m.fields) symbols.field_cmp field_total field_exact IsField parts (symbols_in t).fields jf.union.all (All-weaker IsNumbering (λ m. All IsField m.fields) (λ m n. n.fields_formed) parts numberings))
      jm.within
      (all_union (λ (m : Mentions). m.methods) symbols.method_cmp method_total method_exact IsMethod parts (symbols_in t).methods jm.union.all (All-weaker IsNumbering (λ m. All IsMethod m.methods) (λ m n. n.methods_formed) parts numberings))

  pub are_union : symbols_in t ≡ union_of parts
  are_union = λ i. record { texts = jt.all i; types = jy.union.all i; protos = jp.union.all i; fields = jf.union.all i; methods = jm.union.all i }

  pub all_map_to : (maps : List Maps) → AreMapsOf strings types protos fields methods maps → AllZip (λ part r. AllMapTo part (symbols_in t) r) parts maps
  all_map_to maps h =
      zip_from (λ part r. AllMapTo part (symbols_in t) r) parts maps
      (omega (arith, zip_length (λ (m : Mentions) image. Moves m.texts t.strings.items image) parts strings jt.moves, length-map maps (λ m. m.texts), ap (λ (l : List (List (Option ℕ))). length l) h.texts_are, length-map strings (map (λ (k : ℕ). Some k))))
      (λ i d e lt. record {
        texts_mapped = one_mapped (λ (m : Mentions). m.texts) text_cmp text_total text_exact parts t.strings.items strings jt (All-weaker IsNumbering (λ m. rises text_cmp m.texts ≡ true) (λ m n. n.rising.texts_rise) parts numberings) (λ m. m.texts) maps h.texts_are i d e lt;
        types_mapped = one_mapped (λ (m : Mentions). m.types) text_cmp text_total text_exact parts (map (text_of t.strings.items) t.types.items) types jy.union (All-weaker IsNumbering (λ m. rises text_cmp m.types ≡ true) (λ m n. n.rising.types_rise) parts numberings) (λ m. m.types) maps h.types_are i d e lt;
        protos_mapped = one_mapped (λ (m : Mentions). m.protos) symbols.proto_cmp proto_total proto_exact parts (map (proto_of t.strings.items t.types.items t.parameters) t.protos.items) protos jp.union
            (All-weaker IsNumbering (λ m. rises symbols.proto_cmp m.protos ≡ true) (λ m n. n.rising.protos_rise) parts numberings) (λ m. m.protos) maps h.protos_are i d e lt;
        fields_mapped = one_mapped (λ (m : Mentions). m.fields) symbols.field_cmp field_total field_exact parts (map (field_of t.strings.items t.types.items) t.fields.items) fields jf.union
            (All-weaker IsNumbering (λ m. rises symbols.field_cmp m.fields ≡ true) (λ m n. n.rising.fields_rise) parts numberings) (λ m. m.fields) maps h.fields_are i d e lt;
        methods_mapped = one_mapped (λ (m : Mentions). m.methods) symbols.method_cmp method_total method_exact parts (map (method_of t.strings.items t.types.items t.parameters t.protos.items) t.methods.items) methods jm.union
            (All-weaker IsNumbering (λ m. rises symbols.method_cmp m.methods ≡ true) (λ m n. n.rising.methods_rise) parts numberings) (λ m. m.methods) maps h.methods_are i d e lt;
      })
