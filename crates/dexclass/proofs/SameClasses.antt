-- Classes that are remapped denote the same definitions; remapped into one numbering they are the same if and only if
-- their definitions are.
use Rattle.dexclass.proofs.Common.{◌≡◌, ℕ, ◌-◌, ◌^◌, ◌<◌, min, List, ◌∷◌, ◌++◌, length, map, option_to_list, sym, ap, ◌∙◌, subst, ◌↔◌, IsSome, All, All-head, All-tail, Text, Definition, Mentions, body_weight, AreRising, Maps, AllMapTo, image, Use, IsMappedUse, NumberedMembers, members_in, members_of, AreKnownMembers, AreOrdered, AreOfClass, members_uses, all_prefix, all_back, all_seen, text_at, type_at}
use Rattle.dexmembers.specs.Renumbering.{renumbered_members}
use Rattle.std.specs.Prelude.{Option, Some, None, IfSome, []}
use Rattle.std.specs.Option.{option_map}
use Rattle.dexspec.specs.Spellings.{text_index, type_index}
use Rattle.dexpool.specs.declared.symbols.SymbolKind.TheVariants as kinds
use Rattle.dexpool.proofs.Numbers.{number_ranked, one_back}
use Rattle.dexpool.proofs.Numbers as numbers
use Rattle.dexmembers.proofs.SameMembers.{ranked_members, members_back}
use Rattle.dexclass.specs.{NumberedClass, definition_of, type_numbers, text_numbers, type_use, text_use, IsKnownClass, image_or_same, renumbered_class, IsMappedClass, StaysSame}
use Rattle.dexclass.proofs.Remapped.{remapped_is, all_remapped, optional_remapped, all_within, optional_numbers, numbers_after}

-- ---- a class that is remapped

module _ (r : Maps) (c : NumberedClass) (maps_to : IsMappedClass r c) where
  abbrev types_used : List Use
  types_used = map type_use (type_numbers c)

  abbrev texts_used : List Use
  texts_used = map text_use (text_numbers c)

  types_mapped : All (λ i. IsSome (image r.types i)) (type_numbers c)
  types_mapped = all_seen type_use (IsMappedUse r) (type_numbers c) (all_prefix (IsMappedUse r) types_used (texts_used ++ members_uses c.members) maps_to)

  after_mapped : All (IsMappedUse r) (texts_used ++ members_uses c.members)
  after_mapped = all_back (IsMappedUse r) types_used (texts_used ++ members_uses c.members) maps_to

  texts_mapped : All (λ i. IsSome (image r.texts i)) (text_numbers c)
  texts_mapped = all_seen text_use (IsMappedUse r) (text_numbers c) (all_prefix (IsMappedUse r) texts_used (members_uses c.members) after_mapped)

  superclass_mapped : All (λ i. IsSome (image r.types i)) (option_to_list c.superclass)
  superclass_mapped = all_prefix (λ i. IsSome (image r.types i)) (option_to_list c.superclass) c.interfaces (All-tail (λ i. IsSome (image r.types i)) c.name (option_to_list c.superclass ++ c.interfaces) types_mapped)

  interfaces_mapped : All (λ i. IsSome (image r.types i)) c.interfaces
  interfaces_mapped = all_back (λ i. IsSome (image r.types i)) (option_to_list c.superclass) c.interfaces (All-tail (λ i. IsSome (image r.types i)) c.name (option_to_list c.superclass ++ c.interfaces) types_mapped)

  -- what it declares
  pub members_mapped : All (IsMappedUse r) (members_uses c.members)
  members_mapped = all_back (IsMappedUse r) texts_used (members_uses c.members) after_mapped

-- what is known of members that are remapped
pub record MembersStay (m n : Mentions) (r : Maps) (class : Text) (x : NumberedMembers) : Type 0 where
  pub known : AreKnownMembers n (renumbered_members r x)
  pub same : members_in n (renumbered_members r x) ≡ members_in m x
  pub ordered : AreOrdered (renumbered_members r x)
  pub own : AreOfClass n class (renumbered_members r x)

module _ (m n : Mentions) (r : Maps) (h : AllMapTo m n r) (c : NumberedClass) (maps_to : IsMappedClass r c) where
  pub name_remapped : type_at n (image_or_same r.types c.name) ≡ type_at m c.name
  name_remapped = remapped_is m.types n.types r.types h.types_mapped c.name (All-head (λ i. IsSome (image r.types i)) c.name (option_to_list c.superclass ++ c.interfaces) (types_mapped r c maps_to))

  module _ (stay : MembersStay m n r (type_at m c.name) c.members) where
    definition_remapped : definition_of n (renumbered_class r c) ≡ definition_of m c
    definition_remapped = λ i. (
      name_remapped i,
      record {
        flags = c.flags;
        superclass = optional_remapped m.types n.types r.types h.types_mapped c.superclass (superclass_mapped r c maps_to) i;
        interfaces = all_remapped m.types n.types r.types h.types_mapped c.interfaces (interfaces_mapped r c maps_to) i;
        source = optional_remapped m.texts n.texts r.texts h.texts_mapped c.source (texts_mapped r c maps_to) i;
        annotations = (stay.same i).annotations;
        static_fields = (stay.same i).static_fields;
        instance_fields = (stay.same i).instance_fields;
        direct_methods = (stay.same i).direct_methods;
        virtual_methods = (stay.same i).virtual_methods;
        static_values = (stay.same i).static_values;
      },
    )

    -- it denotes the same definition, by numbers of the other numbering
    pub stays_same : IsKnownClass m c → StaysSame m n r c
    stays_same known = record {
      same = definition_remapped;
      known = record {
        types_in = subst (All (λ k. k < length n.types)) (ap (λ (l : List ℕ). image_or_same r.types c.name ∷ l) (numbers_after (image_or_same r.types) c.superclass c.interfaces)) (all_within m.types n.types r.types h.types_mapped (type_numbers c) (types_mapped r c maps_to));
        texts_in = subst (All (λ k. k < length n.texts)) (optional_numbers (image_or_same r.texts) c.source) (all_within m.texts n.texts r.texts h.texts_mapped (text_numbers c) (texts_mapped r c maps_to));
        members_known = stay.known;
        members_ordered = stay.ordered;
        members_own = subst (λ t. AreOfClass n t (renumbered_members r c.members)) (sym name_remapped) stay.own;
        weighed = known.weighed ∙ ap (λ (d : Definition). min (2 ^ 64 - 1) (body_weight d.1)) (sym definition_remapped);
      };
    }

-- ---- one class for each definition

-- the class that denotes it: each number the rank of its symbol
abbrev ranked_class : Mentions → Definition → NumberedClass
ranked_class m d = record {
  name = type_index m d.0;
  flags = d.1.flags;
  superclass = option_map (type_index m) d.1.superclass;
  interfaces = map (type_index m) d.1.interfaces;
  source = option_map (text_index m) d.1.source;
  members = ranked_members m d.0 (members_of d.1);
  weight = min (2 ^ 64 - 1) (body_weight d.1);
}

if_some : (P : ℕ → Type 0) (o : Option ℕ) → All P (option_to_list o) → IfSome o P
if_some P None all = tt
if_some P (Some i) all = All-head P i [] all

class_back : (m : Mentions) → AreRising m → (c : NumberedClass) → IsKnownClass m c → ranked_class m (definition_of m c) ≡ c
class_back m rising c known =
    let P : ℕ → Type 0 = λ i. i < length m.types in
    let parents = All-tail P c.name (option_to_list c.superclass ++ c.interfaces) known.types_in in
    let name = number_ranked m rising kinds.Typ c.name (All-head P c.name (option_to_list c.superclass ++ c.interfaces) known.types_in) in
    let superclass = one_back P (type_at m) (type_index m) (number_ranked m rising kinds.Typ) c.superclass (if_some P c.superclass (all_prefix P (option_to_list c.superclass) c.interfaces parents)) in
    let interfaces = numbers.all_back P (type_at m) (type_index m) (number_ranked m rising kinds.Typ) c.interfaces (all_back P (option_to_list c.superclass) c.interfaces parents) in
    let source = one_back (λ i. i < length m.texts) (text_at m) (text_index m) (number_ranked m rising kinds.Text) c.source (if_some (λ i. i < length m.texts) c.source known.texts_in) in
    let declared = members_back m rising (type_at m c.name) c.members known.members_known known.members_own in
    λ i. record { name = name i; flags = c.flags; superclass = superclass i; interfaces = interfaces i; source = source i; members = declared i; weight = (sym known.weighed) i }

-- mapped into one numbering, they are the same if and only if their definitions are
pub same_classes : (m n whole : Mentions) (r s : Maps) (c d : NumberedClass) → AreRising whole → StaysSame m whole r c → StaysSame n whole s d → (renumbered_class r c ≡ renumbered_class s d) ↔ (definition_of m c ≡ definition_of n d)
same_classes m n whole r s c d rising mine theirs = (
  λ e. sym mine.same ∙ ap (definition_of whole) e ∙ theirs.same,
  λ e. sym (class_back whole rising (renumbered_class r c) mine.known) ∙ ap (ranked_class whole) (mine.same ∙ e ∙ sym theirs.same) ∙ class_back whole rising (renumbered_class s d) theirs.known,
)
