-- The code of methods: by numbers, it is the code_items of the file.
use Rattle.dexlayout.proofs.Common.{◌≡◌, ℕ, ◌+◌, ◌<◌, ◌≤◌, List, [], ◌∷◌, ◌++◌, length, get_or, map, drop, Option, None, Some, refl, sym, ap, subst, ◌∙◌, arith, IfSome, All, flat_map, option_map, option_map_or, drop_more, length-drop, length-map, map-append, All-nil, All-head, All-tail, All-append, zip_with, MethodDef, declared_methods, Mentions, CodeItems, code_bytes, all_methods, code_uses, uses_offsets, debug_section, code_section, length-debug_offsets, length-code_offsets, AreRising, all_of, NumberedItem, handlers_of, code_in, IsKnownCode, numbered_code_bytes, HasShortTypes, NumberedMembers, NumberedMethod, method_in, AreKnownMembers, IsKnownMethod, methods_of, NumberedClass, definition_of, IsKnownClass, AreEncodedIn, AreKept, AreKeptIn, AreLaidIn, AreWritable, ordered_of, EncodedItems, KeptItems, ItemPlaces, Placed, code_item, code_items, HasShortCode, encode_use, encode_uses, no_items_from}
use Rattle.std.proofs.lemmas.Option.{IfSome_then}
use Rattle.dexspec.specs.Code as symbolic
use Rattle.dexcode.specs.Laws.{CodeBytesAreDenoted, CaughtTypesAreShort}
use Rattle.dexlayout.proofs.EncodedUses.{all_encoded_by, own_in, use_encoded, use_ends, use_fits, drop_next}

-- ---- the methods of classes

abbrev pub methods_in_all : List NumberedClass → List NumberedMethod
methods_in_all cs = flat_map (λ c. methods_of c.members) cs

-- they denote those of the definitions
pub methods_mean : (m : Mentions) (cs : List NumberedClass) → all_methods (map (definition_of m) cs) ≡ map (method_in m) (methods_in_all cs)
methods_mean m [] = refl
methods_mean m (c ∷ cs) =
    ap (λ xs. declared_methods (definition_of m c).1 ++ xs) (methods_mean m cs)
    ∙ ap (λ xs. xs ++ map (method_in m) (methods_in_all cs)) (sym (map-append (method_in m) c.members.direct_methods c.members.virtual_methods))
    ∙ sym (map-append (method_in m) (methods_of c.members) (methods_in_all cs))

-- and are known: those of a class
pub class_methods_known : (m : Mentions) (x : NumberedMembers) → AreKnownMembers m x → All (IsKnownMethod m) (methods_of x)
class_methods_known m x known = All-append (IsKnownMethod m) x.direct_methods x.virtual_methods known.direct_methods_known known.virtual_methods_known

-- and those of all
pub methods_known : (m : Mentions) (cs : List NumberedClass) → All (IsKnownClass m) cs → All (IsKnownMethod m) (methods_in_all cs)
methods_known m [] known = All-nil (IsKnownMethod m)
methods_known m (c ∷ cs) known = All-append (IsKnownMethod m) (methods_of c.members) (methods_in_all cs) (class_methods_known m c.members (All-head (IsKnownClass m) c cs known).members_known) (methods_known m cs (All-tail (IsKnownClass m) c cs known))

-- those of the next class, and of the classes after it
module _ (cs : List NumberedClass) (i : ℕ) (c : NumberedClass) (x : NumberedMembers) (lt : i < length cs) (is : get_or cs i c ≡ c) (members : x ≡ c.members) where
  pub next_methods : methods_in_all (drop i cs) ≡ methods_of x ++ methods_in_all (drop (i + 1) cs)
  next_methods = ap methods_in_all (drop_next cs i c lt is) ∙ ap (λ y. methods_of y ++ methods_in_all (drop (i + 1) cs)) (sym members)

-- ---- offsets, one for each method

module _ (m : Mentions) (cs : List NumberedClass) where
  pub count_methods : length (all_methods (ordered_of m cs).classes) ≡ length (methods_in_all cs)
  count_methods = ap (λ (xs : List MethodDef). length xs) (methods_mean m cs) ∙ length-map (methods_in_all cs) (method_in m)

  pub code_offsets_count : (offs : List ℕ) → offs ≡ uses_offsets (code_section (ordered_of m cs)) → length offs ≡ length (methods_in_all cs)
  code_offsets_count offs e = ap (λ (l : List ℕ). length l) e ∙ length-code_offsets (ordered_of m cs) ∙ count_methods

-- ---- by numbers it is the code of the file

module _ (m : Mentions) (rising : AreRising m) (bytes : CodeBytesAreDenoted) where
  abbrev use_of : MethodDef → ℕ → Option (symbolic.Code × ℕ)
  use_of x o = option_map_or (λ c. Some (c, o)) x.code None

  abbrev item_of : symbolic.Code × ℕ → List ℕ
  item_of p = code_bytes m p.1 p.0

  code_same : (code : Option NumberedItem) (o : ℕ) → IfSome code (IsKnownCode m) → option_map (numbered_code_bytes o) code ≡ option_map item_of (option_map_or (λ c. Some (c, o)) (option_map (code_in m) code) None)
  code_same None o known = refl
  code_same (Some c) o known = ap Some (bytes m o c (code_in m c) rising (record { known = known; means = refl }))

  codes_same : (xs : List NumberedMethod) (offs : List ℕ) → All (IsKnownMethod m) xs → code_items xs offs ≡ map (option_map item_of) (zip_with use_of (map (method_in m) xs) offs)
  codes_same (x ∷ xs) (o ∷ offs) known = λ i. code_same x.code o (All-head (IsKnownMethod m) x xs known).code_known i ∷ codes_same xs offs (All-tail (IsKnownMethod m) x xs known) i
  codes_same v y known = refl

module _ (m : Mentions) (cs : List NumberedClass) (w : AreWritable m cs) (bytes : CodeBytesAreDenoted) (debugs : ItemPlaces) (laid : AreLaidIn (debug_section (ordered_of m cs)) debugs) where
  items_are : code_items (methods_in_all cs) debugs.offsets ≡ map (option_map (item_of m w.numbering.rising bytes)) (code_uses (ordered_of m cs) (uses_offsets (debug_section (ordered_of m cs))))
  items_are =
      ap (code_items (methods_in_all cs)) laid.offsets_are ∙ codes_same m w.numbering.rising bytes (methods_in_all cs) (uses_offsets (debug_section (ordered_of m cs))) (methods_known m cs w.known)
      ∙ ap (λ xs. map (option_map (item_of m w.numbering.rising bytes)) (zip_with (use_of m w.numbering.rising bytes) xs (uses_offsets (debug_section (ordered_of m cs))))) (sym (methods_mean m cs))

  -- encoded after the debug programs
  pub codes_laid : AreEncodedIn (code_section (ordered_of m cs)) (encode_uses 4 (no_items_from debugs.end) (code_items (methods_in_all cs) debugs.offsets))
  unfolding code_section
  codes_laid = own_in 4 (item_of m w.numbering.rising bytes) CodeItems (code_uses (ordered_of m cs) (uses_offsets (debug_section (ordered_of m cs)))) laid.end_is items_are

-- ---- method by method

-- encoding the code of the methods that are left, with the offsets of debug programs that are left, gives all
pub record CodesLeft (items : EncodedItems) (xs : List NumberedMethod) (offs : List ℕ) (all : EncodedItems) : Type 0 where
  pub enough : length xs ≤ length offs
  pub short : All HasShortCode xs
  pub encoded : encode_uses 4 items (code_items xs offs) ≡ all

-- the same, where what is kept of the items is this
pub record CodesLeftOf (Keeps : EncodedItems → Type 0) (xs : List NumberedMethod) (offs : List ℕ) (all : EncodedItems) : Type 0 where
  pub items : EncodedItems
  pub keeps : Keeps items
  pub left : CodesLeft items xs offs all

-- at the start all of it is left
module _ (m : Mentions) (cs : List NumberedClass) (w : AreWritable m cs) (types : CaughtTypesAreShort) (debugs : ItemPlaces) (laid : AreLaidIn (debug_section (ordered_of m cs)) debugs) where
  code_short : (code : Option NumberedItem) → IfSome code (IsKnownCode m) → IfSome code (λ c. All HasShortTypes (handlers_of c.tries))
  code_short None known = tt
  code_short (Some c) known = types m c (code_in m c) (record { known = known; means = refl }) (omega (arith, w.types_few))

  pub codes_left : (items : EncodedItems) (offs : List ℕ) → items ≡ no_items_from debugs.end → offs ≡ debugs.offsets → CodesLeft items (methods_in_all cs) offs (encode_uses 4 (no_items_from debugs.end) (code_items (methods_in_all cs) debugs.offsets))
  codes_left items offs none are = record {
    enough = omega (arith, ap (λ (l : List ℕ). length l) (are ∙ laid.offsets_are), length-debug_offsets (ordered_of m cs), count_methods m cs);
    short = all_of (IsKnownMethod m) HasShortCode (methods_in_all cs) (λ x known. code_short x.code known.code_known) (methods_known m cs w.known);
    encoded = λ i. encode_uses 4 (none i) (code_items (methods_in_all cs) (are i));
  }

-- that of one method is next
module _ {items all : EncodedItems} (xs : List NumberedMethod) (offs : List ℕ) (i : ℕ) (x : NumberedMethod) (lt : i < length xs) (is : get_or xs i x ≡ x) (h : CodesLeft items (drop i xs) (drop i offs) all) where
  one_left : CodesLeft items (x ∷ drop (i + 1) xs) (get_or offs i 0 ∷ drop (i + 1) offs) all
  one_left =
      subst (λ os. CodesLeft items (x ∷ drop (i + 1) xs) os all) (drop_more offs i 0 (omega (arith, lt, h.enough, length-drop i xs, length-drop i offs)))
      (subst (λ ys. CodesLeft items ys (drop i offs) all) (drop_next xs i x lt is) h)

  pub one_short : HasShortCode x
  one_short = All-head HasShortCode x (drop (i + 1) xs) one_left.short

  pub one_fits : (encode_use 4 items (code_item x (get_or offs i 0))).places.end ≤ all.places.end
  one_fits = use_fits 4 {left = code_items (x ∷ drop (i + 1) xs) (get_or offs i 0 ∷ drop (i + 1) offs)} items refl one_left.encoded

  pub one_encoded : {more : EncodedItems} → more ≡ encode_use 4 items (code_item x (get_or offs i 0)) → CodesLeft more (drop (i + 1) xs) (drop (i + 1) offs) all
  one_encoded now = record {
    enough = omega (arith, one_left.enough);
    short = All-tail HasShortCode x (drop (i + 1) xs) one_left.short;
    encoded = use_encoded 4 {left = code_items (x ∷ drop (i + 1) xs) (get_or offs i 0 ∷ drop (i + 1) offs)} items refl one_left.encoded now;
  }

-- what is kept of the items of that method ends where it is to
module _ {Keeps : EncodedItems → Type 0} {all : EncodedItems} (at : ℕ) (ends : (items : EncodedItems) → Keeps items → items.places.end ≡ at) (xs : List NumberedMethod) (offs : List ℕ) (i : ℕ) (x : NumberedMethod) (lt : i < length xs) (is : get_or xs i x ≡ x) (h : CodesLeftOf Keeps (drop i xs) (drop i offs) all) where
  pub next_fits : (encode_use 4 (no_items_from at) (code_item x (get_or offs i 0))).places.end ≤ all.places.end
  next_fits = omega (arith, use_ends 4 h.items (no_items_from at) (code_item x (get_or offs i 0)) (ends h.items h.keeps), one_fits xs offs i x lt is h.left)

-- what is kept of the items of that method and of those before it
module _ {Old New : EncodedItems → Type 0} {all : EncodedItems} (xs : List NumberedMethod) (offs : List ℕ) (i : ℕ) (x : NumberedMethod) (lt : i < length xs) (is : get_or xs i x ≡ x) (h : CodesLeftOf Old (drop i xs) (drop i offs) all) where
  pub next_left : ((items : EncodedItems) → Old items → New (encode_use 4 items (code_item x (get_or offs i 0)))) → CodesLeftOf New (drop (i + 1) xs) (drop (i + 1) offs) all
  next_left step = record {
    items = encode_use 4 h.items (code_item x (get_or offs i 0));
    keeps = step h.items h.keeps;
    left = one_encoded xs offs i x lt is h.left refl;
  }

-- none is left
pub none_left : {Keeps : EncodedItems → Type 0} {xs : List NumberedMethod} {offs : List ℕ} {all : EncodedItems} → xs ≡ [] → CodesLeftOf Keeps xs offs all → Keeps all
none_left {Keeps = Keeps} {offs = offs} none h = subst Keeps (all_encoded_by 4 (ap (λ ys. code_items ys offs) none) h.left.encoded) h.keeps

-- ---- items that are kept

-- those of a section
pub kept_in : {S : Placed} {items : EncodedItems} {p : KeptItems} → AreEncodedIn S items → AreKept items p → AreKeptIn S p
kept_in {S} {items} {p} h kept = record {
  bytes_are = IfSome_then p.bytes kept.bytes_are (λ bytes e. e ∙ h.bytes_are);
  places_are = subst (AreLaidIn S) (sym kept.places_are) h.places_are;
}
