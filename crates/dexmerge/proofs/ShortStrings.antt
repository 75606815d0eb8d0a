-- The texts that a const-string of classes names, by their numbers: what they denote, and their images.
use Rattle.dexmerge.proofs.Common.{◌≡◌, ℕ, Bool, true, false, not, ◌&&◌, if◌then◌else◌, List, [], ◌∷◌, map, Option, Some, None, refl, sym, ap, ◌∙◌, subst, All, IfSome, option_to_list, Contains, flat_map, map-append, All-append, Text, text_cmp, rank, TextSymbol, Definition, MethodDef, declared_methods, Mentions, HasShortString, Contains-nil, Contains-first, Contains-flat_map, Contains-flat_map_source, Rises-from_rises, rank-get_or, text_total, Contains-map, Contains-map_source, IsAt, AreRising, Maps, image, image_of, is_text, is_short_string, short_string, HasConstString, short_named, short_denoted, NumberedItem, renumbered_item, NumberedMethod, NumberedMembers, methods_of, method_in, IsKnownMethod, AreKnownMembers, renumbered_method, renumbered_members, code_short_strings, method_short_strings, members_short_strings, NumberedClass, definition_of, IsKnownClass, All-contains, one_member}
use Rattle.std.specs.Option.{option_map}
use Rattle.dexspec.specs.Pieces.{is_wide_index}
use Rattle.dexspec.specs.Pieces as symbolic
use Rattle.dexspec.specs.Code.{Code}
use Rattle.dexpool.specs.declared.symbols.SymbolKind.{SymbolKind}
use Rattle.dexpool.specs.declared.symbols.SymbolKind.TheVariants as kinds
use Rattle.dexinsn.specs.Numbered.{NumberedPiece, Instruction, kind_in, renumbered_piece}
use Rattle.dexcode.specs.Meaning.{code_in, IsKnownCode}
use Rattle.dexmerge.specs.internal.Amounts.{short_numbers}

-- ---- in symbols

-- the number is that of a text
abbrev IsOneOf : Mentions → List ℕ → Text → Type 0
IsOneOf m ns s = (n : ℕ) × Contains ns n × IsAt m.texts n s

-- code that is there
some_code : (m : Mentions) (o : Option NumberedItem) (code : Code) → option_map (code_in m) o ≡ Some code → (k : NumberedItem) × (o ≡ Some k) × (code_in m k ≡ code)
some_code m None code e = absurd cc
some_code m (Some k) code e = (k, refl, cc)

-- a member of what is there, or of nothing
pub option_source : (o : Option NumberedItem) (k : NumberedItem) → Contains (option_to_list o) k → o ≡ Some k
option_source None k c = absurd (Contains-nil k c)
option_source (Some j) k c = ap Some (one_member j k c)

known_code : (m : Mentions) (y : NumberedMethod) (k : NumberedItem) → IsKnownMethod m y → y.code ≡ Some k → IsKnownCode m k
known_code m y k known e = subst (λ (o : Option NumberedItem). IfSome o (IsKnownCode m)) e known.code_known

-- all methods are known
known_methods : (m : Mentions) (x : NumberedMembers) → AreKnownMembers m x → All (IsKnownMethod m) (methods_of x)
known_methods m x h = All-append (IsKnownMethod m) x.direct_methods x.virtual_methods h.direct_methods_known h.virtual_methods_known

-- the methods of a definition are those of the class
declared_are : (m : Mentions) (c : NumberedClass) → declared_methods (definition_of m c).1 ≡ map (method_in m) (methods_of c.members)
declared_are m c = sym (map-append (method_in m) c.members.direct_methods c.members.virtual_methods)

module _ (m : Mentions) (cs : List NumberedClass) (known : All (IsKnownClass m) cs) where
  -- each text that a const-string names has one of the numbers
  pub short_named_by : (s : Text) → HasShortString (map (definition_of m) cs) s → IsOneOf m (short_numbers cs) s
  short_named_by s h =
      let class = Contains-map_source (definition_of m) cs h.definition h.member in
      let c : NumberedClass = class.0 in
      let method = Contains-map_source (method_in m) (methods_of c.members) h.method (subst (λ (l : List MethodDef). Contains l h.method) (declared_are m c) (subst (λ (d : Definition). Contains (declared_methods d.1) h.method) (sym class.2) h.declared)) in
      let y : NumberedMethod = method.0 in
      let code = some_code m y.code h.code (ap (λ (x : MethodDef). x.code) method.2 ∙ h.has_code) in
      let k : NumberedItem = code.0 in
      let named : HasConstString (code_in m k).pieces s = record { units = h.units; piece = subst (λ (x : Code). Contains x.pieces (symbolic.Instruction h.units (Some (TextSymbol s)))) (sym code.2) h.piece; short = h.short } in
      let f = short_named m k.body.pieces (code_in m k).pieces s (record { known = (known_code m y k (All-contains (IsKnownMethod m) (methods_of c.members) y (known_methods m c.members (All-contains (IsKnownClass m) cs c known class.1).members_known) method.1) code.1).pieces_known; mean = refl }) named in
      let in_method : Contains (method_short_strings y) f.0 = subst (λ (o : Option NumberedItem). Contains (flat_map code_short_strings (option_to_list o)) f.0) (sym code.1) (Contains-flat_map code_short_strings (k ∷ []) k f.0 (Contains-first k []) f.1) in
      (f.0, Contains-flat_map (λ (x : NumberedClass). members_short_strings x.members) cs c f.0 class.1 (Contains-flat_map method_short_strings (methods_of c.members) y f.0 method.1 in_method), f.2)

  -- and each number is that of such a text
  pub short_denotes_text : (n : ℕ) → Contains (short_numbers cs) n → (s : Text) × IsAt m.texts n s × HasShortString (map (definition_of m) cs) s
  short_denotes_text n has =
      let class = Contains-flat_map_source (λ (x : NumberedClass). members_short_strings x.members) cs n has in
      let c : NumberedClass = class.0 in
      let method = Contains-flat_map_source method_short_strings (methods_of c.members) n class.2 in
      let y : NumberedMethod = method.0 in
      let code = Contains-flat_map_source code_short_strings (option_to_list y.code) n method.2 in
      let k : NumberedItem = code.0 in
      let is : y.code ≡ Some k = option_source y.code k code.1 in
      let f = short_denoted m k.body.pieces (code_in m k).pieces n (record { known = (known_code m y k (All-contains (IsKnownMethod m) (methods_of c.members) y (known_methods m c.members (All-contains (IsKnownClass m) cs c known class.1).members_known) method.1) is).pieces_known; mean = refl }) code.2 in
      let named : HasConstString (code_in m k).pieces f.0 = f.2 in (
        f.0,
        f.1,
        record {
          definition = definition_of m c;
          method = method_in m y;
          code = code_in m k;
          units = named.units;
          member = Contains-map (definition_of m) cs c class.1;
          declared = subst (λ (l : List MethodDef). Contains l (method_in m y)) (sym (declared_are m c)) (Contains-map (method_in m) (methods_of c.members) y method.1);
          has_code = ap (option_map (code_in m)) is;
          piece = named.piece;
          short = named.short;
        },
      )

-- a text's number is its rank
pub rank_is : (m : Mentions) → AreRising m → (n : ℕ) (s : Text) → IsAt m.texts n s → rank text_cmp s m.texts ≡ n
rank_is m rising n s h = ap (λ (t : Text). rank text_cmp t m.texts) (sym (h.is [])) ∙ rank-get_or text_cmp text_total m.texts n [] (Rises-from_rises text_cmp text_total m.texts rising.texts_rise) h.within

-- ---- remapped

-- the number of a text maps to another
abbrev TextMapsTo : Maps → ℕ → ℕ → Type 0
TextMapsTo r n j = image r.texts n ≡ Some j

-- a number that is there under a condition
one_if : (b : Bool) (n k : ℕ) → Contains (if b then n ∷ [] else []) k → (b ≡ true) × (n ≡ k)
one_if true n k c = (refl, one_member n k c)
one_if false n k c = absurd (Contains-nil k c)

has_if : (b : Bool) (n : ℕ) → b ≡ true → Contains (if b then n ∷ [] else []) n
has_if true n is = Contains-first n []
has_if false n is = absurd cc

-- a short string is a text
as_text : (r : Maps) (k : SymbolKind) (w : Bool) (n : ℕ) → (is_text k && not w) ≡ true → image_of r k n ≡ image r.texts n
as_text r kinds.Text w n is = refl
as_text r _ w n is = absurd cc

module _ (r : Maps) where
  -- a piece
  remapped_by : (us : List ℕ) (n j : ℕ) (o : Option ℕ) → image_of r (kind_in us) n ≡ o → Contains (short_string (Instruction us o)) j → (k : ℕ) × Contains (short_string (Instruction us (Some n))) k × TextMapsTo r k j
  remapped_by us n j None e c = absurd (Contains-nil j c)
  remapped_by us n j (Some i) e c =
      let is = one_if (is_short_string us) i j c in
      (n, has_if (is_short_string us) n is.0, sym (as_text r (kind_in us) (is_wide_index us) n is.0) ∙ e ∙ ap Some is.1)

  remapped_piece : (p : NumberedPiece) (j : ℕ) → Contains (short_string (renumbered_piece r p)) j → (n : ℕ) × Contains (short_string p) n × TextMapsTo r n j
  remapped_piece (Instruction us (Some n)) j c = remapped_by us n j (image_of r (kind_in us) n) refl c
  remapped_piece x j c = absurd (Contains-nil j c)

  maps_piece : (p : NumberedPiece) (n j : ℕ) → Contains (short_string p) n → TextMapsTo r n j → Contains (short_string (renumbered_piece r p)) j
  maps_piece (Instruction us (Some i)) n j c maps_to =
      let is = one_if (is_short_string us) i n c in
      subst (λ (o : Option ℕ). Contains (short_string (Instruction us o)) j) (sym (as_text r (kind_in us) (is_wide_index us) i is.0 ∙ ap (image r.texts) is.1 ∙ maps_to)) (has_if (is_short_string us) j is.0)
  maps_piece x n j c maps_to = absurd (Contains-nil n c)

  -- the numbers of what is remapped are the images of its numbers
  abbrev Follows : {X : Type 0} → (X → X) → (X → List ℕ) → Type 0
  Follows {X} f s = (x : X) → ((j : ℕ) → Contains (s (f x)) j → (n : ℕ) × Contains (s x) n × TextMapsTo r n j) × ((n j : ℕ) → Contains (s x) n → TextMapsTo r n j → Contains (s (f x)) j)

  all_follow : {X : Type 0} (f : X → X) (s : X → List ℕ) → Follows f s → Follows (map f) (flat_map s)
  all_follow f s each xs = (
    λ j c.
        let a = Contains-flat_map_source s (map f xs) j c in
        let b = Contains-map_source f xs a.0 a.1 in
        let e = (each b.0).0 j (subst (λ y. Contains (s y) j) (sym b.2) a.2) in
        (e.0, Contains-flat_map s xs b.0 e.0 b.1 e.1, e.2),
    λ n j c maps_to.
        let a = Contains-flat_map_source s xs n c in
        Contains-flat_map s (map f xs) (f a.0) j (Contains-map f xs a.0 a.1) ((each a.0).1 n j a.2 maps_to),
  )

  code_follows : Follows (renumbered_item r) code_short_strings
  code_follows k = all_follow (renumbered_piece r) short_string (λ p. (remapped_piece p, maps_piece p)) k.body.pieces

  optional_follows : Follows (option_map (renumbered_item r)) (λ o. flat_map code_short_strings (option_to_list o))
  optional_follows None = all_follow (renumbered_item r) code_short_strings code_follows []
  optional_follows (Some k) = all_follow (renumbered_item r) code_short_strings code_follows (k ∷ [])

  -- so are those of members
  pub short_follows : Follows (renumbered_members r) members_short_strings
  short_follows x =
      let e = map-append (renumbered_method r) x.direct_methods x.virtual_methods in
      let h = all_follow (renumbered_method r) method_short_strings (λ y. optional_follows y.code) (methods_of x) in
      (λ j c. h.0 j (subst (λ l. Contains (flat_map method_short_strings l) j) (sym e) c), λ n j c maps_to. subst (λ l. Contains (flat_map method_short_strings l) j) e (h.1 n j c maps_to))
