-- The symbols that are marked are those that occur, and so are those that they mention.
use Rattle.dexclass.proofs.Common.{◌≡◌, ℕ, ◌==◌, ◌&&◌, Bool, true, false, List, ◌++◌, map, get_or, refl, sym, ap, ◌∙◌, subst, inl, inr, eq-eqb, AllZip, Contains, flat_map, eqb-true, Contains-append_left, Contains-append_right, Contains-append_cases, text_cmp, Symbol, TextSymbol, TypeSymbol, ProtoSymbol, FieldSymbol, MethodSymbol, proto_cmp, field_cmp, method_cmp, Mentions, closed, texts_in, types_in, protos_in, fields_in, methods_in, AreAmong, AreAmong-flat_map, and_first, and_second, list_any-member, list_any-source, Contains-map_source, Contains-map, in_order-same, text_total, text_exact, proto_total, proto_exact, field_total, field_exact, method_total, method_exact, SymbolKind, Marks, IsAt, IsNumbered, IsOfKind, marked, Use, IsUseOf, IsMarkedUse, marks_of, same_kind, kept_from, kept_has, zip_source, zip_target}
use Rattle.dexpool.specs.Cut.{kept}
use Rattle.dexpool.specs.declared.symbols.SymbolKind.TheVariants as kinds
use Rattle.dexclass.specs.{HaveMarked}

-- ---- symbols of a kind and a number

-- kinds that are one
pub same_is : (k j : SymbolKind) → same_kind k j ≡ true → k ≡ j
same_is kinds.Text kinds.Text e = refl
same_is kinds.Typ kinds.Typ e = refl
same_is kinds.Proto kinds.Proto e = refl
same_is kinds.Field kinds.Field e = refl
same_is kinds.Method kinds.Method e = refl
same_is _ _ e = cc

-- each kind is itself
is_same : (k : SymbolKind) → same_kind k k ≡ true
is_same kinds.Text = refl
is_same x = refl

-- one symbol has a kind and a number
one_symbol : (m : Mentions) (kind : SymbolKind) (i : ℕ) (s t : Symbol) → IsNumbered m i s → IsOfKind kind s → IsNumbered m i t → IsOfKind kind t → s ≡ t
one_symbol m kinds.Text i (TextSymbol x) (TextSymbol y) a k b l = ap TextSymbol (sym (a.is x) ∙ b.is x)
one_symbol m kinds.Typ i (TypeSymbol x) (TypeSymbol y) a k b l = ap TypeSymbol (sym (a.is x) ∙ b.is x)
one_symbol m kinds.Proto i (ProtoSymbol x) (ProtoSymbol y) a k b l = ap ProtoSymbol (sym (a.is x) ∙ b.is x)
one_symbol m kinds.Field i (FieldSymbol x) (FieldSymbol y) a k b l = ap FieldSymbol (sym (a.is x) ∙ b.is x)
one_symbol m kinds.Method i (MethodSymbol x) (MethodSymbol y) a k b l = ap MethodSymbol (sym (a.is x) ∙ b.is x)
one_symbol m _ i _ _ a k b l = absurd assumption

-- ---- the symbols that are marked

abbrev part : {X : Type 0} → (X → Symbol) → List Bool → List X → List Symbol
part wrap bits xs = map wrap (kept bits xs)

-- a member whose place is marked
kept_part : {X : Type 0} (wrap : X → Symbol) (bits : List Bool) (xs : List X) (i : ℕ) (x : X) → get_or bits i false ≡ true → IsAt xs i x → Contains (part wrap bits xs) (wrap x)
kept_part wrap bits xs i x e at = Contains-map wrap (kept bits xs) x (subst (Contains (kept bits xs)) (at.is x) (kept_has bits xs i x e at.within))

module _ (m : Mentions) (marks : Marks) where
  -- a symbol whose number is marked
  pub is_kept : (kind : SymbolKind) (i : ℕ) (s : Symbol) → get_or (marks_of kind marks) i false ≡ true → IsNumbered m i s → IsOfKind kind s → Contains (marked m marks) s
  is_kept kinds.Text i (TextSymbol x) e at of = Contains-append_left (part TextSymbol marks.strings.items m.texts) _ _ (kept_part TextSymbol marks.strings.items m.texts i x e at)
  is_kept kinds.Typ i (TypeSymbol x) e at of = Contains-append_right (part TextSymbol marks.strings.items m.texts) _ _ (Contains-append_left (part TypeSymbol marks.types.items m.types) _ _ (kept_part TypeSymbol marks.types.items m.types i x e at))
  is_kept kinds.Proto i (ProtoSymbol x) e at of = Contains-append_right (part TextSymbol marks.strings.items m.texts) _ _ (Contains-append_right (part TypeSymbol marks.types.items m.types) _ _ (Contains-append_left (part ProtoSymbol marks.protos.items m.protos) _ _ (kept_part ProtoSymbol marks.protos.items m.protos i x e at)))
  is_kept kinds.Field i (FieldSymbol x) e at of = Contains-append_right (part TextSymbol marks.strings.items m.texts) _ _ (Contains-append_right (part TypeSymbol marks.types.items m.types) _ _ (Contains-append_right (part ProtoSymbol marks.protos.items m.protos) _ _ (Contains-append_left (part FieldSymbol marks.fields.items m.fields) _ _ (kept_part FieldSymbol marks.fields.items m.fields i x e at))))
  is_kept kinds.Method i (MethodSymbol x) e at of = Contains-append_right (part TextSymbol marks.strings.items m.texts) _ _ (Contains-append_right (part TypeSymbol marks.types.items m.types) _ _ (Contains-append_right (part ProtoSymbol marks.protos.items m.protos) _ _ (Contains-append_right (part FieldSymbol marks.fields.items m.fields) _ _ (kept_part MethodSymbol marks.methods.items m.methods i x e at))))
  is_kept _ i _ e at of = absurd of

-- ---- what is marked is what occurs

-- a symbol that occurs is marked
pub marked_use : (us : List Use) (marks : Marks) → HaveMarked us marks → (u : Use) → Contains us u → IsMarkedUse marks u
marked_use us marks h u c = h u.kind u.number ∙ list_any-member (λ (v : Use). same_kind v.kind u.kind && v.number == u.number) us u c (ap (λ (b : Bool). b && u.number == u.number) (is_same u.kind) ∙ eq-eqb u.number u.number refl)

both_among : (xs ys zs : List Symbol) → AreAmong xs zs → AreAmong ys zs → AreAmong (xs ++ ys) zs
both_among xs ys zs f g s c = elim (Contains-append_cases xs ys s c) [ inl l ↦ f s l | inr r ↦ g s r ]

module _ (m : Mentions) (us : List Use) (ss : List Symbol) (marks : Marks) (zip : AllZip (IsUseOf m) us ss) (h : HaveMarked us marks) where
  -- a symbol that occurs, of a kind and a number
  record Occurs (kind : SymbolKind) (i : ℕ) : Type 0 where
    pub symbol : Symbol
    pub occurs : Contains ss symbol
    pub number_is : IsNumbered m i symbol
    pub kind_is : IsOfKind kind symbol

  -- a marked number is that of a symbol that occurs
  occurs_there : (kind : SymbolKind) (i : ℕ) → get_or (marks_of kind marks) i false ≡ true → Occurs kind i
  occurs_there kind i e =
      let u = list_any-source (λ (u : Use). same_kind u.kind kind && u.number == i) us (sym (h kind i) ∙ e) in
      let s = zip_target (IsUseOf m) us ss u.0 zip u.1 in record {
        symbol = s.0;
        occurs = s.1;
        number_is = subst (λ n. IsNumbered m n s.0) (eqb-true u.0.number i (and_second (same_kind u.0.kind kind) (u.0.number == i) u.2)) s.2.0;
        kind_is = subst (λ k. IsOfKind k s.0) (same_is u.0.kind kind (and_first (same_kind u.0.kind kind) (u.0.number == i) u.2)) s.2.1;
      }

  -- so a symbol of one of the five parts occurs
  from_part : {X : Type 0} (kind : SymbolKind) (bits : List Bool) (xs : List X) (wrap : X → Symbol) → ((i : ℕ) → get_or bits i false ≡ true → Occurs kind i)
      → ((i : ℕ) (x : X) → IsAt xs i x → IsNumbered m i (wrap x) × IsOfKind kind (wrap x)) → AreAmong (map wrap (kept bits xs)) ss
  from_part kind bits xs wrap there is s c =
      let t = Contains-map_source wrap (kept bits xs) s c in
      let k = kept_from bits xs t.0 t.1 in
      let o = there k.at k.marked in
      let n = is k.at t.0 (record { within = k.within; is = k.is }) in
      subst (Contains ss) (one_symbol m kind k.at o.symbol (wrap t.0) o.number_is o.kind_is n.0 n.1 ∙ t.2) o.occurs

  pub marked_occur : AreAmong (marked m marks) ss
  marked_occur =
      both_among _ _ ss (from_part kinds.Text marks.strings.items m.texts TextSymbol (occurs_there kinds.Text) (λ i x at. (at, tt)))
      (both_among _ _ ss (from_part kinds.Typ marks.types.items m.types TypeSymbol (occurs_there kinds.Typ) (λ i x at. (at, tt)))
      (both_among _ _ ss (from_part kinds.Proto marks.protos.items m.protos ProtoSymbol (occurs_there kinds.Proto) (λ i x at. (at, tt)))
      (both_among _ _ ss (from_part kinds.Field marks.fields.items m.fields FieldSymbol (occurs_there kinds.Field) (λ i x at. (at, tt)))
      (from_part kinds.Method marks.methods.items m.methods MethodSymbol (occurs_there kinds.Method) (λ i x at. (at, tt))))))

  -- what occurs is marked
  pub is_marked : (u : Use) → Contains us u → IsMarkedUse marks u
  is_marked u c = marked_use us marks h u c

  pub occurring_marked : AreAmong ss (marked m marks)
  occurring_marked s c =
      let u = zip_source (IsUseOf m) us ss s zip c in
      is_kept m marks u.0.kind u.0.number s (is_marked u.0 u.1) u.2.0 u.2.1

  among : {X : Type 0} (f : Symbol → List X) → AreAmong (flat_map f (marked m marks)) (flat_map f ss)
  among f = AreAmong-flat_map f (marked m marks) ss marked_occur

  back : {X : Type 0} (f : Symbol → List X) → AreAmong (flat_map f ss) (flat_map f (marked m marks))
  back f = AreAmong-flat_map f ss (marked m marks) occurring_marked

  -- so what is kept is what they mention
  pub kept_closed : closed (marked m marks) ≡ closed ss
  kept_closed = λ i. record {
    texts = in_order-same text_cmp text_total text_exact (flat_map texts_in (marked m marks)) (flat_map texts_in ss) (among texts_in) (back texts_in) i;
    types = in_order-same text_cmp text_total text_exact (flat_map types_in (marked m marks)) (flat_map types_in ss) (among types_in) (back types_in) i;
    protos = in_order-same proto_cmp proto_total proto_exact (flat_map protos_in (marked m marks)) (flat_map protos_in ss) (among protos_in) (back protos_in) i;
    fields = in_order-same field_cmp field_total field_exact (flat_map fields_in (marked m marks)) (flat_map fields_in ss) (among fields_in) (back fields_in) i;
    methods = in_order-same method_cmp method_total method_exact (flat_map methods_in (marked m marks)) (flat_map methods_in ss) (among methods_in) (back methods_in) i;
  }
