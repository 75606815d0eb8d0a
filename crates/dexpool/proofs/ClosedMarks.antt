-- What marks that are closed downwards keep: the marked symbols, and what these mention.
use Rattle.dexpool.proofs.Common.{◌≡◌, ℕ, ◌<◌, Bool, List, [], ◌∷◌, ◌++◌, length, get_or, map, refl, sym, ap, ◌∙◌, subst, arith, inl, inr, Ordering, All, Contains, flat_map, IsTotalOrder, IsAntisymmetric, map-append, All-head, All-tail, Contains-append_left, Contains-append_right, Contains-append_cases, in_order, Text, text_cmp, shorty, Proto, Field, Method, Symbol, TextSymbol, TypeSymbol, ProtoSymbol, FieldSymbol, MethodSymbol, proto_cmp, field_cmp, method_cmp, closed, texts_in, types_in, protos_in, fields_in, methods_in, proto_types, AreAmong, Contains-nil, Contains-first, Contains-later, Contains-cons_cases, Contains-flat_map, Contains-flat_map_source, Contains-map, Contains-map_source, Rises, Rises-same, Rises-in_order, in_order-has, in_order-only, text_total, text_exact, proto_total, proto_exact, field_total, field_exact, method_total, method_exact, kept, mark_all}
use Rattle.dexpool.proofs.KeptRows.{kept_from, kept_has, mark_stays, mark_comes, mark_from}
use Rattle.dexpool.proofs.Pairs.{map_both}

-- ---- lists of the same members

-- each member of one is one of the other
abbrev pub Same : {X : Type 0} → List X → List X → Type 0
Same xs ys = AreAmong xs ys × AreAmong ys xs

-- more marks keep what was kept, and the members at their numbers
pub kept_too : {X : Type 0} (marks : List Bool) (ns : List ℕ) (xs : List X) (d : X) → length marks ≡ length xs → ((n : ℕ) → Contains ns n → n < length xs) → Same (kept (mark_all marks ns) xs) (kept marks xs ++ map (λ n. get_or xs n d) ns)
kept_too marks ns xs d count within = (
  λ x c.
      let k = kept_from (mark_all marks ns) xs x c in
      elim (mark_from marks ns k.at k.marked) [
        | inl old ↦ Contains-append_left (kept marks xs) (map (λ n. get_or xs n d) ns) x (subst (Contains (kept marks xs)) (k.is d) (kept_has marks xs k.at d old k.within))
        | inr new ↦ Contains-append_right (kept marks xs) (map (λ n. get_or xs n d) ns) x (subst (Contains (map (λ n. get_or xs n d) ns)) (k.is d) (Contains-map (λ n. get_or xs n d) ns k.at new))
      ],
  λ x c. elim (Contains-append_cases (kept marks xs) (map (λ n. get_or xs n d) ns) x c) [
    | inl old ↦ let k = kept_from marks xs x old in
        subst (Contains (kept (mark_all marks ns) xs)) (k.is d) (kept_has (mark_all marks ns) xs k.at d (mark_stays marks ns k.at k.marked) k.within)
    | inr new ↦ let s = Contains-map_source (λ n. get_or xs n d) ns x new in
        let lt = within s.0 s.1 in subst (Contains (kept (mark_all marks ns) xs)) s.2 (kept_has (mark_all marks ns) xs s.0 d (mark_comes marks ns s.0 (omega (arith, count, lt)) s.1) lt)
  ],
)

-- the same, of marks that are those
pub kept_grown : {X : Type 0} (more marks : List Bool) (ns : List ℕ) (xs ys : List X) (d : X) → length marks ≡ length xs → ((n : ℕ) → Contains ns n → n < length xs) → more ≡ mark_all marks ns → map (λ n. get_or xs n d) ns ≡ ys → Same (kept more xs) (kept marks xs ++ ys)
kept_grown more marks ns xs ys d count within e f =
    subst (λ bs. Same (kept bs xs) (kept marks xs ++ ys)) (sym e) (subst (λ zs. Same (kept (mark_all marks ns) xs) (kept marks xs ++ zs)) f (kept_too marks ns xs d count within))

-- what rows name, as parts of what they denote
pub named : {R X Y : Type 0} (f : R → ℕ) (at : ℕ → Y) (of : R → X) (part : X → Y) (rows : List R) → All (λ r. at (f r) ≡ part (of r)) rows → map at (map f rows) ≡ map part (map of rows)
named f at of part rows h = map_both f at (λ r. part (of r)) rows h ∙ sym (map_both of part (λ r. part (of r)) rows (λ k d lt. refl))

pub named_flat : {R X Y : Type 0} (f : R → List ℕ) (at : ℕ → Y) (of : R → X) (parts : X → List Y) (rows : List R) → All (λ r. map at (f r) ≡ parts (of r)) rows → map at (flat_map f rows) ≡ flat_map parts (map of rows)
named_flat f at of parts [] h = refl
named_flat f at of parts (r ∷ rows) h =
    map-append at (f r) (flat_map f rows) ∙ (λ i. (All-head (λ x. map at (f x) ≡ parts (of x)) r rows h) i ++ (named_flat f at of parts rows (All-tail (λ x. map at (f x) ≡ parts (of x)) r rows h)) i)

-- a rising list is its members in their order
pub in_order_is : {K : Type 0} (R : K → K → Ordering) → IsTotalOrder R → IsAntisymmetric R → (xs ys : List K) → Rises R xs → Same xs ys → xs ≡ in_order R ys
in_order_is R o exact xs ys rising same = Rises-same R o xs (in_order R ys) rising (Rises-in_order R o exact ys) (λ x c. in_order-has R o exact ys x (same.0 x c)) (λ x c. same.1 x (in_order-only R o exact ys x c))

-- ---- the parts of symbols

-- the one member of a list of one
only : {X : Type 0} (y x : X) → Contains (y ∷ []) x → y ≡ x
only y x c = elim (Contains-cons_cases y x [] c) [ inl e ↦ e | inr l ↦ absurd (Contains-nil x l) ]

types_among_texts : (s : Symbol) → AreAmong (types_in s) (texts_in s)
types_among_texts (TextSymbol s) t c = absurd (Contains-nil t c)
types_among_texts (TypeSymbol s) t c = c
types_among_texts (ProtoSymbol p) t c = Contains-later (shorty p.return_type p.parameters) t (proto_types p) c
types_among_texts (FieldSymbol f) t c = elim (Contains-cons_cases f.class t (f.type ∷ []) c) [
  | inl e ↦ (0, omega arith, e)
  | inr l ↦ (2, omega arith, only f.type t l)
]
types_among_texts (MethodSymbol m) t c = elim (Contains-cons_cases m.class t (proto_types m.proto) c) [
  | inl e ↦ (0, omega arith, e)
  | inr l ↦ Contains-later m.class t (m.name ∷ (shorty m.proto.return_type m.proto.parameters ∷ proto_types m.proto)) (Contains-later m.name t (shorty m.proto.return_type m.proto.parameters ∷ proto_types m.proto) (Contains-later (shorty m.proto.return_type m.proto.parameters) t (proto_types m.proto) l))
]

shorty_among_texts : (s : Symbol) (p : Proto) → Contains (protos_in s) p → Contains (texts_in s) (shorty p.return_type p.parameters)
shorty_among_texts (ProtoSymbol q) p c = (0, omega arith, ap (λ (r : Proto). shorty r.return_type r.parameters) (only q p c))
shorty_among_texts (MethodSymbol m) p c = (2, omega arith, ap (λ (r : Proto). shorty r.return_type r.parameters) (only m.proto p c))
shorty_among_texts _ p c = absurd (Contains-nil p c)

proto_types_among : (s : Symbol) (p : Proto) → Contains (protos_in s) p → AreAmong (proto_types p) (types_in s)
proto_types_among (ProtoSymbol q) p c t d = subst (λ (r : Proto). Contains (proto_types r) t) (sym (only q p c)) d
proto_types_among (MethodSymbol m) p c t d = Contains-later m.class t (proto_types m.proto) (subst (λ (r : Proto). Contains (proto_types r) t) (sym (only m.proto p c)) d)
proto_types_among _ p c t d = absurd (Contains-nil p c)

-- ---- the marked symbols

from_map : {X : Type 0} (f : X → Symbol) (xs : List X) (P : Symbol → Type 0) → ((x : X) → Contains xs x → P (f x)) → (s : Symbol) → Contains (map f xs) s → P s
from_map f xs P h s c = let z = Contains-map_source f xs s c in subst P z.2 (h z.0 z.1)

module _ (texts types : List Text) (protos : List Proto) (fields : List Field) (methods : List Method) where
  -- the symbols of five lists
  abbrev all_symbols : List Symbol
  all_symbols = map TextSymbol texts ++ (map TypeSymbol types ++ (map ProtoSymbol protos ++ (map FieldSymbol fields ++ map MethodSymbol methods)))

  has_text : (x : Text) → Contains texts x → Contains all_symbols (TextSymbol x)
  has_text x c = Contains-append_left (map TextSymbol texts) (map TypeSymbol types ++ (map ProtoSymbol protos ++ (map FieldSymbol fields ++ map MethodSymbol methods))) (TextSymbol x) (Contains-map TextSymbol texts x c)

  after_texts : (s : Symbol) → Contains (map TypeSymbol types ++ (map ProtoSymbol protos ++ (map FieldSymbol fields ++ map MethodSymbol methods))) s → Contains all_symbols s
  after_texts s c = Contains-append_right (map TextSymbol texts) (map TypeSymbol types ++ (map ProtoSymbol protos ++ (map FieldSymbol fields ++ map MethodSymbol methods))) s c

  has_type : (x : Text) → Contains types x → Contains all_symbols (TypeSymbol x)
  has_type x c = after_texts (TypeSymbol x) (Contains-append_left (map TypeSymbol types) (map ProtoSymbol protos ++ (map FieldSymbol fields ++ map MethodSymbol methods)) (TypeSymbol x) (Contains-map TypeSymbol types x c))

  after_types : (s : Symbol) → Contains (map ProtoSymbol protos ++ (map FieldSymbol fields ++ map MethodSymbol methods)) s → Contains all_symbols s
  after_types s c = after_texts s (Contains-append_right (map TypeSymbol types) (map ProtoSymbol protos ++ (map FieldSymbol fields ++ map MethodSymbol methods)) s c)

  has_proto : (x : Proto) → Contains protos x → Contains all_symbols (ProtoSymbol x)
  has_proto x c = after_types (ProtoSymbol x) (Contains-append_left (map ProtoSymbol protos) (map FieldSymbol fields ++ map MethodSymbol methods) (ProtoSymbol x) (Contains-map ProtoSymbol protos x c))

  after_protos : (s : Symbol) → Contains (map FieldSymbol fields ++ map MethodSymbol methods) s → Contains all_symbols s
  after_protos s c = after_types s (Contains-append_right (map ProtoSymbol protos) (map FieldSymbol fields ++ map MethodSymbol methods) s c)

  has_field : (x : Field) → Contains fields x → Contains all_symbols (FieldSymbol x)
  has_field x c = after_protos (FieldSymbol x) (Contains-append_left (map FieldSymbol fields) (map MethodSymbol methods) (FieldSymbol x) (Contains-map FieldSymbol fields x c))

  has_method : (x : Method) → Contains methods x → Contains all_symbols (MethodSymbol x)
  has_method x c = after_protos (MethodSymbol x) (Contains-append_right (map FieldSymbol fields) (map MethodSymbol methods) (MethodSymbol x) (Contains-map MethodSymbol methods x c))

  -- each of them is one of the five kinds
  each_symbol : (P : Symbol → Type 0) → ((x : Text) → Contains texts x → P (TextSymbol x)) → ((x : Text) → Contains types x → P (TypeSymbol x)) → ((x : Proto) → Contains protos x → P (ProtoSymbol x)) → ((x : Field) → Contains fields x → P (FieldSymbol x))
      → ((x : Method) → Contains methods x → P (MethodSymbol x)) → (s : Symbol) → Contains all_symbols s → P s
  each_symbol P t u p f m s c = elim (Contains-append_cases (map TextSymbol texts) (map TypeSymbol types ++ (map ProtoSymbol protos ++ (map FieldSymbol fields ++ map MethodSymbol methods))) s c) [
    | inl here ↦ from_map TextSymbol texts P t s here
    | inr c ↦ elim (Contains-append_cases (map TypeSymbol types) (map ProtoSymbol protos ++ (map FieldSymbol fields ++ map MethodSymbol methods)) s c) [
      | inl here ↦ from_map TypeSymbol types P u s here
      | inr c ↦ elim (Contains-append_cases (map ProtoSymbol protos) (map FieldSymbol fields ++ map MethodSymbol methods) s c) [
        | inl here ↦ from_map ProtoSymbol protos P p s here
        | inr c ↦ elim (Contains-append_cases (map FieldSymbol fields) (map MethodSymbol methods) s c) [
          | inl here ↦ from_map FieldSymbol fields P f s here
          | inr here ↦ from_map MethodSymbol methods P m s here
        ]
      ]
    ]
  ]

  -- ---- what they mention, kind by kind

  methods_same : Same methods (flat_map methods_in all_symbols)
  methods_same = (
    λ x c. Contains-flat_map methods_in all_symbols (MethodSymbol x) x (has_method x c) (Contains-first x []),
    λ x c. let z = Contains-flat_map_source methods_in all_symbols x c in
        each_symbol (λ s. Contains (methods_in s) x → Contains methods x) (λ y _ d. absurd (Contains-nil x d)) (λ y _ d. absurd (Contains-nil x d)) (λ y _ d. absurd (Contains-nil x d)) (λ y _ d. absurd (Contains-nil x d)) (λ y h d. subst (Contains methods) (only y x d) h) z.0 z.1 z.2,
  )

  fields_same : Same fields (flat_map fields_in all_symbols)
  fields_same = (
    λ x c. Contains-flat_map fields_in all_symbols (FieldSymbol x) x (has_field x c) (Contains-first x []),
    λ x c. let z = Contains-flat_map_source fields_in all_symbols x c in
        each_symbol (λ s. Contains (fields_in s) x → Contains fields x) (λ y _ d. absurd (Contains-nil x d)) (λ y _ d. absurd (Contains-nil x d)) (λ y _ d. absurd (Contains-nil x d)) (λ y h d. subst (Contains fields) (only y x d) h) (λ y _ d. absurd (Contains-nil x d)) z.0 z.1 z.2,
  )

  module _ (protos_kept : List Proto) (are_protos : Same protos_kept (protos ++ map (λ (x : Method). x.proto) methods)) where
    proto_kept : (p : Proto) → Contains protos p → Contains protos_kept p
    proto_kept p c = are_protos.1 p (Contains-append_left protos (map (λ (x : Method). x.proto) methods) p c)

    method_proto_kept : (x : Method) → Contains methods x → Contains protos_kept x.proto
    method_proto_kept x c = are_protos.1 x.proto (Contains-append_right protos (map (λ (y : Method). y.proto) methods) x.proto (Contains-map (λ (y : Method). y.proto) methods x c))

    protos_same : Same protos_kept (flat_map protos_in all_symbols)
    protos_same = (
      λ p c. elim (Contains-append_cases protos (map (λ (x : Method). x.proto) methods) p (are_protos.0 p c)) [
        | inl here ↦ Contains-flat_map protos_in all_symbols (ProtoSymbol p) p (has_proto p here) (Contains-first p [])
        | inr there ↦ let z = Contains-map_source (λ (x : Method). x.proto) methods p there in
            Contains-flat_map protos_in all_symbols (MethodSymbol z.0) p (has_method z.0 z.1) (0, omega arith, z.2)
      ],
      λ p c. let z = Contains-flat_map_source protos_in all_symbols p c in
          each_symbol (λ s. Contains (protos_in s) p → Contains protos_kept p) (λ y _ d. absurd (Contains-nil p d)) (λ y _ d. absurd (Contains-nil p d)) (λ y h d. subst (Contains protos_kept) (only y p d) (proto_kept y h)) (λ y _ d. absurd (Contains-nil p d))
          (λ y h d. subst (Contains protos_kept) (only y.proto p d) (method_proto_kept y h)) z.0 z.1 z.2,
    )

    abbrev named_types : List Text
    named_types = (map (λ (x : Method). x.class) methods ++ flat_map (λ (f : Field). f.class ∷ f.type ∷ []) fields) ++ flat_map proto_types protos_kept

    module _ (types_kept : List Text) (are_types : Same types_kept (types ++ named_types)) where
      type_kept : (x : Text) → Contains types x → Contains types_kept x
      type_kept x c = are_types.1 x (Contains-append_left types named_types x c)

      type_named : (x : Text) → Contains named_types x → Contains types_kept x
      type_named x c = are_types.1 x (Contains-append_right types named_types x c)

      class_kept : (y : Method) → Contains methods y → Contains types_kept y.class
      class_kept y c =
          type_named y.class (Contains-append_left (map (λ (x : Method). x.class) methods ++ flat_map (λ (f : Field). f.class ∷ f.type ∷ []) fields) (flat_map proto_types protos_kept) y.class
          (Contains-append_left (map (λ (x : Method). x.class) methods) (flat_map (λ (f : Field). f.class ∷ f.type ∷ []) fields) y.class (Contains-map (λ (x : Method). x.class) methods y c)))

      field_type_kept : (f : Field) (x : Text) → Contains fields f → Contains (f.class ∷ f.type ∷ []) x → Contains types_kept x
      field_type_kept f x c d =
          type_named x (Contains-append_left (map (λ (y : Method). y.class) methods ++ flat_map (λ (g : Field). g.class ∷ g.type ∷ []) fields) (flat_map proto_types protos_kept) x
          (Contains-append_right (map (λ (y : Method). y.class) methods) (flat_map (λ (g : Field). g.class ∷ g.type ∷ []) fields) x (Contains-flat_map (λ (g : Field). g.class ∷ g.type ∷ []) fields f x c d)))

      proto_type_kept : (p : Proto) (x : Text) → Contains protos_kept p → Contains (proto_types p) x → Contains types_kept x
      proto_type_kept p x c d =
          type_named x (Contains-append_right (map (λ (y : Method). y.class) methods ++ flat_map (λ (g : Field). g.class ∷ g.type ∷ []) fields) (flat_map proto_types protos_kept) x (Contains-flat_map proto_types protos_kept p x c d))

      types_of : (s : Symbol) → Contains all_symbols s → AreAmong (types_in s) types_kept
      types_of s c = each_symbol (λ s. AreAmong (types_in s) types_kept)
          (λ y _ x d. absurd (Contains-nil x d))
          (λ y h x d. subst (Contains types_kept) (only y x d) (type_kept y h))
          (λ p h x d. proto_type_kept p x (proto_kept p h) d)
          (λ f h x d. field_type_kept f x h d)
          (λ y h x d. elim (Contains-cons_cases y.class x (proto_types y.proto) d) [
            | inl e ↦ subst (Contains types_kept) e (class_kept y h)
            | inr l ↦ proto_type_kept y.proto x (method_proto_kept y h) l
          ]) s c

      types_same : Same types_kept (flat_map types_in all_symbols)
      types_same = (
        λ x c. elim (Contains-append_cases types named_types x (are_types.0 x c)) [
          | inl here ↦ Contains-flat_map types_in all_symbols (TypeSymbol x) x (has_type x here) (Contains-first x [])
          | inr c ↦ elim (Contains-append_cases (map (λ (y : Method). y.class) methods ++ flat_map (λ (g : Field). g.class ∷ g.type ∷ []) fields) (flat_map proto_types protos_kept) x c) [
            | inl c ↦ elim (Contains-append_cases (map (λ (y : Method). y.class) methods) (flat_map (λ (g : Field). g.class ∷ g.type ∷ []) fields) x c) [
              | inl c ↦ let z = Contains-map_source (λ (y : Method). y.class) methods x c in
                  Contains-flat_map types_in all_symbols (MethodSymbol z.0) x (has_method z.0 z.1) (0, omega arith, z.2)
              | inr c ↦ let z = Contains-flat_map_source (λ (g : Field). g.class ∷ g.type ∷ []) fields x c in
                  Contains-flat_map types_in all_symbols (FieldSymbol z.0) x (has_field z.0 z.1) z.2
            ]
            | inr c ↦ let z = Contains-flat_map_source proto_types protos_kept x c in
                let s = Contains-flat_map_source protos_in all_symbols z.0 (protos_same.0 z.0 z.1) in Contains-flat_map types_in all_symbols s.0 x s.1 (proto_types_among s.0 z.0 s.2 x z.2)
          ]
        ],
        λ x c. let z = Contains-flat_map_source types_in all_symbols x c in types_of z.0 z.1 x z.2,
      )

      abbrev named_texts : List Text
      named_texts = ((map (λ (x : Method). x.name) methods ++ map (λ (f : Field). f.name) fields) ++ map (λ (p : Proto). shorty p.return_type p.parameters) protos_kept) ++ types_kept

      module _ (texts_kept : List Text) (are_texts : Same texts_kept (texts ++ named_texts)) where
        text_named : (x : Text) → Contains named_texts x → Contains texts_kept x
        text_named x c = are_texts.1 x (Contains-append_right texts named_texts x c)

        type_text : (x : Text) → Contains types_kept x → Contains texts_kept x
        type_text x c = text_named x (Contains-append_right ((map (λ (y : Method). y.name) methods ++ map (λ (f : Field). f.name) fields) ++ map (λ (p : Proto). shorty p.return_type p.parameters) protos_kept) types_kept x c)

        other_text : (x : Text) → Contains ((map (λ (y : Method). y.name) methods ++ map (λ (f : Field). f.name) fields) ++ map (λ (p : Proto). shorty p.return_type p.parameters) protos_kept) x → Contains texts_kept x
        other_text x c = text_named x (Contains-append_left ((map (λ (y : Method). y.name) methods ++ map (λ (f : Field). f.name) fields) ++ map (λ (p : Proto). shorty p.return_type p.parameters) protos_kept) types_kept x c)

        shorty_text : (p : Proto) → Contains protos_kept p → Contains texts_kept (shorty p.return_type p.parameters)
        shorty_text p c =
            other_text (shorty p.return_type p.parameters) (Contains-append_right (map (λ (y : Method). y.name) methods ++ map (λ (f : Field). f.name) fields) (map (λ (q : Proto). shorty q.return_type q.parameters) protos_kept) (shorty p.return_type p.parameters)
            (Contains-map (λ (q : Proto). shorty q.return_type q.parameters) protos_kept p c))

        name_text : (x : Text) → Contains (map (λ (y : Method). y.name) methods ++ map (λ (f : Field). f.name) fields) x → Contains texts_kept x
        name_text x c = other_text x (Contains-append_left (map (λ (y : Method). y.name) methods ++ map (λ (f : Field). f.name) fields) (map (λ (q : Proto). shorty q.return_type q.parameters) protos_kept) x c)

        -- a proto's texts
        proto_text : (p : Proto) → Contains protos_kept p → (x : Text) → Contains (shorty p.return_type p.parameters ∷ proto_types p) x → Contains texts_kept x
        proto_text p c x d = elim (Contains-cons_cases (shorty p.return_type p.parameters) x (proto_types p) d) [
          | inl e ↦ subst (Contains texts_kept) e (shorty_text p c)
          | inr l ↦ type_text x (proto_type_kept p x c l)
        ]

        texts_of : (s : Symbol) → Contains all_symbols s → AreAmong (texts_in s) texts_kept
        texts_of s c = each_symbol (λ s. AreAmong (texts_in s) texts_kept)
            (λ y h x d. subst (Contains texts_kept) (only y x d) (are_texts.1 y (Contains-append_left texts named_texts y h)))
            (λ y h x d. subst (Contains texts_kept) (only y x d) (type_text y (type_kept y h)))
            (λ p h x d. proto_text p (proto_kept p h) x d)
            (λ f h x d. elim (Contains-cons_cases f.class x (f.name ∷ f.type ∷ []) d) [
              | inl e ↦ subst (Contains texts_kept) e (type_text f.class (field_type_kept f f.class h (Contains-first f.class (f.type ∷ []))))
              | inr d ↦ elim (Contains-cons_cases f.name x (f.type ∷ []) d) [
                | inl e ↦ subst (Contains texts_kept) e (name_text f.name (Contains-append_right (map (λ (y : Method). y.name) methods) (map (λ (g : Field). g.name) fields) f.name (Contains-map (λ (g : Field). g.name) fields f h)))
                | inr d ↦ type_text x (field_type_kept f x h (Contains-later f.class x (f.type ∷ []) d))
              ]
            ])
            (λ y h x d. elim (Contains-cons_cases y.class x (y.name ∷ shorty y.proto.return_type y.proto.parameters ∷ proto_types y.proto) d) [
              | inl e ↦ subst (Contains texts_kept) e (type_text y.class (class_kept y h))
              | inr d ↦ elim (Contains-cons_cases y.name x (shorty y.proto.return_type y.proto.parameters ∷ proto_types y.proto) d) [
                | inl e ↦ subst (Contains texts_kept) e (name_text y.name (Contains-append_left (map (λ (z : Method). z.name) methods) (map (λ (g : Field). g.name) fields) y.name (Contains-map (λ (z : Method). z.name) methods y h)))
                | inr d ↦ proto_text y.proto (method_proto_kept y h) x d
              ]
            ]) s c

        texts_same : Same texts_kept (flat_map texts_in all_symbols)
        texts_same = (
          λ x c. elim (Contains-append_cases texts named_texts x (are_texts.0 x c)) [
            | inl here ↦ Contains-flat_map texts_in all_symbols (TextSymbol x) x (has_text x here) (Contains-first x [])
            | inr c ↦ elim (Contains-append_cases ((map (λ (y : Method). y.name) methods ++ map (λ (f : Field). f.name) fields) ++ map (λ (p : Proto). shorty p.return_type p.parameters) protos_kept) types_kept x c) [
              | inl c ↦ elim (Contains-append_cases (map (λ (y : Method). y.name) methods ++ map (λ (f : Field). f.name) fields) (map (λ (p : Proto). shorty p.return_type p.parameters) protos_kept) x c) [
                | inl c ↦ elim (Contains-append_cases (map (λ (y : Method). y.name) methods) (map (λ (f : Field). f.name) fields) x c) [
                  | inl c ↦ let z = Contains-map_source (λ (y : Method). y.name) methods x c in
                      Contains-flat_map texts_in all_symbols (MethodSymbol z.0) x (has_method z.0 z.1) (1, omega arith, z.2)
                  | inr c ↦ let z = Contains-map_source (λ (f : Field). f.name) fields x c in
                      Contains-flat_map texts_in all_symbols (FieldSymbol z.0) x (has_field z.0 z.1) (1, omega arith, z.2)
                ]
                | inr c ↦ let z = Contains-map_source (λ (p : Proto). shorty p.return_type p.parameters) protos_kept x c in
                    let s = Contains-flat_map_source protos_in all_symbols z.0 (protos_same.0 z.0 z.1) in
                    Contains-flat_map texts_in all_symbols s.0 x s.1 (subst (Contains (texts_in s.0)) z.2 (shorty_among_texts s.0 z.0 s.2))
              ]
              | inr c ↦ let s = Contains-flat_map_source types_in all_symbols x (types_same.0 x c) in
                  Contains-flat_map texts_in all_symbols s.0 x s.1 (types_among_texts s.0 x s.2)
            ]
          ],
          λ x c. let z = Contains-flat_map_source texts_in all_symbols x c in texts_of z.0 z.1 x z.2,
        )

        -- where the kept lists rise, they are what the symbols mention
        pub mentioned : Rises text_cmp texts_kept → Rises text_cmp types_kept → Rises proto_cmp protos_kept → Rises field_cmp fields → Rises method_cmp methods
            → record { texts = texts_kept; types = types_kept; protos = protos_kept; fields = fields; methods = methods } ≡ closed all_symbols
        mentioned texts_rise types_rise protos_rise fields_rise methods_rise = λ i. record {
          texts = in_order_is text_cmp text_total text_exact texts_kept (flat_map texts_in all_symbols) texts_rise texts_same i;
          types = in_order_is text_cmp text_total text_exact types_kept (flat_map types_in all_symbols) types_rise types_same i;
          protos = in_order_is proto_cmp proto_total proto_exact protos_kept (flat_map protos_in all_symbols) protos_rise protos_same i;
          fields = in_order_is field_cmp field_total field_exact fields (flat_map fields_in all_symbols) fields_rise fields_same i;
          methods = in_order_is method_cmp method_total method_exact methods (flat_map methods_in all_symbols) methods_rise methods_same i;
        }
