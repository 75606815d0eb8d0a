-- What is kept of the symbols that are visited.
use Rattle.dexval.proofs.Common.{◌≡◌, ◌∙◌, ◌∷◌, ◌++◌, ℕ, Bool, true, false, List, [], refl, sym, ap, subst, All, All-cons, All-nil, FoldsTo, flat_map-append, SymbolKind, Use, marks_of}
use Rattle.std.specs.Prelude.{◌||◌, ◌&&◌, ◌==◌, slice_index_or}
use Rattle.std.specs.List.{list_any}
use Rattle.std.proofs.lemmas.Bool.{eq-eqb, eqb-true}
use Rattle.std.proofs.lemmas.List.Elements.{All-contains}
use Rattle.std.proofs.lemmas.List.Folds.{list_any-append}
use Rattle.dexspec.proofs.lists.Members.{and_first, and_second, list_any-source}
use Rattle.dexpool.specs.declared.symbols.SymbolKind.TheVariants as kinds
use Rattle.dexpool.specs.declared.marks.Marks.{Marks}
use Rattle.dexpool.specs.Uses.{AreMarkedToo, occurs, same_kind}
use Rattle.dexval.specs.declared.few_symbols.FewSymbols.{FewSymbols}
use Rattle.dexval.specs.declared.few_symbols.Occurring.{Occurring}
use Rattle.dexval.specs.FewSymbols.{uses_of, HaveSameUses}

-- whether a symbol is one of those that are kept
pub occurs_any : (xs : List Occurring) (kind : SymbolKind) (i : ℕ) → list_any (λ (x : Occurring). same_kind x.kind kind && x.number == i) xs ≡ occurs (uses_of xs) kind i
occurs_any [] kind i = refl
occurs_any (x ∷ xs) kind i = ap (λ (t : Bool). (same_kind x.kind kind && x.number == i) || t) (occurs_any xs kind i)

-- a list has what two lists have
abbrev pub HasBoth : List Use → List Use → List Use → Type 0
HasBoth us xs ys = (kind : SymbolKind) (i : ℕ) → occurs ys kind i ≡ (occurs xs kind i || occurs us kind i)

-- one more that is kept
pub one_more : (xs : List Occurring) (x : Occurring) → HasBoth (uses_of (x ∷ [])) (uses_of xs) (uses_of (xs ++ x ∷ []))
one_more xs x kind i =
    ap (λ us. occurs us kind i) (flat_map-append (λ (y : Occurring). record { kind = y.kind; number = y.number } ∷ []) xs (x ∷ []))
    ∙ list_any-append (λ u. same_kind u.kind kind && u.number == i) (uses_of xs) (uses_of (x ∷ []))

same_is : (k j : SymbolKind) → same_kind k j ≡ true → k ≡ j
same_is kinds.Text kinds.Text e = refl
same_is kinds.Typ kinds.Typ e = refl
same_is kinds.Proto kinds.Proto e = refl
same_is kinds.Field kinds.Field e = refl
same_is kinds.Method kinds.Method e = refl
same_is _ _ e = cc

or_false : (b : Bool) → b ≡ (b || false)
or_false true = refl
or_false false = refl

or_true : (b : Bool) → (b || true) ≡ true
or_true true = refl
or_true false = refl

or_next : (a b c : Bool) → ((a || (b || false)) || c) ≡ (a || (b || c))
or_next true b c = refl
or_next false true c = refl
or_next false false c = refl

-- one that occurs already
pub already : (us : List Use) (u : Use) → occurs us u.kind u.number ≡ true → HasBoth (u ∷ []) us us
already us u e kind i = from (same_kind u.kind kind) (u.number == i) refl refl
  where
    from : (s t : Bool) → same_kind u.kind kind ≡ s → (u.number == i) ≡ t → occurs us kind i ≡ (occurs us kind i || occurs (u ∷ []) kind i)
    from true true p q =
        let here : occurs us kind i ≡ true = ap (λ k. occurs us k i) (sym (same_is u.kind kind p)) ∙ ap (occurs us u.kind) (sym (eqb-true u.number i q)) ∙ e in
        here ∙ sym (ap (λ (t : Bool). t || occurs (u ∷ []) kind i) here)
    from true false p q = or_false (occurs us kind i) ∙ sym (ap (λ (t : Bool). occurs us kind i || t) (ap (λ (s : Bool). s && u.number == i || false) p ∙ ap (λ (t : Bool). t || false) q))
    from false t p q = or_false (occurs us kind i) ∙ sym (ap (λ (t : Bool). occurs us kind i || t) (ap (λ (s : Bool). s && u.number == i || false) p))

abbrev pub step : FewSymbols → Use → FewSymbols → Type 0
step a u b = b.are_all ≡ true → (a.are_all ≡ true) × HasBoth (u ∷ []) (uses_of a.symbols.items) (uses_of b.symbols.items)

-- each symbol that is visited is kept, if the last is
pub all_kept : (us : List Use) (a b : FewSymbols) → FoldsTo step a us b → b.are_all ≡ true → (a.are_all ≡ true) × HasBoth us (uses_of a.symbols.items) (uses_of b.symbols.items)
all_kept [] a b h all = (subst (λ (f : FewSymbols). f.are_all ≡ true) (sym h) all, λ kind i. ap (λ (f : FewSymbols). occurs (uses_of f.symbols.items) kind i) (sym h) ∙ or_false (occurs (uses_of a.symbols.items) kind i))
all_kept (u ∷ us) a b h all =
    let rest = all_kept us h.0 b h.2 all in
    let first = h.1 rest.0 in
    (first.0, λ kind i. rest.1 kind i ∙ ap (λ (t : Bool). t || occurs us kind i) (first.1 kind i) ∙ or_next (occurs (uses_of a.symbols.items) kind i) _ (occurs us kind i))

-- marks on other symbols of which the same occur
pub marked_as : (us vs : List Use) (a b : Marks) → HaveSameUses us vs → AreMarkedToo us a b → AreMarkedToo vs a b
marked_as us vs a b same h = record {
  count = h.count;
  each = λ kind i. h.each kind i ∙ ap (λ (t : Bool). slice_index_or (marks_of kind a) i false || t) (same kind i);
}

is_same : (k : SymbolKind) → same_kind k k ≡ true
is_same kinds.Text = refl
is_same x = refl

occurs_first : (us : List Use) (u : Use) → occurs (u ∷ us) u.kind u.number ≡ true
occurs_first us u =
    ap (λ (s : Bool). s && u.number == u.number || occurs us u.kind u.number) (is_same u.kind)
    ∙ ap (λ (s : Bool). s || occurs us u.kind u.number) (eq-eqb u.number u.number refl)

-- one symbol has a kind and a number
one_use : (u v : Use) → u.kind ≡ v.kind → u.number ≡ v.number → u ≡ v
one_use u v p q = λ i. record { kind = p i; number = q i }

module _ (P : Use → Type 0) where
  -- what holds of each symbol of a list holds of one that occurs
  pub holds_of : (us : List Use) (u : Use) → All P us → occurs us u.kind u.number ≡ true → P u
  holds_of us u all e =
      let v = list_any-source (λ (v : Use). same_kind v.kind u.kind && v.number == u.number) us e in
      let kind = same_is v.0.kind u.kind (and_first (same_kind v.0.kind u.kind) (v.0.number == u.number) v.2) in
      let number = eqb-true v.0.number u.number (and_second (same_kind v.0.kind u.kind) (v.0.number == u.number) v.2) in
      subst P (one_use v.0 u kind number) (All-contains P us v.0 all v.1)

  all_occurring : (us : List Use) → ((u : Use) → occurs us u.kind u.number ≡ true → P u) → All P us
  all_occurring [] h = All-nil P
  all_occurring (u ∷ us) h = All-cons P u us (h u (occurs_first us u)) (all_occurring us (λ v e. h v (ap (λ (t : Bool). same_kind u.kind v.kind && u.number == v.number || t) e ∙ or_true _)))

  -- and of each of other symbols, if the same occur
  pub all_same : (us vs : List Use) → HaveSameUses us vs → All P vs → All P us
  all_same us vs same all = all_occurring us (λ u e. holds_of vs u all (sym (same u.kind u.number) ∙ e))
