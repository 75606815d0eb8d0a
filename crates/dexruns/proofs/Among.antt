-- Names that are among others.
use Rattle.std.proofs.Common.{◌≡◌, ℕ, ◌+◌, ◌<◌, Bool, true, false, ◌||◌, List, [], ◌∷◌, ◌++◌, length, map, take, get_or, refl, sym, ap, ◌∙◌}
use Rattle.std.specs.Prelude.{All}
use Rattle.std.specs.List.{list_any}
use Rattle.std.proofs.lemmas.List.{map-append, map_more, map_push}
use Rattle.std.proofs.lemmas.List.Folds.{list_any-append}
use Rattle.std.proofs.lemmas.List.Elements.{All-nil, All-cons, All-head, All-tail}
use Rattle.std.proofs.lemmas.Map.Lookups.{exact_bytes}
use Rattle.std.specs.Ordering.{is_eq, match_ordering}
use Rattle.std.specs.declared.cmp.Ordering.{Ordering}
use Rattle.std.specs.declared.cmp.Ordering.TheVariants.{Less, Equal, Greater}
use Rattle.std.specs.BTreeSet.{insert_key}
use Rattle.dexspec.specs.Texts.{Text, text_cmp, same_text}
use Rattle.dexruns.specs.Listings.{is_among}
use Rattle.dexruns.proofs.CopyTables.{same_by_order}

-- ---- a set of texts

or_after : (a b : Bool) → (a || b) ≡ (b || a)
or_after true true = refl
or_after true false = refl
or_after false true = refl
or_after false false = refl

or_again : (a b : Bool) → (a || b) ≡ ((a || b) || a)
or_again true b = refl
or_again false true = refl
or_again false false = refl

or_later : (a b c d : Bool) → b ≡ (c || d) → (a || b) ≡ ((a || c) || d)
or_later true b c d e = refl
or_later false b c d e = e

module _ {X : Type 0} (now : X → Text) where
  -- the text is that of a key
  abbrev pub has : Text → X → Bool
  has text key = is_eq (text_cmp text (now key))

  abbrev pub by_key : X → X → Ordering
  by_key a b = text_cmp (now a) (now b)

  by_order : (text : Text) (k x : X) (xs ys : List X) (o : Ordering) → by_key k x ≡ o → list_any (has text) ys ≡ (list_any (has text) xs || has text k) →
      list_any (has text) (match_ordering o (k ∷ x ∷ xs) (x ∷ xs) (x ∷ ys)) ≡ (list_any (has text) (x ∷ xs) || has text k)
  by_order text k x xs ys Less e more = or_after (has text k) (list_any (has text) (x ∷ xs))
  by_order text k x xs ys Equal e more =
      or_again (has text x) (list_any (has text) xs) ∙ ap (λ t. list_any (has text) (x ∷ xs) || is_eq (text_cmp text t)) (sym (exact_bytes (now k) (now x) e))
  by_order text k x xs ys Greater e more = or_later (has text x) (list_any (has text) ys) (list_any (has text) xs) (has text k) more

  -- a text is among the keys of a set with one key more if it was, or is that of this key
  inserted : (text : Text) (k : X) (xs : List X) → list_any (has text) (insert_key by_key xs k) ≡ (list_any (has text) xs || has text k)
  inserted text k [] = or_after (has text k) false
  inserted text k (x ∷ xs) = by_order text k x xs (insert_key by_key xs k) (by_key k x) refl (inserted text k xs)

  -- so the set has the texts that have come, with one text more
  pub among_more : {Y : Type 0} (f : Y → Text) (text : Text) (texts : List Y) (i : ℕ) (y : Y) (k : X) (old new : List X) → i < length texts → y ≡ get_or texts i y → now k ≡ f y → new ≡ insert_key by_key old k →
      list_any (has text) old ≡ is_among (map f (take i texts)) text → list_any (has text) new ≡ is_among (map f (take (i + 1) texts)) text
  among_more f text texts i y k old new lt is key put before =
      let first = map f (take i texts) in
      let parts : map f (take (i + 1) texts) ≡ first ++ now k ∷ [] = map_more f texts i y lt ∙ ap (λ x. first ++ x ∷ []) (ap f (sym is) ∙ sym key) in
      let last : (same_text text (now k) || false) ≡ has text k = or_after (same_text text (now k)) false ∙ sym (same_by_order text (now k)) in
      ap (list_any (has text)) put ∙ inserted text k old ∙ ap (λ b. b || has text k) before ∙ ap (λ b. is_among first text || b) (sym last)
      ∙ sym (list_any-append (same_text text) first (now k ∷ [])) ∙ ap (λ l. is_among l text) (sym parts)

-- the flags that say which are among, with one more
pub flag_more : {Y : Type 0} (p : Text → Bool) (f : Y → Text) (texts : List Y) (i : ℕ) (y : Y) (b : Bool) (old new : List Bool) → i < length texts → y ≡ get_or texts i y → b ≡ p (f y) → new ≡ old ++ b ∷ [] → old ≡ map p (map f (take i texts)) →
    new ≡ map p (map f (take (i + 1) texts))
flag_more p f texts i y b old new lt is flag pushed before =
    pushed ∙ ap (λ l. l ++ b ∷ []) before ∙ ap (λ c. map p (map f (take i texts)) ++ c ∷ []) (flag ∙ ap (λ x. p (f x)) is)
    ∙ sym (ap (map p) (map_more f texts i y lt) ∙ map-append p (map f (take i texts)) (f (get_or texts i y) ∷ []))

-- ---- the first that is not among others

-- what the flags of a test say of the elements
pub all_pass : {X : Type 0} (p : X → Bool) (xs : List X) → All (λ b. b ≡ true) (map p xs) → All (λ x. p x ≡ true) xs
all_pass p [] all = All-nil (λ x. p x ≡ true)
all_pass p (x ∷ xs) all = All-cons (λ y. p y ≡ true) x xs (All-head (λ b. b ≡ true) (p x) (map p xs) all) (all_pass p xs (All-tail (λ b. b ≡ true) (p x) (map p xs) all))

-- a text more, of the next of some things
pub text_more : {X Y : Type 0} (f : X → List ℕ) (g : Y → List ℕ) (xs : List X) (i : ℕ) (x : X) (texts more : List Y) (text : Y) → i < length xs → x ≡ get_or xs i x →
    map g texts ≡ map f (take i xs) → more ≡ texts ++ text ∷ [] → g text ≡ f x → map g more ≡ map f (take (i + 1) xs)
text_more f g xs i x texts more text lt is before pushed here =
    ap (map g) pushed ∙ map_push g texts text ∙ ap (λ l. l ++ g text ∷ []) before ∙ ap (λ u. map f (take i xs) ++ u ∷ []) (here ∙ ap f is) ∙ sym (map_more f xs i x lt)
