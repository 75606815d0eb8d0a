-- The definitions of a stripped collection are the stripped definitions of the collection.
use Rattle.dexspec.proofs.Common.{◌≡◌, true, false, cond, ◌&&◌, T, List, [], ◌∷◌, map, Some, refl, sym, ap, ◌∙◌, subst, is_lt, Contains, option_map, eq_by_cmp}
use Rattle.std.specs.FinMap as finite
use Rattle.std.specs.FinMap.Entries.{find, is_sorted, below_all}
use Rattle.dexspec.specs.{Text, text_cmp, Definition, Collection, definitions, IsCollectionOf, strip_body, strip_definition, strip, strip_collection, Plan, union}
use Rattle.dexspec.proofs.merge.{text_total, text_exact, Contains-map, definitions-are, collection-one}
use Rattle.dexspec.proofs.lists.Mapped.{Contains-map_source}
use Rattle.dexspec.proofs.strip.StripUnion.{strip-twice, strip-union}

-- ---- stripped definitions whose names rise

-- names are unchanged, so a name is below all as before
below_all-strip : (n : Text) (D : List Definition) → below_all text_cmp n (strip D) ≡ below_all text_cmp n D
below_all-strip n [] = refl
below_all-strip n (d ∷ ds) = ap (λ b. is_lt (text_cmp n d.0) && b) (below_all-strip n ds)

-- rising names still rise
is_sorted-strip : (D : List Definition) → is_sorted text_cmp (strip D) ≡ is_sorted text_cmp D
is_sorted-strip [] = refl
is_sorted-strip (d ∷ ds) = λ i. below_all-strip d.0 ds i && is_sorted-strip ds i

-- the stripped list has the stripped body of a name
find-strip : (D : List Definition) (q : Text) → find text_cmp q (strip D) ≡ option_map strip_body (find text_cmp q D)
find-strip [] q = refl
find-strip (d ∷ ds) q = elim (eq_by_cmp text_cmp q d.0) as (λ b. cond b (Some (strip_body d.1)) (find text_cmp q (strip ds)) ≡ option_map strip_body (cond b (Some d.1) (find text_cmp q ds))) [
  | true ↦ refl
  | false ↦ find-strip ds q
]

-- entries in order are those of their map
entries-from_entries : (D : List Definition) → T (is_sorted text_cmp D) → finite.entries (finite.from_entries {R = text_cmp} D) ≡ D
entries-from_entries D h =
    let same = finite.same_map text_total text_exact (finite.from_entries D) (finite.from_sorted D) (λ q. finite.get-from_entries text_total D q ∙ sym (finite.get-from_sorted text_cmp D q h)) in
    ap finite.entries same ∙ finite.entries-from_sorted text_cmp D h

-- ---- the stripped collection

-- its definitions are the stripped ones, in the same order
pub definitions-strip_collection : (K : Collection) → definitions (strip_collection K) ≡ strip (definitions K)
unfolding strip_collection
definitions-strip_collection K = entries-from_entries (strip (definitions K)) (subst T (sym (is_sorted-strip (definitions K))) (finite.entries_sorted K))

-- the body of a name is stripped
pub get-strip_collection : (K : Collection) (name : Text) → finite.get (strip_collection K) name ≡ option_map strip_body (finite.get K name)
get-strip_collection K name =
    finite.get-entries (strip_collection K) name ∙ ap (find text_cmp name) (definitions-strip_collection K) ∙ find-strip (definitions K) name ∙ ap (option_map strip_body) (sym (finite.get-entries K name))

-- it is the collection of the stripped definitions
pub strip_collection-is : (K : Collection) → IsCollectionOf (strip (definitions K)) (strip_collection K)
strip_collection-is K = subst (λ D. IsCollectionOf D (strip_collection K)) (definitions-strip_collection K) (definitions-are (strip_collection K))

-- the definitions may be in any order, and may be repeated
pub strip_collection-of : (D : List Definition) (K : Collection) → IsCollectionOf D K → IsCollectionOf (strip D) (strip_collection K)
strip_collection-of D K h name c = (
  λ e. let s = Contains-map_source strip_definition (definitions K) (name, c) ((strip_collection-is K name c).0 e) in
      subst (Contains (strip D)) s.2 (Contains-map strip_definition D s.0 ((h s.0.0 s.0.1).0 ((definitions-are K s.0.0 s.0.1).1 s.1))),
  λ m. let s = Contains-map_source strip_definition D (name, c) m in
      (strip_collection-is K name c).1 (subst (Contains (strip (definitions K))) s.2 (Contains-map strip_definition (definitions K) s.0 ((definitions-are K s.0.0 s.0.1).0 ((h s.0.0 s.0.1).1 s.1)))),
)

-- the names are the same
names-strip : (D : List Definition) → map (λ (d : Definition). d.0) (strip D) ≡ map (λ (d : Definition). d.0) D
names-strip [] = refl
names-strip (d ∷ ds) = ap (λ ns. d.0 ∷ ns) (names-strip ds)

-- the names of the collection are the same
pub keys-strip_collection : (K : Collection) → finite.keys (strip_collection K) ≡ finite.keys K
keys-strip_collection K = ap (map (λ (d : Definition). d.0)) (definitions-strip_collection K) ∙ names-strip (definitions K)

-- stripping it again changes nothing
pub strip_collection-twice : (K : Collection) → strip_collection (strip_collection K) ≡ strip_collection K
strip_collection-twice K =
    finite.same_entries_map (strip_collection (strip_collection K)) (strip_collection K)
    (definitions-strip_collection (strip_collection K) ∙ ap strip (definitions-strip_collection K) ∙ strip-twice (definitions K) ∙ sym (definitions-strip_collection K))

-- ---- merging stripped collections

-- the definitions of stripped collections
pub files-strip_collection : (Ks : List Collection) → map definitions (map strip_collection Ks) ≡ map strip (map definitions Ks)
files-strip_collection [] = refl
files-strip_collection (K ∷ Ks) = λ i. definitions-strip_collection K i ∷ files-strip_collection Ks i

-- the union of stripped collections is the stripped union
pub union-strip_collection : (Ks : List Collection) (plan : Plan) → union (map definitions (map strip_collection Ks)) plan ≡ strip (union (map definitions Ks) plan)
union-strip_collection Ks plan = ap (λ files. union files plan) (files-strip_collection Ks) ∙ sym (strip-union (map definitions Ks) plan)

-- merging stripped collections gives the stripped result of merging
pub merged-strip_collection : (Ks : List Collection) (plan : Plan) (K : Collection) → IsCollectionOf (union (map definitions Ks) plan) K → IsCollectionOf (union (map definitions (map strip_collection Ks)) plan) (strip_collection K)
merged-strip_collection Ks plan K h =
    subst (λ D. IsCollectionOf D (strip_collection K)) (sym (union-strip_collection Ks plan)) (strip_collection-of (union (map definitions Ks) plan) K h)

-- and no other result
pub merged_one-strip_collection : (Ks : List Collection) (plan : Plan) (K L : Collection) → IsCollectionOf (union (map definitions Ks) plan) K → IsCollectionOf (union (map definitions (map strip_collection Ks)) plan) L → L ≡ strip_collection K
merged_one-strip_collection Ks plan K L h l = collection-one (union (map definitions (map strip_collection Ks)) plan) L (strip_collection K) l (merged-strip_collection Ks plan K h)
