-- Packages of classes, and the lines of halves of them.
use Rattle.std.proofs.Common.{◌≡◌, ◌≢◌, ℕ, ◌+◌, ◌<◌, ◌==◌, Bool, true, false, cond, not, List, [], ◌∷◌, ◌++◌, length, map, get_or, take, drop, refl, sym, ap, ◌∙◌, subst, arith, append-nil, append_assoc, Option, Some, None, inl, inr}
use Rattle.std.specs.Prelude.{◌↔◌, All, slice_get}
use Rattle.std.specs.List.{filter, flat_map, Contains}
use Rattle.std.specs.List.{AllByRecursion}
use Rattle.std.specs.List.Sorted.{IsStrictlySortedBy}
use Rattle.std.proofs.lemmas.Map.Views.{All-after_first}
use Rattle.std.proofs.lemmas.List.Elements.{All-contains}
use Rattle.std.proofs.lemmas.Simd.{map-map}
use Rattle.dexpool.specs.Cut.{kept}
use Rattle.std.specs.Ordering.{is_lt, ordering_reverse}
use Rattle.std.specs.declared.cmp.Ordering.{Ordering}
use Rattle.std.specs.declared.cmp.Ordering.TheVariants.{Less, Equal, Greater}
use Rattle.dexspec.proofs.lists.InOrder.{irreflexive}
use Rattle.dexspec.proofs.merge.SymbolOrders.{text_total}
use Rattle.std.proofs.lemmas.List.{get_or-map, length-map, map-append, map_more}
use Rattle.std.proofs.lemmas.Cmp.{nat_list_eq_equiv}
use Rattle.std.proofs.lemmas.List.Filters.{dedup_is}
use Rattle.std.proofs.lemmas.List.Kept.{Contains-dedup, Contains-from_dedup, IsStrictlySortedBy-dedup}
use Rattle.std.proofs.lemmas.List.Sorted.{Contains-permutation, IsPermutation-sym}
use Rattle.std.specs.List.{dedup}
use Rattle.std.specs.List.Retain.{DiffersFromLast, IsFiltered}
use Rattle.std.specs.List.Sorted.{IsPermutation, IsSorted}
use Rattle.dexruns.proofs.CopyTables.{same_by_order}
use Rattle.std.proofs.lemmas.Grind.{flat_map-append}
use Rattle.std.proofs.lemmas.List.Elements.{All-nil, All-cons, All-head, All-tail, All-append, Contains-append_cases, Contains-append_left, Contains-append_right, filter-append}
use Rattle.dexspec.specs.Lists.{rank}
use Rattle.dexspec.specs.Texts.{Text, text_cmp, same_text}
use Rattle.dexspec.specs.Classes.{Definition}
use Rattle.dexspec.specs.Depth.{IsAcyclic, in_class_order}
use Rattle.dexspec.specs.Files.{Collection, definitions, AreSame, AreWithin, IsCollectionOf}
use Rattle.dexspec.specs.Mentions.{Mentions, mentions}
use Rattle.dexspec.specs.Merging.{IsConsistent}
use Rattle.dexspec.proofs.lists.Equality.{text_decides}
use Rattle.dexspec.proofs.lists.Mapped.{AreAmong-map, Contains-map_source}
use Rattle.dexspec.proofs.lists.Members.{AreAmong, AreAmong-flat_map, Contains-nil, Contains-first, Contains-later, Contains-cons_cases, Contains-filter, Contains-filter_source, Contains-flat_map, Contains-flat_map_source}
use Rattle.dexspec.proofs.merge.Depths.{Contains-map}
use Rattle.dexspec.proofs.merge.Collections.{definitions-same}
use Rattle.dexspec.proofs.normal.ClassOrder.{definitions-distinct}
use Rattle.dexspec.proofs.normal.ClassPlaces.{in_class_order-only, in_class_order-has}
use Rattle.dexspec.proofs.merge.Absorption.{HasShortString-within}
use Rattle.dexspec.proofs.merge.DepthGrowth.{IsAcyclic-within}
use Rattle.dexspec.proofs.merge.Growth.{mentions-same}
use Rattle.dexmerge.specs.Counting.{AreCounts}
use Rattle.dexmerge.specs.declared.measuring.Counts.{Counts}
use Rattle.dexruns.specs.Packages.{or_before, before_last_slash, package_of, in_package, package_line, ArePackageLines}
use Rattle.dexruns.specs.internal.Halves.{is_before, packages_of, class_packages, AreThose, AreOfPackages, AreRowsAdded}

-- ---- the package of a class

-- a last unit that is a slash
pub at_slash : (us : Text) → before_last_slash (us ++ 0x2f ∷ []) ≡ Some us
at_slash [] = refl
at_slash (v ∷ us) = ap (or_before v) (at_slash us)

-- and one that is not
pub past_other : (us : Text) (u : ℕ) → (u == 0x2f) ≡ false → before_last_slash (us ++ u ∷ []) ≡ before_last_slash us
past_other [] u e = ap (λ t. cond t (Some []) None) e
past_other (v ∷ us) u e = ap (or_before v) (past_other us u e)

-- ---- numbers of the same definitions

pub counts_same : (D E : List Definition) (counts : Counts) → AreSame D E → AreCounts D counts → AreCounts E counts
counts_same D E counts same h =
    let only : AreWithin E D = λ d. (same d).1 in
    let has : AreWithin D E = λ d. (same d).0 in
    let e : mentions D ≡ mentions E = mentions-same D E has only in
    record {
      consistent = λ name one other c d. h.consistent name one other (only (name, one) c) (only (name, other) d);
      acyclic = IsAcyclic-within E D only h.acyclic;
      types = h.types ∙ ap (λ (m : Mentions). length m.types) e;
      protos = h.protos ∙ ap (λ (m : Mentions). length m.protos) e;
      fields = h.fields ∙ ap (λ (m : Mentions). length m.fields) e;
      methods = h.methods ∙ ap (λ (m : Mentions). length m.methods) e;
      strings = h.strings ∙ ap (λ (m : Mentions). length m.texts) e;
      short_strings = record {
        below = λ s x. subst (λ (m : Mentions). rank text_cmp s m.texts < counts.short_strings) e (h.short_strings.below s (HasShortString-within E D only s x));
        least = λ lt. (let l = h.short_strings.least lt in (l.0, HasShortString-within D E has l.0 l.1, ap (λ (m : Mentions). rank text_cmp l.0 m.texts + 1) (sym e) ∙ l.2));
      };
      size = record {
        once = h.size.once;
        same = λ d. ((λ c. has d ((h.size.same d).0 c)), (λ c. (h.size.same d).1 (only d c)));
        distinct = h.size.distinct;
        classes_are = h.size.classes_are;
        weighs_is = h.size.weighs_is;
      };
    }

-- ---- classes of programs

-- the classes of a collection, in the order of a canonical file, are its definitions
class_members : (K : Collection) → AreSame (in_class_order (definitions K)) (definitions K)
class_members K d = (in_class_order-only (definitions K) d, in_class_order-has (definitions K) d (definitions-distinct K))

-- so their packages are those of all definitions
pub package_members : (Ks : List Collection) (name : Text) → Contains (flat_map class_packages Ks) name ↔ Contains (packages_of (flat_map definitions Ks)) name
package_members Ks name = (
  (λ c.
      let k = Contains-flat_map_source class_packages Ks name c in
      let d = Contains-map_source (λ (d : Definition). package_of d.0) (in_class_order (definitions k.0)) name k.2 in
      subst (Contains (packages_of (flat_map definitions Ks))) d.2 (Contains-map (λ (d : Definition). package_of d.0) (flat_map definitions Ks) d.0 (Contains-flat_map definitions Ks k.0 d.0 k.1 ((class_members k.0 d.0).0 d.1)))),
  (λ c.
      let d = Contains-map_source (λ (d : Definition). package_of d.0) (flat_map definitions Ks) name c in
      let k = Contains-flat_map_source definitions Ks d.0 d.1 in
      subst (Contains (flat_map class_packages Ks)) d.2 (Contains-flat_map class_packages Ks k.0 (package_of d.0.0) k.1 (Contains-map (λ (d : Definition). package_of d.0) (in_class_order (definitions k.0)) d.0 ((class_members k.0 d.0).1 k.2)))),
)

-- ---- flags

kept_is : {X : Type 0} (p : X → Bool) (xs : List X) → kept (map p xs) xs ≡ filter p xs
kept_is p [] = refl
kept_is p (x ∷ xs) = by (p x) (kept_is p xs)
  where
    by : (b : Bool) → kept (map p xs) xs ≡ filter p xs → kept (b ∷ map p xs) (x ∷ xs) ≡ cond b (x ∷ filter p xs) (filter p xs)
    by true rest = ap (λ l. x ∷ l) rest
    by false rest = rest

module _ (bound : Text) (D : List Definition) (packages : List Text) (flags : List Bool) (are : packages ≡ packages_of D) (set : flags ≡ map (is_before bound) packages) where
  abbrev pub early : Definition → Bool
  early d = is_before bound (package_of d.0)

  flags_are : flags ≡ map early D
  flags_are = set ∙ ap (map (is_before bound)) are ∙ map-map (is_before bound) (λ (d : Definition). package_of d.0) D

  pub flag_count : length flags ≡ length D
  flag_count = ap (λ (l : List Bool). length l) flags_are ∙ length-map D early

  -- what the flags keep
  pub before_kept : kept flags D ≡ filter early D
  before_kept = ap (λ l. kept l D) flags_are ∙ kept_is early D

  -- and what they leave
  pub others_kept : kept (map not flags) D ≡ filter (λ d. not (early d)) D
  others_kept = ap (λ l. kept (map not l) D) flags_are ∙ ap (λ l. kept l D) (map-map not early D) ∙ kept_is (λ d. not (early d)) D

-- ---- programs of parts

-- one program more
pub program_more : (Ks more : List Collection) (K : Collection) (D : List Definition) → more ≡ Ks ++ K ∷ [] → IsCollectionOf D K → AreSame (flat_map definitions more) (flat_map definitions Ks ++ D)
program_more Ks more K D pushed is =
    let all : flat_map definitions more ≡ flat_map definitions Ks ++ definitions K = ap (flat_map definitions) pushed ∙ flat_map-append definitions Ks (K ∷ []) ∙ ap (λ l. flat_map definitions Ks ++ l) (append-nil (definitions K)) in
    subst (λ l. AreSame l (flat_map definitions Ks ++ D)) (sym all) (λ d. (
      (λ c. elim (Contains-append_cases (flat_map definitions Ks) (definitions K) d c) [
        | inl first ↦ Contains-append_left (flat_map definitions Ks) D d first
        | inr last ↦ Contains-append_right (flat_map definitions Ks) D d ((definitions-same D K is d).0 last)
      ]),
      (λ c. elim (Contains-append_cases (flat_map definitions Ks) D d c) [
        | inl first ↦ Contains-append_left (flat_map definitions Ks) (definitions K) d first
        | inr last ↦ Contains-append_right (flat_map definitions Ks) (definitions K) d ((definitions-same D K is d).1 last)
      ]),
    ))

-- none more
pub program_less : (Ks same : List Collection) (D : List Definition) → same ≡ Ks → D ≡ [] → AreSame (flat_map definitions same) (flat_map definitions Ks ++ D)
program_less Ks same D is none =
    subst (λ l. AreSame (flat_map definitions same) l) (sym (ap (λ l. flat_map definitions Ks ++ l) none ∙ append-nil (flat_map definitions Ks) ∙ ap (flat_map definitions) (sym is))) (λ d. ((λ c. c), (λ c. c)))

-- the classes of one program more, of which some are chosen
pub chosen_more : (p : Definition → Bool) (Ks all : List Collection) (K : Collection) (old new : List Definition) → all ≡ Ks ++ K ∷ [] → AreThose p (flat_map definitions Ks) old → AreSame new (old ++ filter p (in_class_order (definitions K))) →
    AreThose p (flat_map definitions all) new
chosen_more p Ks all K old new pushed before now =
    let whole : flat_map definitions all ≡ flat_map definitions Ks ++ definitions K = ap (flat_map definitions) pushed ∙ flat_map-append definitions Ks (K ∷ []) ∙ ap (λ l. flat_map definitions Ks ++ l) (append-nil (definitions K)) in
    let E = in_class_order (definitions K) in
    subst (λ D. AreThose p D new) (sym whole) (λ d. (
      (λ c. elim (Contains-append_cases old (filter p E) d ((now d).0 c)) [
        | inl first ↦ let t = (before d).0 first in (Contains-append_left (flat_map definitions Ks) (definitions K) d t.0, t.1)
        | inr last ↦ let t = Contains-filter_source p E d last in (Contains-append_right (flat_map definitions Ks) (definitions K) d ((class_members K d).0 t.0), t.1)
      ]),
      (λ t. (now d).1 (elim (Contains-append_cases (flat_map definitions Ks) (definitions K) d t.0) [
        | inl first ↦ Contains-append_left old (filter p E) d ((before d).1 (first, t.1))
        | inr last ↦ Contains-append_right old (filter p E) d (Contains-filter p E d ((class_members K d).1 last) t.1)
      ])),
    ))

-- of no program none is chosen
pub none_chosen : (p : Definition → Bool) (new : List Collection) → new ≡ [] → AreThose p (flat_map definitions []) (flat_map definitions new)
none_chosen p new none = subst (λ Ks. AreThose p (flat_map definitions []) (flat_map definitions Ks)) (sym none) (λ d. ((λ c. absurd (Contains-nil d c)), (λ t. absurd (Contains-nil d t.0))))

-- ---- packages in order

rec_prefix : {X : Type 0} (P : X → Type 0) (xs ys : List X) → AllByRecursion P (xs ++ ys) → AllByRecursion P xs
rec_prefix P [] ys all = tt
rec_prefix P (x ∷ xs) ys all = (all.0, rec_prefix P xs ys all.1)

module _ {X : Type 0} (R : X → X → Ordering) where
  pub sorted_prefix : (xs ys : List X) → IsStrictlySortedBy R (xs ++ ys) → IsStrictlySortedBy R xs
  unfolding IsStrictlySortedBy
  sorted_prefix [] ys rise = tt
  sorted_prefix (x ∷ xs) ys rise = (rec_prefix (λ y. R x y ≡ Less) xs ys rise.0, sorted_prefix xs ys rise.1)

  pub sorted_back : (xs ys : List X) → IsStrictlySortedBy R (xs ++ ys) → IsStrictlySortedBy R ys
  unfolding IsStrictlySortedBy
  sorted_back [] ys rise = rise
  sorted_back (x ∷ xs) ys rise = sorted_back xs ys rise.1

  -- each of the first is below each of the last
  pub sorted_apart : (xs ys : List X) → IsStrictlySortedBy R (xs ++ ys) → (x y : X) → Contains xs x → Contains ys y → R x y ≡ Less
  unfolding IsStrictlySortedBy
  sorted_apart [] ys rise x y c e = absurd (Contains-nil x c)
  sorted_apart (z ∷ xs) ys rise x y c e = elim (Contains-cons_cases z x xs c) [
    | inl same ↦ subst (λ w. R w y ≡ Less) same (All-contains (λ w. R z w ≡ Less) (xs ++ ys) y (All-after_first R z (xs ++ ys) rise) (Contains-append_right xs ys y e))
    | inr later ↦ sorted_apart xs ys rise.1 x y later e
  ]

-- ---- lines of packages

-- the classes of a package are all where all are in it
in_package_all : (name : Text) (D : List Definition) → ((d : Definition) → Contains D d → package_of d.0 ≡ name) → in_package name D ≡ D
in_package_all name [] all = refl
in_package_all name (d ∷ D) all =
    let here : same_text (package_of d.0) name ≡ true = (text_decides (package_of d.0) name).1 (all d (Contains-first d D)) in
    ap (λ b. cond b (d ∷ in_package name D) (in_package name D)) here ∙ ap (λ l. d ∷ l) (in_package_all name D (λ e c. all e (Contains-later d e D c)))

-- the line of the one package
pub one_row : (D : List Definition) (name : Text) (counts : Counts) (packages : List Text) (old new : List ℕ) → packages ≡ name ∷ [] → AreOfPackages D packages → AreCounts D counts → new ≡ old ++ package_line name counts → AreRowsAdded D packages old new
one_row D name counts packages old new is of are put =
    let all : (d : Definition) → Contains D d → package_of d.0 ≡ name = λ d c. elim (Contains-cons_cases name (package_of d.0) [] (subst (λ l. Contains l (package_of d.0)) is (of.covered d c))) [ inl e ↦ sym e | inr n ↦ absurd (Contains-nil (package_of d.0) n) ] in
    record {
      rows = (name, counts) ∷ [];
      packages_are = sym is;
      counted = All-cons (λ (row : Text × Counts). AreCounts (in_package row.0 D) row.1) (name, counts) [] (subst (λ E. AreCounts E counts) (sym (in_package_all name D all)) are) (All-nil (λ (row : Text × Counts). AreCounts (in_package row.0 D) row.1));
      lines_are = put ∙ ap (λ l. old ++ l) (sym (append-nil (package_line name counts)));
    }

-- no line
pub no_rows : (D : List Definition) (packages : List Text) (text : List ℕ) → packages ≡ [] → AreRowsAdded D packages text text
no_rows D packages text none = record {
  rows = [];
  packages_are = sym none;
  counted = All-nil (λ (row : Text × Counts). AreCounts (in_package row.0 D) row.1);
  lines_are = sym (append-nil text);
}

-- ---- halves

module _ (p : Definition → Bool) (D E : List Definition) (those : AreThose p D E) where
  those_within : AreWithin E D
  those_within d c = ((those d).0 c).0

  -- those that are chosen can be counted, and are in these packages
  pub half_packages : (all some : List Text) → AreOfPackages D all → ((d : Definition) → Contains D d → p d ≡ true → Contains all (package_of d.0) → Contains some (package_of d.0)) → AreOfPackages E some
  half_packages all some of rest = record {
    consistent = λ name one other c d. of.consistent name one other (those_within (name, one) c) (those_within (name, other) d);
    acyclic = IsAcyclic-within E D those_within of.acyclic;
    covered = λ d c. (let t = (those d).0 c in rest d t.0 t.1 (of.covered d t.0));
  }

  -- a package of which all classes are chosen has just these
  same_package : (name : Text) → ((d : Definition) → package_of d.0 ≡ name → p d ≡ true) → AreSame (in_package name E) (in_package name D)
  same_package name chosen d =
      let test : Definition → Bool = λ e. same_text (package_of e.0) name in (
        (λ c. (let t = Contains-filter_source test E d c in Contains-filter test D d (those_within d t.0) t.1)),
        (λ c. (let t = Contains-filter_source test D d c in Contains-filter test E d ((those d).1 (t.0, chosen d ((text_decides (package_of d.0) name).0 t.1))) t.1)),
      )

  -- so its numbers are those of all
  pub rows_of_all : (rows : List (Text × Counts)) → ((name : Text) → Contains (map (λ row. row.0) rows) name → (d : Definition) → package_of d.0 ≡ name → p d ≡ true) →
      All (λ row. AreCounts (in_package row.0 E) row.1) rows → All (λ row. AreCounts (in_package row.0 D) row.1) rows
  rows_of_all [] chosen all = All-nil (λ (row : Text × Counts). AreCounts (in_package row.0 D) row.1)
  rows_of_all (row ∷ rows) chosen all =
      All-cons (λ (r : Text × Counts). AreCounts (in_package r.0 D) r.1) row rows
      (counts_same (in_package row.0 E) (in_package row.0 D) row.1 (same_package row.0 (chosen row.0 (Contains-first row.0 (map (λ (r : Text × Counts). r.0) rows)))) (All-head (λ (r : Text × Counts). AreCounts (in_package r.0 E) r.1) row rows all))
      (rows_of_all rows (λ name c. chosen name (Contains-later row.0 name (map (λ (r : Text × Counts). r.0) rows) c)) (All-tail (λ (r : Text × Counts). AreCounts (in_package r.0 E) r.1) row rows all))

-- a package is before another, or not
before_less : (bound name : Text) → text_cmp name bound ≡ Less → is_before bound name ≡ true
before_less bound name e = ap is_lt e

not_less : (o : Ordering) → (o ≡ Less → ⊥) → is_lt o ≡ false
not_less Less never = absurd (never refl)
not_less Equal never = refl
not_less Greater never = refl

not_before : (bound name : Text) → name ≡ bound → is_before bound name ≡ false
not_before bound name e = not_less (text_cmp name bound) (irreflexive text_cmp text_total name bound e)

not_before_greater : (bound name : Text) → text_cmp bound name ≡ Less → is_before bound name ≡ false
not_before_greater bound name e = ap is_lt (text_total.antisymm name bound ∙ ap ordering_reverse e)

module _ (D before others : List Definition) (bound : Text) (packages first last rest : List Text) (parts : packages ≡ first ++ last) (at : last ≡ bound ∷ rest) (rise : IsStrictlySortedBy text_cmp packages) (of : AreOfPackages D packages)
    (early : AreThose (λ d. is_before bound (package_of d.0)) D before) (late : AreThose (λ d. not (is_before bound (package_of d.0))) D others) where
  rise_parts : IsStrictlySortedBy text_cmp (first ++ last)
  rise_parts = subst (IsStrictlySortedBy text_cmp) parts rise

  first_less : (name : Text) → Contains first name → is_before bound name ≡ true
  first_less name c = before_less bound name (sorted_apart text_cmp first last rise_parts name bound c (subst (λ l. Contains l bound) (sym at) (Contains-first bound rest)))

  last_not : (name : Text) → Contains last name → is_before bound name ≡ false
  last_not name c = elim (Contains-cons_cases bound name rest (subst (λ l. Contains l name) at c)) [
    | inl same ↦ not_before bound name (sym same)
    | inr later ↦ not_before_greater bound name (All-contains (λ y. text_cmp bound y ≡ Less) rest name (All-after_first text_cmp bound rest (subst (IsStrictlySortedBy text_cmp) at (sorted_back text_cmp first last rise_parts))) later)
  ]

  pub first_rise : IsStrictlySortedBy text_cmp first
  first_rise = sorted_prefix text_cmp first last rise_parts

  pub last_rise : IsStrictlySortedBy text_cmp last
  last_rise = sorted_back text_cmp first last rise_parts

  pub first_of : AreOfPackages before first
  first_of = half_packages (λ d. is_before bound (package_of d.0)) D before early packages first of (λ d c e all. elim (Contains-append_cases first last (package_of d.0) (subst (λ l. Contains l (package_of d.0)) parts all)) [
    | inl here ↦ here
    | inr later ↦ absurd (let f = last_not (package_of d.0) later in cc)
  ])

  pub last_of : AreOfPackages others last
  last_of = half_packages (λ d. not (is_before bound (package_of d.0))) D others late packages last of (λ d c e all. elim (Contains-append_cases first last (package_of d.0) (subst (λ l. Contains l (package_of d.0)) parts all)) [
    | inl here ↦ absurd (let f = ap not (first_less (package_of d.0) here) in cc)
    | inr later ↦ later
  ])

  -- the lines of both halves are those of all
  pub rows_joined : (old mid new : List ℕ) → AreRowsAdded before first old mid → AreRowsAdded others last mid new → AreRowsAdded D packages old new
  rows_joined old mid new a b = record {
    rows = a.rows ++ b.rows;
    packages_are = map-append (λ (row : Text × Counts). row.0) a.rows b.rows ∙ ap (λ l. l ++ map (λ (row : Text × Counts). row.0) b.rows) a.packages_are ∙ ap (λ l. first ++ l) b.packages_are ∙ sym parts;
    counted = All-append (λ (row : Text × Counts). AreCounts (in_package row.0 D) row.1) a.rows b.rows
        (rows_of_all (λ d. is_before bound (package_of d.0)) D before early a.rows (λ name c d is. ap (is_before bound) is ∙ first_less name (subst (λ l. Contains l name) a.packages_are c)) a.counted)
        (rows_of_all (λ d. not (is_before bound (package_of d.0))) D others late b.rows (λ name c d is. ap not (ap (is_before bound) is ∙ last_not name (subst (λ l. Contains l name) b.packages_are c))) b.counted);
    lines_are = b.lines_are ∙ ap (λ l. l ++ flat_map (λ (row : Text × Counts). package_line row.0 row.1) b.rows) a.lines_are
        ∙ append_assoc old (flat_map (λ (row : Text × Counts). package_line row.0 row.1) a.rows) (flat_map (λ (row : Text × Counts). package_line row.0 row.1) b.rows)
        ∙ ap (λ l. old ++ l) (sym (flat_map-append (λ (row : Text × Counts). package_line row.0 row.1) a.rows b.rows));
  }

-- ---- all packages

pub all_of_packages : (D : List Definition) (packages : List Text) (counts : Counts) → AreCounts D counts → ((name : Text) → Contains packages name ↔ Contains (packages_of D) name) → AreOfPackages D packages
all_of_packages D packages counts are same = record {
  consistent = are.consistent;
  acyclic = are.acyclic;
  covered = λ d c. (same (package_of d.0)).1 (Contains-map (λ (e : Definition). package_of e.0) D d c);
}

pub lines_of_packages : (D : List Definition) (packages : List Text) (old new : List ℕ) (counts : Counts) → AreCounts D counts → IsStrictlySortedBy text_cmp packages → ((name : Text) → Contains packages name ↔ Contains (packages_of D) name) → old ≡ [] → AreRowsAdded D packages old new →
    ArePackageLines D new
lines_of_packages D packages old new counts are rise same none h = record {
  consistent = are.consistent;
  acyclic = are.acyclic;
  rows = h.rows;
  rise = subst (IsStrictlySortedBy text_cmp) (sym h.packages_are) rise;
  are = λ name. subst (λ l. Contains l name ↔ Contains (packages_of D) name) (sym h.packages_are) (same name);
  counted = h.counted;
  lines_are = h.lines_are ∙ ap (λ l. l ++ flat_map (λ (row : Text × Counts). package_line row.0 row.1) h.rows) none;
}

-- ---- packages, each once and in order

-- the package of one class more
pub packages_next : (D : List Definition) (names : List Text) (i : ℕ) (name own : Text) (old new : List Text) → names ≡ map (λ d. d.0) D → i < length names → name ≡ get_or names i name → own ≡ package_of name →
    old ≡ packages_of (take i D) → new ≡ old ++ own ∷ [] → new ≡ packages_of (take (i + 1) D)
packages_next [] names i name own old new titles lt here of before pushed = absurd (omega (arith, lt, ap (λ l. length l) titles))
packages_next (d ∷ D) names i name own old new titles lt here of before pushed =
    let E = d ∷ D in
    let within : i < length E = omega (arith, lt, ap (λ l. length l) titles, length-map E (λ (e : Definition). e.0)) in
    let title : name ≡ (get_or E i d).0 = here ∙ ap (λ l. get_or l i name) titles ∙ get_or-map (λ (e : Definition). e.0) E i d name within in
    pushed ∙ ap (λ l. l ++ own ∷ []) before ∙ ap (λ t. packages_of (take i E) ++ t ∷ []) (of ∙ ap package_of title) ∙ sym (map_more (λ (e : Definition). package_of e.0) E i d within)

module _ (all sorted once : List Text) (moved : IsPermutation all sorted) (in_turn : IsSorted text_cmp sorted) (left : IsFiltered (DiffersFromLast same_text) [] sorted once) where
  once_is : once ≡ dedup same_text sorted
  once_is = dedup_is same_text sorted once left

  pub once_rise : IsStrictlySortedBy text_cmp once
  once_rise = subst (IsStrictlySortedBy text_cmp) (sym once_is) (IsStrictlySortedBy-dedup text_total (λ x y. sym (same_by_order x y)) sorted in_turn)

  pub once_members : (name : Text) → Contains once name ↔ Contains all name
  once_members name = (
    (λ c. Contains-permutation sorted all name (IsPermutation-sym all sorted moved) (Contains-from_dedup same_text sorted name (subst (λ l. Contains l name) once_is c))),
    (λ c. subst (λ l. Contains l name) (sym once_is) (Contains-dedup nat_list_eq_equiv (λ x y. (text_decides x y).0) sorted name (Contains-permutation all sorted name moved c))),
  )

-- ---- lists with a first member

pub first_of_some : {X : Type 0} (xs : List X) (x : X) → 0 < length xs → x ≡ get_or xs 0 x → xs ≡ x ∷ drop 1 xs
first_of_some [] x some is = absurd (omega (arith, some))
first_of_some (y ∷ xs) x some is = ap (λ z. z ∷ xs) (sym is)

pub only_one : {X : Type 0} (xs : List X) (x : X) → length xs < 2 → slice_get xs 0 ≡ Some x → xs ≡ x ∷ []
only_one [] x few is = absurd cc
only_one (y ∷ []) x few is = ap (λ z. z ∷ []) (some_one y x is)
  where
    some_one : {X : Type 0} (a b : X) → Some a ≡ Some b → a ≡ b
    some_one a b e = cc
only_one (y ∷ z ∷ xs) x few is = absurd (omega (arith, few))
