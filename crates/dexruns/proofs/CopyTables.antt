-- What a table of copies has of each class, as copies are added.
use Rattle.std.proofs.Common.{◌≡◌, ℕ, suc, ◌+◌, ◌<◌, Bool, true, false, cond, List, [], ◌∷◌, ◌++◌, length, map, get_or, take, ◌≢◌, arith, append_assoc, refl, sym, ap, ◌∙◌, subst, append-nil, Option, Some, None}
use Rattle.std.specs.Prelude.{◌↔◌, All, IsSome}
use Rattle.std.specs.List.{flat_map, filter}
use Rattle.std.proofs.lemmas.List.{get_or-map, length-map, map-append, take_more}
use Rattle.std.specs.Map.{keys_of}
use Rattle.std.proofs.lemmas.List.Elements.{All-head, All-tail, filter-append}
use Rattle.std.proofs.lemmas.Map.Views.{btree_map_contains_key_iff}
use Rattle.std.specs.Ordering.{is_eq, ordering_reverse}
use Rattle.std.specs.Bool.{Decides, one_answer}
use Rattle.std.specs.declared.cmp.Ordering.{Ordering}
use Rattle.std.specs.declared.cmp.Ordering.TheVariants.{Less, Equal, Greater}
use Rattle.std.specs.BTreeMap.{BTreeMap, get, keys, IsOrdered}
use Rattle.std.proofs.lemmas.Map.Lookups.{exact_bytes}
use Rattle.dexspec.specs.Texts.{Text, text_cmp, same_text}
use Rattle.dexspec.specs.Classes.{Definition}
use Rattle.dexspec.specs.Files.{Collection, definitions}
use Rattle.dexspec.specs.Depth.{in_class_order}
use Rattle.dexcanon.specs.Digests.{class_digest}
use Rattle.dexspec.proofs.lists.Equality.{text_decides}
use Rattle.dexspec.proofs.merge.SymbolOrders.{text_total}
use Rattle.dexruns.specs.declared.copies.ClassCopy.{ClassCopy}
use Rattle.dexruns.specs.declared.copies.Copies.{Copies}
use Rattle.dexruns.specs.Comparisons.{copy_of, copies_in, copies_from, copies_of, AreClassLines}
use Rattle.dexruns.specs.internal.CopyTables.{copies_at, copies_list, found_copies, added, HoldsCopies}

equal_of : (o : Ordering) → is_eq o ≡ true → o ≡ Equal
equal_of Equal e = refl
equal_of Less e = absurd (cc)
equal_of Greater e = absurd (cc)

with_itself : (o : Ordering) → o ≡ ordering_reverse o → is_eq o ≡ true
with_itself Equal e = refl
with_itself Less e = absurd (cc)
with_itself Greater e = absurd (cc)

order_decides : (a b : Text) → Decides (is_eq (text_cmp a b)) (a ≡ b)
order_decides a b = (
  (λ e. exact_bytes a b (equal_of (text_cmp a b) e)),
  (λ e. subst (λ c. is_eq (text_cmp a c) ≡ true) e (with_itself (text_cmp a a) (text_total.antisymm a a))),
)

-- the order finds two texts equal just where they are the same
pub same_by_order : (a b : Text) → is_eq (text_cmp a b) ≡ same_text a b
same_by_order a b = one_answer (is_eq (text_cmp a b)) (same_text a b) (order_decides a b) (text_decides a b)

-- a copy that is added to the class of a name is after those that the class had, and other classes have theirs
pub added_at : (m n : BTreeMap Text Copies) (key : Text) (new : Copies) (old : List ClassCopy) (copy : ClassCopy) → ((q : Text) → get text_cmp n q ≡ cond (is_eq (text_cmp key q)) (Some new) (get text_cmp m q)) →
    copies_at m key ≡ old → copies_list new ≡ old ++ copy ∷ [] → (q : Text) → copies_at n q ≡ copies_at m q ++ added key copy q
added_at m n key new old copy updates before after q = at (same_text key q) refl
  where
    at : (b : Bool) → same_text key q ≡ b → copies_at n q ≡ copies_at m q ++ added key copy q
    at true e =
        let same : key ≡ q = (text_decides key q).0 e in
        let here : old ≡ copies_at m q = sym before ∙ ap (copies_at m) same in
        ap found_copies (updates q ∙ ap (λ t. cond t (Some new) (get text_cmp m q)) (same_by_order key q ∙ e)) ∙ after ∙ ap (λ l. l ++ copy ∷ []) here ∙ ap (λ t. copies_at m q ++ cond t (copy ∷ []) []) (sym e)
    at false e =
        ap found_copies (updates q ∙ ap (λ t. cond t (Some new) (get text_cmp m q)) (same_by_order key q ∙ e)) ∙ sym (append-nil (copies_at m q)) ∙ ap (λ t. copies_at m q ++ cond t (copy ∷ []) []) (sym e)

-- ---- the lines of a table

-- a class that is found has a copy, and one that is not has none
has_copies : (o : Option Copies) → IsSome o ↔ (found_copies o ≢ [])
has_copies None = ((λ some. absurd cc), (λ not. absurd (not refl)))
has_copies (Some copies) = ((λ some e. absurd cc), (λ not. refl))

-- the lines of the entries are those of the classes, each with its copies
lines_by_entries : (Ks : List Collection) (m : BTreeMap Text Copies) (lines_of : Text → List ClassCopy → List ℕ) (es : List (Text × Copies)) → All (λ e. get text_cmp m e.0 ≡ Some e.1) es → HoldsCopies Ks m →
    flat_map (λ e. lines_of e.0 (copies_list e.1)) es ≡ flat_map (λ name. lines_of name (copies_of Ks name)) (keys_of es)
lines_by_entries Ks m lines_of [] found holds = refl
lines_by_entries Ks m lines_of (e ∷ es) found holds =
    let here : copies_list e.1 ≡ copies_of Ks e.0 = sym (ap found_copies (All-head (λ (e : Text × Copies). get text_cmp m e.0 ≡ Some e.1) e es found)) ∙ holds e.0 in
    ap (λ copies. lines_of e.0 copies ++ flat_map (λ (e : Text × Copies). lines_of e.0 (copies_list e.1)) es) here
    ∙ ap (λ lines. lines_of e.0 (copies_of Ks e.0) ++ lines) (lines_by_entries Ks m lines_of es (All-tail (λ (e : Text × Copies). get text_cmp m e.0 ≡ Some e.1) e es found) holds)

-- the lines of the entries of a table are those of the classes of the files whose copies it has
pub table_is : (Ks : List Collection) (m : BTreeMap Text Copies) (lines_of : Text → List ClassCopy → List ℕ) (lines : List ℕ) → IsOrdered text_cmp m → All (λ e. get text_cmp m e.0 ≡ Some e.1) m.entries → HoldsCopies Ks m →
    lines ≡ flat_map (λ e. lines_of e.0 (copies_list e.1)) m.entries → AreClassLines Ks lines_of lines
table_is Ks m lines_of lines ordered found holds are = record {
  names = keys m;
  rise = ordered;
  are = λ name.
      let is_key = btree_map_contains_key_iff text_total exact_bytes m name in
      let has = has_copies (get text_cmp m name) in
      ((λ key none. has.0 (is_key.1 key) (holds name ∙ none)), (λ some. is_key.0 (has.1 (λ none. some (sym (holds name) ∙ none)))));
  lines_are = are ∙ lines_by_entries Ks m lines_of m.entries found holds;
}

-- what is printed at the end of the entries
pub printed_all : {E : Type 0} (f : E → List ℕ) (text : List ℕ) (rest es : List E) → rest ≡ [] → text ++ flat_map f rest ≡ flat_map f es → text ≡ flat_map f es
printed_all f text rest es end printed = sym (append-nil text) ∙ ap (λ l. text ++ flat_map f l) (sym end) ∙ printed

-- ---- the classes of a file, and of files

mapped_single : {X Y : Type 0} (f : X → Y) (b : Bool) (x : X) → map f (cond b (x ∷ []) []) ≡ cond b (f x ∷ []) []
mapped_single f true x = refl
mapped_single f false x = refl

-- one more definition
copies_more : (file : ℕ) (D : List Definition) (i : ℕ) (d : Definition) (name : Text) → i < length D → copies_in file (take (i + 1) D) name ≡ copies_in file (take i D) name ++ added (get_or D i d).0 (copy_of file (get_or D i d)) name
copies_more file D i d name lt =
    let x = get_or D i d in
    let named = λ (e : Definition). same_text e.0 name in
    ap (λ E. copies_in file E name) (take_more D i d lt) ∙ ap (map (copy_of file)) (filter-append named (take i D) (x ∷ []))
    ∙ map-append (copy_of file) (filter named (take i D)) (filter named (x ∷ []))
    ∙ ap (λ l. copies_in file (take i D) name ++ l) (mapped_single (copy_of file) (same_text x.0 name) x)

-- the next class of a file is added
pub class_more : (file : ℕ) (D : List Definition) (digests names : List (List ℕ)) (i : ℕ) (digest name : List ℕ) (old now new : BTreeMap Text Copies) → digests ≡ map class_digest D → names ≡ map (λ d. d.0) D → i < length names →
    digest ≡ get_or digests i digest → name ≡ get_or names i name →
    ((n : Text) → copies_at now n ≡ copies_at old n ++ copies_in file (take i D) n) → ((n : Text) → copies_at new n ≡ copies_at now n ++ added name (record { file = file; digest = digest }) n) →
    (n : Text) → copies_at new n ≡ copies_at old n ++ copies_in file (take (i + 1) D) n
class_more file [] digests names i digest name old now new are titles lt here there before after n = absurd (omega (arith, lt, ap (λ l. length l) titles))
class_more file (d ∷ D) digests names i digest name old now new are titles lt here there before after n =
    let E = d ∷ D in
    let within : i < length E = omega (arith, lt, ap (λ l. length l) titles, length-map E (λ (e : Definition). e.0)) in
    let last : digest ≡ class_digest (get_or E i d) = here ∙ ap (λ l. get_or l i digest) are ∙ get_or-map class_digest E i d digest within in
    let title : name ≡ (get_or E i d).0 = there ∙ ap (λ l. get_or l i name) titles ∙ get_or-map (λ (e : Definition). e.0) E i d name within in
    let copy : ClassCopy = record { file = file; digest = digest } in
    after n ∙ ap (λ l. l ++ added name copy n) (before n)
    ∙ ap (λ x. (copies_at old n ++ copies_in file (take i E) n) ++ added name (record { file = file; digest = x }) n) last
    ∙ ap (λ x. (copies_at old n ++ copies_in file (take i E) n) ++ added x (copy_of file (get_or E i d)) n) title
    ∙ append_assoc (copies_at old n) (copies_in file (take i E) n) (added (get_or E i d).0 (copy_of file (get_or E i d)) n)
    ∙ ap (λ l. copies_at old n ++ l) (sym (copies_more file E i d n within))

copies_from-append : (i : ℕ) (Ks Ls : List Collection) (name : Text) → copies_from i (Ks ++ Ls) name ≡ copies_from i Ks name ++ copies_from (i + length Ks) Ls name
copies_from-append i [] Ls name = ap (λ n. copies_from n Ls name) {x = i} {y = i + 0} (omega arith)
copies_from-append i (K ∷ Ks) Ls name =
    let same : suc i + length Ks ≡ i + length (K ∷ Ks) = omega arith in
    ap (λ l. copies_in i (in_class_order (definitions K)) name ++ l) (copies_from-append (suc i) Ks Ls name ∙ ap (λ n. copies_from (suc i) Ks name ++ copies_from n Ls name) same)
    ∙ sym (append_assoc (copies_in i (in_class_order (definitions K)) name) (copies_from (suc i) Ks name) (copies_from (i + length (K ∷ Ks)) Ls name))

-- one more file
pub file_more : (f : Collection → Collection) (Ks : List Collection) (K L : Collection) (i : ℕ) (now new : BTreeMap Text Copies) → L ≡ f K → length Ks ≡ i → HoldsCopies (map f Ks) now →
    ((name : Text) → copies_at new name ≡ copies_at now name ++ copies_in i (in_class_order (definitions L)) name) → HoldsCopies (map f (Ks ++ K ∷ [])) new
file_more f Ks K L i now new is many before after name =
    let count : i ≡ 0 + length (map f Ks) = omega (arith, many, length-map Ks f) in
    after name ∙ ap (λ l. l ++ copies_in i (in_class_order (definitions L)) name) (before name)
    ∙ ap (λ J. copies_of (map f Ks) name ++ copies_in i (in_class_order (definitions J)) name) is
    ∙ ap (λ n. copies_of (map f Ks) name ++ copies_in n (in_class_order (definitions (f K))) name) count
    ∙ ap (λ l. copies_of (map f Ks) name ++ l) (sym (append-nil (copies_in (0 + length (map f Ks)) (in_class_order (definitions (f K))) name)))
    ∙ sym (copies_from-append 0 (map f Ks) (f K ∷ []) name)
    ∙ ap (λ Ls. copies_of Ls name) (sym (map-append f Ks (K ∷ [])))
