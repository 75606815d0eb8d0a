-- Some of the classes that can be merged, and the classes of a program, can be merged.
use Rattle.dexclass.proofs.Common.{◌≡◌, ℕ, ◌+◌, ◌<◌, Bool, true, false, List, [], ◌∷◌, ◌++◌, length, get_or, map, take, drop, refl, sym, ap, ◌∙◌, subst, arith, append-nil, All, Contains, get_or-take, get_or-drop, length-take, length-drop, take-map, drop-map, take-append-drop, All-take, All-drop, Contains-append_left, Contains-append_right, AreDistinct, Definition, Collection, definitions, Mentions, mentions, in_class_order, AreWellFormed, IsGood, greatest_caps, IsGood-within, mentions-same, definitions-distinct, in_class_order-only, in_class_order-has, class_names-apart, IsNumbering, AreAmong-map}
use Rattle.dexspec.proofs.lists.Members.{AreDistinct-first, AreDistinct-rest}
use Rattle.dexspec.proofs.lists.Searches.{AreDistinct-cons}
use Rattle.dexpool.specs.Cut.{kept}
use Rattle.dexpool.proofs.KeptPlaces.{kept_among}
use Rattle.dexpool.proofs.KeptRows.{kept_all, kept-map}
use Rattle.dexclass.specs.{NumberedClass, definition_of, IsKnownClass, AreClassesOf, AreMergeable}
use Rattle.dexclass.specs.internal.Parts.{AreGoodClasses}
use Rattle.dexclass.proofs.Places.{one_place, seen_apart}
use Rattle.dexclass.specs.internal.Trimming.{AreTrimmed}
use Rattle.dexclass.proofs.Mergeable.{trimmed_mergeable}
use Rattle.dexclass.proofs.Ordered.{names_apart}
use Rattle.dexclass.proofs.ProgramsOf.{named}

-- ---- lists

-- a prefix of a list of different members has different members
AreDistinct-take : {X : Type 0} (n : ℕ) (xs : List X) → AreDistinct xs → AreDistinct (take n xs)
AreDistinct-take n xs h i j d less lt e =
    let few = length-take n xs in
    h i j d less (omega (arith, lt, few)) (sym (get_or-take n xs i d (omega (arith, less, lt, few))) ∙ e ∙ get_or-take n xs j d (omega (arith, lt, few)))

-- and so has a suffix
AreDistinct-drop : {X : Type 0} (n : ℕ) (xs : List X) → AreDistinct xs → AreDistinct (drop n xs)
AreDistinct-drop n xs h i j d less lt e = h (n + i) (n + j) d (omega (arith, less)) (omega (arith, lt, (length-drop n xs))) (sym (get_or-drop n xs i d) ∙ e ∙ get_or-drop n xs j d)

-- ---- lists of which some members are kept

AreDistinct-kept : {X : Type 0} (marks : List Bool) (xs : List X) → AreDistinct xs → AreDistinct (kept marks xs)
AreDistinct-kept (true ∷ marks) (x ∷ xs) h =
    AreDistinct-cons x (kept marks xs) (λ c. AreDistinct-first x xs h x (kept_among marks xs x c) refl) (AreDistinct-kept marks xs (AreDistinct-rest x xs h))
AreDistinct-kept (false ∷ marks) (x ∷ xs) h = AreDistinct-kept marks xs (AreDistinct-rest x xs h)
AreDistinct-kept _ _ h = λ i j d less lt e. absurd (omega (arith, less, lt))

pub kept-nil : {X : Type 0} (marks : List Bool) → kept {R = X} marks [] ≡ []
kept-nil [] = refl
kept-nil (true ∷ marks) = refl
kept-nil (false ∷ marks) = refl

-- one more member that is kept, or not
kept_more : {X : Type 0} (marks : List Bool) (xs : List X) (x : X) → length xs < length marks → kept marks (xs ++ x ∷ []) ≡ kept marks xs ++ kept (get_or marks (length xs) false ∷ []) (x ∷ [])
kept_more (true ∷ marks) [] x lt = ap (λ l. x ∷ l) (kept-nil marks)
kept_more (false ∷ marks) [] x lt = kept-nil marks
kept_more (true ∷ marks) (y ∷ xs) x lt = ap (λ ys. y ∷ ys) (kept_more marks xs x (omega (arith, lt)))
kept_more (false ∷ marks) (y ∷ xs) x lt = kept_more marks xs x (omega (arith, lt))
kept_more [] xs x lt = absurd (omega (arith, lt))

-- the list of those that are kept with one more member
pub kept_pushed : {X : Type 0} (marks : List Bool) (xs : List X) (x : X) (mark : Bool) (old new : List X) → length xs < length marks → mark ≡ get_or marks (length xs) false → old ≡ kept marks xs → (mark ≡ true → new ≡ old ++ x ∷ []) → (mark ≡ false → new ≡ old) →
    new ≡ kept marks (xs ++ x ∷ [])
kept_pushed marks xs x true old new lt at is pushed same = pushed refl ∙ ap (λ l. l ++ x ∷ []) is ∙ ap (λ t. kept marks xs ++ kept (t ∷ []) (x ∷ [])) at ∙ sym (kept_more marks xs x lt)
kept_pushed marks xs x false old new lt at is pushed same = same refl ∙ is ∙ sym (append-nil (kept marks xs)) ∙ ap (λ t. kept marks xs ++ kept (t ∷ []) (x ∷ [])) at ∙ sym (kept_more marks xs x lt)

-- ---- some of the classes

module _ (m : Mentions) (cs : List NumberedClass) where
  abbrev D : List Definition
  D = map (definition_of m) cs

  -- those that can be merged are good
  pub all_good : AreMergeable m cs → IsNumbering m → AreGoodClasses m cs
  all_good h numbering = record { known = h.known; names_differ = names_apart m cs (named m cs h numbering); good = h.good; formed = h.formed }

  -- the first ones are among all
  prefix_within : (n : ℕ) (d : Definition) → Contains (map (definition_of m) (take n cs)) d → Contains D d
  prefix_within n = AreAmong-map (definition_of m) (take n cs) cs (λ c h. subst (λ l. Contains l c) (take-append-drop n cs) (Contains-append_left (take n cs) (drop n cs) c h))

  -- and so are the others
  back_within : (n : ℕ) (d : Definition) → Contains (map (definition_of m) (drop n cs)) d → Contains D d
  back_within n = AreAmong-map (definition_of m) (drop n cs) cs (λ c h. subst (λ l. Contains l c) (take-append-drop n cs) (Contains-append_right (take n cs) (drop n cs) c h))

  -- the first of good classes are good
  pub prefix_good : AreGoodClasses m cs → (n : ℕ) → AreGoodClasses m (take n cs)
  prefix_good h n = record {
    known = All-take (IsKnownClass m) n cs h.known;
    names_differ = subst AreDistinct (take-map (λ (d : Definition). d.0) n D ∙ ap (map (λ (d : Definition). d.0)) (take-map (definition_of m) n cs)) (AreDistinct-take n (map (λ (d : Definition). d.0) D) h.names_differ);
    good = IsGood-within (map (definition_of m) (take n cs)) D (prefix_within n) greatest_caps h.good;
    formed = λ d c. h.formed d (prefix_within n d c);
  }

  -- and so are the others
  pub back_good : AreGoodClasses m cs → (n : ℕ) → AreGoodClasses m (drop n cs)
  back_good h n = record {
    known = All-drop (IsKnownClass m) n cs h.known;
    names_differ = subst AreDistinct (drop-map (λ (d : Definition). d.0) n D ∙ ap (map (λ (d : Definition). d.0)) (drop-map (definition_of m) n cs)) (AreDistinct-drop n (map (λ (d : Definition). d.0) D) h.names_differ);
    good = IsGood-within (map (definition_of m) (drop n cs)) D (back_within n) greatest_caps h.good;
    formed = λ d c. h.formed d (back_within n d c);
  }

  -- those that are kept are among all
  kept_within : (flags : List Bool) (d : Definition) → Contains (map (definition_of m) (kept flags cs)) d → Contains (map (definition_of m) cs) d
  kept_within flags = AreAmong-map (definition_of m) (kept flags cs) cs (kept_among flags cs)

  -- and are good where all are
  pub kept_good : AreGoodClasses m cs → (flags : List Bool) → AreGoodClasses m (kept flags cs)
  kept_good h flags = record {
    known = kept_all (IsKnownClass m) flags cs h.known;
    names_differ = subst AreDistinct (kept-map (λ (d : Definition). d.0) flags (map (definition_of m) cs) ∙ ap (map (λ (d : Definition). d.0)) (kept-map (definition_of m) flags cs))
        (AreDistinct-kept flags (map (λ (d : Definition). d.0) (map (definition_of m) cs)) h.names_differ);
    good = IsGood-within (map (definition_of m) (kept flags cs)) (map (definition_of m) cs) (kept_within flags) greatest_caps h.good;
    formed = λ d c. h.formed d (kept_within flags d c);
  }

  -- and denote what is kept of the definitions
  pub kept_denote : (flags : List Bool) → map (definition_of m) (kept flags cs) ≡ kept flags (map (definition_of m) cs)
  kept_denote flags = sym (kept-map (definition_of m) flags cs)

  -- trimmed, good classes can be merged
  pub trimmed_good : AreGoodClasses m cs → (n : Mentions) (new : List NumberedClass) → AreTrimmed D n new → AreMergeable n new
  trimmed_good h n new trimmed = trimmed_mergeable D n new trimmed (one_place (λ (d : Definition). d.0) D (seen_apart (λ (d : Definition). d.0) D h.names_differ)) h.good h.formed

-- ---- the classes of a program

-- they can be merged
pub program_mergeable : (K : Collection) (n : Mentions) (cs : List NumberedClass) → n ≡ mentions (definitions K) → AreClassesOf K cs → IsGood greatest_caps (definitions K) → AreWellFormed (definitions K) → AreMergeable n cs
program_mergeable K n cs e of good formed =
    let E = in_class_order (definitions K) in
    let only : (d : Definition) → Contains E d → Contains (definitions K) d = λ d c. in_class_order-only (definitions K) d c in
    let has : (d : Definition) → Contains (definitions K) d → Contains E d = λ d c. in_class_order-has (definitions K) d (definitions-distinct K) c in
    let trimmed : AreTrimmed E n cs = record {
      mentions_are = e ∙ mentions-same (definitions K) E has only;
      same = ap (λ (m : Mentions). map (definition_of m) cs) e ∙ of.are;
      known = subst (λ (m : Mentions). All (IsKnownClass m) cs) (sym e) of.known;
    } in
    trimmed_mergeable E n cs trimmed (one_place (λ (d : Definition). d.0) E (class_names-apart (definitions K))) (IsGood-within E (definitions K) only greatest_caps good) (λ d c. formed d (only d c))
