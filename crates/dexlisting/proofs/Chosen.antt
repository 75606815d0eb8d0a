-- Lists without the elements whose flags are false.
use Rattle.std.proofs.Common.{ℕ, suc, zero, ◌≡◌, ◌<◌, ◌+◌, Bool, true, false, cond, List, [], ◌∷◌, ◌++◌, length, map, take, get_or, refl, ap, sym, ◌∙◌, arith, append-nil}
use Rattle.std.specs.List.{flat_map, filter}
use Rattle.std.proofs.lemmas.List.{take_more, get_or-map, length-map}
use Rattle.std.proofs.lemmas.Grind.{flat_map-append}
use Rattle.dexspec.specs.Mentions.{Mentions, mentions}
use Rattle.dexspec.specs.Classes.{Definition}
use Rattle.dexspec.specs.Files.{Collection, definitions}
use Rattle.dexspec.specs.Depth.{in_class_order}
use Rattle.dexclass.specs.Numbered.{NumberedClass, definition_of}
use Rattle.dexclass.specs.Programs.{AreClassesOf}
use Rattle.dexlisting.specs.declared.listing.Detail.{Detail}
use Rattle.dexlisting.specs.declared.listing.Detail.TheVariants.{Short, Full}
use Rattle.dexlisting.specs.Listing.{class_lines, chosen, listing, listing_of}
use Rattle.dexlisting.specs.FullListing.{full_class_lines, full_listing_of}
use Rattle.dexlisting.specs.Detailed.{lines_in, listing_in, listing_in_of}

pub chosen_none : {X : Type 0} (fs : List Bool) → chosen {X = X} fs [] ≡ []
chosen_none [] = refl
chosen_none (f ∷ fs) = refl

more_or_not : {X : Type 0} (f : Bool) (x : X) (fs : List Bool) → cond f (x ∷ chosen fs []) (chosen fs []) ≡ cond f (x ∷ []) []
more_or_not true x fs = ap (λ ys. x ∷ ys) (chosen_none fs)
more_or_not false x fs = chosen_none fs

later : {X : Type 0} (f : Bool) (x : X) (xs ys zs : List X) → ys ≡ xs ++ zs → cond f (x ∷ ys) ys ≡ cond f (x ∷ xs) xs ++ zs
later true x xs ys zs e = ap (λ l. x ∷ l) e
later false x xs ys zs e = e

-- with one element more there is that, unless its flag is false
chosen_next : {X : Type 0} (fs : List Bool) (xs : List X) (i : ℕ) (d : X) → i < length xs → chosen fs (take (suc i) xs) ≡ chosen fs (take i xs) ++ cond (get_or fs i true) (get_or xs i d ∷ []) []
chosen_next [] xs i d lt = let next : suc i ≡ i + 1 = omega arith in ap (λ n. take n xs) next ∙ take_more xs i d lt
chosen_next (f ∷ fs) [] i d lt = absurd (omega (arith, lt))
chosen_next (f ∷ fs) (x ∷ xs) zero d lt = more_or_not f x fs
chosen_next (f ∷ fs) (x ∷ xs) (suc i) d lt = later f x (chosen fs (take i xs)) (chosen fs (take (suc i) xs)) (cond (get_or fs i true) (get_or xs i d ∷ []) []) (chosen_next fs xs i d (omega (arith, lt)))

chosen_more : {X : Type 0} (fs : List Bool) (xs : List X) (i : ℕ) (d : X) → i < length xs → chosen fs (take (i + 1) xs) ≡ chosen fs (take i xs) ++ cond (get_or fs i true) (get_or xs i d ∷ []) []
chosen_more fs xs i d lt = let next : i + 1 ≡ suc i = omega arith in ap (λ n. chosen fs (take n xs)) next ∙ chosen_next fs xs i d lt

one_or_none : {X : Type 0} (f : X → List ℕ) (b : Bool) (x : X) → flat_map f (cond b (x ∷ []) []) ≡ cond b (f x) []
one_or_none f true x = append-nil (f x)
one_or_none f false x = refl

-- then there are its lines too
lines_more : {X : Type 0} (f : X → List ℕ) (fs : List Bool) (xs : List X) (i : ℕ) (d : X) → i < length xs → flat_map f (chosen fs (take (i + 1) xs)) ≡ flat_map f (chosen fs (take i xs)) ++ cond (get_or fs i true) (f (get_or xs i d)) []
lines_more f fs xs i d lt =
    ap (flat_map f) (chosen_more fs xs i d lt) ∙ flat_map-append f (chosen fs (take i xs)) (cond (get_or fs i true) (get_or xs i d ∷ []) [])
    ∙ ap (λ ys. flat_map f (chosen fs (take i xs)) ++ ys) (one_or_none f (get_or fs i true) (get_or xs i d))

-- the lines of the chosen ones among first classes, with one class more
pub classes_more : (detail : Detail) (m : Mentions) (cs : List NumberedClass) (fs : List Bool) (i : ℕ) (x : NumberedClass) (b : Bool) → i < length cs → x ≡ get_or cs i x → b ≡ get_or fs i true →
    flat_map (lines_in detail) (chosen fs (take (i + 1) (map (definition_of m) cs))) ≡ flat_map (lines_in detail) (chosen fs (take i (map (definition_of m) cs))) ++ cond b (lines_in detail (definition_of m x)) []
classes_more detail m cs fs i x b lt is flag =
    let ds = map (definition_of m) cs in
    let before = flat_map (lines_in detail) (chosen fs (take i ds)) in
    let here : get_or ds i (definition_of m x) ≡ definition_of m x = get_or-map (definition_of m) cs i x (definition_of m x) lt ∙ ap (definition_of m) (sym is) in
    lines_more (lines_in detail) fs ds i (definition_of m x) (omega (arith, length-map cs (definition_of m), lt))
    ∙ ap (λ d. before ++ cond (get_or fs i true) (lines_in detail d) []) here ∙ ap (λ t. before ++ cond t (lines_in detail (definition_of m x)) []) (sym flag)

-- by the flags that a test gives, those are chosen that pass it
pub chosen_by : {X : Type 0} (p : X → Bool) (xs : List X) → chosen (map p xs) xs ≡ filter p xs
chosen_by p [] = refl
chosen_by p (x ∷ xs) = by_test p x xs (p x) (chosen_by p xs)
  where
    by_test : {X : Type 0} (p : X → Bool) (x : X) (xs : List X) (b : Bool) → chosen (map p xs) xs ≡ filter p xs → cond b (x ∷ chosen (map p xs) xs) (chosen (map p xs) xs) ≡ cond b (x ∷ filter p xs) (filter p xs)
    by_test p x xs true same = ap (λ l. x ∷ l) same
    by_test p x xs false same = same

-- the lines of the classes of a program that are chosen are the listing of these
pub listing_of_is : (detail : Detail) (K : Collection) (m : Mentions) (cs : List NumberedClass) (fs : List Bool) → m ≡ mentions (definitions K) → AreClassesOf K cs → flat_map (lines_in detail) (chosen fs (map (definition_of m) cs)) ≡ listing_in_of detail fs K
unfolding listing_of full_listing_of
listing_of_is Short K m cs fs e h = rw e (ap (λ ds. flat_map class_lines (chosen fs ds)) h.are)
listing_of_is Full K m cs fs e h = rw e (ap (λ ds. flat_map full_class_lines (chosen fs ds)) h.are)

-- without flags it is that of all
pub listing_in_all : (detail : Detail) (K : Collection) → listing_in_of detail [] K ≡ listing_in detail K
unfolding listing listing_of
listing_in_all Short K = refl
listing_in_all Full K = refl

-- and by the flags that a test of the classes gives, it is the lines of those that pass it
pub chosen_lines : (detail : Detail) (K : Collection) (p : Definition → Bool) (fs : List Bool) → fs ≡ map p (in_class_order (definitions K)) → listing_in_of detail fs K ≡ flat_map (lines_in detail) (filter p (in_class_order (definitions K)))
unfolding listing_of full_listing_of
chosen_lines Short K p fs are = ap (λ gs. flat_map class_lines (chosen gs (in_class_order (definitions K)))) are ∙ ap (flat_map class_lines) (chosen_by p (in_class_order (definitions K)))
chosen_lines Full K p fs are = ap (λ gs. flat_map full_class_lines (chosen gs (in_class_order (definitions K)))) are ∙ ap (flat_map full_class_lines) (chosen_by p (in_class_order (definitions K)))
