-- Stripped definitions have the same class order.
use Rattle.dexspec.proofs.Common.{◌≡◌, ℕ, List, [], ◌∷◌, map, refl, ap, ◌∙◌, Less, Equal, Greater}
use Rattle.std.specs.FinMap.Entries.{put, by_order}
use Rattle.dexspec.specs.{Text, Body, Definition, depth, place_cmp, put_all, in_class_order, strip_body, strip}
use Rattle.dexspec.proofs.strip.StripUnion.{depth-strip}

-- a definition at its place in the class order
abbrev Entry : Type 0
Entry = (ℕ × Text) × Body

-- the same place with a stripped body
abbrev strip_entry : Entry → Entry
strip_entry e = (e.0, strip_body e.1)

-- a stripped body, put at its place
put-strip : (k : ℕ × Text) (c : Body) (es : List Entry) → put place_cmp k (strip_body c) (map strip_entry es) ≡ map strip_entry (put place_cmp k c es)
put-strip k c [] = refl
put-strip k c (e ∷ es) = elim (place_cmp k e.0) as (λ r.
    by_order r ((k, strip_body c) ∷ strip_entry e ∷ map strip_entry es) ((e.0, strip_body c) ∷ map strip_entry es) (strip_entry e ∷ put place_cmp k (strip_body c) (map strip_entry es))
    ≡ map strip_entry (by_order r ((k, c) ∷ e ∷ es) ((e.0, c) ∷ es) (e ∷ put place_cmp k c es))) [
      | Less ↦ refl
      | Equal ↦ refl
      | Greater ↦ ap (λ l. strip_entry e ∷ l) (put-strip k c es)
    ]

-- all of them
put_all-strip : (es : List Entry) → put_all (map strip_entry es) ≡ map strip_entry (put_all es)
put_all-strip [] = refl
put_all-strip (e ∷ es) = ap (put place_cmp e.0 (strip_body e.1)) (put_all-strip es) ∙ put-strip e.0 e.1 (put_all es)

-- the definitions at these depths
abbrev placed : (Text → ℕ) → List Definition → List Entry
placed depth_of D = map (λ (d : Definition). ((depth_of d.0, d.0), d.1)) D

-- stripped definitions have the same places
placed-strip : (f g : Text → ℕ) → ((name : Text) → f name ≡ g name) → (D : List Definition) → placed f (strip D) ≡ map strip_entry (placed g D)
placed-strip f g h [] = refl
placed-strip f g h (d ∷ ds) = λ i. ((h d.0 i, d.0), strip_body d.1) ∷ placed-strip f g h ds i

-- without the places they are the stripped definitions
unplaced-strip : (es : List Entry) → map (λ (e : Entry). (e.0.1, e.1)) (map strip_entry es) ≡ strip (map (λ (e : Entry). (e.0.1, e.1)) es)
unplaced-strip [] = refl
unplaced-strip (e ∷ es) = ap (λ l. (e.0.1, strip_body e.1) ∷ l) (unplaced-strip es)

-- stripped definitions have the same class order
pub in_class_order-strip : (D : List Definition) → in_class_order (strip D) ≡ strip (in_class_order D)
unfolding in_class_order
in_class_order-strip D =
    let entries : placed (depth (strip D)) (strip D) ≡ map strip_entry (placed (depth D) D) = placed-strip (depth (strip D)) (depth D) (depth-strip D) D in
    ap (λ es. map (λ (e : Entry). (e.0.1, e.1)) (put_all es)) entries
    ∙ ap (map (λ (e : Entry). (e.0.1, e.1))) (put_all-strip (placed (depth D) D))
    ∙ unplaced-strip (put_all (placed (depth D) D))
