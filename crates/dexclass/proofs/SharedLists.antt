-- Parts of lists whose numbers are remapped.
use Rattle.std.specs.Prelude.{IfSome}
use Rattle.dexclass.proofs.Common.{◌≡◌, ℕ, List, length, take, drop, map, Option, Some, None, ap, ◌∙◌, take-map, drop-map}

-- a part of the images is the images of a part
pub part_of_images : (f : ℕ → ℕ) (whole images list : List ℕ) (start : ℕ) → images ≡ map f whole → take (length list) (drop start whole) ≡ list → take (length list) (drop start images) ≡ map f list
part_of_images f whole images list start are is =
    ap (λ (l : List ℕ). take (length list) (drop start l)) are ∙ ap (take (length list)) (drop-map f start whole) ∙ take-map f (length list) (drop start whole) ∙ ap (map f) is

-- so are those that are found
pub found_images : (f : ℕ → ℕ) (whole images list : List ℕ) (found : Option (List ℕ)) (start : ℕ) → images ≡ map f whole → take (length list) (drop start whole) ≡ list → IfSome found (λ part. part ≡ take (length list) (drop start images)) → IfSome found (λ part. part ≡ map f list)
found_images f whole images list None start are is h = h
found_images f whole images list (Some part) start are is h = h ∙ part_of_images f whole images list start are is
