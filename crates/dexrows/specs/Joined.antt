-- Tables joined, as a call returns them.
use Rattle.std.specs.Prelude.{ℕ, List, map}
use Rattle.std.specs.Borrow.{Bor}
use Rattle.std.specs.Global.{Vec}
use Rattle.dexrows.specs.declared.joining.Joined.{Joined}
use Rattle.dexrows.specs.Join.{IsJoin}

-- the images, as lists of numbers
abbrev pub images_of : List (Vec ℕ) → List (List ℕ)
images_of images = map (λ image. image.items) images

-- the rows are those of the parts joined, with the image of each part
abbrev pub JoinsParts : {R : Type 0} → (R → List ℕ) → List (Bor (List R)) → Joined R → Type 0
JoinsParts key parts joined =
    IsJoin key (map (λ part. part.now) parts) joined.rows.items (images_of joined.images.items)
