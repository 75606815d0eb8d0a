use Rattle.std.specs.Prelude.{IfSome}
use Rattle.dexclass.proofs.Common.{◌≡◌, ◌∙◌, List, ℕ, length, take, drop, ap, sym, subst}
use Rattle.dexclass.specs.{image_or_same}
use Rattle.dexclass.specs.internal.Shared.{shared_in}
use Rattle.dexclass.proofs.SharedLists.{found_images}
use Rattle.dexclass.proofs.shared_renumbering.Whole.images_of.Goals as goal

pub returns : goal.returns
returns c = λ r is.
    let whole = c.args.self.now in
    let start = c.in-Some.start in
    let list = c.args.list.now in
    let many : c.len.result ≡ length list = c.len.ensures ∙ ap (λ (l : List ℕ). length l) c.numbers.ensures in
    found_images (image_or_same r.types) whole.numbers (shared_in whole.images) list c.in_ok-images.images start is (sym (c.has_at.ensures c.if-not-has_at.false))
    (subst (λ (n : ℕ). IfSome c.in_ok-images.images (λ part. part ≡ take n (drop start (shared_in whole.images)))) many c.in_ok-images.ensures)
