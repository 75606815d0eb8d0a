use Rattle.std.proofs.lemmas.Bool.Decides.{nat_tests}
use Rattle.std.specs.Option.{option_cmp}
use Rattle.std.specs.Ordering.{nat_cmp, ord_max}
use Rattle.std.specs.Prelude.{◌||◌}
use Rattle.dexmerge.proofs.Common.{◌≡◌, ◌∙◌, ℕ, ◌<◌, length, arith, ap, refl, subst, Option, Some, None, NumberedClass, members_short_strings}
use Rattle.dexmerge.specs.{classes_of, Decides, is_from}
use Rattle.dexmerge.proofs.CandidatePlaces.{at_place, count_classes}
use Rattle.dexmerge.proofs.Counting.{decides_more}
use Rattle.dexmerge.proofs.fitting.greatest_short_string.Goals as goal

-- the greater number, if there is one
max_from : (a b : Option ℕ) (cap : ℕ) → is_from cap (ord_max (option_cmp nat_cmp) a b) ≡ (is_from cap a || is_from cap b)
max_from None None cap = refl
max_from None (Some n) cap = refl
max_from (Some n) None cap = grind (arith, nat_tests)
max_from (Some n) (Some k) cap = grind (arith, nat_tests)

pub loop-i-preserved : goal.loop-i-preserved
loop-i-preserved c =
    let cs = classes_of c.args.classes.now in
    let few : c.loop-i.i < length cs = omega (arith, c.loop-i-test.true, count_classes c.args.classes.now) in
    decides_more cs c.loop-i.i c.loop-i.greatest c.greatest_short_string.result c.max-greatest.result few c.loop-i.invariant
    (subst (λ (x : NumberedClass). Decides c.greatest_short_string.result (members_short_strings x.members)) (at_place c.args.classes.now c.loop-i.i c.index-classes-i.result c.loop-i-test.true c.index-classes-i.is) c.greatest_short_string.ensures)
    (λ cap. ap (is_from cap) c.max-greatest.ensures ∙ max_from c.loop-i.greatest c.greatest_short_string.result cap)
