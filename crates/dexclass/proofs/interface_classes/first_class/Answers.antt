use Rattle.std.specs.Borrow.{Bor}
use Rattle.dexclass.proofs.Common.{◌≡◌, ◌∙◌, ◌+◌, ◌-◌, ◌<◌, ℕ, List, Option, None, Some, Maps, length, length-map, get_or, get_or-map, refl, ap, sym, arith}
use Rattle.dexclass.specs.{image_or_same}
use Rattle.dexclass.specs.internal.InterfaceClasses.{type_of, types_of}
use Rattle.dexclass.proofs.interface_classes.first_class.Goals as goal

-- the numbers, each remapped if there is a map
types_count : (remap : Option (Bor Maps)) (numbers : List ℕ) → length (types_of remap numbers) ≡ length numbers
types_count None numbers = refl
types_count (Some r) numbers = length-map numbers (image_or_same r.now.types)

type_at : (remap : Option (Bor Maps)) (numbers : List ℕ) (k : ℕ) → k < length numbers → get_or (types_of remap numbers) k 0 ≡ type_of remap (get_or numbers k 0)
type_at None numbers k lt = refl
type_at (Some r) numbers k lt = get_or-map (image_or_same r.now.types) numbers k 0 0 lt

pub returns-in-Some : goal.returns-in-Some
returns-in-Some c =
    let k = c.loop-k.k in
    let types = types_of c.args.remap c.args.numbers.now in
    let lt : k < length c.args.numbers.now = omega (arith, c.loop-k-test.true, c.len-k-end.ensures) in
    let back : k + 1 - 1 ≡ k = omega arith in
    record {
      later = omega (arith, c.loop-k.invariant.later);
      within = omega (arith, lt, types_count c.args.remap c.args.numbers.now);
      typ_is = ap (λ (j : ℕ). get_or types j 0) back ∙ type_at c.args.remap c.args.numbers.now k lt ∙ ap (type_of c.args.remap) (sym c.at.ensures) ∙ sym c.number_of_type-typ.ensures;
      class_is = sym c.class_of_type.ensures ∙ c.in-Some.is;
      before = λ j later less. c.loop-k.invariant.none j later (omega (arith, less));
    }

pub returns : goal.returns
returns c = λ j later lt. c.loop-k.invariant.none j later (omega (arith, lt, types_count c.args.remap c.args.numbers.now, c.loop-k-test.false, c.len-k-end.ensures))
