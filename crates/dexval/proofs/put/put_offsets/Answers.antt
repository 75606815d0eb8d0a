use Rattle.dexval.proofs.Common.{◌≡◌, ◌+◌, ◌*◌, ◌++◌, length, map, refl, ap, ◌∙◌, subst, arith, rules, length-map, uint, annotation_of, numbered_set_bytes}
use Rattle.dexio.specs.OutputLaws.{pushed_both}
use Rattle.dexio.specs.Pushing.{HasRoomFor, Pushes}
use Rattle.dexval.proofs.Offsets.{annotations_few, set_size, set_begins, offsets_spelled}
use Rattle.dexval.proofs.put.put_offsets.Goals as goal

pub overflow_cast-annotations : goal.overflow_cast-annotations
overflow_cast-annotations c = omega (arith, annotations_few c.args.first c.args.annotations.now c.requires)

pub returns-in_err-reserve : goal.returns-in_err-reserve
returns-in_err-reserve c =
    let xs = c.args.annotations.now in
    let size : length (numbered_set_bytes c.args.first (map annotation_of xs)) ≡ 4 + 4 * length xs = omega (arith, set_size c.args.first (map annotation_of xs), length-map xs annotation_of) in search rules

pub returns : goal.returns
returns c =
    let xs = c.args.annotations.now in
    let d = c.encode_offsets.new.out in
    let whole = subst (λ bs. HasRoomFor bs c.reserve.new.self → Pushes bs c.reserve.new.self d) (set_begins c.args.first xs) (pushed_both (uint (length xs)) (offsets_spelled c.args.first xs) c.reserve.new.self c.u32.new.self d c.u32.ensures c.encode_offsets.ensures) in
    let pushes = whole (omega (arith, c.in_ok-reserve.ensures.ok, set_size c.args.first (map annotation_of xs), length-map xs annotation_of)) in
    record {
      ok = pushes.items ∙ ap (λ bs. bs ++ (numbered_set_bytes c.args.first (map annotation_of xs))) c.in_ok-reserve.ensures.items;
      len = omega (arith, pushes.len, c.in_ok-reserve.ensures.len);
      err = tt;
      room = λ _. refl;
      capacity = omega (arith, pushes.capacity, c.in_ok-reserve.ensures.capacity);
    }
