use Rattle.dexlayout.proofs.Common.{sym, subst, code_section, debug_section, AreLaidIn, ordered_of}
use Rattle.dexlayout.proofs.bodies.place_bodies.Goals as goal

pub place_codes-requires : goal.place_codes-requires
place_codes-requires c =
    let m = c.requires.0 in
    (m, c.requires.1, subst (AreLaidIn (debug_section (ordered_of m c.args.input.now.classes.now))) (sym c.places.ensures) (c.in_ok-debugs.ensures m c.requires.1 c.requires.2).places_are)

pub place_class_data-requires : goal.place_class_data-requires
place_class_data-requires c =
    let m = c.requires.0 in
    let k = c.in_ok-codes.ensures m c.requires.1 (subst (AreLaidIn (debug_section (ordered_of m c.args.input.now.classes.now))) (sym c.places.ensures) (c.in_ok-debugs.ensures m c.requires.1 c.requires.2).places_are) in
    (m, c.requires.1, subst (AreLaidIn (code_section (ordered_of m c.args.input.now.classes.now))) (sym c.places-2.ensures) k.places_are)

pub returns : goal.returns
returns c m w from =
    let d = c.in_ok-debugs.ensures m w from in
    let k = c.in_ok-codes.ensures m w (subst (AreLaidIn (debug_section (ordered_of m c.args.input.now.classes.now))) (sym c.places.ensures) d.places_are) in
    record {
      debugs_are = d;
      codes_are = k;
      class_data_are = c.in_ok-class_data.ensures m w (subst (AreLaidIn (code_section (ordered_of m c.args.input.now.classes.now))) (sym c.places-2.ensures) k.places_are);
    }
