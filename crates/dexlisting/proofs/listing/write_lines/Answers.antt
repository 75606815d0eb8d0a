use Rattle.std.proofs.Common.{[], map, take, cond, sym, ap, subst, ◌∙◌, arith}
use Rattle.std.specs.List.{flat_map}
use Rattle.std.proofs.lemmas.List.{take_all, length-map}
use Rattle.dexclass.specs.Numbered.{definition_of}
use Rattle.dexout.specs.Output.{Adds, adds_nothing, adds_both}
use Rattle.dexlisting.specs.Listing.{chosen}
use Rattle.dexlisting.specs.Detailed.{lines_in}
use Rattle.dexlisting.proofs.Chosen.{chosen_none, classes_more}
use Rattle.dexlisting.proofs.listing.write_lines.Goals as goal

pub loop-i-init : goal.loop-i-init
loop-i-init g c =
    subst (λ ds. Adds g.T.Target.gives g.T.Target.gives_prefix g.T.Target.has_failed (flat_map (lines_in c.args.detail) ds) c.args.out.now c.args.out.now) (sym (chosen_none c.args.flags.now))
    (adds_nothing g.T.Target.gives g.T.Target.gives_prefix g.T.Target.has_failed c.args.out.now)

pub loop-i-preserved : goal.loop-i-preserved
loop-i-preserved g c =
    let m = c.args.numbering.now in
    let cs = c.args.classes.now in
    let fs = c.args.flags.now in
    let i = c.loop-i.i in
    let x = c.index-classes-i.result in
    let before = flat_map (lines_in c.args.detail) (chosen fs (take i (map (definition_of m) cs))) in
    subst (λ text. Adds g.T.Target.gives g.T.Target.gives_prefix g.T.Target.has_failed text c.args.out.now c.write_class.new.out) (sym (classes_more c.args.detail m cs fs i x c.is_chosen.result (omega (arith, c.loop-i-test.true)) c.index-classes-i.is c.is_chosen.ensures))
    (adds_both g.T.Target.gives g.T.Target.gives_prefix g.T.Target.has_failed before (cond c.is_chosen.result (lines_in c.args.detail (definition_of m x)) []) c.args.out.now c.loop-i.out c.write_class.new.out c.loop-i.invariant c.write_class.ensures)

pub returns : goal.returns
returns g c =
    let ds = map (definition_of c.args.numbering.now) c.args.classes.now in
    subst (λ ds. Adds g.T.Target.gives g.T.Target.gives_prefix g.T.Target.has_failed (flat_map (lines_in c.args.detail) (chosen c.args.flags.now ds)) c.args.out.now c.loop-i.out)
    (take_all c.loop-i.i ds (omega (arith, length-map c.args.classes.now (definition_of c.args.numbering.now), c.loop-i-test.false))) c.loop-i.invariant
