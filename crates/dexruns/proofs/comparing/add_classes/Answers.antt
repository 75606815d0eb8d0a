use Rattle.dexruns.proofs.Common.{rules, arith, ◌≡◌, ◌∙◌, ◌++◌, ap, sym, append-nil, get_or, take_all, length, length-map, map, definitions, Definition}
use Rattle.dexspec.specs.Depth.{in_class_order}
use Rattle.dexruns.specs.Comparisons.{copies_in}
use Rattle.dexruns.specs.internal.CopyTables.{copies_at}
use Rattle.dexruns.proofs.CopyTables.{class_more}
use Rattle.dexruns.proofs.comparing.add_classes.Goals as goal

pub loop-i-init : goal.loop-i-init
loop-i-init c = record { added = λ name. sym (append-nil (copies_at c.args.table.now.classes name)) }

pub loop-i-preserved : goal.loop-i-preserved
loop-i-preserved c =
    let digests = c.in_ok-digests.digests.items in
    let names = c.in_ok-names.names.items in
    let digest : c.index-digest.result.now ≡ get_or digests c.loop-i.i c.index-digest.result.now = search rules in
    let name : c.index.result.now ≡ get_or names c.loop-i.i c.index.result.now = search rules in
    record {
      added = class_more c.args.file (in_class_order (definitions c.args.program)) digests names c.loop-i.i c.index-digest.result.now c.index.result.now c.args.table.now.classes c.loop-i.table.classes c.add.new.self.classes
          c.in_ok-digests.ensures c.in_ok-names.ensures (omega (arith, c.loop-i-test.true)) digest name c.loop-i.invariant.added c.in_ok-add.ensures;
    }

pub returns : goal.returns
returns c = λ name.
    let D = in_class_order (definitions c.args.program) in
    let many : length c.in_ok-names.names.items ≡ length D = ap length c.in_ok-names.ensures ∙ length-map D (λ (d : Definition). d.0) in
    c.loop-i.invariant.added name ∙ ap (λ E. copies_at c.args.table.now.classes name ++ copies_in c.args.file E name) (take_all c.loop-i.i D (omega (arith, many)))
