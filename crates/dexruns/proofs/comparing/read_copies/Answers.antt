use Rattle.dexruns.proofs.Common.{arith, ◌≡◌, ◌<◌, ◌+◌, ◌∙◌, [], ◌∷◌, ◌++◌, refl, subst, false, length, drop-set-lt, All-set, AllZip-long, drop_more_same, err_from_is_err_and, length-take-le, IsReadAs, bytes_read, IsReadNoFurther, IsReadFrom, stripped_if}
use Rattle.dexruns.proofs.Moved.{same_head, none_moved, moved_now}
use Rattle.dexruns.proofs.Merged.{held_first, read_more}
use Rattle.dexruns.proofs.Unread.{each_unread, each_refused}
use Rattle.dexruns.proofs.CopyTables.{file_more}
use Rattle.dexruns.proofs.comparing.read_copies.Goals as goal

pub loop-i-init : goal.loop-i-init
loop-i-init g c = record { readers = c.requires; rest = refl; moved = none_moved _ _ _ c.args.inputs.now; copies = record { collections = []; read = tt; copies = c.new-table.ensures } }

pub returns-in_err-bytes-clause-no_further : goal.returns-in_err-bytes-clause-no_further
returns-in_err-bytes-clause-no_further g c =
    moved_now (IsReadNoFurther g.R.Source.reports g.R.Source.to_come g.R.Source.has_failed) c.args.inputs.now c.loop-i.inputs c.loop-i.i c.index-inputs-i.result c.read_input.new.input
    c.loop-i.invariant.moved c.loop-i.invariant.rest (omega arith) (omega arith) c.index-inputs-i.is c.read_input.ensures.no_further

pub returns-in_err-whole-clause-no_further : goal.returns-in_err-whole-clause-no_further
returns-in_err-whole-clause-no_further g c =
    moved_now (IsReadNoFurther g.R.Source.reports g.R.Source.to_come g.R.Source.has_failed) c.args.inputs.now c.loop-i.inputs c.loop-i.i c.index-inputs-i.result c.read_input.new.input
    c.loop-i.invariant.moved c.loop-i.invariant.rest (omega arith) (omega arith) c.index-inputs-i.is c.read_input.ensures.no_further

pub returns-in_err-program-clause-no_further : goal.returns-in_err-program-clause-no_further
returns-in_err-program-clause-no_further g c =
    moved_now (IsReadNoFurther g.R.Source.reports g.R.Source.to_come g.R.Source.has_failed) c.args.inputs.now c.loop-i.inputs c.loop-i.i c.index-inputs-i.result c.read_input.new.input
    c.loop-i.invariant.moved c.loop-i.invariant.rest (omega arith) (omega arith) c.index-inputs-i.is c.read_input.ensures.no_further

pub returns-in_err-add_classes-clause-no_further : goal.returns-in_err-add_classes-clause-no_further
returns-in_err-add_classes-clause-no_further g c =
    moved_now (IsReadNoFurther g.R.Source.reports g.R.Source.to_come g.R.Source.has_failed) c.args.inputs.now c.loop-i.inputs c.loop-i.i c.index-inputs-i.result c.read_input.new.input
    c.loop-i.invariant.moved c.loop-i.invariant.rest (omega arith) (omega arith) c.index-inputs-i.is c.read_input.ensures.no_further

pub returns-in_err-bytes-clause-fault : goal.returns-in_err-bytes-clause-fault
returns-in_err-bytes-clause-fault g c =
    let p = err_from_is_err_and c.from_residual.result c.from_residual.ensures.1 in
    rw (p.1, p.2) (each_unread g.R.Source.reports g.R.Source.to_come c.args.inputs.now c.loop-i.i c.index-inputs-i.result c.loop-i.invariant.copies.collections _ c.in_err-bytes.field-0.0 (omega arith) c.loop-i.invariant.copies.read
    (same_head c.loop-i.inputs c.args.inputs.now c.loop-i.i c.index-inputs-i.result c.loop-i.invariant.rest (omega arith) (omega arith) c.index-inputs-i.is) c.in_err-bytes.ensures.fault)

pub returns-in_err-whole-clause-fault : goal.returns-in_err-whole-clause-fault
returns-in_err-whole-clause-fault g c =
    let p = err_from_is_err_and c.from_residual-in_err-whole.result c.from_residual-in_err-whole.ensures.1 in
    rw (p.1, p.2) (each_refused g.R.Source.reports g.R.Source.to_come c.args.inputs.now c.loop-i.i c.index-inputs-i.result c.loop-i.invariant.copies.collections c.as_slice.result.now c.in_err-whole.field-0.0 (omega arith) c.loop-i.invariant.copies.read
    (held_first (λ x. g.R.Source.reports x → c.as_slice.result.now ≡ bytes_read (g.R.Source.to_come x)) c.loop-i.inputs c.args.inputs.now c.loop-i.i c.index-inputs-i.result c.loop-i.invariant.rest (omega arith) (omega arith) c.index-inputs-i.is
    (λ t. c.as_slice.ensures.value ∙ c.in_ok-bytes.ensures.bytes t)) c.in_err-whole.ensures.fault)

pub loop-i-preserved : goal.loop-i-preserved
loop-i-preserved g c =
    let less : c.loop-i.i < c.loop-i.i + 1 = omega arith in
    let before = c.loop-i.invariant.copies in
    let many : length before.collections ≡ c.loop-i.i = AllZip-long _ _ before.collections before.read ∙ length-take-le c.loop-i.i c.args.inputs.now (omega arith) in
    record {
      readers = All-set (λ s. g.R.Source.has_failed s ≡ false) _ _ _ c.in_ok-bytes.ensures.works c.loop-i.invariant.readers;
      rest = rw drop-set-lt (drop_more_same c.loop-i.inputs c.args.inputs.now c.loop-i.i c.loop-i.invariant.rest);
      moved = moved_now (IsReadNoFurther g.R.Source.reports g.R.Source.to_come g.R.Source.has_failed) c.args.inputs.now c.loop-i.inputs c.loop-i.i c.index-inputs-i.result c.read_input.new.input
          c.loop-i.invariant.moved c.loop-i.invariant.rest (omega arith) (omega arith) c.index-inputs-i.is c.read_input.ensures.no_further;
      copies = record {
        collections = before.collections ++ c.in_ok-whole.whole ∷ [];
        read = read_more (IsReadFrom g.R.Source.reports g.R.Source.to_come) c.args.inputs.now c.loop-i.i c.index-inputs-i.result before.collections c.in_ok-whole.whole (omega arith) before.read
            (held_first (λ x. IsReadFrom g.R.Source.reports g.R.Source.to_come x c.in_ok-whole.whole) c.loop-i.inputs c.args.inputs.now c.loop-i.i c.index-inputs-i.result c.loop-i.invariant.rest (omega arith) (omega arith) c.index-inputs-i.is
            (λ t. subst (λ b. IsReadAs b c.in_ok-whole.whole) (c.as_slice.ensures.value ∙ c.in_ok-bytes.ensures.bytes t) c.in_ok-whole.ensures.accepted));
        copies = file_more (stripped_if c.args.is_stripped) before.collections c.in_ok-whole.whole c.in_ok-program.program c.loop-i.i c.loop-i.table.classes c.add_classes.new.table.classes c.in_ok-program.ensures many before.copies c.in_ok-add_classes.ensures;
      };
    }
