use Rattle.std.proofs.Common.{◌++◌, sym, ◌∙◌, ap, subst}
use Rattle.dexout.specs.Took.{TookPrefix, took_nothing}
use Rattle.dexout.specs.Output.{HasWritten}
use Rattle.dexout.specs.Took.{Took}
use Rattle.dexlisting.specs.Detailed.{listing_in_of}
use Rattle.dexout.proofs.Finished.{begun, same_writer, written_whole, written_prefix, reported_failed}
use Rattle.dexlisting.proofs.listing.write_through.Goals as goal
use Rattle.dexlisting.proofs.listing.write_through.Goals.{After-write_classes}

-- what was written
written : (g : _) (c : After-write_classes g) → HasWritten (Took g.W.Sink.reports g.W.Sink.taken) (TookPrefix g.W.Sink.reports g.W.Sink.taken) c.args.out.now.target c.write_classes.new.out (listing_in_of c.args.detail c.args.flags.now c.args.program.now)
written g c =
    subst (λ m. HasWritten (Took g.W.Sink.reports g.W.Sink.taken) (TookPrefix g.W.Sink.reports g.W.Sink.taken) c.args.out.now.target c.write_classes.new.out m) (ap (λ b. b ++ listing_in_of c.args.detail c.args.flags.now c.args.program.now) c.requires.empty)
    (c.write_classes.ensures.adds.written c.requires.room c.args.out.now.target c.args.out.now.buffer.items (begun c.args.out.now c.requires.fresh (took_nothing g.W.Sink.reports g.W.Sink.taken c.args.out.now.target)))

pub returns-clause-same : goal.returns-clause-same
returns-clause-same g c = same_writer g.W.Sink.reports g.W.Sink.taken c.args.out.now.target c.write_classes.new.out _ (written g (goal.at.returns-clause-same g c).After-write_classes)

pub returns-clause-written : goal.returns-clause-written
returns-clause-written g c = written_whole g.W.Sink.reports g.W.Sink.taken c.args.out.now.target c.write_classes.new.out _ (written g (goal.at.returns-clause-written g c).After-write_classes) c.result.result c.result.ensures c.write_classes.ensures.empty

pub returns-clause-left : goal.returns-clause-left
returns-clause-left g c = written_prefix g.W.Sink.reports g.W.Sink.taken c.args.out.now.target c.write_classes.new.out _ (written g (goal.at.returns-clause-left g c).After-write_classes) c.result.result c.result.ensures

pub returns-clause-device : goal.returns-clause-device
returns-clause-device g c = reported_failed g.W.Sink.has_failed c.write_classes.new.out (c.write_classes.ensures.adds.reports (c.requires.works ∙ sym c.requires.fresh)) c.result.result c.result.ensures
