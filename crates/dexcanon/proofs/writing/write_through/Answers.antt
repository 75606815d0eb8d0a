use Rattle.dexcanon.proofs.Common.{◌++◌, sym, ◌∙◌, after_header, ordered_of, TookPrefix, took_nothing, HasWritten}
use Rattle.dexout.specs.Took.{Took}
use Rattle.dexout.proofs.Finished.{begun, same_writer, written_whole, written_prefix, reported_failed}
use Rattle.dexcanon.proofs.writing.write_through.Goals as goal
use Rattle.dexcanon.proofs.writing.write_through.Goals.{After-write_body}

-- what was written, from the buffered header on
written : (g : _) (c : After-write_body g) → HasWritten (Took g.W.Sink.reports g.W.Sink.taken) (TookPrefix g.W.Sink.reports g.W.Sink.taken) c.args.out.now.target c.write_body.new.out
    (c.args.out.now.buffer.items ++ after_header (ordered_of c.args.contents.now.numbering.now c.args.contents.now.classes.now))
written g c = c.write_body.ensures.adds.written c.requires.room c.args.out.now.target c.args.out.now.buffer.items (begun c.args.out.now c.requires.fresh (took_nothing g.W.Sink.reports g.W.Sink.taken c.args.out.now.target))

pub returns-clause-same : goal.returns-clause-same
returns-clause-same g c = same_writer g.W.Sink.reports g.W.Sink.taken c.args.out.now.target c.write_body.new.out _ (written g (goal.at.returns-clause-same g c).After-write_body)

pub returns-clause-written : goal.returns-clause-written
returns-clause-written g c = written_whole g.W.Sink.reports g.W.Sink.taken c.args.out.now.target c.write_body.new.out _ (written g (goal.at.returns-clause-written g c).After-write_body) c.result.result c.result.ensures c.write_body.ensures.empty

pub returns-clause-left : goal.returns-clause-left
returns-clause-left g c = written_prefix g.W.Sink.reports g.W.Sink.taken c.args.out.now.target c.write_body.new.out _ (written g (goal.at.returns-clause-left g c).After-write_body) c.result.result c.result.ensures

pub returns-clause-device : goal.returns-clause-device
returns-clause-device g c = reported_failed g.W.Sink.has_failed c.write_body.new.out (c.write_body.ensures.adds.reports (c.requires.works ∙ sym c.requires.fresh)) c.result.result c.result.ensures
