use Rattle.dexpool.proofs.Common.{rules, subst, All, take_all, Covers, ProtoEntry}
use Rattle.dexpool.proofs.SharedLists.{covers_more}
use Rattle.dexpool.proofs.renumbering.covering.Goals as goal

pub loop-entry-preserved : goal.loop-entry-preserved
loop-entry-preserved c =
    let none : ProtoEntry = record { shorty = 0; return_type = 0; parameters = record { start = 0; end = 0 } } in
    record {
      covers = covers_more c.loop-entry.range c.both-range.result c.args.protos.now c.loop-entry.entry-index none c.loop-entry-test.true c.both-range.ensures.left c.both-range.ensures.right c.loop-entry.invariant.covers;
      within = λ qs h. c.both-range.ensures.within qs (c.loop-entry.invariant.within qs h) (h c.loop-entry.entry-index none c.loop-entry-test.true);
    }

pub returns-clause-covers : goal.returns-clause-covers
returns-clause-covers c = subst (All (λ (p : ProtoEntry). Covers c.loop-entry.range p.parameters)) (take_all c.loop-entry.entry-index c.args.protos.now (search rules)) c.loop-entry.invariant.covers

pub returns-clause-within : goal.returns-clause-within
returns-clause-within c = c.loop-entry.invariant.within
