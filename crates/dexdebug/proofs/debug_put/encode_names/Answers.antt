use Rattle.dexdebug.proofs.Common.{ap, subst, All, flat_map, All-head, All-tail, uleb128p1, completes_all, completes_more, FitsIndex}
use Rattle.dexdebug.proofs.debug_put.encode_names.Goals as goal

pub encode_index-requires : goal.encode_index-requires
encode_index-requires g c = All-head FitsIndex c.in-Some.name c.next.new.self (subst (All FitsIndex) c.in-Some.ensures.steps c.loop-name.invariant.formed)

pub loop-name-preserved : goal.loop-name-preserved
loop-name-preserved g c =
    record {
      formed = All-tail FitsIndex c.in-Some.name c.next.new.self (subst (All FitsIndex) c.in-Some.ensures.steps c.loop-name.invariant.formed);
      completes = completes_more g.O.Output.gives g.met.O.Output.both (uleb128p1 c.in-Some.name) (flat_map uleb128p1 c.next.new.self) (flat_map uleb128p1 c.loop-name.name-iterator) (flat_map uleb128p1 c.args.names)
          c.args.out.now c.loop-name.out c.encode_index.new.out (ap (flat_map uleb128p1) c.in-Some.ensures.steps) c.loop-name.invariant.completes c.encode_index.ensures;
    }

pub returns : goal.returns
returns g c =
    completes_all g.O.Output.gives g.met.O.Output.nothing (flat_map uleb128p1 c.loop-name.name-iterator) (flat_map uleb128p1 c.args.names) c.args.out.now c.loop-name.out
    (ap (flat_map uleb128p1) c.in-None.ensures.steps.0) c.loop-name.invariant.completes
