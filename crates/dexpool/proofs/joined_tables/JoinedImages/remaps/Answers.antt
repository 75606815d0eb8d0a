use Rattle.dexpool.proofs.Common.{arith, sym, ◌∙◌, subst}
use Rattle.dexpool.specs.Orderly.{KeepOrder}
use Rattle.dexpool.proofs.JoinedTables.{has_part, has_left, maps_left, left_more, maps_more, maps_all}
use Rattle.dexpool.proofs.joined_tables.JoinedImages.remaps.Goals as goal

pub remap-requires-clause-within : goal.remap-requires-clause-within
remap-requires-clause-within c = has_left c.loop-part.part c.args.self c.loop-part.self c.loop-part.invariant.others (has_part c.args.self c.loop-part.part c.requires.counts (omega arith))

pub remap-requires-clause-keep : goal.remap-requires-clause-keep
remap-requires-clause-keep c = subst KeepOrder (sym (maps_left c.loop-part.part c.args.self c.loop-part.self c.loop-part.invariant.others)) (c.requires.keep c.loop-part.part (omega arith))

pub loop-part-preserved : goal.loop-part-preserved
loop-part-preserved c = record {
  maps = maps_more c.args.self c.loop-part.remaps.items c.push.new.self.items c.in_ok-remap.field-0 c.loop-part.part (has_part c.args.self c.loop-part.part c.requires.counts (omega arith)) c.loop-part.invariant.maps c.in_ok-push.ensures.items
      (c.in_ok-remap.ensures.maps ∙ maps_left c.loop-part.part c.args.self c.loop-part.self c.loop-part.invariant.others);
  others = left_more c.loop-part.part c.args.self c.loop-part.self c.loop-part.invariant.others c.remap.new.self c.in_ok-remap.ensures.others;
}

pub returns : goal.returns
returns c = maps_all c.args.self c.loop-part.remaps.items c.loop-part.part c.requires.counts (omega arith) c.loop-part.invariant.maps
