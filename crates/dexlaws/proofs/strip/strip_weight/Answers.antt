use Rattle.dexspec.proofs.strip.StripWeight.{body_weight-strip, weight-strip, originals-strip}
use Rattle.dexlaws.proofs.strip.strip_weight.Goals as goal

pub returns-clause-bodies : goal.returns-clause-bodies
returns-clause-bodies c = body_weight-strip

pub returns-clause-whole : goal.returns-clause-whole
returns-clause-whole c = weight-strip

pub returns-clause-parts : goal.returns-clause-parts
returns-clause-parts c = λ D E h w.
    let o = originals-strip D E h w in record { originals = o.of; distinct = o.distinct; within = o.within; left = o.stripped; heavier = o.heavier }
