use Rattle.dexorder.proofs.DepthLaws.{parent_less, parent_greatest, parent_none, one_depth, depth_less}
use Rattle.dexorder.proofs.laws.depths_of_classes.Goals as goal

pub returns-clause-parents : goal.returns-clause-parents
returns-clause-parents c = λ classes i p d h m. parent_less classes i p d h m

pub returns-clause-greatest : goal.returns-clause-greatest
returns-clause-greatest c = λ classes i d h. parent_greatest classes i d h

pub returns-clause-none : goal.returns-clause-none
returns-clause-none c = λ classes i p m none. parent_none classes i p m none

pub returns-clause-one : goal.returns-clause-one
returns-clause-one c = λ classes i d e h k. one_depth classes i d e h k

pub returns-clause-bound : goal.returns-clause-bound
returns-clause-bound c = λ classes i d within lt h. depth_less classes within i d lt h
