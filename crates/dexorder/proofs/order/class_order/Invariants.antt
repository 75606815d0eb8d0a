use Rattle.dexorder.proofs.Common.{◌≡◌, map, range_with_len}
use Rattle.dexorder.specs.{place_of}
use Rattle.dexorder.proofs.order.class_order.Given as goal

abbrev pub invariant-loop-class : goal.invariant-loop-class
invariant-loop-class l = l.places.items ≡ map (place_of l.depths l.names) (range_with_len 0 l.class)
