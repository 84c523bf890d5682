use Rattle.std.proofs.Common.{◌≡◌, ◌++◌, length, vec_items}
use Rattle.bench_feed.proofs.take_all.Given as goal

abbrev pub invariant-loop-packet : goal.invariant-loop-packet
invariant-loop-packet g l = (vec_items l.taken ++ g.D.Feed.list l.feed ≡ g.D.Feed.list l.initial.feed) × (g.D.Feed.lenders l.feed ≡ g.D.Feed.lenders l.initial.feed)

abbrev pub decreases-loop-packet : goal.decreases-loop-packet
decreases-loop-packet g l = length (g.D.Feed.list l.feed)
