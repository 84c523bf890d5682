use Rattle.std.proofs.Common.{sym}
use Rattle.bench_feed.specs.Ladders.{ladder_length}
use Rattle.bench_feed.proofs.ladder.LadderFeed.len.Goals as goal

pub returns : goal.returns
returns g c = sym (ladder_length _ _ _ _)
