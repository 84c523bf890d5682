use Rattle.std.proofs.Common.{arith}
use Rattle.feed.specs.Lengths.{join_length}
use Rattle.feed.proofs.join.JoinFeed.len.Goals as goal

pub returns : goal.returns
returns g c =
    let s = c.args.self.now in
    let e = join_length s.given (g.C.Feed.list s.first) (g.D.Feed.list s.second) in
    omega arith
