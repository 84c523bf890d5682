use Rattle.std.proofs.Common.{◌≡◌, suc, arith}
use Rattle.bench_feed.proofs.Rungs.{ladder_ends, ladder_gives}
use Rattle.bench_feed.proofs.ladder.LadderFeed.next.Goals as goal

pub returns-in_err-self-clause-gives : goal.returns-in_err-self-clause-gives
returns-in_err-self-clause-gives g c =
    let none : c.args.self.now.left ≡ 0 = omega (arith, c.in_err-self.ensures) in
    rw (none, c.from_residual.ensures) (ladder_ends _ _ _)

pub returns-clause-gives : goal.returns-clause-gives
returns-clause-gives g c =
    let one_more : c.args.self.now.left ≡ suc c.in_ok-self.field-0 = omega (arith, c.in_ok-self.ensures) in
    rw (one_more, c.plus-self.ensures) (ladder_gives _ _ _ _)
