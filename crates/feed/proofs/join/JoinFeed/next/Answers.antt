use Rattle.feed.proofs.Steps.{join_full, join_first, join_second}
use Rattle.feed.proofs.join.JoinFeed.next.Goals as goal

pub returns-then-self-ge-LIMIT-clause-gives : goal.returns-then-self-ge-LIMIT-clause-gives
returns-then-self-ge-LIMIT-clause-gives g c = join_full _ _ _ c.if-self-ge-LIMIT.true

pub returns-in-Some-clause-gives : goal.returns-in-Some-clause-gives
returns-in-Some-clause-gives g c = join_first _ _ _ _ _ c.if-self-ge-LIMIT.false c.in-Some.ensures.gives

pub returns-in-None-clause-gives : goal.returns-in-None-clause-gives
returns-in-None-clause-gives g c = join_second _ _ _ _ _ _ c.if-self-ge-LIMIT.false c.in-None.ensures.gives c.next-in-None.ensures.gives
