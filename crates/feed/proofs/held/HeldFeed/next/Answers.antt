use Rattle.feed.proofs.Steps.{held_ends, held_gives}
use Rattle.feed.proofs.held.HeldFeed.next.Goals as goal

pub returns-in_err-packet-clause-gives : goal.returns-in_err-packet-clause-gives
returns-in_err-packet-clause-gives g c =
    let none = c.in_err-packet.ensures.cases in
    rw (← c.self.view_is, c.from_residual.ensures) (held_ends _ none)

pub returns-clause-gives : goal.returns-clause-gives
returns-clause-gives g c = rw (← c.self.view_is) (held_gives _ _ _ c.self.invariant c.in_ok-packet.ensures.cases.0)
