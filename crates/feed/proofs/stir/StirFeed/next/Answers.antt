use Rattle.std.proofs.Common.{rules}
use Rattle.feed.proofs.Steps.{stir_ends, stir_gives}
use Rattle.feed.proofs.stir.StirFeed.next.Goals as goal

pub returns-in_err-packet-clause-gives : goal.returns-in_err-packet-clause-gives
returns-in_err-packet-clause-gives g c = rw c.from_residual.ensures (stir_ends _ _ _ _ _ c.in_err-packet.ensures.gives)

pub returns-clause-gives : goal.returns-clause-gives
returns-clause-gives g c = stir_gives _ _ c.args.self.now.last _ _ _ _ c.in_ok-packet.ensures.gives (search rules)
