use Rattle.std.proofs.Common.{length, ap, sym}
use Rattle.feed.proofs.Steps.{held_whole}
use Rattle.feed.proofs.held.HeldFeed.len.Goals as goal

pub returns : goal.returns
returns g c = rw (← c.self.view_is) (ap length (sym (held_whole _ c.self.invariant)))
