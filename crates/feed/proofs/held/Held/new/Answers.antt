use Rattle.feed.proofs.Steps.{held_cut}
use Rattle.feed.proofs.held.Held.new.Goals as goal

pub returns : goal.returns
returns g c = held_cut c.args.packets.now c.min.result c.min.ensures
